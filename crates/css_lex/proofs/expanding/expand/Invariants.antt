use Rattle.std.specs.Vec.Iter.{into_iter_items, into_iter_len}
use Rattle.css_base.specs.Tokens.{lexemes}
use Rattle.css_macros.specs.MacroTables.{table_of}
use Rattle.css_lex.proofs.WordByWord.{IsExpanding}
use Rattle.css_lex.proofs.expanding.expand.Given as goal

abbrev pub invariant-loop-word : goal.invariant-loop-word
invariant-loop-word l =
    IsExpanding (table_of l.macros) (lexemes l.initial.tokens.items) l.initial.counts.tokens l.initial.counts.names (lexemes (into_iter_items l.initial.rest))
    (lexemes l.tokens.items) l.counts.tokens l.counts.names (lexemes (into_iter_items l.rest))

abbrev pub decreases-loop-word : goal.decreases-loop-word
decreases-loop-word l = into_iter_len l.rest
