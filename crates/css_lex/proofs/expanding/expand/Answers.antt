use Rattle.std.proofs.Common.{◌∙◌, sym, ap, List}
use Rattle.std.specs.Vec.Iter.{into_iter_items}
use Rattle.css_base.specs.declared.token.Token.{Token}
use Rattle.css_base.specs.Tokens.{lexeme, lexemes}
use Rattle.css_macros.specs.MacroTables.{table_of}
use Rattle.css_lex.specs.Refusals.{overruns}
use Rattle.css_lex.specs.Expanded.{word_cost, word_costs}
use Rattle.css_lex.proofs.WordByWord.{over_on}
use Rattle.css_lex.proofs.expanding.expand.Goals as goal

pub returns-in-Err-clause-over : goal.returns-in-Err-clause-over
returns-in-Err-clause-over c b is =
    let table = table_of c.args.macros.now in
    let counts = c.loop-word.counts in
    let start = c.args.counts.now in
    let head =
    over_on counts.tokens counts.names (word_cost table (lexeme c.in-Some.word)) (word_costs table (lexemes (into_iter_items c.next.new.self))) b
    (c.in-Err.ensures.over b is) in (
      head.0,
      ap (λ (items : List Token). overruns start.tokens start.names (word_costs table (lexemes items))) (sym c.into_iter-rest.ensures.rest)
          ∙ (c.loop-word.invariant.overruns_are
          ∙ (ap (λ (items : List Token). overruns counts.tokens counts.names (word_costs table (lexemes items))) c.in-Some.ensures.items ∙ head.1)),
    )
