use Rattle.std.proofs.Common.{◌≡◌, ◌+◌, ◌++◌, length}
use Rattle.css_base.specs.Tokens.{lexemes}
use Rattle.css_macros.specs.NumberedWords.{words_of}
use Rattle.css_macros.specs.MacroTables.{table_of}
use Rattle.css_macros.specs.Expansions.{placed, left, names_left, steps_left, IsExpansion}
use Rattle.css_macros.proofs.expansion.Expansion.replace_rest.Given as goal

abbrev pub invariant-loop-innermost : goal.invariant-loop-innermost
invariant-loop-innermost l =
    let words = words_of l.macros.words in
    let table = table_of l.macros in
    let now = l.self.frames.items in
    let before = l.initial.self.frames.items in
    record {
      keeps : IsExpansion l.macros l.self;
      tokens : lexemes l.tokens.items ++ placed l.span (left words table now) ≡ lexemes l.initial.tokens.items ++ placed l.span (left words table before);
      token_count : l.counts.tokens + length (left words table now) ≡ l.initial.counts.tokens + length (left words table before);
      name_count : l.counts.names + names_left words table now ≡ l.initial.counts.names + names_left words table before;
    }

abbrev pub decreases-loop-innermost : goal.decreases-loop-innermost
decreases-loop-innermost l = steps_left l.counts l.self
