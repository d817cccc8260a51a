use Rattle.std.proofs.Common.{◌≡◌, ◌++◌, All, length, map}
use Rattle.std.specs.Vec.Iter.{into_iter_items, into_iter_len}
use Rattle.css_base.specs.Tokens.{lexemes}
use Rattle.css_macros.specs.Macros.{IsNoDirective}
use Rattle.css_macros.specs.MacroTokens.{plain_kinds}
use Rattle.css_lex.specs.HashLines.{kind_at}
use Rattle.css_lex.proofs.definition.macro_tokens.Given as goal

abbrev pub invariant-loop-word : goal.invariant-loop-word
invariant-loop-word l = record {
  plain : All (λ w. IsNoDirective (kind_at w)) (lexemes (into_iter_items l.rest));
  same : map kind_at (lexemes (into_iter_items l.initial.rest)) ≡ plain_kinds l.tokens.items ++ map kind_at (lexemes (into_iter_items l.rest));
  size : into_iter_len l.rest ≡ length (into_iter_items l.rest);
}

abbrev pub decreases-loop-word : goal.decreases-loop-word
decreases-loop-word l = into_iter_len l.rest
