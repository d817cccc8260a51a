use Rattle.std.proofs.Common.{◌≡◌, ◌++◌, true, length}
use Rattle.std.specs.List.{list_all}
use Rattle.std.specs.Vec.Iter.{into_iter_items, into_iter_len}
use Rattle.css_macros.specs.MacroTokens.{plain_kinds}
use Rattle.css_macros.specs.ListedTokens.{listed_kinds, is_listed}
use Rattle.css_macros.specs.NumberedWords.{words_of, Grows}
use Rattle.css_macros.proofs.listed_token.listed_tokens.Given as goal

abbrev pub invariant-loop-token : goal.invariant-loop-token
invariant-loop-token l = record {
  grows : Grows l.initial.words l.words;
  listed : list_all (is_listed (words_of l.words)) l.listed.items ≡ true;
  kinds : plain_kinds (into_iter_items l.initial.rest) ≡ listed_kinds l.listed.items ++ plain_kinds (into_iter_items l.rest);
  size : into_iter_len l.rest ≡ length (into_iter_items l.rest);
}

abbrev pub decreases-loop-token : goal.decreases-loop-token
decreases-loop-token l = into_iter_len l.rest
