use Rattle.std.proofs.Common.{◌≡◌, length}
use Rattle.std.specs.Vec.Iter.{into_iter_items, into_iter_len}
use Rattle.css_base.specs.Tokens.{lexemes}
use Rattle.css_lex.proofs.Strings.{IsJoining}
use Rattle.css_lex.proofs.joining.join_strings.Given as goal

abbrev pub invariant-loop-token : goal.invariant-loop-token
invariant-loop-token l = record {
  joining : IsJoining (lexemes (into_iter_items l.initial.rest)) (lexemes l.all.items) (lexemes (into_iter_items l.rest));
  size : into_iter_len l.rest ≡ length (into_iter_items l.rest);
}

abbrev pub decreases-loop-token : goal.decreases-loop-token
decreases-loop-token l = into_iter_len l.rest
