-- What is known at an error that is passed on.
use Rattle.std.proofs.Common.{◌≡◌, Result, Ok, Err, IsErrOf, IsErrAnd, sym, ap, ◌∙◌}
use Rattle.css_pragma.specs.declared.unread.Unread.{Unread}
use Rattle.css_pragma.specs.declared.unread.Unread.TheVariants.{NotSpelled}

-- an error that is passed on is NotSpelled where it was
pub passed : {T : Type 0} {A : Type 0} (r : Result T Unread) (x : Unread) → IsErrAnd r (λ e. e ≡ x) → IsErrOf r NotSpelled → IsErrOf {T = A} (Err x) NotSpelled
passed (Ok v) x h k = absurd h
passed (Err e) x h k = let same : e ≡ NotSpelled = cc in ap Err (sym h ∙ same)
