-- What is known at an error that is passed on.
use Rattle.std.proofs.Common.{◌≡◌, Result, Ok, Err, IsErrOf, IsErrAnd, sym, ap, ◌∙◌}
use Rattle.css_small.specs.declared.tree_fault.TreeFault.{TreeFault}
use Rattle.css_small.specs.declared.tree_fault.TreeFault.TheVariants.{NotSmall}

-- an error that is passed on is NotSmall where it was
pub passed : {T A : Type 0} (r : Result T TreeFault) (x : TreeFault) → IsErrAnd r (λ e. e ≡ x) → IsErrOf r NotSmall → IsErrOf {T = A} (Err x) NotSmall
passed (Ok v) x h k = absurd h
passed (Err e) x h k = let same : e ≡ NotSmall = cc in ap Err (sym h ∙ same)
