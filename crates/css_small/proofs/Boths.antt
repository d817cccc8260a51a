-- Two parts put together, of which the second isn't there.
use Rattle.std.proofs.Common.{◌≡◌, Option, Some, None, refl}
use Rattle.css_small.specs.Trees.{both}

pub both_none : {A B C : Type 0} (join : A → B → C) (a : Option A) → both join a None ≡ None
both_none join None = refl
both_none join (Some a) = refl
