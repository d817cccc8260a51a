-- What stands in a list from a place on.
use Rattle.std.proofs.Common.{◌≡◌, ℕ, ◌-◌, List, length, take, drop, ap, sym, ◌∙◌, length-drop}
use Rattle.std.proofs.Math.Seq.{take-length}

-- The slice from a place on.
pub rest_is : {A : Type 0} (place : ℕ) (text : List A) → take (length text - place) (drop place text) ≡ drop place text
rest_is place text = ap (λ n. take n (drop place text)) (sym (length-drop place text)) ∙ take-length (drop place text)
