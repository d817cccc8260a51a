-- Lists of one.
use Rattle.std.proofs.Common.{◌≡◌, ◌<◌, ◌≤◌, List, [], ◌∷◌, length, get_or, sym, ap, arith}

pub one_item : {X : Type 0} (xs : List X) (x : X) → 1 ≤ length xs → length xs < 2 → x ≡ get_or xs 0 x → xs ≡ x ∷ []
one_item [] x least most is = absurd (omega arith)
one_item (y ∷ []) x least most is = ap (λ z. z ∷ []) (sym is)
one_item (y ∷ z ∷ xs) x least most is = absurd (omega arith)
