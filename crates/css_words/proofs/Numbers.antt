-- Texts of digits.
use Rattle.std.proofs.Common.{◌≡◌, ◌<◌, ◌==◌, ◌&&◌, ℕ, Bool, true, false, cond, nat_lt, List, [], ◌∷◌, All, length, drop, get_or, refl, ap, arith}
use Rattle.std.specs.List.{AllByRecursion, list_all}
use Rattle.std.specs.Char.{digit_value, IsNotAsciiDigit}
use Rattle.std.specs.Str.Parse.{AllDigits, IsNumeral, without_leading_plus}
use Rattle.std.proofs.lemmas.Bool.{ne_eqb}
use Rattle.std.proofs.lemmas.Str.Parse.{digit_from_value, digit_at}
use Rattle.std.proofs.lemmas.List.Elements.{recursion_from_All}

by_recursion : (ds : List ℕ) → AllByRecursion (λ d. digit_value d < 10) ds → AllDigits 10 ds
by_recursion [] h = tt
by_recursion (d ∷ ds) h = (h.0, by_recursion ds h.1)

pub digits_from_all : (ds : List ℕ) → All (λ d. digit_value d < 10) ds → AllDigits 10 ds
digits_from_all ds h = by_recursion ds (recursion_from_All (λ d. digit_value d < 10) ds h)

pub no_digit : (ds : List ℕ) (i : ℕ) → i < length ds → IsNotAsciiDigit (get_or ds i 0) → IsNumeral 10 ds → ⊥
no_digit ds i lt none h = let r = digit_at ds i h.1 lt in grind arith

-- digits have no sign
pub no_plus : (ds : List ℕ) → IsNumeral 10 ds → without_leading_plus ds ≡ ds
no_plus [] h = refl
no_plus (d ∷ ds) h =
    let plus : (d == 43) ≡ false = ne_eqb _ _ (λ e. omega (arith, digit_from_value d h.1.0)) in
    ap (λ (b : Bool). drop (cond b 1 0) (d ∷ ds)) plus

digits_pass : (ds : List ℕ) → AllDigits 10 ds → list_all (λ d. nat_lt (digit_value d) 10) ds ≡ true
digits_pass [] h = refl
digits_pass (d ∷ ds) h =
    let first : nat_lt (digit_value d) 10 ≡ true = grind arith in
    let rest = digits_pass ds h.1 in
    rw (first, rest) refl

pub numeral_passes : (ds : List ℕ) → IsNumeral 10 ds → (nat_lt 0 (length ds) && list_all (λ d. nat_lt (digit_value d) 10) ds) ≡ true
numeral_passes ds h =
    let some : nat_lt 0 (length ds) ≡ true = grind (arith, h.0) in
    rw (some, digits_pass ds h.1) refl
