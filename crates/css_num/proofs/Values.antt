-- The value of each operator is in the range of its type.
use Rattle.std.specs.Result.{result_ok}
use Rattle.std.proofs.Common.{subst, sym, Option, Result, Ok, Err, IfOk, ℕ, zero, suc, ◌-◌, ◌%◌, ◌-ℤ◌, ◌^◌, ◌<◌, ◌≡◌, refl, ap, ◌∙◌, ℤ, pos, negsuc, arith, Bool, true, false, Some, None, IfSome, IsTrue, if◌then◌else◌, bit_and, bit_or, bit_xor, int_eq}
use Rattle.std.proofs.lemmas.Int.{ints}
use Rattle.std.proofs.lemmas.Nat.{pow_pos, mod_below, and_le_l, or_lt, xor_lt}
use Rattle.css_base.specs.declared.int_type.IntType.{IntType}
use Rattle.css_base.specs.declared.int_type.IntType.TheVariants.{UChar, UShort, Int, UInt, ULong, ULongLong}
use Rattle.css_num.specs.declared.operators.UnOp.{UnOp}
use Rattle.css_num.specs.declared.operators.UnOp.TheVariants as unary
use Rattle.css_num.specs.declared.operators.BinOp.{BinOp}
use Rattle.css_num.specs.declared.operators.BinOp.TheVariants as binary
use Rattle.css_num.specs.Types.{bits_of, has_sign, least, IsInRange}
use Rattle.css_num.specs.Conversion.{modulo, representation}
use Rattle.css_num.specs.Operators.{truth_value, count_of, quotient, remainder, bitwise, unary_type, unary_value, binary_type, binary_value}
use Rattle.css_num.proofs.Congruence.{modulo_below, modulo-congruent, congruent-converted}
use Rattle.css_num.proofs.Ranges.{represented_in_range, converted_in_range, floor_in_range}

truth_in_range : (b : Bool) → IsInRange Int (truth_value b)
truth_in_range true = record { at_least = record { le = tt }; at_most = record { le = tt } }
truth_in_range false = record { at_least = record { le = tt }; at_most = record { le = tt } }

bitwise_in_range : (f : ℕ → ℕ → ℕ) → ((k m n : ℕ) → m < 2 ^ k → n < 2 ^ k → f m n < 2 ^ k) → (t : IntType) (a b : ℤ) → IsInRange t (bitwise f t a b)
bitwise_in_range f small t a b =
    let some = pow_pos (bits_of t) in
    represented_in_range t (f (representation t a) (representation t b)) (small (bits_of t) (representation t a) (representation t b) (modulo_below a (2 ^ bits_of t) some) (modulo_below b (2 ^ bits_of t) some))

and_lt : (k m n : ℕ) → m < 2 ^ k → n < 2 ^ k → bit_and m n < 2 ^ k
and_lt k m n h _ = omega (arith, and_le_l m n)

given : (P : ℤ → Type 0) (zero : Bool) {v : ℤ} → P v → IfSome (if zero then None else Some v) P
given P true h = tt
given P false h = h

pub unary_in_range : (op : UnOp) (t : IntType) (v : ℤ) → IsInRange t v → IsInRange (unary_type op t) (unary_value op t v)
unary_in_range unary.Plus t v h = h
unary_in_range unary.Minus t v h = converted_in_range t _
unary_in_range unary.Complement t v h = converted_in_range t _
unary_in_range unary.Not t v h = truth_in_range _

pub binary_in_range : (op : BinOp) (t : IntType) (a b : ℤ) → IsInRange t a → IfSome (binary_value op t a b) (IsInRange (binary_type op t))
binary_in_range binary.Mul t a b h = converted_in_range t _
binary_in_range binary.Div t a b h = given (IsInRange t) (int_eq b (pos 0)) (converted_in_range t _)
binary_in_range binary.Rem t a b h = given (IsInRange t) (int_eq b (pos 0)) (converted_in_range t _)
binary_in_range binary.Add t a b h = converted_in_range t _
binary_in_range binary.Sub t a b h = converted_in_range t _
binary_in_range binary.Shl t a b h = converted_in_range t _
binary_in_range binary.Shr t a b h = floor_in_range t a (2 ^ count_of t b) h
binary_in_range binary.And t a b h = bitwise_in_range bit_and and_lt t a b
binary_in_range binary.Xor t a b h = bitwise_in_range bit_xor xor_lt t a b
binary_in_range binary.Or t a b h = bitwise_in_range bit_or or_lt t a b
binary_in_range binary.Lt t a b h = truth_in_range _
binary_in_range binary.Gt t a b h = truth_in_range _
binary_in_range binary.Le t a b h = truth_in_range _
binary_in_range binary.Ge t a b h = truth_in_range _
binary_in_range binary.Eq t a b h = truth_in_range _
binary_in_range binary.Ne t a b h = truth_in_range _

-- and so what the code returns
pub unary_result_in_range : (op : UnOp) (t : IntType) (v r : ℤ) → r ≡ unary_value op t v → IsInRange t v → IsInRange (unary_type op t) r
unary_result_in_range op t v r is h =
    let P : ℤ → Type 0 = IsInRange (unary_type op t) in
    subst P (sym is) (unary_in_range op t v h)

pub binary_result_in_range : (op : BinOp) (t : IntType) (a b r : ℤ) → Some r ≡ binary_value op t a b → IsInRange t a → IsInRange (binary_type op t) r
binary_result_in_range op t a b r is h =
    let P : Option ℤ → Type 0 = λ o. IfSome o (IsInRange (binary_type op t)) in
    subst P (sym is) (binary_in_range op t a b h)

pub division_in_range : {E : Type 0} (op : BinOp) (t : IntType) (a b : ℤ) (r : Result ℤ E) → result_ok r ≡ binary_value op t a b → IsInRange t a → IfOk r (IsInRange (binary_type op t))
division_in_range op t a b (Ok v) is h = binary_result_in_range op t a b v is h
division_in_range op t a b (Err e) is h = tt

-- ---- the least value over -1

pub least_over_minus_one : (t : IntType) → IsTrue (has_sign t) → (quotient t (least t) (negsuc 0) ≡ least t) × (remainder t (least t) (negsuc 0) ≡ pos 0)
least_over_minus_one UChar h = cc
least_over_minus_one UShort h = cc
least_over_minus_one UInt h = cc
least_over_minus_one ULong h = cc
least_over_minus_one ULongLong h = cc
least_over_minus_one _ h = (refl, refl)

-- ---- `~`

modulo-complement : (v : ℤ) (n : ℕ) → 0 < n → modulo (negsuc 0 -ℤ v) n ≡ n - 1 - modulo v n
modulo-complement (pos zero) n some = refl
modulo-complement (pos (suc a)) n some = ap (λ m. n - 1 - m % n) (omega arith)
modulo-complement (negsuc a) n some =
    let whole : negsuc 0 -ℤ negsuc a ≡ pos a = omega (arith, ints) in
    ap (λ z. modulo z n) whole ∙ omega (arith, mod_below a n some)

pub representation-complement : (t : IntType) (v : ℤ) → representation t (unary_value unary.Complement t v) ≡ 2 ^ bits_of t - 1 - representation t v
representation-complement t v =
    let some = pow_pos (bits_of t) in
    modulo-congruent (2 ^ bits_of t) some (congruent-converted t (negsuc 0 -ℤ v)) ∙ modulo-complement v (2 ^ bits_of t) some
