-- Sizes of arrays.
use Rattle.std.proofs.Common.{◌≡◌, ℕ, zero, suc, ◌*◌, ◌<◌, [], ◌∷◌, List, refl, ap, ◌∙◌, arith}
use Rattle.css_types.specs.Types.{CType, size_of, arrays_of}
use Rattle.css_type_table.specs.declared.ctype.CType.{CType as FlatType}
use Rattle.css_type_table.specs.Lists.{Lists, list_at, elements_of}
use Rattle.css_type_table.specs.Flat.{pointers_to, element, ctype}

times_one : (n : ℕ) → n ≡ 1 * n
times_one n = omega arith

times : (m n k : ℕ) → m * (n * k) ≡ m * n * k
times m n k = grind arith

pub size-arrays : (ls : List ℕ) (t : CType) → size_of (arrays_of ls t) ≡ elements_of ls * size_of t
size-arrays [] t = times_one (size_of t)
size-arrays (n ∷ ls) t = ap (λ k. n * k) (size-arrays ls t) ∙ times n (elements_of ls) (size_of t)

pub size-pointers : (n : ℕ) (t : CType) → 0 < n → size_of (pointers_to n t) ≡ 4
size-pointers zero t some = absurd (omega arith)
size-pointers (suc n) t some = refl

pub size_pointer : (lists : Lists) (t : FlatType) → 0 < t.pointers → size_of (ctype lists t) ≡ 4
unfolding ctype
size_pointer lists t some = size-pointers t.pointers _ some

pub size_array : (lists : Lists) (t : FlatType) → t.pointers ≡ 0 → size_of (ctype lists t) ≡ elements_of (list_at lists t.lengths) * size_of (element t)
unfolding ctype
size_array lists t none =
    ap (λ n. size_of (pointers_to n (arrays_of (list_at lists t.lengths) (element t)))) none ∙ size-arrays (list_at lists t.lengths) (element t)
