-- Types by their outermost parts.
use Rattle.std.proofs.Common.{◌≡◌, ℕ, zero, suc, ◌+◌, ◌-◌, ◌<◌, [], ◌∷◌, sym, ap, ◌∙◌, arith}
use Rattle.css_types.specs.Types.{CType, Pointer, arrays_of, array_of}
use Rattle.css_type_table.specs.declared.ctype.CType.{CType as FlatType}
use Rattle.css_type_table.specs.Lists.{Lists, list_at}
use Rattle.css_type_table.specs.Flat.{pointers_to, element, ctype}

pub pointed : (n : ℕ) (t : CType) → 0 < n → pointers_to n t ≡ Pointer (pointers_to (n - 1) t)
pointed zero t some = absurd (omega arith)
pointed (suc n) t some = let e : suc n - 1 ≡ n = omega arith in ap (λ m. Pointer (pointers_to m t)) (sym e)

pub pointed_once_more : (n : ℕ) (t : CType) → pointers_to (n + 1) t ≡ Pointer (pointers_to n t)
pointed_once_more n t = let e : n + 1 ≡ suc n = omega arith in ap (λ m. pointers_to m t) e

pub pointers-add : (m n : ℕ) (t : CType) → pointers_to m (pointers_to n t) ≡ pointers_to (m + n) t
pointers-add zero n t = let e : n ≡ 0 + n = omega arith in ap (λ k. pointers_to k t) e
pointers-add (suc m) n t = ap Pointer (pointers-add m n t) ∙ (let e : suc (m + n) ≡ suc m + n = omega arith in ap (λ k. pointers_to k t) e)

-- a pointer
pub ctype_pointer : (lists : Lists) (t : FlatType) → 0 < t.pointers → ctype lists t ≡ Pointer (ctype lists (record t { pointers = t.pointers - 1 }))
unfolding ctype
ctype_pointer lists t some = pointed t.pointers (arrays_of (list_at lists t.lengths) (element t)) some

-- an array
pub ctype_array : (lists : Lists) (t : FlatType) (count : ℕ) (rest : _) → t.pointers ≡ 0 → list_at lists t.lengths ≡ count ∷ list_at lists rest
    → ctype lists t ≡ array_of count (ctype lists (record t { lengths = rest }))
unfolding ctype
ctype_array lists t count rest none is =
    ap (λ n. pointers_to n (arrays_of (list_at lists t.lengths) (element t))) none
    ∙ ap (λ ls. arrays_of ls (element t)) is
    ∙ ap (λ n. array_of count (pointers_to n (arrays_of (list_at lists rest) (element t)))) (sym none)

-- an element
pub ctype_element : (lists : Lists) (t : FlatType) → t.pointers ≡ 0 → list_at lists t.lengths ≡ [] → ctype lists t ≡ element t
unfolding ctype
ctype_element lists t none is =
    ap (λ n. pointers_to n (arrays_of (list_at lists t.lengths) (element t))) none ∙ ap (λ ls. arrays_of ls (element t)) is

-- an element that is a pointer
pub element_pointer : (lists : Lists) (t : FlatType) → t.pointers ≡ 0 → list_at lists t.lengths ≡ [] → 0 < t.stars
    → ctype lists t ≡ Pointer (ctype lists (record t { stars = t.stars - 1 }))
element_pointer lists t none is some =
    ctype_element lists t none is ∙ pointed t.stars _ some ∙ ap Pointer (sym (ctype_element lists (record t { stars = t.stars - 1 }) none is))
