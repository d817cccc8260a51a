-- Types over a table that grows.
use Rattle.std.proofs.Common.{◌≡◌, ℕ, zero, suc, ◌*◌, ◌<◌, ◌≤◌, List, [], ◌∷◌, map, drop, false, length, get_or, Option, Some, None, IfSome, IfNone, refl, sym, ap, subst, ◌∙◌, arith}
use Rattle.std.proofs.Math.Nat.{mul-le-mul_left}
use Rattle.css_types.specs.Types.{CType, size_of, arrays_of, array_of, biggest, are_same}
use Rattle.css_type_table.specs.declared.ctype.CType.{CType as FlatType}
use Rattle.css_type_table.specs.Lists.{Lists, list_at, IsRow, elements_of}
use Rattle.css_type_table.specs.Flat.{pointers_to, element, ctype, IsOf, IsPlain}
use Rattle.css_type_table.proofs.Sizes.{size_array}

-- what is said of an option that is known
pub at_none : {A P : Type 0} (o : Option A) → o ≡ None → IfNone o P → P
at_none None e h = h
at_none (Some x) e h = absurd (cc)

pub at_some : {A : Type 0} (P : A → Type 0) (o : Option A) (x : A) → o ≡ Some x → IfSome o P → P x
at_some P o x e h = subst (λ s. IfSome s P) e h

module _ (old new : Lists) (kept : (n : ℕ) → n < length old → get_or new n [] ≡ get_or old n []) where
  list_kept : (o : Option ℕ) → IsRow old o → list_at new o ≡ list_at old o
  list_kept None is = refl
  list_kept (Some n) is = kept n is

  -- what stood for a type stands for it still
  pub ctype-kept : (t : FlatType) → IsOf old t → ctype new t ≡ ctype old t
  unfolding ctype
  ctype-kept t is = ap (λ ls. pointers_to t.pointers (arrays_of ls (element t))) (list_kept t.lengths is)

-- an array of elements of a type
pub made_array : (old new : Lists) (t : FlatType) (number count : ℕ) (rest : Option ℕ) → IsPlain t
    → get_or new number [] ≡ count ∷ list_at old rest → list_at old rest ≡ list_at old t.lengths
    → ctype new (record t { lengths = Some number }) ≡ array_of count (ctype old t)
unfolding ctype
made_array old new t number count rest plain list same =
    ap (λ n. pointers_to n (arrays_of (get_or new number []) (element t))) plain
    ∙ ap (λ ls. arrays_of ls (element t)) (list ∙ ap (λ ls. count ∷ ls) same)
    ∙ ap (λ n. array_of count (pointers_to n (arrays_of (list_at old t.lengths) (element t)))) (sym plain)

pub times_some : (m n : ℕ) → 0 < n → m ≤ m * n
times_some m n some = let h : 1 ≤ n = some in let k : m * 1 ≤ m * n = mul-le-mul_left m h in omega (arith, k)

pub too_many : (count size : ℕ) → biggest < count → 0 < size → biggest < count * size
too_many count size many some = omega (arith, times_some count size some)

some_factor : (m n : ℕ) → 0 < m * n → 0 < n
some_factor m zero some = absurd (omega arith)
some_factor m (suc n) some = omega arith

pub elements_below : (lists : Lists) (t : FlatType) → IsPlain t → 0 < size_of (ctype lists t) → elements_of (list_at lists t.lengths) ≤ size_of (ctype lists t)
elements_below lists t plain some =
    let size : size_of (ctype lists t) ≡ elements_of (list_at lists t.lengths) * size_of (element t) = size_array lists t plain in
    subst (λ n. elements_of (list_at lists t.lengths) ≤ n) (sym size)
    (times_some (elements_of (list_at lists t.lengths)) (size_of (element t)) (some_factor (elements_of (list_at lists t.lengths)) (size_of (element t)) (subst (λ n. 0 < n) size some)))

-- the elements of an array are few where its bytes are
pub elements_few : (lists : Lists) (t : FlatType) (count elements size : ℕ) → IsPlain t → 0 < size_of (ctype lists t)
    → elements ≡ elements_of (list_at lists t.lengths) → size ≡ size_of (ctype lists t) → count * size ≤ biggest → count * elements ≤ biggest
elements_few lists t count elements size plain some es is few =
    let below : elements ≤ size = omega (arith, es, is, elements_below lists t plain some) in
    let k : count * elements ≤ count * size = mul-le-mul_left count below in omega (arith, k)

pub product_some : (m n : ℕ) → 0 < m → 0 < n → 0 < m * n
product_some m n sm sn = omega (arith, times_some m n sn)

-- a list that is longer is another
pub too_long : (f : FlatType → CType) (all : List FlatType) (i : ℕ) (rest : List FlatType) → i < length all → length rest ≡ 0 → are_same (map f (drop i all)) (map f rest) ≡ false
too_long f [] i rest within none = absurd (omega arith)
too_long f (t ∷ all) i (s ∷ rest) within none = absurd (omega arith)
too_long f (t ∷ all) zero [] within none = refl
too_long f (t ∷ all) (suc i) [] within none = too_long f all i [] (omega arith) none
