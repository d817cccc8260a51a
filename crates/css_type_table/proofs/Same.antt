-- When two types are one.
use Rattle.std.proofs.Common.{◌≡◌, ℕ, zero, suc, ◌+◌, Bool, true, false, ◌==◌, ◌&&◌, bytes_eq, ◌<◌, [], ◌∷◌, List, length, get_or, refl, sym, ap, ap₂, ◌∙◌, arith}
use Rattle.std.proofs.Math.Bool.{and_assoc}
use Rattle.std.proofs.Math.Dec.{eqb-zero-suc, eqb-suc-zero}
use Rattle.std.proofs.lemmas.Bool.Decides.{same_from_decides, Decides-eqb}
use Rattle.std.proofs.lemmas.Slice.Eq.{bytes_eq-Decides}
use Rattle.css_types.specs.Types.{CType, Void, Integer, Pointer, Array, is_same, is_pointer, is_array, arrays_of}
use Rattle.css_types.specs.Shapes.{base}
use Rattle.css_types.specs.declared.words.Base.{Base}
use Rattle.css_types.specs.declared.words.Base.TheVariants as bases
use Rattle.css_type_table.specs.declared.ctype.CType.{CType as FlatType}
use Rattle.css_type_table.specs.Lists.{Lists, list_at, IsOnce}
use Rattle.css_type_table.specs.Flat.{pointers_to, element, ctype}
use Rattle.css_type_table.proofs.Layers.{pointers-add}

sucs : (m n : ℕ) → (m == n) ≡ (suc m == suc n)
sucs m n = same_from_decides (m == n) (suc m == suc n) (Decides-eqb m n)
    (λ h. let e = (Decides-eqb (suc m) (suc n)).0 h in omega (arith, e), λ h. (Decides-eqb (suc m) (suc n)).1 (ap suc h))

zero_suc : (n : ℕ) (b : Bool) → false ≡ ((0 == suc n) && b)
zero_suc n b = sym (ap (λ x. x && b) (eqb-zero-suc n))

suc_zero : (n : ℕ) (b : Bool) → false ≡ ((suc n == 0) && b)
suc_zero n b = sym (ap (λ x. x && b) (eqb-suc-zero n))

same-pointers : (m n : ℕ) (x y : CType) → is_pointer x ≡ false → is_pointer y ≡ false → is_same (pointers_to m x) (pointers_to n y) ≡ ((m == n) && is_same x y)
same-pointers zero zero x y px py = refl
same-pointers zero (suc n) Void y px py = zero_suc n (is_same Void y)
same-pointers zero (suc n) (Integer t) y px py = zero_suc n (is_same (Integer t) y)
same-pointers zero (suc n) (Array count bytes t) y px py = zero_suc n (is_same (Array count bytes t) y)
same-pointers zero (suc n) (Pointer t) y px py = absurd (cc)
same-pointers (suc m) zero x Void px py = suc_zero m (is_same x Void)
same-pointers (suc m) zero x (Integer t) px py = suc_zero m (is_same x (Integer t))
same-pointers (suc m) zero x (Array count bytes t) px py = suc_zero m (is_same x (Array count bytes t))
same-pointers (suc m) zero x (Pointer t) px py = absurd (cc)
same-pointers (suc m) (suc n) x y px py = same-pointers m n x y px py ∙ ap (λ b. b && is_same x y) (sucs m n)

same-arrays : (ls ks : List ℕ) (x y : CType) → is_array x ≡ false → is_array y ≡ false → is_same (arrays_of ls x) (arrays_of ks y) ≡ (bytes_eq ls ks && is_same x y)
same-arrays [] [] x y px py = refl
same-arrays [] (k ∷ ks) Void y px py = refl
same-arrays [] (k ∷ ks) (Integer t) y px py = refl
same-arrays [] (k ∷ ks) (Pointer t) y px py = refl
same-arrays [] (k ∷ ks) (Array count bytes t) y px py = absurd (cc)
same-arrays (l ∷ ls) [] x Void px py = refl
same-arrays (l ∷ ls) [] x (Integer t) px py = refl
same-arrays (l ∷ ls) [] x (Pointer t) px py = refl
same-arrays (l ∷ ls) [] x (Array count bytes t) px py = absurd (cc)
same-arrays (l ∷ ls) (k ∷ ks) x y px py =
    ap (λ b. (l == k) && b) (same-arrays ls ks x y px py) ∙ sym (and_assoc (l == k) (bytes_eq ls ks) (is_same x y))

base-pointer : (b : Base) → is_pointer (base b) ≡ false
base-pointer bases.Void = refl
base-pointer (bases.Integer t) = refl

base-array : (b : Base) → is_array (base b) ≡ false
base-array bases.Void = refl
base-array (bases.Integer t) = refl

pointers-array : (n : ℕ) (t : CType) → is_array t ≡ false → is_array (pointers_to n t) ≡ false
pointers-array zero t not = not
pointers-array (suc n) t not = refl

arrays-pointer : (l : ℕ) (ls : List ℕ) (t : CType) → is_pointer (arrays_of (l ∷ ls) t) ≡ false
arrays-pointer l ls t = refl

-- elements
pub same-elements : (a b : FlatType) → is_same (element a) (element b) ≡ ((a.stars == b.stars) && is_same (base a.base) (base b.base))
same-elements a b = same-pointers a.stars b.stars (base a.base) (base b.base) (base-pointer a.base) (base-pointer b.base)

-- ---- whole types

and-false : (b : Bool) → (b && false) ≡ false
and-false true = refl
and-false false = refl

array_base : (l : ℕ) (ls : List ℕ) (t : CType) (b : Base) → is_same (arrays_of (l ∷ ls) t) (base b) ≡ false
array_base l ls t bases.Void = refl
array_base l ls t (bases.Integer s) = refl

base_array : (l : ℕ) (ls : List ℕ) (t : CType) (b : Base) → is_same (base b) (arrays_of (l ∷ ls) t) ≡ false
base_array l ls t bases.Void = refl
base_array l ls t (bases.Integer s) = refl

pub some_list : (ls : List ℕ) → 0 < length ls → (l : ℕ) × (rest : List ℕ) × (ls ≡ l ∷ rest)
some_list [] none = absurd (omega arith)
some_list (l ∷ rest) some = (l, rest, refl)

same_number : (lists : Lists) (i j : ℕ) → IsOnce lists → i < length lists → j < length lists → bytes_eq (get_or lists i []) (get_or lists j []) ≡ (i == j)
same_number lists i j once wi wj =
    same_from_decides (bytes_eq (get_or lists i []) (get_or lists j [])) (i == j) (bytes_eq-Decides (get_or lists i []) (get_or lists j []))
    (λ h. ap (λ n. get_or lists n []) ((Decides-eqb i j).0 h), λ h. (Decides-eqb i j).1 (once i j wi wj h))

base-both : (m n : ℕ) (b c : Base) → is_same (pointers_to m (base b)) (pointers_to n (base c)) ≡ ((m == n) && is_same (base b) (base c))
base-both m n b c = same-pointers m n (base b) (base c) (base-pointer b) (base-pointer c)

element-array : (t : FlatType) → is_array (element t) ≡ false
element-array t = pointers-array t.stars (base t.base) (base-array t.base)

module _ (lists : Lists) (a b : FlatType) where
  abbrev bases_same : Bool
  bases_same = is_same (base a.base) (base b.base)

  -- neither is an array
  pub same-plain : list_at lists a.lengths ≡ [] → list_at lists b.lengths ≡ []
      → is_same (ctype lists a) (ctype lists b) ≡ ((a.pointers + a.stars == b.pointers + b.stars) && bases_same)
  unfolding ctype
  same-plain na nb =
      ap₂ (λ (ls ks : List ℕ). is_same (pointers_to a.pointers (arrays_of ls (element a))) (pointers_to b.pointers (arrays_of ks (element b)))) na nb
      ∙ ap₂ is_same (pointers-add a.pointers a.stars (base a.base)) (pointers-add b.pointers b.stars (base b.base))
      ∙ base-both (a.pointers + a.stars) (b.pointers + b.stars) a.base b.base

  -- both are arrays, or point to some
  pub same-listed : (l k : ℕ) (ls ks : List ℕ) → list_at lists a.lengths ≡ l ∷ ls → list_at lists b.lengths ≡ k ∷ ks
      → is_same (ctype lists a) (ctype lists b) ≡ ((a.pointers == b.pointers) && (bytes_eq (l ∷ ls) (k ∷ ks) && ((a.stars == b.stars) && bases_same)))
  unfolding ctype
  same-listed l k ls ks na nb =
      ap₂ (λ (ls ks : List ℕ). is_same (pointers_to a.pointers (arrays_of ls (element a))) (pointers_to b.pointers (arrays_of ks (element b)))) na nb
      ∙ same-pointers a.pointers b.pointers (arrays_of (l ∷ ls) (element a)) (arrays_of (k ∷ ks) (element b)) refl refl
      ∙ ap (λ x. (a.pointers == b.pointers) && x) (same-arrays (l ∷ ls) (k ∷ ks) (element a) (element b) (element-array a) (element-array b)
      ∙ ap (λ x. bytes_eq (l ∷ ls) (k ∷ ks) && x) (same-elements a b))

  pub same-rows : (i j : ℕ) → IsOnce lists → i < length lists → j < length lists → 0 < length (get_or lists i []) → 0 < length (get_or lists j [])
      → list_at lists a.lengths ≡ get_or lists i [] → list_at lists b.lengths ≡ get_or lists j []
      → is_same (ctype lists a) (ctype lists b) ≡ ((a.pointers == b.pointers) && ((i == j) && ((a.stars == b.stars) && bases_same)))
  same-rows i j once wi wj si sj na nb =
      let p = some_list (get_or lists i []) si in
      let q = some_list (get_or lists j []) sj in
      same-listed p.0 q.0 p.1 q.1 (na ∙ p.2) (nb ∙ q.2)
      ∙ ap (λ x. (a.pointers == b.pointers) && (x && ((a.stars == b.stars) && bases_same))) (ap₂ bytes_eq (sym p.2) (sym q.2) ∙ same_number lists i j once wi wj)

  -- one of them
  pub same-first : (l : ℕ) (ls : List ℕ) → list_at lists a.lengths ≡ l ∷ ls → list_at lists b.lengths ≡ [] → is_same (ctype lists a) (ctype lists b) ≡ false
  unfolding ctype
  same-first l ls na nb =
      ap₂ (λ (ls ks : List ℕ). is_same (pointers_to a.pointers (arrays_of ls (element a))) (pointers_to b.pointers (arrays_of ks (element b)))) na nb
      ∙ ap (is_same (pointers_to a.pointers (arrays_of (l ∷ ls) (element a)))) (pointers-add b.pointers b.stars (base b.base))
      ∙ same-pointers a.pointers (b.pointers + b.stars) (arrays_of (l ∷ ls) (element a)) (base b.base) refl (base-pointer b.base)
      ∙ ap (λ x. (a.pointers == b.pointers + b.stars) && x) (array_base l ls (element a) b.base)
      ∙ and-false (a.pointers == b.pointers + b.stars)

  pub same-second : (l : ℕ) (ls : List ℕ) → list_at lists a.lengths ≡ [] → list_at lists b.lengths ≡ l ∷ ls → is_same (ctype lists a) (ctype lists b) ≡ false
  unfolding ctype
  same-second l ls na nb =
      ap₂ (λ (ls ks : List ℕ). is_same (pointers_to a.pointers (arrays_of ls (element a))) (pointers_to b.pointers (arrays_of ks (element b)))) na nb
      ∙ ap (λ x. is_same x (pointers_to b.pointers (arrays_of (l ∷ ls) (element b)))) (pointers-add a.pointers a.stars (base a.base))
      ∙ same-pointers (a.pointers + a.stars) b.pointers (base a.base) (arrays_of (l ∷ ls) (element b)) (base-pointer a.base) refl
      ∙ ap (λ x. (a.pointers + a.stars == b.pointers) && x) (base_array l ls (element b) a.base)
      ∙ and-false (a.pointers + a.stars == b.pointers)

  pub same-row_first : (i : ℕ) → 0 < length (get_or lists i []) → list_at lists a.lengths ≡ get_or lists i [] → list_at lists b.lengths ≡ []
      → is_same (ctype lists a) (ctype lists b) ≡ false
  same-row_first i some na nb = let p = some_list (get_or lists i []) some in same-first p.0 p.1 (na ∙ p.2) nb

  pub same-row_second : (i : ℕ) → 0 < length (get_or lists i []) → list_at lists a.lengths ≡ [] → list_at lists b.lengths ≡ get_or lists i []
      → is_same (ctype lists a) (ctype lists b) ≡ false
  same-row_second i some na nb = let p = some_list (get_or lists i []) some in same-second p.0 p.1 na (nb ∙ p.2)
