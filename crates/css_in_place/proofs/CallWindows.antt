-- The integers and windows of a call that breaks no rule are such as a task's record has.
use Rattle.std.proofs.Common.{◌≡◌, ℕ, ◌*◌, ◌%◌, ◌^◌, ◌≤◌, ◌<◌, ℤ, pos, negsuc, Bool, true, false, not, ◌||◌, ◌==◌, nat_le, nat_lt, List, [], ◌∷◌, length, take, drop, map, fold, refl, arith, if◌then◌else◌}
use Rattle.std.specs.List.{list_all, list_any}
use Rattle.std.proofs.Math.Nat.{mod-lt, mul-pos, mul-le-mul_left}
use Rattle.std.proofs.Math.Pow.{pow_pos}
use Rattle.std.proofs.lemmas.Bool.{and_parts, or_parts, leb-true, ltb-false, eq-eqb, not-false}
use Rattle.css_semantics.specs.Dialogue.{Argument}
use Rattle.css_semantics.specs.Tasks.{window, window_of_dimensions, plain, strided, count, span}
use Rattle.css_semantics.specs.Rules.{is_dimension, overlaps_itself, has_bad_dimension}
use Rattle.css_vm.specs.declared.code.ArgShape.{ArgShape}
use Rattle.css_vm.specs.declared.code.ArgShape.TheVariants as shapes
use Rattle.css_vm.specs.Cells.{signed}
use Rattle.css_vm.specs.Code.{Code, scalars_of, pointers_of, narrowed_to}
use Rattle.css_vm.specs.Soundness.{AreParts}
use Rattle.css_record.specs.Windows.{IsWindow}
use Rattle.css_record.specs.Records.{AreGiven}

product_of_some : (a b : ℕ) → 1 ≤ a → 1 ≤ b → 1 ≤ a * b
product_of_some a b some other =
    let p : 0 < a * b = mul-pos (omega (arith, some)) (omega (arith, other)) in
    omega (arith, p)

count_some : (d : ℤ) → is_dimension d ≡ true → 1 ≤ count d
count_some (pos n) ok = leb-true 1 n (and_parts (nat_le 1 n) (nat_lt n (2 ^ 63)) ok).0
count_some (negsuc n) ok = absurd (cc)

all_some : (element : ℕ) (dimensions : List ℤ) → 1 ≤ element → list_all is_dimension dimensions ≡ true → 1 ≤ fold (λ product d. product * count d) element dimensions
all_some element [] some ok = some
all_some element (d ∷ dimensions) some ok =
    let parts = and_parts (is_dimension d) (list_all is_dimension dimensions) ok in
    all_some (element * count d) dimensions (product_of_some element (count d) some (count_some d parts.0)) parts.1

plain_is : (base long : ℕ) → 1 ≤ long → span (plain base long) ≤ 2 ^ 30 → IsWindow (plain base long)
plain_is base long some small = record { rows = omega arith; width = some; apart = omega arith; form = λ h. refl; one_row = λ h. refl; small = small }

not_equal : (a b : ℕ) → (a == b) ≡ false → a ≡ b → ⊥
not_equal a b differ same = absurd (cc (eq-eqb a b same, differ))

module _ (base rows width stride : ℕ) (some : 1 ≤ rows) (wide : 1 ≤ width) (apart : width ≤ stride) where
  rows_are : (b : Bool) → ((rows == 1) || (width == stride)) ≡ b → span (if b then plain base (rows * width) else record { base = base; rows = rows; width = width; stride = stride }) ≤ 2 ^ 30
      → IsWindow (if b then plain base (rows * width) else record { base = base; rows = rows; width = width; stride = stride })
  rows_are true is small = plain_is base (rows * width) (product_of_some rows width some wide) small
  rows_are false is small =
      let parts = or_parts (rows == 1) (width == stride) is in
      record {
        rows = some;
        width = wide;
        apart = apart;
        form = λ same. absurd (not_equal width stride parts.1 same);
        one_row = λ one. let n = rows in absurd (not_equal n 1 parts.0 one);
        small = small;
      }

  strided_is : span (strided base rows width stride) ≤ 2 ^ 30 → IsWindow (strided base rows width stride)
  strided_is small = rows_are ((rows == 1) || (width == stride)) refl small

window_is : (strides : Bool) (base element : ℕ) (dimensions : List ℤ) → 1 ≤ element → list_all is_dimension dimensions ≡ true → overlaps_itself strides dimensions ≡ false
    → span (window_of_dimensions strides base element dimensions) ≤ 2 ^ 30 → IsWindow (window_of_dimensions strides base element dimensions)
window_is true base element (rows ∷ pos width ∷ pos stride ∷ []) some ok fine small =
    let first = and_parts (is_dimension rows) (list_all is_dimension (pos width ∷ pos stride ∷ [])) ok in
    let second = and_parts (is_dimension (pos width)) (list_all is_dimension (pos stride ∷ [])) first.1 in
    let apart : element * width ≤ element * stride = mul-le-mul_left element (ltb-false stride width fine) in
    strided_is base (count rows) (element * width) (element * stride) (count_some rows first.0) (product_of_some element width some (count_some (pos width) second.0)) apart small
window_is true base element (rows ∷ negsuc width ∷ stride ∷ []) some ok fine small =
    absurd (cc ((and_parts (is_dimension rows) (list_all is_dimension (negsuc width ∷ stride ∷ [])) ok).1))
window_is true base element (rows ∷ pos width ∷ negsuc stride ∷ []) some ok fine small =
    absurd (cc ((and_parts (is_dimension (pos width)) (list_all is_dimension (negsuc stride ∷ [])) (and_parts (is_dimension rows) (list_all is_dimension (pos width ∷ negsuc stride ∷ [])) ok).1).1))
window_is strides base element dimensions some ok fine small = plain_is base (fold (λ product d. product * count d) element dimensions) (all_some element dimensions some ok) small

-- a window whose dimensions break no rule
argument_is : (a : Argument) → 1 ≤ a.element → has_bad_dimension a ≡ false → IsWindow (window a)
argument_is a some fine =
    let first = or_parts (not (list_all is_dimension a.dimensions)) (overlaps_itself a.is_strided a.dimensions || nat_lt (2 ^ 30) (span (window a))) fine in
    let second = or_parts (overlaps_itself a.is_strided a.dimensions) (nat_lt (2 ^ 30) (span (window a))) first.1 in
    window_is a.is_strided a.base a.element a.dimensions some (not-false (list_all is_dimension a.dimensions) first.0) second.0 (ltb-false (2 ^ 30) (span (window a)) second.1)

module _ (code : Code) where
  -- what a call is given has the integers and the windows of a record
  pub given_by_call : (parts : List ArgShape) (parameters arguments dimensions : List ℕ) → AreParts code parts parameters → length arguments ≡ length parameters
      → list_any has_bad_dimension (pointers_of parts (narrowed_to parameters arguments) dimensions) ≡ false
      → AreGiven parts parameters (scalars_of parts (narrowed_to parameters arguments)) (map window (pointers_of parts (narrowed_to parameters arguments) dimensions))
  given_by_call [] [] [] dimensions are same fine = tt
  given_by_call [] [] (a ∷ arguments) dimensions are same fine = absurd (omega arith)
  given_by_call [] (width ∷ parameters) arguments dimensions are same fine = absurd are
  given_by_call (part ∷ parts) [] arguments dimensions are same fine = absurd are
  given_by_call (part ∷ parts) (width ∷ parameters) [] dimensions are same fine = absurd (omega arith)
  given_by_call (shapes.Scalar ∷ parts) (width ∷ parameters) (a ∷ arguments) dimensions are same fine =
      (mod-lt a (pow_pos (8 * width)), given_by_call parts parameters arguments dimensions are.1 (omega arith) fine)
  given_by_call (shapes.Window direction element dims strides ∷ parts) (width ∷ parameters) (a ∷ arguments) dimensions are same fine =
      let argument : Argument = record { base = a % 2 ^ (8 * width); element = element; dimensions = map signed (take dims dimensions); is_strided = strides; direction = direction } in
      let halves = or_parts (has_bad_dimension argument) (list_any has_bad_dimension (pointers_of parts (narrowed_to parameters arguments) (drop dims dimensions))) fine in
      (argument_is argument are.0.1 halves.0, given_by_call parts parameters arguments (drop dims dimensions) are.1 (omega arith) halves.1)
