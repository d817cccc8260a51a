-- Dimensions, the products of dimensions, and the windows that they give.
use Rattle.std.proofs.Common.{◌≡◌, ◌≢◌, ℕ, zero, suc, ◌+◌, ◌*◌, ◌-◌, ◌^◌, ◌<◌, ◌≤◌, ℤ, pos, negsuc, ◌<ℤ◌, ◌≤ℤ◌, int_lt, unsigned_abs, Bool, true, false, not, ◌&&◌, ◌||◌, List, [], ◌∷◌, length, drop, get_or, slice_get, nat_lt, nat_le, Some, ◌⊎◌, inl, inr, refl, sym, ap, ◌∙◌, subst, arith, eqb}
use Rattle.std.specs.List.{list_all}
use Rattle.std.proofs.lemmas.Int.{ints}
use Rattle.std.proofs.lemmas.Nat.{mul-le}
use Rattle.std.proofs.lemmas.Bool.{and_parts, and_from, or_left, or_right, or_from, or_cases, cases_lt, ltb-true, lt-ltb, leb-true, le-leb, false≢true, false_from_ne_true, eqb-true, ne_eqb, eq-eqb}
use Rattle.css_semantics.specs.Dialogue.{Argument}
use Rattle.css_semantics.specs.Tasks as tasks
use Rattle.css_semantics.specs.Rules.{is_dimension, overlaps_itself, has_bad_dimension}
use Rattle.css_record.specs.declared.window.Window as coded
use Rattle.css_record.specs.Windows.{window, IsWindow}
use Rattle.css_arguments.proofs.Looking.{drop_at}
use Rattle.css_arguments.specs.Arguments.{product, strided, is_bad_block, IsTooMuch, IsProduct, IsTooLong, IsLength, IsBlockOf, IsSpread}

-- ---- one dimension

pub no_dimension : (d : ℤ) → d <ℤ pos 1 → is_dimension d ≡ false
no_dimension (pos zero) low = refl
no_dimension (pos (suc n)) low = absurd (omega (arith, ints))
no_dimension (negsuc n) low = refl

pub a_dimension : (d : ℤ) → pos 1 ≤ℤ d → d ≤ℤ pos (2 ^ 30) → is_dimension d ≡ true
a_dimension (pos n) low high = and_from (nat_le 1 n) (nat_lt n (2 ^ 63)) (le-leb 1 n (omega (arith, ints))) (lt-ltb n (2 ^ 63) (omega (arith, ints)))
a_dimension (negsuc n) low high = absurd (omega (arith, ints))

pub count_is : (d : ℤ) → pos 1 ≤ℤ d → unsigned_abs d ≡ tasks.count d
count_is (pos n) low = refl
count_is (negsuc n) low = absurd (omega (arith, ints))

pub count_some : (d : ℤ) → pos 1 ≤ℤ d → 1 ≤ tasks.count d
count_some (pos n) low = omega (arith, ints)
count_some (negsuc n) low = absurd (omega (arith, ints))

pub count_large : (d : ℤ) → pos (2 ^ 30) <ℤ d → 2 ^ 30 < tasks.count d
count_large (pos n) high = omega (arith, ints)
count_large (negsuc n) high = absurd (omega (arith, ints))

pub count_small : (d : ℤ) → d ≤ℤ pos (2 ^ 30) → tasks.count d ≤ 2 ^ 30
count_small (pos n) high = omega (arith, ints)
count_small (negsuc n) high = omega arith

-- a dimension is a number of at least 1
pub dimension_is : (d : ℤ) → is_dimension d ≡ true → (pos (tasks.count d) ≡ d) × (1 ≤ tasks.count d)
dimension_is (pos n) is = (refl, leb-true 1 n (and_parts (nat_le 1 n) (nat_lt n (2 ^ 63)) is).0)
dimension_is (negsuc n) is = absurd (false≢true is)

pub in_order_by : (a b : ℤ) → int_lt a b ≡ false → b ≤ℤ a
in_order_by a b h = grind (arith, ints)

-- a product is no less than what it begins with
times_more : (n m : ℕ) → 1 ≤ m → n ≤ n * m
times_more n m some = let less = mul-le n 1 n m (omega arith) some in omega (arith, less)

pub much : (n : ℕ) (d : ℤ) → 1 ≤ n → pos (2 ^ 30) <ℤ d → 2 ^ 30 < n * tasks.count d
much n d some high =
    let large = count_large d high in
    let less = mul-le 1 (tasks.count d) n (tasks.count d) some (omega arith) in
    omega (arith, large, less)

pub product_fits : (n : ℕ) (d : ℤ) → n < 2 ^ 32 → d ≤ℤ pos (2 ^ 30) → n * tasks.count d ≤ 2 ^ 32 * 2 ^ 30
product_fits n d small high = mul-le n (tasks.count d) (2 ^ 32) (2 ^ 30) (omega arith) (count_small d high)

pub product_some : (n : ℕ) (d : ℤ) → 1 ≤ n → pos 1 ≤ℤ d → 1 ≤ n * tasks.count d
product_some n d some low = let less = mul-le 1 1 n (tasks.count d) some (count_some d low) in omega (arith, less)

-- ---- the product of dimensions

pub product_grows : (ds : List ℤ) (n : ℕ) → list_all is_dimension ds ≡ true → n ≤ product n ds
product_grows [] n all = omega arith
product_grows (d ∷ ds) n all =
    let parts = and_parts (is_dimension d) (list_all is_dimension ds) all in
    let more = times_more n (tasks.count d) (dimension_is d parts.0).1 in
    omega (arith, more, product_grows ds (n * tasks.count d) parts.1)

-- what is left of a product
pub record IsLeft (n : ℕ) (ds : List ℤ) (length : ℕ) (rest : List ℤ) : Type 0 where
  pub some : 1 ≤ length
  pub same : product length rest ≡ product n ds
  pub all : list_all is_dimension rest ≡ list_all is_dimension ds

pub left_next : (n : ℕ) (ds : List ℤ) (length next : ℕ) (d : ℤ) (rest : List ℤ) → IsLeft n ds length (d ∷ rest) → IsProduct length d next → IsLeft n ds next rest
left_next n ds length next d rest left is = record {
  some = is.some;
  same = ap (λ m. product m rest) is.is ∙ left.same;
  all = sym (ap (λ b. b && list_all is_dimension rest) is.dimension) ∙ left.all;
}

pub left_over : (n : ℕ) (ds : List ℤ) (length : ℕ) (d : ℤ) (rest : List ℤ) → IsLeft n ds length (d ∷ rest) → IsTooMuch length d → IsTooLong n ds
left_over n ds length d rest left (inl none) = inl (sym left.all ∙ ap (λ b. b && list_all is_dimension rest) none)
left_over n ds length d rest left (inr over) =
    by (list_all is_dimension rest) refl
  where
    by : (b : Bool) → list_all is_dimension rest ≡ b → IsTooLong n ds
    by false some = inl (sym left.all ∙ ap (λ b. is_dimension d && b) some ∙ and_false (is_dimension d))
      where
        and_false : (x : Bool) → (x && false) ≡ false
        and_false true = refl
        and_false false = refl
    by true all = inr (omega (arith, over, product_grows rest (length * tasks.count d) all, left.same))

pub at_get_or : {X : Type 0} (xs : List X) (i : ℕ) (d : X) → i < length xs → slice_get xs i ≡ Some (get_or xs i d)
at_get_or [] i d within = absurd (omega arith)
at_get_or (x ∷ xs) zero d within = refl
at_get_or (x ∷ xs) (suc i) d within = at_get_or xs i d (omega arith)

-- at a place
pub over_at : (n : ℕ) (ds : List ℤ) (length i : ℕ) (d : ℤ) → IsLeft n ds length (drop i ds) → slice_get ds i ≡ Some d → IsTooMuch length d → IsTooLong n ds
over_at n ds length i d left at over = left_over n ds length d (drop (i + 1) ds) (subst (IsLeft n ds length) (drop_at ds i d at) left) over

pub left_length : (n : ℕ) (ds : List ℤ) (length : ℕ) → IsLeft n ds length [] → length ≤ 2 ^ 30 → IsLength n ds length
left_length n ds length left small = record { dimensions = sym left.all; is = left.same; some = left.some; small = small }

pub left_long : (n : ℕ) (ds : List ℤ) (length : ℕ) → IsLeft n ds length [] → 2 ^ 30 < length → IsTooLong n ds
left_long n ds length left over = inr (subst (λ (m : ℕ). 2 ^ 30 < m) left.same over)

-- ---- blocks

three : (x y z : Bool) → (x && (y && (z && true))) ≡ true → (x ≡ true) × (y ≡ true) × (z ≡ true)
three true true true all = (refl, refl, refl)
three true true false all = absurd (false≢true all)
three true false z all = absurd (false≢true all)
three false y z all = absurd (false≢true all)

-- the span of rows of bytes
span_of : (base rows width stride : ℕ) → ℕ
span_of base rows width stride = tasks.span (tasks.strided base rows width stride)

span_row : (base rows width stride : ℕ) → ((eqb rows 1) || (eqb width stride)) ≡ true → span_of base rows width stride ≡ rows * width
unfolding span_of
span_row base rows width stride is =
    rw is (let none : (1 - 1) * (rows * width) + rows * width ≡ rows * width = omega arith in none)

span_block : (base rows width stride : ℕ) → ((eqb rows 1) || (eqb width stride)) ≡ false → span_of base rows width stride ≡ (rows - 1) * stride + width
unfolding span_of
span_block base rows width stride is = rw is refl

-- a span is no less than a row, than the number of rows, and, but for one row, than the stride
span_over : (base rows width stride : ℕ) → 1 ≤ rows → 1 ≤ width → width ≤ stride
    → (width ≤ span_of base rows width stride) × (rows ≤ span_of base rows width stride) × (2 ≤ rows → stride ≤ span_of base rows width stride)
span_over base rows width stride some has order = by ((eqb rows 1) || (eqb width stride)) refl
  where
    by : (b : Bool) → ((eqb rows 1) || (eqb width stride)) ≡ b
        → (width ≤ span_of base rows width stride) × (rows ≤ span_of base rows width stride) × (2 ≤ rows → stride ≤ span_of base rows width stride)
    by true is =
        let whole = span_row base rows width stride is in
        let by_rows = mul-le 1 width rows width some (omega arith) in
        let by_width = mul-le rows 1 rows width (omega arith) has in (
          omega (arith, whole, by_rows),
          omega (arith, whole, by_width),
          λ two.
              (elim (or_cases (eqb rows 1) (eqb width stride) is) [
                | inl one ↦ absurd (omega (arith, two, (let e : rows ≡ 1 = eqb-true rows 1 one in e)))
                | inr same ↦ omega (arith, whole, by_rows, (let e : width ≡ stride = eqb-true width stride same in e))
              ]),
        )
    by false is =
        let whole = span_block base rows width stride is in
        let by_stride = mul-le (rows - 1) 1 (rows - 1) stride (omega arith) (omega (arith, has, order)) in (
          omega (arith, whole),
          omega (arith, whole, by_stride, has),
          λ two.
              (let by_row = mul-le 1 stride (rows - 1) stride (omega (arith, two)) (omega arith) in omega (arith, whole, by_row)),
        )

module _ (base element : ℕ) (some : 1 ≤ element) (rows width stride : ℤ) where
  abbrev r : ℕ
  r = tasks.count rows

  abbrev w : ℕ
  w = element * tasks.count width

  abbrev s : ℕ
  s = element * tasks.count stride

  -- what is at fault
  abbrev bad : Bool → Bool → Bool → Bool
  bad all overlaps large = not all || (overlaps || large)

  bad_any : (all overlaps large : Bool) → (all ≡ true → overlaps ≡ false → large ≡ true) → bad all overlaps large ≡ true
  bad_any false overlaps large over = refl
  bad_any true true large over = refl
  bad_any true false large over = over refl refl

  not_lower : int_lt stride width ≡ false → tasks.count width ≤ tasks.count stride ⊎ (is_dimension width ≡ false) ⊎ (is_dimension stride ≡ false)
  not_lower h = by width stride h
    where
      by : (a b : ℤ) → int_lt b a ≡ false → tasks.count a ≤ tasks.count b ⊎ (is_dimension a ≡ false) ⊎ (is_dimension b ≡ false)
      by (pos a) (pos b) h = inl (elim (cases_lt b a) [ inl less ↦ absurd (false≢true (sym h ∙ lt-ltb b a less)) | inr more ↦ more ])
      by (negsuc a) b h = inr (inl refl)
      by (pos a) (negsuc b) h = inr (inr refl)

  -- a block is at fault where, of dimensions in order, its span is too large
  bad_where : ((is_dimension rows ≡ true) → (is_dimension width ≡ true) → (is_dimension stride ≡ true) → 1 ≤ r → 1 ≤ w → w ≤ s → 2 ^ 30 < span_of base r w s)
      → is_bad_block base element rows width stride ≡ true
  unfolding span_of
  bad_where over =
      bad_any (list_all is_dimension (rows ∷ width ∷ stride ∷ [])) (int_lt stride width) (nat_lt (2 ^ 30) (span_of base r w s))
      (λ all order.
      let are = three (is_dimension rows) (is_dimension width) (is_dimension stride) all in
      let of_rows = dimension_is rows are.0 in
      let of_width = dimension_is width are.1 in
      let of_stride = dimension_is stride are.2 in
      lt-ltb (2 ^ 30) (span_of base r w s)
      (over are.0 are.1 are.2 of_rows.1
      (let less = mul-le 1 1 element (tasks.count width) some of_width.1 in omega (arith, less))
      (elim (not_lower order) [
        | inl less ↦ mul-le element (tasks.count width) element (tasks.count stride) (omega arith) less
        | inr (inl none) ↦ absurd (false≢true (sym none ∙ are.1))
        | inr (inr none) ↦ absurd (false≢true (sym none ∙ are.2))
      ])))

  pub bad_order : stride <ℤ width → is_bad_block base element rows width stride ≡ true
  bad_order h =
      by (list_all is_dimension (rows ∷ width ∷ stride ∷ [])) (int_lt stride width) (nat_lt (2 ^ 30) (tasks.span (tasks.window (strided base element rows width stride)))) (grind (arith, ints))
    where
      by : (all overlaps large : Bool) → overlaps ≡ true → (not all || (overlaps || large)) ≡ true
      by false overlaps large is = refl
      by true overlaps large is = ap (λ b. b || large) is

  pub bad_width : IsTooMuch element width → is_bad_block base element rows width stride ≡ true
  bad_width (inl none) = bad_where (λ of_rows of_width of_stride x y z. absurd (false≢true (sym none ∙ of_width)))
  bad_width (inr over) = bad_where (λ of_rows of_width of_stride x y z. omega (arith, over, (span_over base r w s x y z).0))

  pub bad_rows : IsTooMuch 1 rows → is_bad_block base element rows width stride ≡ true
  bad_rows (inl none) = bad_where (λ of_rows of_width of_stride x y z. absurd (false≢true (sym none ∙ of_rows)))
  bad_rows (inr over) = bad_where (λ of_rows of_width of_stride x y z. omega (arith, over, (span_over base r w s x y z).1))

  pub bad_stride : rows ≢ pos 1 → IsTooMuch element stride → is_bad_block base element rows width stride ≡ true
  bad_stride other (inl none) = bad_where (λ of_rows of_width of_stride x y z. absurd (false≢true (sym none ∙ of_stride)))
  bad_stride other (inr over) =
      bad_where (λ of_rows of_width of_stride x y z.
      omega (arith, over, (span_over base r w s x y z).2 (two of_rows x)))
    where
      two : is_dimension rows ≡ true → 1 ≤ r → 2 ≤ r
      two is x =
          elim (cases_lt 1 r) [
            | inl more ↦ omega arith
            | inr less ↦ absurd (other (sym (dimension_is rows is).0 ∙ ap pos (let one : r ≡ 1 = omega arith in one)))
          ]

  -- a block is at fault where the rows behind one another are too long
  pub bad_length : w ≡ s → IsTooMuch w rows → is_bad_block base element rows width stride ≡ true
  bad_length same (inl none) = bad_where (λ of_rows of_width of_stride x y z. absurd (false≢true (sym none ∙ of_rows)))
  bad_length same (inr over) =
      bad_where (λ of_rows of_width of_stride x y z.
      let turned : r * w ≡ w * r = grind arith in
      omega (arith, over, turned, span_row base r w s (or_right (eqb r 1) (eqb w s) (eq-eqb w s same))))

  pub bad_span : w ≢ s → rows ≢ pos 1 → 2 ^ 30 < (r - 1) * s + w → is_bad_block base element rows width stride ≡ true
  bad_span other several over =
      bad_where (λ of_rows of_width of_stride x y z.
      omega (arith, over, span_block base r w s (or_from (eqb r 1) (eqb w s) (ne_eqb r 1 (λ one. several (sym (dimension_is rows of_rows).0 ∙ ap pos one))) (ne_eqb w s other))))

  -- ---- a block that isn't at fault

  in_order : width ≤ℤ stride → int_lt stride width ≡ false
  in_order order = grind (arith, ints)

  no_less : width ≤ℤ stride → is_dimension width ≡ true → is_dimension stride ≡ true → w ≤ s
  no_less order of_width of_stride =
      elim (not_lower (in_order order)) [
        | inl less ↦ mul-le element (tasks.count width) element (tasks.count stride) (omega arith) less
        | inr (inl none) ↦ absurd (false≢true (sym none ∙ of_width))
        | inr (inr none) ↦ absurd (false≢true (sym none ∙ of_stride))
      ]

  good : width ≤ℤ stride → is_dimension rows ≡ true → is_dimension width ≡ true → is_dimension stride ≡ true → span_of base r w s ≤ 2 ^ 30 → is_bad_block base element rows width stride ≡ false
  unfolding span_of
  good order of_rows of_width of_stride small =
      by (is_dimension rows) (is_dimension width) (is_dimension stride) (int_lt stride width) (nat_lt (2 ^ 30) (span_of base r w s)) of_rows of_width of_stride (in_order order)
      (false_from_ne_true (nat_lt (2 ^ 30) (span_of base r w s)) (λ over. omega (arith, small, ltb-true (2 ^ 30) (span_of base r w s) over)))
    where
      by : (x y z overlaps large : Bool) → x ≡ true → y ≡ true → z ≡ true → overlaps ≡ false → large ≡ false → (not (x && (y && (z && true))) || (overlaps || large)) ≡ false
      by x y z overlaps large of_x of_y of_z none small = rw (of_x, of_y, of_z, none, small) refl

  -- one row: its stride doesn't count, but is a dimension
  pub one_row : rows ≡ pos 1 → width ≤ℤ stride → is_dimension stride ≡ true → (row : ℕ) → IsProduct element width row
      → (v : coded.Window) → window v ≡ tasks.plain base row → IsWindow (window v) → IsBlockOf base element rows width stride v
  one_row one order of_stride row of_row v is is_window =
      let whole : r ≡ 1 = ap tasks.count one in
      let joined : ((eqb r 1) || (eqb w s)) ≡ true = or_left (eqb r 1) (eqb w s) (eq-eqb r 1 whole) in
      let length : r * w ≡ row = ap (λ n. n * w) whole ∙ (let e : 1 * w ≡ row = omega (arith, of_row.is) in e) in
      record {
        fit = good order (ap is_dimension one) of_row.dimension of_stride (omega (arith, span_row base r w s joined, length, of_row.small));
        is = is ∙ ap (tasks.plain base) (sym length) ∙ (rw joined refl);
        is_window = is_window;
      }

  -- rows that lie behind one another
  pub joined_rows : (row step length : ℕ) → is_dimension rows ≡ true → width ≤ℤ stride → IsProduct element width row → IsProduct element stride step → row ≡ step → IsProduct row rows length
      → (v : coded.Window) → window v ≡ tasks.plain base length → IsWindow (window v) → IsBlockOf base element rows width stride v
  joined_rows row step length of_rows order of_row of_step same of_length v is is_window =
      let equal : w ≡ s = sym of_row.is ∙ same ∙ of_step.is in
      let joined : ((eqb r 1) || (eqb w s)) ≡ true = or_right (eqb r 1) (eqb w s) (eq-eqb w s equal) in
      let turned : r * w ≡ w * r = grind arith in
      let whole : r * w ≡ length = turned ∙ ap (λ n. n * r) (sym of_row.is) ∙ sym of_length.is in
      record {
        fit = good order of_rows of_row.dimension of_step.dimension (omega (arith, span_row base r w s joined, whole, of_length.small));
        is = is ∙ ap (tasks.plain base) (sym whole) ∙ (rw joined refl);
        is_window = is_window;
      }

  -- rows that don't
  pub spread_rows : (count row step : ℕ) → rows ≢ pos 1 → width ≤ℤ stride → IsProduct 1 rows count → IsProduct element width row → IsProduct element stride step → row ≢ step
      → (v : coded.Window) → IsSpread base count row step v → IsBlockOf base element rows width stride v
  spread_rows count row step several order of_count of_row of_step other v is =
      let number : count ≡ r = omega (arith, of_count.is) in
      let apart : ((eqb r 1) || (eqb w s)) ≡ false =
      or_from (eqb r 1) (eqb w s) (ne_eqb r 1 (λ one. several (sym (dimension_is rows of_count.dimension).0 ∙ ap pos one)))
      (ne_eqb w s (λ same. other (of_row.is ∙ same ∙ sym of_step.is))) in
      let product : (count - 1) * step ≡ (r - 1) * s = ap (λ n. (n - 1) * step) number ∙ ap (λ n. (r - 1) * n) of_step.is in
      let small : (count - 1) * step + row ≤ 2 ^ 30 = subst (λ (x : coded.Window). tasks.span (window x) ≤ 2 ^ 30) is.is is.is_window.small in
      record {
        fit = good order of_count.dimension of_row.dimension of_step.dimension (omega (arith, span_block base r w s apart, product, small, of_row.is));
        is =
            ap window is.is
            ∙ ap (λ (n : ℕ). record { base = base; rows = n; width = row; stride = step }) number
            ∙ ap (λ (n : ℕ). record { base = base; rows = r; width = n; stride = step }) of_row.is
            ∙ ap (λ (n : ℕ). record { base = base; rows = r; width = w; stride = n }) of_step.is
            ∙ (rw apart refl);
        is_window = is.is_window;
      }

  -- a width that isn't over the stride is under it or equal
  pub under : width ≤ℤ stride → (row step : ℕ) → IsProduct element width row → IsProduct element stride step → row ≢ step → row < step
  under order row step of_row of_step other =
      let less = no_less order of_row.dimension of_step.dimension in
      elim (cases_lt row step) [
        | inl below ↦ below
        | inr above ↦ absurd (other (omega (arith, less, above, of_row.is, of_step.is)))
      ]

  pub two_rows : (count : ℕ) → rows ≢ pos 1 → IsProduct 1 rows count → 2 ≤ count
  two_rows count several is =
      elim (cases_lt 1 count) [
        | inl more ↦ omega arith
        | inr less ↦ absurd (several (sym (dimension_is rows is.dimension).0 ∙ ap pos (let one : r ≡ 1 = omega (arith, is.is, is.some) in one)))
      ]

  pub bad_spread : (count row step : ℕ) → rows ≢ pos 1 → IsProduct 1 rows count → IsProduct element width row → IsProduct element stride step → row ≢ step
      → 2 ^ 30 < (count - 1) * step + row → is_bad_block base element rows width stride ≡ true
  bad_spread count row step several of_count of_row of_step other over =
      let number : count ≡ r = omega (arith, of_count.is) in
      let product : (count - 1) * step ≡ (r - 1) * s = ap (λ n. (n - 1) * step) number ∙ ap (λ n. (r - 1) * n) of_step.is in
      bad_span (λ same. other (of_row.is ∙ same ∙ sym of_step.is)) several (omega (arith, over, product, of_row.is))

  pub bad_joined : (row step : ℕ) → IsProduct element width row → IsProduct element stride step → row ≡ step → IsTooMuch row rows → is_bad_block base element rows width stride ≡ true
  bad_joined row step of_row of_step same much =
      bad_length (sym of_row.is ∙ same ∙ of_step.is) (subst (λ (n : ℕ). IsTooMuch n rows) of_row.is much)

-- ---- windows of spread rows

pub spread_window : (base rows width stride : ℕ) → 2 ≤ rows → 1 ≤ width → width < stride → (rows - 1) * stride + width ≤ 2 ^ 30
    → IsWindow (record { base = base; rows = rows; width = width; stride = stride })
spread_window base rows width stride two has under small = record {
  rows = omega arith;
  width = has;
  apart = omega arith;
  form = λ same. absurd (omega arith);
  one_row = λ one. absurd (omega arith);
  small = small;
}

-- a stride that is no less than a width is a dimension too
pub stride_dimension : (width stride : ℤ) → unsigned_abs stride < 2 ^ 63 → width ≤ℤ stride → is_dimension width ≡ true → is_dimension stride ≡ true
stride_dimension (negsuc a) stride small order is = absurd (false≢true is)
stride_dimension (pos a) (negsuc b) small order is = absurd (omega (arith, ints))
stride_dimension (pos a) (pos b) small order is =
    let some = leb-true 1 a (and_parts (nat_le 1 a) (nat_lt a (2 ^ 63)) is).0 in
    and_from (nat_le 1 b) (nat_lt b (2 ^ 63)) (le-leb 1 b (omega (arith, ints, some))) (lt-ltb b (2 ^ 63) small)

-- ---- windows of arguments

pub row_dimensions : (base element : ℕ) (ds : List ℤ) (strides : Bool) → (strides ≡ true → length ds ≡ 3 → ⊥) → tasks.window_of_dimensions strides base element ds ≡ tasks.plain base (product element ds)
row_dimensions base element ds false other = refl
row_dimensions base element [] true other = refl
row_dimensions base element (a ∷ []) true other = refl
row_dimensions base element (a ∷ b ∷ []) true other = refl
row_dimensions base element (a ∷ b ∷ c ∷ []) true other = absurd (other refl refl)
row_dimensions base element (a ∷ b ∷ c ∷ d ∷ more) true other = refl

pub row_overlaps : (ds : List ℤ) (strides : Bool) → (strides ≡ true → length ds ≡ 3 → ⊥) → overlaps_itself strides ds ≡ false
row_overlaps ds false other = refl
row_overlaps [] true other = refl
row_overlaps (a ∷ []) true other = refl
row_overlaps (a ∷ b ∷ []) true other = refl
row_overlaps (a ∷ b ∷ c ∷ []) true other = absurd (other refl refl)
row_overlaps (a ∷ b ∷ c ∷ d ∷ more) true other = refl

bad_by : (all overlaps large : Bool) → (all ≡ false) ⊎ (large ≡ true) → (not all || (overlaps || large)) ≡ true
bad_by false overlaps large h = refl
bad_by true overlaps large (inl none) = absurd (false≢true (sym none))
bad_by true true large (inr over) = refl
bad_by true false large (inr over) = over

module _ (a : Argument) (other : a.is_strided ≡ true → length a.dimensions ≡ 3 → ⊥) where
  plain_is : tasks.window a ≡ tasks.plain a.base (product a.element a.dimensions)
  plain_is = row_dimensions a.base a.element a.dimensions a.is_strided other

  span_is : tasks.span (tasks.window a) ≡ product a.element a.dimensions
  span_is = ap tasks.span plain_is ∙ (let n : ℕ = product a.element a.dimensions in let e : (1 - 1) * n + n ≡ n = omega arith in e)

  pub row_bad : IsTooLong a.element a.dimensions → has_bad_dimension a ≡ true
  row_bad h =
      bad_by (list_all is_dimension a.dimensions) (overlaps_itself a.is_strided a.dimensions) (nat_lt (2 ^ 30) (tasks.span (tasks.window a)))
      (elim h [ inl none ↦ inl none | inr over ↦ inr (lt-ltb (2 ^ 30) (tasks.span (tasks.window a)) (omega (arith, over, span_is))) ])

  pub row_good : (n : ℕ) → IsLength a.element a.dimensions n → has_bad_dimension a ≡ false
  row_good n is =
      by (list_all is_dimension a.dimensions) (overlaps_itself a.is_strided a.dimensions) (nat_lt (2 ^ 30) (tasks.span (tasks.window a))) is.dimensions
      (row_overlaps a.dimensions a.is_strided other)
      (false_from_ne_true (nat_lt (2 ^ 30) (tasks.span (tasks.window a))) (λ over. omega (arith, is.small, is.is, span_is, ltb-true (2 ^ 30) (tasks.span (tasks.window a)) over)))
    where
      by : (all overlaps large : Bool) → all ≡ true → overlaps ≡ false → large ≡ false → (not all || (overlaps || large)) ≡ false
      by all overlaps large of_all none small = rw (of_all, none, small) refl

  pub row_window : (n : ℕ) → IsLength a.element a.dimensions n → tasks.plain a.base n ≡ tasks.window a
  row_window n is = ap (tasks.plain a.base) is.is ∙ sym plain_is

-- an argument whose three dimensions are rows, width and stride
pub block_bad : (a : Argument) (x y z : ℤ) → a.is_strided ≡ true → a.dimensions ≡ x ∷ y ∷ z ∷ [] → has_bad_dimension a ≡ is_bad_block a.base a.element x y z
block_bad a x y z strides are = rw (strides, are) refl

pub block_window : (a : Argument) (x y z : ℤ) → a.is_strided ≡ true → a.dimensions ≡ x ∷ y ∷ z ∷ [] → tasks.window a ≡ tasks.window (strided a.base a.element x y z)
block_window a x y z strides are = rw (strides, are) refl

pub three_values : {X : Type 0} (xs : List X) (d : X) → length xs ≡ 3 → xs ≡ get_or xs 0 d ∷ get_or xs 1 d ∷ get_or xs 2 d ∷ []
three_values [] d long = absurd (omega arith)
three_values (x ∷ []) d long = absurd (omega arith)
three_values (x ∷ y ∷ []) d long = absurd (omega arith)
three_values (x ∷ y ∷ z ∷ []) d long = refl
three_values (x ∷ y ∷ z ∷ u ∷ more) d long = absurd (omega arith)
