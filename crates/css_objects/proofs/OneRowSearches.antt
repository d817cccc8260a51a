-- Searches among windows of one row, of which each ends before the next one begins.
use Rattle.std.proofs.Common.{◌≡◌, ℕ, suc, ◌+◌, ◌*◌, ◌-◌, ◌^◌, ◌<◌, ◌≤◌, true, false, List, length, slice_get, Some, inl, inr, sym, ap, ◌∙◌, subst, arith}
use Rattle.std.proofs.lemmas.Bool.{cases_order, cases_lt, false≢true, false_from_ne_true}
use Rattle.std.proofs.Common.{◌⊎◌}
use Rattle.std.proofs.Math.Nat.{suc-mul}
use Rattle.std.proofs.lemmas.Nat.{mul-le, pow_below}
use Rattle.std.proofs.lemmas.List.{length-map}
use Rattle.std.proofs.lemmas.Option.{slice_get_within}
use Rattle.css_semantics.specs.Rules.{share_byte}
use Rattle.css_record.specs.declared.window.Window as coded
use Rattle.css_record.specs.Windows.{window, IsWindow}
use Rattle.css_objects.specs.declared.ordered.Found.{Found}
use Rattle.css_semantics.specs.WindowRanges.{window_meets}
use Rattle.css_objects.specs.Ordered.{IsAscending, StandAbove, Stands, IsLastBelow, IsSearch}
use Rattle.css_arguments.specs.Lists.{Each}
use Rattle.css_objects.specs.Found.{AreRows, NoneMeets, IsLastMeeting, NoneShares, IsLastSharing, TakesAtMost}
use Rattle.css_semantics.proofs.WindowRanges.{rows_give, rows_by, none_below, share_is_rows, share_gives, share_by}
use Rattle.css_objects.proofs.Searches.{base_at}

-- ---- one row

pub row_gives : (w : coded.Window) (from to : ℕ) → w.rows ≡ 1 → window_meets (window w) from to ≡ true → (w.base < to) × (from < w.base + w.width)
row_gives w from to one meets =
    let found = rows_give w.rows w.base w.width w.stride from to meets in
    let first : found.0 ≡ 0 = omega (arith, found.1, one) in
    let at : found.0 * w.stride ≡ 0 = ap (λ n. n * w.stride) first ∙ (let none : 0 * w.stride ≡ 0 = omega arith in none) in
    (omega (arith, found.2, at), omega (arith, found.3, at))

pub row_by : (w : coded.Window) (from to : ℕ) → w.rows ≡ 1 → w.base < to → from < w.base + w.width → window_meets (window w) from to ≡ true
row_by w from to one below above = rows_by w.rows w.base w.width w.stride from to 0 (omega (arith, one)) (omega arith) (omega arith)

pub same_place : (windows : List coded.Window) (i : ℕ) (v w : coded.Window) → slice_get windows i ≡ Some v → slice_get windows i ≡ Some w → v ≡ w
same_place windows i v w of_v of_w = cc

module _ (windows : List coded.Window) (rows : AreRows windows) (from to : ℕ) where
  -- no window begins below the end
  pub none_meets : StandAbove windows to 0 → NoneMeets windows from to
  none_meets above i w at =
      let base = base_at windows i w at in
      none_below (window w) from to (omega (arith, base, above i (omega arith) (slice_get_within windows i w at)))

  module _ (f : Found) (last : IsLastBelow windows to f) where
    -- the last that does ends before the range
    pub none_before : f.window.base + f.window.width ≤ from → NoneMeets windows from to
    none_before over i w at =
        false_from_ne_true (window_meets (window w) from to)
        (λ meets.
        let is = rows.rows i w at in
        let here = row_gives w from to is.one meets in
        elim (cases_order f.place i) [
          | inl same ↦
              let e = same_place windows i w f.window at (subst (λ n. slice_get windows n ≡ Some f.window) same last.stands) in
              omega (arith, here.1, over, ap (λ (x : coded.Window). x.base) e, ap (λ (x : coded.Window). x.width) e)
          | inr (inl past) ↦ omega (arith, here.0, base_at windows i w at, last.above i (omega arith) (slice_get_within windows i w at))
          | inr (inr before) ↦ omega (arith, here.1, over, rows.parted i f.place w f.window before at last.stands)
        ])

    -- it doesn't
    pub last_meets : from < f.window.base + f.window.width → IsLastMeeting windows from to f
    last_meets above = record {
      stands = last.stands;
      meets = row_by f.window from to (rows.rows f.place f.window last.stands).one last.below above;
      last = λ i w at below. is_before i w at below (cases_lt f.place i);
    }
      where
        is_before : (i : ℕ) (w : coded.Window) → slice_get windows i ≡ Some w → w.base < to → (f.place < i) ⊎ (i ≤ f.place) → i ≤ f.place
        is_before i w at below (inl past) = omega (arith, below, base_at windows i w at, last.above i (omega arith) (slice_get_within windows i w at))
        is_before i w at below (inr before) = before

-- ---- the rows of a window, from the last to the first

-- no window meets a row of another one from this row on
pub NoneFrom : List coded.Window → coded.Window → ℕ → Type 0
NoneFrom windows w row = Each windows (λ v. (i : ℕ) → row ≤ i → i < w.rows → window_meets (window v) (w.base + i * w.stride) (w.base + i * w.stride + w.width) ≡ false)

pub from_end : (windows : List coded.Window) (w : coded.Window) → NoneFrom windows w w.rows
unfolding NoneFrom
from_end windows w j v at i from below = absurd (omega arith)

pub from_row : (windows : List coded.Window) (w : coded.Window) (row : ℕ) → NoneFrom windows w (row + 1) → NoneMeets windows (w.base + row * w.stride) (w.base + row * w.stride + w.width) → NoneFrom windows w row
unfolding NoneFrom
from_row windows w row later here j v at i from below =
    elim (cases_order row i) [
      | inl same ↦ subst (λ (n : ℕ). window_meets (window v) (w.base + n * w.stride) (w.base + n * w.stride + w.width) ≡ false) same (here j v at)
      | inr (inl past) ↦ later j v at i (omega arith) below
      | inr (inr before) ↦ absurd (omega arith)
    ]

-- a row that shares
shared_row : (w v : coded.Window) → IsWindow (window w) → IsWindow (window v) → share_byte (window w) (window v) ≡ true
    → (i : ℕ) × (i < w.rows) × (window_meets (window v) (w.base + i * w.stride) (w.base + i * w.stride + w.width) ≡ true)
shared_row w v of_w of_v shares =
    share_gives (window v) w.rows w.base w.width w.stride (sym (share_is_rows (window w) (window v) of_w.width of_v.width) ∙ shares)

module _ (windows : List coded.Window) (w : coded.Window) (is : IsWindow (window w)) (rows : AreRows windows) where
  -- none meets a row
  pub none_shares : NoneFrom windows w 0 → NoneShares windows w
  unfolding NoneFrom
  none_shares none j v at =
      false_from_ne_true (share_byte (window w) (window v))
      (λ shares.
      let row = shared_row w v is (rows.rows j v at).is_window shares in
      false≢true (sym (none j v at row.0 (omega arith) row.1) ∙ row.2))

  -- the last that meets a row, where none meets a later one
  pub last_shares : (row : ℕ) (f : Found) → row < w.rows → NoneFrom windows w (row + 1)
      → IsLastMeeting windows (w.base + row * w.stride) (w.base + row * w.stride + w.width) f → IsLastSharing windows w f
  unfolding NoneFrom
  last_shares row f below later last = record {
    stands = last.stands;
    shares = share_is_rows (window w) (window f.window) is.width (rows.rows f.place f.window last.stands).is_window.width
        ∙ share_by (window f.window) w.rows w.base w.width w.stride row below last.meets;
    greatest = λ j v at shares. before j v at (shared_row w v is (rows.rows j v at).is_window shares);
  }
    where
      base_before : (j : ℕ) (v : coded.Window) → slice_get windows j ≡ Some v → j ≤ f.place → v.base ≤ f.window.base
      base_before j v at up_to =
          elim (cases_order j f.place) [
            | inl same ↦
                let e = same_place windows f.place v f.window (subst (λ (n : ℕ). slice_get windows n ≡ Some v) same at) last.stands in
                omega (arith, ap (λ (x : coded.Window). x.base) e)
            | inr (inl less) ↦ omega (arith, rows.parted j f.place v f.window less at last.stands)
            | inr (inr more) ↦ absurd (omega arith)
          ]

      before : (j : ℕ) (v : coded.Window) → slice_get windows j ≡ Some v
          → (i : ℕ) × (i < w.rows) × (window_meets (window v) (w.base + i * w.stride) (w.base + i * w.stride + w.width) ≡ true) → v.base ≤ f.window.base
      before j v at met =
          let one = (rows.rows j v at).one in
          let here = row_gives v (w.base + met.0 * w.stride) (w.base + met.0 * w.stride + w.width) one met.2 in
          elim (cases_lt row met.0) [
            | inl past ↦ absurd (false≢true (sym (later j v at met.0 (omega arith) met.1) ∙ met.2))
            | inr up_to ↦
                let less = mul-le met.0 w.stride row w.stride up_to (omega arith) in
                base_before j v at (last.last j v at (omega (arith, here.0, less)))
          ]

-- ---- steps

pub search_takes : (count old new depth : ℕ) → IsSearch count old new → 2 * count + 1 < 2 ^ (depth + 1) → new ≤ old + depth
search_takes count old new depth search enough =
    elim (cases_order (depth + 1) (new - old)) [
      | inl same ↦ absurd (omega (arith, search.few, ap (λ n. 2 ^ n) same))
      | inr (inl less) ↦ absurd (omega (arith, search.few, pow_below (depth + 1) (new - old) less))
      | inr (inr more) ↦ omega (arith, search.grows)
    ]

-- a search for each of the rows from one on
abbrev pub RowsTake : (count rows row old new : ℕ) → Type 0
RowsTake count rows row old new = (depth : ℕ) → 2 * count + 1 < 2 ^ (depth + 1) → new ≤ old + (rows - row) * depth

pub rows_begin : (count rows old : ℕ) → RowsTake count rows rows old old
rows_begin count rows old depth enough = omega arith

pub row_takes : (count rows row old middle new : ℕ) → row < rows → RowsTake count rows (row + 1) old middle → IsSearch count middle new → RowsTake count rows row old new
row_takes count rows row old middle new below before search depth enough =
    let more : rows - row ≡ suc (rows - (row + 1)) = omega arith in
    let product : (rows - row) * depth ≡ (rows - (row + 1)) * depth + depth = ap (λ n. n * depth) more ∙ suc-mul (rows - (row + 1)) depth in
    omega (arith, product, before depth enough, search_takes count middle new depth search enough)

-- fewer rows than all
pub rows_end : (count rows row old new : ℕ) → RowsTake count rows row old new → TakesAtMost count 0 rows old new
rows_end count rows row old new takes depth enough =
    let less = mul-le (rows - row) depth rows depth (omega arith) (omega arith) in
    omega (arith, less, takes depth enough)

-- ---- windows that are looked at one after another, from the last

-- no window from a place on shares a byte
pub NoneSharesFrom : List coded.Window → coded.Window → ℕ → Type 0
NoneSharesFrom windows w place = (i : ℕ) (v : coded.Window) → place ≤ i → slice_get windows i ≡ Some v → share_byte (window w) (window v) ≡ false

pub shares_end : (windows : List coded.Window) (w : coded.Window) → NoneSharesFrom windows w (length windows)
unfolding NoneSharesFrom
shares_end windows w i v from at = absurd (omega (arith, slice_get_within windows i v at))

pub shares_more : (windows : List coded.Window) (w v : coded.Window) (place : ℕ) → slice_get windows place ≡ Some v → share_byte (window w) (window v) ≡ false
    → NoneSharesFrom windows w (place + 1) → NoneSharesFrom windows w place
unfolding NoneSharesFrom
shares_more windows w v place here none later i x from at =
    elim (cases_order place i) [
      | inl same ↦
          let e = same_place windows place x v (subst (λ (n : ℕ). slice_get windows n ≡ Some x) (sym same) at) here in
          subst (λ y. share_byte (window w) (window y) ≡ false) (sym e) none
      | inr (inl past) ↦ later i x (omega arith) at
      | inr (inr before) ↦ absurd (omega arith)
    ]

pub shares_all : (windows : List coded.Window) (w : coded.Window) → NoneSharesFrom windows w 0 → NoneShares windows w
unfolding NoneSharesFrom
shares_all windows w none i v at = none i v (omega arith) at

pub shares_last : (windows : List coded.Window) (w : coded.Window) (f : Found) → IsAscending windows → Stands windows f → share_byte (window w) (window f.window) ≡ true
    → NoneSharesFrom windows w (f.place + 1) → IsLastSharing windows w f
unfolding NoneSharesFrom
shares_last windows w f ascends stands shares later = record {
  stands = stands;
  shares = shares;
  greatest = λ i v at also. before i v at also (cases_order i f.place);
}
  where
    before : (i : ℕ) (v : coded.Window) → slice_get windows i ≡ Some v → share_byte (window w) (window v) ≡ true → (i ≡ f.place) ⊎ ((i < f.place) ⊎ (f.place < i)) → v.base ≤ f.window.base
    before i v at also (inl same) =
        let e = same_place windows f.place v f.window (subst (λ (n : ℕ). slice_get windows n ≡ Some v) same at) stands in
        omega (arith, ap (λ (x : coded.Window). x.base) e)
    before i v at also (inr (inl less)) =
        omega (
          arith,
          base_at windows i v at,
          base_at windows f.place f.window stands,
          ascends.rises i f.place less (omega (arith, length-map windows (λ x. x.base), slice_get_within windows f.place f.window stands)),
        )
    before i v at also (inr (inr more)) = absurd (false≢true (sym (later i v (omega arith) at) ∙ also))
