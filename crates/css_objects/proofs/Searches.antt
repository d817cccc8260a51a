-- Searches among windows in order of base.
use Rattle.std.proofs.Common.{◌≡◌, ℕ, suc, ◌+◌, ◌*◌, ◌-◌, ◌/◌, ◌^◌, ◌<◌, ◌≤◌, ◌≢◌, List, length, slice_index, slice_get, Option, Some, None, MatchOption, refl, sym, ap, ◌∙◌, subst, arith}
use Rattle.std.proofs.Math.Nat.{pow-succ'}
use Rattle.std.proofs.lemmas.List.{length-map}
use Rattle.std.proofs.lemmas.Nat.{mul-le}
use Rattle.std.proofs.lemmas.Option.{slice_get-map, get_or_from_slice_get}
use Rattle.std.proofs.lemmas.Bool.{cases_order}
use Rattle.std.proofs.Common.{inl, inr}
use Rattle.std.specs.Option.{option_map}
use Rattle.css_record.specs.declared.window.Window.{Window}
use Rattle.css_objects.specs.declared.ordered.Found.{Found}
use Rattle.css_objects.specs.Ordered.{bases, IsAscending, StandAbove, Stands, IsLastBelow, HasNone, IsSearch}

-- the base at a place
pub base_at : (windows : List Window) (i : ℕ) (w : Window) → slice_get windows i ≡ Some w → slice_index (bases windows) i ≡ w.base
base_at windows i w at =
    get_or_from_slice_get (bases windows) i w.base 0 (slice_get-map (λ v. v.base) windows i ∙ ap (option_map (λ v. v.base)) at)

-- A search that has come to a range: no window from its end on begins below the address, and what was found is the last before it.
pub record Halving (windows : List Window) (end start steps low high : ℕ) (found : Option Found) : Type 0 where
  pub order : low ≤ high
  pub within : high ≤ length windows
  pub above : StandAbove windows end high
  pub seen : MatchOption found (low ≡ 0) (λ f. Stands windows f × (f.window.base < end) × (low ≡ f.place + 1))
  pub grows : start ≤ steps
  pub left : 2 ^ (steps - start) * (high - low) ≤ length windows
  pub few : 2 ^ (steps - start) ≤ 2 * length windows + 1

doubled : (start steps : ℕ) → start ≤ steps → 2 ^ (steps + 1 - start) ≡ 2 * 2 ^ (steps - start)
doubled start steps grows =
    let next : steps + 1 - start ≡ suc (steps - start) = omega arith in
    ap (λ n. 2 ^ n) next ∙ pow-succ' 2 (steps - start)

times_half : (p m x n : ℕ) → 2 * x ≤ m → p * m ≤ n → 2 * p * x ≤ n
times_half p m x n half most =
    let less = mul-le p (2 * x) p m (omega arith) half in
    let turned : 2 * p * x ≡ p * (2 * x) = grind arith in
    omega (arith, less, turned)

times_one : (p m n : ℕ) → 1 ≤ m → p * m ≤ n → 2 * p ≤ 2 * n + 1
times_one p m n some most =
    let less = mul-le p 1 p m (omega arith) some in
    omega (arith, less)

module _ (windows : List Window) (end start steps low high : ℕ) (found : Option Found) (h : Halving windows end start steps low high found) (more : low < high) where
  step_few : 2 ^ (steps + 1 - start) ≤ 2 * length windows + 1
  step_few = rw (doubled start steps h.grows) (times_one (2 ^ (steps - start)) (high - low) (length windows) (omega arith) h.left)

  step_left : (x : ℕ) → 2 * x ≤ high - low → 2 ^ (steps + 1 - start) * x ≤ length windows
  step_left x half = rw (doubled start steps h.grows) (times_half (2 ^ (steps - start)) (high - low) x (length windows) half h.left)

  -- the window in the middle begins below the address
  pub halves_above : (f : Found) → f.place ≡ low + (high - low) / 2 → Stands windows f → f.window.base < end
      → Halving windows end start (steps + 1) (f.place + 1) high (Some f)
  halves_above f middle stands below = record {
    order = omega (arith, middle, more);
    within = h.within;
    above = h.above;
    seen = (stands, below, refl);
    grows = omega (arith, h.grows);
    left = step_left (high - (f.place + 1)) (omega (arith, middle, more));
    few = step_few;
  }

  -- it doesn't
  pub halves_below : (f : Found) → IsAscending windows → f.place ≡ low + (high - low) / 2 → Stands windows f → end ≤ f.window.base
      → Halving windows end start (steps + 1) low f.place found
  halves_below f ascends middle stands above = record {
    order = omega (arith, middle);
    within = omega (arith, middle, more, h.within);
    above = λ i from within. stands_above i from within;
    seen = h.seen;
    grows = omega (arith, h.grows);
    left = step_left (f.place - low) (omega (arith, middle));
    few = step_few;
  }
    where
      stands_above : StandAbove windows end f.place
      stands_above i from within =
          let here = base_at windows f.place f.window stands in
          let long = length-map windows (λ v. v.base) in
          elim (cases_order f.place i) [
            | inl same ↦ subst (λ (n : ℕ). end ≤ slice_index (bases windows) n) same (omega (arith, here, above))
            | inr (inl below) ↦ omega (arith, here, above, ascends.rises f.place i below (omega (arith, long, within)))
            | inr (inr past) ↦ absurd (omega arith)
          ]

pub begins : (windows : List Window) (end start : ℕ) → Halving windows end start start 0 (length windows) None
begins windows end start = record {
  order = omega arith;
  within = omega arith;
  above = λ i from within. absurd (omega arith);
  seen = refl;
  grows = omega arith;
  left = rw none (omega arith);
  few = rw none (omega arith);
}
  where
    none : start - start ≡ 0
    none = omega arith

-- what the search has found when nothing is left
pub ends : (windows : List Window) (end start steps low high : ℕ) (found : Option Found) → IsAscending windows → Halving windows end start steps low high found → high ≤ low
    → MatchOption found (StandAbove windows end 0) (IsLastBelow windows end)
ends windows end start steps low high None ascends h over =
    λ i from within. h.above i (omega (arith, h.order, h.seen)) within
ends windows end start steps low high (Some f) ascends h over =
    let here = base_at windows f.place f.window h.seen.0 in
    let long = length-map windows (λ v. v.base) in
    record {
      stands = h.seen.0;
      below = h.seen.1;
      before = λ i before. omega (arith, here, ascends.rises i f.place before (omega (arith, long, h.within, h.order, h.seen.2)));
      above = λ i from within. h.above i (omega (arith, h.order, h.seen.2, over)) within;
    }

pub ends_cost : (windows : List Window) (end start steps low high : ℕ) (found : Option Found) → Halving windows end start steps low high found → IsSearch (length windows) start steps
ends_cost windows end start steps low high found h = record { grows = h.grows; few = h.few }

-- ---- the window of a base

pub none_of_base : (windows : List Window) (base : ℕ) → StandAbove windows (base + 1) 0 → HasNone windows base
none_of_base windows base above i within same = omega (arith, above i (omega arith) within)

pub none_but_last : (windows : List Window) (base : ℕ) (f : Found) → IsLastBelow windows (base + 1) f → f.window.base ≢ base → HasNone windows base
none_but_last windows base f last other i within same =
    let here = base_at windows f.place f.window last.stands in
    elim (cases_order f.place i) [
      | inl at ↦ other (sym here ∙ ap (slice_index (bases windows)) at ∙ same)
      | inr (inl past) ↦ omega (arith, last.above i (omega arith) within)
      | inr (inr before) ↦ omega (arith, last.before i before, last.below)
    ]
