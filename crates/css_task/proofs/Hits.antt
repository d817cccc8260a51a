-- What is found among a task's windows.
use Rattle.std.proofs.Common.{◌≡◌, ℕ, zero, suc, ◌+◌, ◌*◌, ◌<◌, ◌≤◌, ◌^◌, Bool, true, false, ◌||◌, ◌&&◌, List, [], ◌∷◌, length, slice_get, ◌-◌, option_map, Some, refl, ap, sym, ◌∙◌, arith}
use Rattle.std.specs.List.{list_any}
use Rattle.std.proofs.lemmas.Option.{slice_get_within, slice_get-map}
use Rattle.css_base.specs.declared.direction.Direction.{Direction}
use Rattle.css_semantics.specs.Tasks.{Window, Use, window_length, has_byte}
use Rattle.css_semantics.specs.Rules.{is_in_window}
use Rattle.css_record.specs.Windows.{window}
use Rattle.css_task.specs.declared.placed.Placed.{Placed}
use Rattle.css_task.specs.Cells.{window_addresses, addresses, flags, before}
use Rattle.css_task.specs.Placing.{IsAt, use_of, uses_of, ArePlaced, IsHit}
use Rattle.css_task.proofs.Rows.{rows_at, has_found}
use Rattle.css_task.proofs.Found.{length-window, address_in, flag_in, kind_from}

or_true : (b : Bool) → (b || true) ≡ true
or_true true = refl
or_true false = refl

pub any_of : {X : Type 0} (test : X → Bool) (xs : List X) (j : ℕ) (x : X) → slice_get xs j ≡ Some x → test x ≡ true → list_any test xs ≡ true
any_of test [] j x at holds = absurd (cc)
any_of test (y ∷ xs) zero x at holds =
    let same : y ≡ x = cc at in
    rw (same, holds)
any_of test (y ∷ xs) (suc j) x at holds = rw (any_of test xs j x at holds) (or_true (test y))

pub use_at : (all : List Placed) (j : ℕ) (p : Placed) → slice_get all j ≡ Some p → slice_get (uses_of all) j ≡ Some (use_of p)
use_at all j p at = slice_get-map use_of all j ∙ ap (option_map use_of) at

-- the addresses from an access on
in_at : (w : Window) (address count l : ℕ) → IsAt w address count l → (t : ℕ) → t < count → slice_get (window_addresses w) (l + t) ≡ Some (address + t)
in_at w address count l at t below =
    let place : l + t ≡ at.row * w.width + (at.column + t) = omega (arith, at.offset_is) in
    let there : w.base + (at.row * w.stride + (at.column + t)) ≡ address + t = omega (arith, at.address_is) in
    ap (slice_get (window_addresses w)) place
    ∙ rows_at w.rows w.base w.width w.stride at.row (at.column + t) at.row_within (omega (arith, at.column_within, below)) ∙ ap Some there

in_length : (w : Window) (address count l : ℕ) → IsAt w address count l → (t : ℕ) → t < count → l + t < window_length w
in_length w address count l at t below =
    omega (arith, slice_get_within (window_addresses w) (l + t) (address + t) (in_at w address count l at t below), length-window w)

module _ (all : List Placed) (address count offset : ℕ) (direction : Direction) (hit : IsHit all address count offset direction) where
  there : (t : ℕ) → offset + t ≡ before (uses_of all) hit.number + (hit.in_window + t)
  there t = omega (arith, hit.offset_is)

  below_length : (t : ℕ) → t < count → hit.in_window + t < window_length (use_of hit.placed).window
  below_length t below = in_length (window hit.placed.window) address count hit.in_window hit.at t below

  pub hit_at : (t : ℕ) → t < count → slice_get (addresses (uses_of all)) (offset + t) ≡ Some (address + t)
  hit_at t below =
      ap (slice_get (addresses (uses_of all))) (there t)
      ∙ address_in (uses_of all) hit.number (use_of hit.placed) (hit.in_window + t) (use_at all hit.number hit.placed hit.there) (below_length t below)
      ∙ in_at (window hit.placed.window) address count hit.in_window hit.at t below

  pub hit_flag : (flag : Use → Bool) (t : ℕ) → t < count → slice_get (flags flag (uses_of all)) (offset + t) ≡ Some (flag (use_of hit.placed))
  hit_flag flag t below =
      ap (slice_get (flags flag (uses_of all))) (there t)
      ∙ flag_in flag (uses_of all) hit.number (use_of hit.placed) (hit.in_window + t) (use_at all hit.number hit.placed hit.there) (below_length t below)

  -- its first byte is in a window of its kind
  pub hit_kind : (flag : Use → Bool) → flag (use_of hit.placed) ≡ true → 1 ≤ count → list_any (λ u. flag u && has_byte u.window address) (uses_of all) ≡ true
  hit_kind flag of some =
      let first : address + 0 ≡ address = omega arith in
      let has : has_byte (window hit.placed.window) address ≡ true =
      ap (has_byte (window hit.placed.window)) (sym first) ∙ has_found (window hit.placed.window) (hit.in_window + 0) (address + 0) (in_at (window hit.placed.window) address count hit.in_window hit.at 0 (omega (arith, some))) in
      kind_from flag (uses_of all) hit.number (use_of hit.placed) address (use_at all hit.number hit.placed hit.there) of has

  pub hit_within : 1 ≤ count → offset + count ≤ length (addresses (uses_of all))
  hit_within some =
      let last : offset + (count - 1) < length (addresses (uses_of all)) = slice_get_within (addresses (uses_of all)) (offset + (count - 1)) (address + (count - 1)) (hit_at (count - 1) (omega (arith, some))) in
      omega (arith, last, some)

module _ (all : List Placed) (placed : ArePlaced all) (number : ℕ) (p : Placed) (at : slice_get all number ≡ Some p) (address count l : ℕ) (is : IsAt (window p.window) address count l) where
  pub is_hit : IsHit all address count (p.first + l) p.direction
  is_hit = record {
    number = number;
    placed = p;
    there = at;
    in_window = l;
    at = is;
    offset_is = ap (λ n. n + l) (placed.firsts number p at);
    direction_is = refl;
  }

  pub fits_first : 1 ≤ count → p.first + l < 2 ^ 63
  fits_first some = omega (arith, hit_within all address count (p.first + l) p.direction is_hit some, placed.small)

-- by what is found in one window
module _ (all : List Placed) (number : ℕ) (p : Placed) (at : slice_get all number ≡ Some p) (address count : ℕ) where
  pub in_some : is_in_window (window p.window) address count ≡ true → list_any (λ u. is_in_window u.window address count) (uses_of all) ≡ true
  in_some has = any_of (λ u. is_in_window u.window address count) (uses_of all) number (use_of p) (use_at all number p at) has
