-- Bytes of a task's memory, whose windows' rows and stack share none: those of its stack, and those of one region.
use Rattle.std.proofs.Common.{◌≡◌, ℕ, zero, suc, ◌+◌, ◌-◌, ◌≤◌, ◌<◌, Bool, true, false, ◌||◌, ◌&&◌, List, [], ◌∷◌, length, take, drop, set, map, fold, slice_index, slice_get, Some, nat_le, nat_lt, All, ◌⊎◌, inl, inr, refl, ap, sym, subst, ◌∙◌, arith, if◌then◌else◌}
use Rattle.std.proofs.Math.Seq.{drop-cons}
use Rattle.std.proofs.lemmas.Bool.{leb-true, and_parts}
use Rattle.std.proofs.lemmas.Bool.Decides.{nat_tests}
use Rattle.css_semantics.specs.Memory.{is_between, overlaid}
use Rattle.css_semantics.specs.Rules.{is_in_frame}
use Rattle.css_semantics.specs.Alone.{Region, TaskMemory, is_in_region, byte_of_regions, task_place, task_byte, task_bytes, overlaid_region}
use Rattle.css_semantics.specs.TaskSpaces.{holds, total, IsClearOf, ArePartedRegions}
use Rattle.css_semantics.proofs.TaskWorlds.{total-from, all_head, all_tail}

-- ---- regions that share no byte

not_in : (from to address : ℕ) (r : Region) → IsClearOf from to r → from ≤ address → address < to → is_in_region r address ≡ false
not_in from to address r (inl below) above under = grind (arith, nat_tests)
not_in from to address r (inr behind) above under = grind (arith, nat_tests)

pub all_at : {X : Type 0} (P : X → Type 0) (xs : List X) (j : ℕ) (x : X) → All P xs → slice_get xs j ≡ Some x → P x
all_at P [] j x all at = absurd (cc)
all_at P (y ∷ xs) zero x all at = subst P (cc at) (all_head P y xs all)
all_at P (y ∷ xs) (suc j) x all at = all_at P xs j x (all_tail P y xs all) at

clear_back : (a b : Region) → IsClearOf a.base (a.base + length a.bytes) b → IsClearOf b.base (b.base + length b.bytes) a
clear_back a b (inl below) = inr below
clear_back a b (inr behind) = inl behind

-- the byte of one region
byte_of_region : (regions : List Region) (j : ℕ) (r : Region) (address : ℕ) → ArePartedRegions regions → slice_get regions j ≡ Some r → r.base ≤ address → address < r.base + length r.bytes
    → byte_of_regions regions address ≡ slice_index r.bytes (address - r.base)
byte_of_region [] j r address apart at above under = absurd (cc)
byte_of_region (x ∷ regions) zero r address apart at above under =
    let same : x ≡ r = cc at in
    let inside : is_in_region r address ≡ true = grind (arith, nat_tests) in
    rw (same, inside)
byte_of_region (x ∷ regions) (suc j) r address apart at above under =
    let clear = clear_back x r (all_at (IsClearOf x.base (x.base + length x.bytes)) regions j r apart.0 at) in
    let out : is_in_region x address ≡ false = not_in r.base (r.base + length r.bytes) address x clear above under in
    rw out (byte_of_region regions j r address apart.1 at above under)

-- ---- bytes that are loaded

module _ (m : TaskMemory) where
  pub stack_bytes : (address count offset : ℕ) → length m.stack ≤ m.place → address ≡ task_place m + offset → offset + count ≤ length m.stack
      → task_bytes m address count ≡ take count (drop offset m.stack)
  stack_bytes address zero offset room at within = refl
  stack_bytes address (suc count) offset room at within =
      let here : address - task_place m ≡ offset = omega arith in
      let inside : is_between (task_place m) m.place address ≡ true = grind (arith, nat_tests) in
      let next : address + 1 ≡ task_place m + suc offset = omega arith in
      rw (inside, here, stack_bytes (address + 1) count (suc offset) room next (omega arith), drop-cons m.stack offset 0 (omega arith))

  pub region_bytes : (j : ℕ) (r : Region) (address count offset : ℕ) → ArePartedRegions m.regions → slice_get m.regions j ≡ Some r → IsClearOf (task_place m) m.place r
      → address ≡ r.base + offset → offset + count ≤ length r.bytes → task_bytes m address count ≡ take count (drop offset r.bytes)
  region_bytes j r address zero offset apart at clear is within = refl
  region_bytes j r address (suc count) offset apart at clear is within =
      let out : is_between (task_place m) m.place address ≡ false = elim clear [
        | inl below ↦ grind (arith, nat_tests)
        | inr behind ↦ grind (arith, nat_tests)
      ] in
      let here : address - r.base ≡ offset = omega arith in
      let next : address + 1 ≡ r.base + suc offset = omega arith in
      let byte = byte_of_region m.regions j r address apart at (omega arith) (omega arith) in
      rw (out, byte, here, region_bytes j r (address + 1) count (suc offset) apart at clear next (omega arith), drop-cons r.bytes offset 0 (omega arith))

-- ---- bytes that are stored

-- what is stored elsewhere leaves bytes as they are
pub overlaid_out : (from : ℕ) (bytes : List ℕ) (address : ℕ) (new : List ℕ) → (address + length new ≤ from) ⊎ (from + length bytes ≤ address) → overlaid from bytes address new ≡ bytes
overlaid_out from [] address new out = refl
overlaid_out from (b ∷ bytes) address new (inl before) =
    let not_here : is_between address (address + length new) from ≡ false = grind (arith, nat_tests) in
    rw (not_here, overlaid_out (from + 1) bytes address new (inl (omega arith)))
overlaid_out from (b ∷ bytes) address new (inr behind) =
    let not_here : is_between address (address + length new) from ≡ false = grind (arith, nat_tests) in
    rw (not_here, overlaid_out (from + 1) bytes address new (inr (omega arith)))

pub region_out : (address : ℕ) (new : List ℕ) (r : Region) → IsClearOf address (address + length new) r → overlaid_region address new r ≡ r
region_out address new r (inl below) = ap (λ bytes. record r { bytes = bytes }) (overlaid_out r.base r.bytes address new (inl below))
region_out address new r (inr behind) = ap (λ bytes. record r { bytes = bytes }) (overlaid_out r.base r.bytes address new (inr behind))

pub all_out : (regions : List Region) (address : ℕ) (new : List ℕ) → All (IsClearOf address (address + length new)) regions → map (overlaid_region address new) regions ≡ regions
all_out [] address new clear = refl
all_out (r ∷ regions) address new clear =
    rw (region_out address new r (all_head (IsClearOf address (address + length new)) r regions clear), all_out regions address new (all_tail (IsClearOf address (address + length new)) r regions clear))

-- a part of what is clear
pub part_clear : (from to address end : ℕ) (r : Region) → from ≤ address → end ≤ to → IsClearOf from to r → IsClearOf address end r
part_clear from to address end r above under (inl below) = inl (omega arith)
part_clear from to address end r above under (inr behind) = inr (omega arith)

pub all_clear : (from to address end : ℕ) (regions : List Region) → from ≤ address → end ≤ to → All (IsClearOf from to) regions → All (IsClearOf address end) regions
all_clear from to address end regions above under clear = λ k d within. part_clear from to address end _ above under (clear k d within)

-- what is stored in one region
pub stored_region : (regions : List Region) (j : ℕ) (r : Region) (address : ℕ) (new : List ℕ) → ArePartedRegions regions → slice_get regions j ≡ Some r
    → r.base ≤ address → address + length new ≤ r.base + length r.bytes → map (overlaid_region address new) regions ≡ set regions j (overlaid_region address new r)
stored_region [] j r address new apart at above under = absurd (cc)
stored_region (x ∷ regions) zero r address new apart at above under =
    let same : x ≡ r = cc at in
    let rest = all_out regions address new (all_clear x.base (x.base + length x.bytes) address (address + length new) regions (rw same above) (rw same under) apart.0) in
    rw (rest, same)
stored_region (x ∷ regions) (suc j) r address new apart at above under =
    let clear = clear_back x r (all_at (IsClearOf x.base (x.base + length x.bytes)) regions j r apart.0 at) in
    rw (region_out address new x (part_clear r.base (r.base + length r.bytes) address (address + length new) x above under clear), stored_region regions j r address new apart.1 at above under)

-- ---- frames

-- the innermost frame begins at the stack place
pub first_frame : (place frame : ℕ) (frames : List ℕ) (base address size : ℕ) → base + (frame + total frames) ≡ place
    → is_in_frame place (frame ∷ frames) address size ≡ ((nat_le base address && nat_le (address + size) (base + frame)) || is_in_frame place frames address size)
first_frame place frame frames base address size is =
    let end : place - total frames ≡ base + frame = omega arith in
    let from : base + frame - frame ≡ base = omega arith in
    rw (end, from)

-- what is in a frame is in the stack
module _ (place f : ℕ) (frames : List ℕ) (address size : ℕ) (room : f + total frames ≤ place) (rest : is_in_frame place frames address size ≡ true → (place - total frames ≤ address) × (address + size ≤ place)) where
  in_first_or_rest : (here : Bool) → (nat_le (place - total frames - f) address && nat_le (address + size) (place - total frames)) ≡ here
      → (here || is_in_frame place frames address size) ≡ true → (place - (f + total frames) ≤ address) × (address + size ≤ place)
  in_first_or_rest true is inside =
      let parts = and_parts (nat_le (place - total frames - f) address) (nat_le (address + size) (place - total frames)) is in
      (omega (arith, leb-true (place - total frames - f) address parts.0), omega (arith, leb-true (address + size) (place - total frames) parts.1))
  in_first_or_rest false is inside =
      let later = rest inside in
      (omega (arith, later.0), later.1)

pub frame_in_stack : (place : ℕ) (frames : List ℕ) (address size : ℕ) → total frames ≤ place → is_in_frame place frames address size ≡ true
    → (place - total frames ≤ address) × (address + size ≤ place)
frame_in_stack place [] address size room inside = absurd (cc)
frame_in_stack place (f ∷ frames) address size room inside =
    let whole : total (f ∷ frames) ≡ f + total frames = omega (arith, total-from (0 + f) frames) in
    let fits : f + total frames ≤ place = omega (arith, whole, room) in
    rw whole
    (in_first_or_rest place f frames address size fits (λ later. frame_in_stack place frames address size (omega (arith, fits)) later)
    (nat_le (place - total frames - f) address && nat_le (address + size) (place - total frames)) refl inside)
