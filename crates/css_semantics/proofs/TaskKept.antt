-- A task's memory as code keeps it: its stack is what a list of 16,384 bytes has from an index on, and its frames what a list of their
-- sizes has.
use Rattle.std.proofs.Common.{◌≡◌, ℕ, zero, suc, ◌+◌, ◌-◌, ◌≤◌, Bool, true, false, ◌&&◌, ◌||◌, List, [], ◌∷◌, ◌++◌, length, take, drop, replicate, slice_get, Some, nat_le, nat_lt, All, refl, ap, sym, subst, ◌∙◌, arith, ◌==◌, if◌then◌else◌}
use Rattle.std.specs.List.{list_any}
use Rattle.std.proofs.lemmas.Bool.{leb-true, and_parts, and_from, le-leb, eq-eqb}
use Rattle.std.proofs.lemmas.Bool.Decides.{nat_tests}
use Rattle.std.proofs.lemmas.List.{length-drop, drop-drop}
use Rattle.css_base.specs.declared.rule.Rule.TheVariants as rules
use Rattle.css_semantics.specs.Dialogue.{Enter, Leave, Load, Store, Says, Fails, Refuses}
use Rattle.css_semantics.specs.Memory.{big_endian}
use Rattle.css_semantics.specs.Rules.{task_stack, is_too_deep, is_in_frame}
use Rattle.css_semantics.specs.Alone.{Region, TaskMemory, task_place, task_bytes, is_first, is_innermost}
use Rattle.css_semantics.specs.TaskSpaces.{TaskState, place_of, holds, is_given, entry_reply, space_reply, total, IsClearOf, ArePartedRegions}
use Rattle.css_semantics.proofs.TaskWorlds.{total-from, left_total}
use Rattle.css_semantics.proofs.TaskBytes.{all_at, part_clear, stack_bytes, region_bytes}

abbrev pub kept : (end start innermost : ℕ) (stack sizes : List ℕ) → List Region → TaskState
kept end start innermost stack sizes regions = record {
  memory = record { regions = regions; place = end; stack = drop start stack };
  frames = drop innermost sizes;
}

or_true : (b : Bool) → (b || true) ≡ true
or_true true = refl
or_true false = refl

none_of_three : (a b : Bool) → (a && (b && false)) ≡ false
none_of_three true true = refl
none_of_three true false = refl
none_of_three false b = refl

any_at : (regions : List Region) (j : ℕ) (r : Region) (address size : ℕ) → slice_get regions j ≡ Some r → holds address size r ≡ true → list_any (holds address size) regions ≡ true
any_at [] j r address size at has = absurd (cc)
any_at (x ∷ regions) zero r address size at has =
    let same : x ≡ r = cc at in
    rw (same, has)
any_at (x ∷ regions) (suc j) r address size at has = rw (any_at regions j r address size at has) (or_true (holds address size x))

module _ (end start innermost : ℕ) (stack sizes : List ℕ) (regions : List Region) (sum : start + total (drop innermost sizes) ≡ 16384) (long : length stack ≡ 16384) (room : 16384 ≤ end) where
  abbrev s : TaskState
  s = kept end start innermost stack sizes regions

  pub place_is : place_of s + 16384 ≡ end + start
  place_is = omega (arith, length-drop start stack, sum, long, room)

  -- what is loaded from the stack
  pub loads_stack : (address count index value : ℕ) → is_in_frame end (drop innermost sizes) address count ≡ true → address + 16384 ≡ end + index → start ≤ index → index + count ≤ 16384
      → value ≡ big_endian (take count (drop index stack)) → space_reply s (Load address count) ≡ Says value
  loads_stack address count index value inside at above below is =
      let given : is_given s address count ≡ true = rw inside (or_true (list_any (holds address count) regions)) in
      let live : length (drop start stack) ≤ end = omega (arith, length-drop start stack, long, room) in
      let bytes = stack_bytes s.memory address count (index - start) live (omega (arith, place_is, at, above)) (omega (arith, length-drop start stack, long, above, below)) in
      let place : start + (index - start) ≡ index = omega (arith, above) in
      let whole : drop (index - start) (drop start stack) ≡ drop index stack = drop-drop (index - start) start stack ∙ ap (λ n. drop n stack) place in
      rw (given, bytes, whole) (ap Says (sym is))

  -- what is loaded from a region
  pub loads_region : (j : ℕ) (r : Region) (address count value : ℕ) → ArePartedRegions regions → All (IsClearOf (end - 16384) end) regions → slice_get regions j ≡ Some r → holds address count r ≡ true
      → value ≡ big_endian (take count (drop (address - r.base) r.bytes)) → space_reply s (Load address count) ≡ Says value
  loads_region j r address count value parted clear at has is =
      let parts = and_parts (nat_le r.base address) (nat_le (address + count) (r.base + length r.bytes)) has in
      let above = leb-true r.base address parts.0 in
      let below = leb-true (address + count) (r.base + length r.bytes) parts.1 in
      let given : is_given s address count ≡ true = rw (any_at regions j r address count at has) in
      let apart = part_clear (end - 16384) end (task_place s.memory) end r (omega (arith, place_is, room)) (omega arith) (all_at (IsClearOf (end - 16384) end) regions j r clear at) in
      let bytes = region_bytes s.memory j r address count (address - r.base) parted at apart (omega (arith, above)) (omega (arith, above, below)) in
      rw (given, bytes) (ap Says (sym is))

  -- what is refused
  pub refuses_access : (address count : ℕ) → is_in_frame end (drop innermost sizes) address count ≡ false → list_any (holds address count) regions ≡ false
      → is_given s address count ≡ false
  refuses_access address count out none = rw (none, out)

  -- an entry finds room where it isn't too deep
  pub enters_frame : (size : ℕ) → size ≤ start → length (drop innermost sizes) + 1 ≤ 1024 → space_reply s (Enter size) ≡ Says (place_of s - size)
  enters_frame size fits few =
      let whole = total-from size (drop innermost sizes) in
      let shallow : is_too_deep task_stack (drop innermost sizes) size ≡ false = grind (arith, nat_tests, whole, sum) in
      let below : nat_le size (place_of s) ≡ true = le-leb size (place_of s) (omega (arith, place_is, room, fits)) in
      rw (shallow, below)

  -- and is refused where it would pass the bytes of the stack, or the calls that may be open
  pub passes_bytes : (size : ℕ) → start + 1 ≤ size → space_reply s (Enter size) ≡ Refuses rules.TaskStack
  passes_bytes size over =
      let whole = total-from size (drop innermost sizes) in
      let deep : is_too_deep task_stack (drop innermost sizes) size ≡ true = grind (arith, nat_tests, whole, sum) in
      rw deep

  pub passes_calls : (size : ℕ) → 1024 ≤ length (drop innermost sizes) → space_reply s (Enter size) ≡ Refuses rules.TaskStack
  passes_calls size many =
      let deep : is_too_deep task_stack (drop innermost sizes) size ≡ true = grind (arith, nat_tests) in
      rw deep

  -- the innermost frame is left exactly where it has so many bytes
  pub leaves_frame : (size : ℕ) → is_first size (drop innermost sizes) ≡ true → is_innermost s.memory s.frames (place_of s) size ≡ true
  leaves_frame size first =
      let most = left_total (drop innermost sizes) size first in
      let at : (place_of s + length (drop start stack) == end) ≡ true = eq-eqb _ _ (omega (arith, place_is, length-drop start stack, sum, long, room)) in
      let within : nat_le size (length (drop start stack)) ≡ true = le-leb _ _ (omega (arith, most, length-drop start stack, sum, long)) in
      rw (at, within, first)

  pub keeps_frame : (size : ℕ) → is_first size (drop innermost sizes) ≡ false → is_innermost s.memory s.frames (place_of s) size ≡ false
  keeps_frame size other = rw other (none_of_three (place_of s + length (drop start stack) == end) (nat_le size (length (drop start stack))))
