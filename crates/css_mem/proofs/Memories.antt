-- A memory of a stack alone, as the code keeps it: its live bytes are what a list of bytes has from an index on.
use Rattle.std.proofs.Common.{◌≡◌, ℕ, zero, suc, ◌+◌, ◌-◌, ◌≤◌, List, [], length, take, drop, slice_index, true, false, ◌&&◌, nat_le, add-zero, zero-add, add_assoc, refl, ap, subst, sym, ◌∙◌, arith, if◌then◌else◌}
use Rattle.std.proofs.Math.Seq.{drop-cons}
use Rattle.std.proofs.lemmas.List.{drop-drop, length-drop}
use Rattle.std.proofs.lemmas.Bool.Decides.{nat_tests}
use Rattle.css_semantics.specs.Dialogue.{Load, Store, Says}
use Rattle.css_semantics.specs.Memory.{Memory, StackLimit, stack_place, is_between, is_live_byte, is_live, byte_at, bytes_at, big_endian, overlaid, stored, after}
use Rattle.css_semantics.specs.Flat.{memory_reply}
use Rattle.css_semantics.proofs.StackPlaces.{length-overlaid}
use Rattle.css_vm.proofs.Bytes.{drop-overlaid, overlaid-shift}

abbrev pub memory : ℕ → List ℕ → ℕ → StackLimit → Memory
memory end stack calls limit = record { globals = []; heap = []; stack = stack; end = end; calls = calls; limit = limit }

-- ---- live bytes

no_byte_between : (from address : ℕ) → is_between from from address ≡ false
no_byte_between from address = grind (arith, nat_tests)

module _ (end : ℕ) (stack : List ℕ) (calls : ℕ) (limit : StackLimit) where
  live_byte : (address : ℕ) → is_live_byte (memory end stack calls limit) address ≡ is_between (end - length stack) end address
  live_byte address = rw (no_byte_between 4096 address)

  live_bytes : (address count : ℕ) → is_live (memory end stack calls limit) address (suc count) ≡ (nat_le (end - length stack) address && nat_le (address + suc count) end)
  live_bytes address zero = rw (live_byte address) (grind (arith, nat_tests))
  live_bytes address (suc count) = rw (live_byte address, live_bytes (address + 1) count) (grind (arith, nat_tests))

  -- without globals and heap, bytes are live exactly from the stack place to the end
  pub live_in_stack : (address count : ℕ) → 1 ≤ count → is_live (memory end stack calls limit) address count ≡ (nat_le (end - length stack) address && nat_le (address + count) end)
  live_in_stack address zero some = absurd (omega arith)
  live_in_stack address (suc count) some = live_bytes address count

  stack_byte : (address : ℕ) → byte_at (memory end stack calls limit) address ≡ slice_index stack (address - (end - length stack))
  stack_byte address = rw (no_byte_between 4096 address)

  -- the bytes at a live address
  pub bytes_in_stack : (address count offset : ℕ) → address ≡ (end - length stack) + offset → offset + count ≤ length stack → bytes_at (memory end stack calls limit) address count ≡ take count (drop offset stack)
  bytes_in_stack address zero offset at within = refl
  bytes_in_stack address (suc count) offset at within =
      let here : address - (end - length stack) ≡ offset = omega arith in
      let next : address + 1 ≡ (end - length stack) + suc offset = omega arith in
      rw (stack_byte address, here, bytes_in_stack (address + 1) count (suc offset) next (omega arith), drop-cons stack offset 0 (omega arith))

-- ---- the bytes that the code keeps, which are live from an index on

abbrev pub kept : (origin start : ℕ) (bytes : List ℕ) (calls most : ℕ) → Memory
kept origin start bytes calls most = memory (origin + length bytes) (drop start bytes) calls (record { bytes = length bytes; calls = most })

module _ (origin start address : ℕ) (bytes : List ℕ) (calls most : ℕ) (m : Memory) (within : start ≤ length bytes) (view : kept origin start bytes calls most ≡ m) where
  place : stack_place (kept origin start bytes calls most) ≡ origin + start
  place = omega (arith, length-drop start bytes)

  live_from : (count : ℕ) → 1 ≤ count → is_live m address count ≡ (nat_le (origin + start) address && nat_le (address + count) (origin + length bytes))
  live_from count some =
      let live = live_in_stack (origin + length bytes) (drop start bytes) calls (record { bytes = length bytes; calls = most }) address count some in
      ap (λ (m : Memory). is_live m address count) (sym view) ∙ (rw place at live)

  pub are_live : (count : ℕ) → 1 ≤ count → origin + start ≤ address → address + count ≤ origin + length bytes → is_live m address count ≡ true
  are_live count some above below = rw (live_from count some) (grind (arith, nat_tests))

  pub are_not_live : (count : ℕ) → 1 ≤ count → (origin + start ≤ address → address + count ≤ origin + length bytes → ⊥) → is_live m address count ≡ false
  are_not_live count some outside = rw (live_from count some) (grind (arith, nat_tests))

  -- what is loaded
  pub loaded : (offset count value : ℕ) → is_live m address count ≡ true → stack_place m + offset ≡ address → offset + count ≤ length m.stack → value ≡ big_endian (take count (drop (start + offset) bytes)) → memory_reply m (Load address count) ≡ Says value
  loaded offset count value live at inside is =
      let at' : origin + length bytes - length (drop start bytes) + offset ≡ address = ap (λ (m : Memory). stack_place m + offset) view ∙ at in
      let inside' : offset + count ≤ length (drop start bytes) = subst (λ (m : Memory). offset + count ≤ length m.stack) (sym view) inside in
      let loads = bytes_in_stack (origin + length bytes) (drop start bytes) calls (record { bytes = length bytes; calls = most }) address count offset (sym at') inside' in
      let loads' : bytes_at m address count ≡ take count (drop offset (drop start bytes)) = ap (λ (m : Memory). bytes_at m address count) (sym view) ∙ loads in
      rw (live, loads', drop-drop offset start bytes) (ap Says (sym is))

  -- what is stored
  pub stored_in : (offset : ℕ) (new written : List ℕ) → is_live m address (length new) ≡ true → stack_place m + offset ≡ address → written ≡ overlaid 0 bytes (start + offset) new → kept origin start written calls most ≡ after m (Store address new)
  stored_in offset new written live at is =
      let from : origin + start + offset ≡ address = ap (λ n. n + offset) (sym place) ∙ ap (λ (m : Memory). stack_place m + offset) view ∙ at in
      let same_length : length written ≡ length bytes = ap length is ∙ length-overlaid 0 bytes (start + offset) new in
      let stack : drop start written ≡ overlaid (stack_place (kept origin start bytes calls most)) (drop start bytes) address new =
      ap (drop start) is ∙ drop-overlaid start 0 bytes (start + offset) new
      ∙ ap (λ n. overlaid n (drop start bytes) (start + offset) new) (zero-add start)
      ∙ sym (overlaid-shift origin start (drop start bytes) (start + offset) new)
      ∙ ap (λ n. overlaid (origin + start) (drop start bytes) n new) (sym (add_assoc origin start offset) ∙ from)
      ∙ ap (λ n. overlaid n (drop start bytes) address new) (sym place) in
      ap (λ n. memory (origin + n) (drop start written) calls (record { bytes = n; calls = most })) same_length
      ∙ ap (λ s. memory (origin + length bytes) s calls (record { bytes = length bytes; calls = most })) stack
      ∙ ap (λ (m : Memory). stored m address new) view
      ∙ sym (ap (λ live. if live then stored m address new else m) live)
