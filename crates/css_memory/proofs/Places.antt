-- Where the parts of a memory stand that the code keeps, and which of its bytes are live.
use Rattle.std.proofs.Common.{◌≡◌, inl, inr, ℕ, ◌+◌, ◌-◌, ◌≤◌, ◌<◌, Bool, true, false, ◌||◌, length, take, drop, slice_index, refl, ap, sym, ◌∙◌, arith, if◌then◌else◌}
use Rattle.std.proofs.lemmas.List.{length-take-le, length-drop, get_or-take, get_or-drop}
use Rattle.std.proofs.lemmas.Bool.{cases_lt}
use Rattle.std.proofs.lemmas.Bool.Decides.{nat_tests}
use Rattle.css_semantics.specs.Memory.{rounded_up, globals_end, heap_start, heap_top, stack_place, is_between, is_live_byte, is_live, byte_at}
use Rattle.css_memory.specs.Kept.{Parts, top_of, place_of, end_of, kept, IsKept}
use Rattle.css_memory.proofs.Ranges.{is_live_at, is_range, between_by, not_in_gap, live_is_range}

module _ (p : Parts) (calls most capacity pages : ℕ) (is : IsKept p capacity pages) where
  -- the parts stand in order
  pub globals_below : p.globals_end ≤ p.heap_start
  globals_below = omega (arith, is.heap_start)

  pub top_below : top_of p ≤ p.origin
  top_below = omega (arith, is.room, is.limit)

  pub stack_above : top_of p ≤ place_of p
  stack_above = omega (arith, top_below)

  pub stack_below : place_of p ≤ end_of p
  stack_below = omega (arith, is.start)

  pub globals_end_is : globals_end (kept p calls most) ≡ p.globals_end
  globals_end_is =
      let long : length (take (p.globals_end - 4096) p.low) ≡ p.globals_end - 4096 = length-take-le (p.globals_end - 4096) p.low (omega (arith, is.heap, globals_below)) in
      omega (arith, long, is.globals)

  pub heap_start_is : heap_start (kept p calls most) ≡ p.heap_start
  heap_start_is = ap (rounded_up 16) globals_end_is ∙ sym is.heap_start

  pub heap_top_is : heap_top (kept p calls most) ≡ top_of p
  heap_top_is =
      ap (λ n. n + length (drop (p.heap_start - 4096) p.low)) heap_start_is
      ∙ (let e : p.heap_start + length (drop (p.heap_start - 4096) p.low) ≡ 4096 + length p.low = omega (arith, length-drop (p.heap_start - 4096) p.low, is.heap, is.globals, globals_below) in e)

  pub place_is : stack_place (kept p calls most) ≡ place_of p
  place_is = omega (arith, length-drop p.start p.high, is.start)

  -- ---- live bytes

  pub live_byte : (a : ℕ) → is_live_byte (kept p calls most) a ≡ is_live_at p.globals_end p.heap_start (top_of p) (place_of p) (end_of p) a
  live_byte a =
      let m = kept p calls most in
      ap (λ g. is_between 4096 g a || (is_between (heap_start m) (heap_top m) a || is_between (stack_place m) m.end a)) globals_end_is
      ∙ ap (λ h. is_between 4096 p.globals_end a || (is_between h (heap_top m) a || is_between (stack_place m) m.end a)) heap_start_is
      ∙ ap (λ t. is_between 4096 p.globals_end a || (is_between p.heap_start t a || is_between (stack_place m) m.end a)) heap_top_is
      ∙ ap (λ s. is_between 4096 p.globals_end a || (is_between p.heap_start (top_of p) a || is_between s m.end a)) place_is

  -- so many bytes are live exactly where they are within the memory and meet neither gap
  pub live_range_is : (address n : ℕ) → 1 ≤ n
      → is_live (kept p calls most) address n ≡ is_range p.globals_end p.heap_start (top_of p) (place_of p) (end_of p) address (address + n)
  live_range_is address n some =
      live_is_range p.globals_end p.heap_start (top_of p) (place_of p) (end_of p) is.globals globals_below is.heap stack_above stack_below (is_live_byte (kept p calls most)) live_byte address n some

  -- ---- the byte at an address

  byte_by : (a : ℕ) → (globals heap : Bool) → is_between 4096 (globals_end (kept p calls most)) a ≡ globals → is_between (heap_start (kept p calls most)) (heap_top (kept p calls most)) a ≡ heap
      → byte_at (kept p calls most) a ≡ (if globals then slice_index (kept p calls most).globals (a - 4096) else (if heap then slice_index (kept p calls most).heap (a - heap_start (kept p calls most)) else slice_index (kept p calls most).stack (a - stack_place (kept p calls most))))
  byte_by a globals heap of_globals of_heap = rw (of_globals, of_heap) refl

  not_between : (from to a : ℕ) → (from ≤ a → a < to → ⊥) → is_between from to a ≡ false
  not_between from to a none = grind (arith, nat_tests)

  pub byte_of_globals : (a : ℕ) → 4096 ≤ a → a < p.globals_end → byte_at (kept p calls most) a ≡ slice_index p.low (a - 4096)
  byte_of_globals a above below =
      let m = kept p calls most in
      let here : is_between 4096 (globals_end m) a ≡ true = between_by 4096 (globals_end m) a above (omega (arith, globals_end_is)) in
      byte_by a true (is_between (heap_start m) (heap_top m) a) here refl
      ∙ get_or-take (p.globals_end - 4096) p.low (a - 4096) 0 (omega arith)

  pub byte_of_heap : (a : ℕ) → p.heap_start ≤ a → a < top_of p → byte_at (kept p calls most) a ≡ slice_index p.low (a - 4096)
  byte_of_heap a above below =
      let m = kept p calls most in
      let out : is_between 4096 (globals_end m) a ≡ false = not_between 4096 (globals_end m) a (λ after before. omega (arith, globals_end_is, globals_below)) in
      let here : is_between (heap_start m) (heap_top m) a ≡ true = between_by (heap_start m) (heap_top m) a (omega (arith, heap_start_is)) (omega (arith, heap_top_is)) in
      let at : p.heap_start - 4096 + (a - heap_start m) ≡ a - 4096 = omega (arith, heap_start_is, is.globals, globals_below) in
      byte_by a false true out here
      ∙ get_or-drop (p.heap_start - 4096) p.low (a - heap_start m) 0
      ∙ ap (slice_index p.low) at

  pub byte_of_stack : (a : ℕ) → place_of p ≤ a → byte_at (kept p calls most) a ≡ slice_index p.high (a - p.origin)
  byte_of_stack a above =
      let m = kept p calls most in
      let out : is_between 4096 (globals_end m) a ≡ false = not_between 4096 (globals_end m) a (λ after before. omega (arith, globals_end_is, globals_below, is.heap, stack_above)) in
      let other : is_between (heap_start m) (heap_top m) a ≡ false = not_between (heap_start m) (heap_top m) a (λ after before. omega (arith, heap_top_is, stack_above)) in
      let at : p.start + (a - stack_place m) ≡ a - p.origin = omega (arith, place_is) in
      byte_by a false false out other
      ∙ get_or-drop p.start p.high (a - stack_place m) 0
      ∙ ap (slice_index p.high) at

  -- a live byte below the heap's top is a low one, and any other a high one
  pub byte_below : (a : ℕ) → is_live_byte (kept p calls most) a ≡ true → 4096 ≤ a → a < top_of p → byte_at (kept p calls most) a ≡ slice_index p.low (a - 4096)
  byte_below a live above below =
      elim (cases_lt a p.globals_end) [
        | inl small ↦ byte_of_globals a above small
        | inr big ↦ elim (cases_lt a p.heap_start) [
          | inl gap ↦ absurd (not_in_gap p.globals_end p.heap_start (top_of p) (place_of p) (end_of p) is.globals globals_below is.heap stack_above stack_below a (sym (live_byte a) ∙ live) big gap)
          | inr more ↦ byte_of_heap a more below
        ]
      ]
