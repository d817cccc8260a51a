-- A flat memory in which a task's stack stands in front of main's.
use Rattle.std.proofs.Common.{◌≡◌, inl, inr, ℕ, ◌+◌, ◌-◌, ◌<◌, ◌≤◌, Bool, true, false, ◌||◌, List, ◌++◌, length, slice_index, refl, sym, ap, ap₂, ◌∙◌, arith, if◌then◌else◌}
use Rattle.std.proofs.lemmas.Bool.Decides.{nat_tests}
use Rattle.std.proofs.lemmas.List.{length-append, get_or_append_left, get_or-append_right}
use Rattle.css_semantics.specs.Memory.{Memory, globals_end, heap_start, heap_top, stack_place, is_between, is_live_byte, byte_at, overlaid, stored}
use Rattle.css_semantics.proofs.LaidOut.{heap_behind, in_between, live_apart}
use Rattle.css_in_place.proofs.TaskBytes.{overlaid_append}

between_by : (from to a : ℕ) → from ≤ a → a < to → is_between from to a ≡ true
between_by from to a above below = grind (arith, nat_tests)

-- a memory with so many bytes more in front of its stack, and so many more open calls
abbrev pub in_front : (stack : List ℕ) (calls : ℕ) → Memory → Memory
in_front stack calls around = record around { stack = stack ++ around.stack; calls = calls + around.calls }

same_else : (g h : Bool) (x y z z' : ℕ) → (g ≡ false → h ≡ false → z ≡ z') → (if g then x else (if h then y else z)) ≡ (if g then x else (if h then y else z'))
same_else true h x y z z' same = refl
same_else false true x y z z' same = refl
same_else false false x y z z' same = same refl refl

of_stack : (g h s : Bool) → g ≡ false → h ≡ false → (g || (h || s)) ≡ true → s ≡ true
of_stack true h s out over live = absurd (cc)
of_stack false true s out over live = absurd (cc)
of_stack false false s out over live = live

more_live : (g h s s' : Bool) → (s ≡ true → s' ≡ true) → (g || (h || s)) ≡ true → (g || (h || s')) ≡ true
more_live true h s s' more live = refl
more_live false true s s' more live = refl
more_live false false s s' more live = more live

last_true : (g h : Bool) → (g || (h || true)) ≡ true
last_true true h = refl
last_true false true = refl
last_true false false = refl

-- no live byte is one of those in front of the stack
pub clear_below : (around : Memory) (place : ℕ) → place + length around.stack ≡ around.end → heap_top around + 16384 ≤ place → (depth : ℕ) → depth ≤ 16384 → (a : ℕ) → is_live_byte around a ≡ true → is_between (place - depth) place a ≡ false
clear_below around place at low depth short a live =
    elim (live_apart around a live) [
      | inl under ↦
          let below : a < place - depth = omega (arith, under, low, short) in
          grind (arith, nat_tests, below)
      | inr above ↦
          let over : place ≤ a = omega (arith, above.0, at) in
          grind (arith, nat_tests, over)
    ]

module _ (stack : List ℕ) (calls : ℕ) (around : Memory) (place : ℕ) (at : place + length around.stack ≡ around.end) (low : heap_top around + 16384 ≤ place) (short : length stack ≤ 16384) where
  abbrev m : Memory
  m = in_front stack calls around

  pub front_lowest : stack_place m ≡ place - length stack
  front_lowest = omega (arith, length-append stack around.stack, at)

  around_lowest : stack_place around ≡ place
  around_lowest = omega (arith, at)

  -- what is live without the stack in front is so with it, and has the same byte
  pub live_around : (a : ℕ) → is_live_byte around a ≡ true → is_live_byte m a ≡ true
  live_around a live =
      more_live (is_between 4096 (globals_end around) a) (is_between (heap_start around) (heap_top around) a) (is_between (stack_place around) around.end a) (is_between (stack_place m) around.end a)
      (λ is.
      let above = in_between (stack_place around) around.end a is in
      let lower : stack_place m ≤ stack_place around = omega (arith, front_lowest, around_lowest) in
      let from : stack_place m ≤ a = omega (arith, lower, above.0) in
      let to : a < around.end = above.1 in
      between_by (stack_place m) around.end a from to) live

  pub byte_around : (a : ℕ) → is_live_byte around a ≡ true → byte_at m a ≡ byte_at around a
  byte_around a live =
      same_else (is_between 4096 (globals_end around) a) (is_between (heap_start around) (heap_top around) a) (slice_index around.globals (a - 4096)) (slice_index around.heap (a - heap_start around))
      (slice_index (stack ++ around.stack) (a - stack_place m)) (slice_index around.stack (a - stack_place around))
      (λ out over.
      let above = in_between (stack_place around) around.end a (of_stack _ _ (is_between (stack_place around) around.end a) out over live) in
      let from : a - stack_place m - length stack ≡ a - stack_place around = omega (arith, front_lowest, around_lowest, above.0, low, short) in
      get_or-append_right stack around.stack (length stack) (a - stack_place m) 0 refl (omega (arith, front_lowest, around_lowest, above.0, low, short))
      ∙ ap (λ k. slice_index around.stack k) from)

  -- and it isn't one of the stack in front
  pub clear_around : (a : ℕ) → is_live_byte around a ≡ true → is_between (place - length stack) place a ≡ false
  clear_around a live = clear_below around place at low (length stack) short a live

  module _ (a : ℕ) (above : place - length stack ≤ a) (below : a < place) where
    over_globals : is_between 4096 (globals_end around) a ≡ false
    over_globals =
        let behind = heap_behind around in
        let over : globals_end around ≤ a = omega (arith, behind, above, low, short) in
        grind (arith, nat_tests, over)

    over_heap : is_between (heap_start around) (heap_top around) a ≡ false
    over_heap =
        let over : heap_top around ≤ a = omega (arith, above, low, short) in
        grind (arith, nat_tests, over)

    -- the bytes of the stack in front
    pub live_front : is_live_byte m a ≡ true
    live_front =
        let from : stack_place m ≤ a = omega (arith, front_lowest, above) in
        let to : a < around.end = omega (arith, below, at) in
        let is : is_between (stack_place m) around.end a ≡ true = between_by (stack_place m) around.end a from to in
        rw is (last_true (is_between 4096 (globals_end around) a) (is_between (heap_start around) (heap_top around) a))

    pub byte_front : byte_at m a ≡ slice_index stack (a - (place - length stack))
    byte_front =
        rw (over_globals, over_heap, front_lowest)
        (get_or_append_left stack around.stack 0 (a - (place - length stack)) (omega (arith, above, below, low, short)))

  -- a store into both
  pub stored_front : (address : ℕ) (new : List ℕ) → stored m address new ≡ in_front (overlaid (place - length stack) stack address new) calls (stored around address new)
  stored_front address new =
      let behind : place - length stack + length stack ≡ stack_place around = omega (arith, around_lowest, low, short) in
      let whole : overlaid (stack_place m) (stack ++ around.stack) address new ≡ overlaid (place - length stack) stack address new ++ overlaid (stack_place around) around.stack address new =
      ap (λ n. overlaid n (stack ++ around.stack) address new) front_lowest
      ∙ overlaid_append (place - length stack) stack around.stack address new
      ∙ ap (λ n. overlaid (place - length stack) stack address new ++ overlaid n around.stack address new) behind in
      ap (λ all. let f : Memory = record (stored around address new) { stack = all; calls = calls + around.calls } in f) whole
