-- Flat memories that differ in their bytes alone, and what a store does to a byte.
use Rattle.std.proofs.Common.{◌≡◌, ◌⊎◌, inl, inr, ℕ, ◌+◌, ◌-◌, ◌<◌, ◌≤◌, Bool, true, false, ◌||◌, List, length, slice_index, refl, sym, ap, ap₂, ◌∙◌, arith, if◌then◌else◌}
use Rattle.std.proofs.lemmas.Bool.Decides.{nat_tests}
use Rattle.std.proofs.lemmas.List.{ext_get_or}
use Rattle.css_semantics.specs.Memory.{Memory, rounded_up, globals_end, heap_start, heap_top, stack_place, is_between, is_live_byte, byte_at, overlaid, stored}
use Rattle.css_semantics.proofs.LaidOut.{heap_behind, in_between}
use Rattle.css_semantics.proofs.StackPlaces.{length-overlaid}
use Rattle.css_in_place.proofs.TaskBytes.{new_byte, overlaid_byte}

-- two memories with as many bytes in each place, and as many open calls
pub record SameShape (m n : Memory) : Type 0 where
  pub globals : length m.globals ≡ length n.globals
  pub heap : length m.heap ≡ length n.heap
  pub stack : length m.stack ≡ length n.stack
  pub end : m.end ≡ n.end
  pub calls : m.calls ≡ n.calls
  pub limit : m.limit ≡ n.limit

pub shape_self : (m : Memory) → SameShape m m
shape_self m = record { globals = refl; heap = refl; stack = refl; end = refl; calls = refl; limit = refl }

pub shape_on : (l m n : Memory) → SameShape l m → SameShape m n → SameShape l n
shape_on l m n one two = record {
  globals = one.globals ∙ two.globals;
  heap = one.heap ∙ two.heap;
  stack = one.stack ∙ two.stack;
  end = one.end ∙ two.end;
  calls = one.calls ∙ two.calls;
  limit = one.limit ∙ two.limit;
}

pub shape_stored : (m : Memory) (address : ℕ) (new : List ℕ) → SameShape (stored m address new) m
shape_stored m address new = record {
  globals = length-overlaid 4096 m.globals address new;
  heap = length-overlaid (heap_start m) m.heap address new;
  stack = length-overlaid (stack_place m) m.stack address new;
  end = refl;
  calls = refl;
  limit = refl;
}

-- the same bytes are live
pub live_same : (m n : Memory) → SameShape m n → (a : ℕ) → is_live_byte m a ≡ is_live_byte n a
live_same m n shape a =
    ap (λ l. is_between 4096 (4096 + l) a || (is_between (rounded_up 16 (4096 + l)) (rounded_up 16 (4096 + l) + length m.heap) a || is_between (stack_place m) m.end a)) shape.globals
    ∙ ap (λ l. is_between 4096 (globals_end n) a || (is_between (heap_start n) (heap_start n + l) a || is_between (stack_place m) m.end a)) shape.heap
    ∙ ap (λ l. is_between 4096 (globals_end n) a || (is_between (heap_start n) (heap_top n) a || is_between (m.end - l) m.end a)) shape.stack
    ∙ ap (λ e. is_between 4096 (globals_end n) a || (is_between (heap_start n) (heap_top n) a || is_between (e - length n.stack) e a)) shape.end

pub top_same : (m n : Memory) → SameShape m n → heap_top m ≡ heap_top n
top_same m n shape = ap₂ (λ g h. rounded_up 16 (4096 + g) + h) shape.globals shape.heap

pub place_same : (m n : Memory) → SameShape m n → stack_place m ≡ stack_place n
place_same m n shape = ap₂ (λ e l. e - l) shape.end shape.stack

-- ---- a byte behind a store

by_place : (change : ℕ → ℕ) (g h s : Bool) (x y z x' y' z' : ℕ) → (g ≡ true → x' ≡ change x) → (h ≡ true → y' ≡ change y) → (s ≡ true → z' ≡ change z) → (g || (h || s)) ≡ true
    → (if g then x' else (if h then y' else z')) ≡ change (if g then x else (if h then y else z))
by_place change true h s x y z x' y' z' of_globals of_heap of_stack live = of_globals refl
by_place change false true s x y z x' y' z' of_globals of_heap of_stack live = of_heap refl
by_place change false false true x y z x' y' z' of_globals of_heap of_stack live = of_stack refl
by_place change false false false x y z x' y' z' of_globals of_heap of_stack live = absurd (cc)

module _ (m : Memory) (address : ℕ) (new : List ℕ) (a : ℕ) where
  part_byte : (from : ℕ) (bytes : List ℕ) → from ≤ a → a - from < length bytes → slice_index (overlaid from bytes address new) (a - from) ≡ new_byte address new a (slice_index bytes (a - from))
  part_byte from bytes above below =
      let at : from + (a - from) ≡ a = omega (arith, above) in
      overlaid_byte from bytes address new (a - from) below ∙ ap (λ n. new_byte address new n (slice_index bytes (a - from))) at

  pub byte_stored : is_live_byte m a ≡ true → byte_at (stored m address new) a ≡ new_byte address new a (byte_at m a)
  byte_stored live =
      let globals = overlaid 4096 m.globals address new in
      let heap = overlaid (heap_start m) m.heap address new in
      let stack = overlaid (stack_place m) m.stack address new in
      rw (length-overlaid 4096 m.globals address new, length-overlaid (heap_start m) m.heap address new, length-overlaid (stack_place m) m.stack address new)
      (by_place (new_byte address new a) (is_between 4096 (globals_end m) a) (is_between (heap_start m) (heap_top m) a) (is_between (stack_place m) m.end a)
      (slice_index m.globals (a - 4096)) (slice_index m.heap (a - heap_start m)) (slice_index m.stack (a - stack_place m))
      (slice_index globals (a - 4096)) (slice_index heap (a - heap_start m)) (slice_index stack (a - stack_place m))
      (λ is. let at = in_between 4096 (globals_end m) a is in part_byte 4096 m.globals at.0 (omega (arith, at)))
      (λ is. let at = in_between (heap_start m) (heap_top m) a is in part_byte (heap_start m) m.heap at.0 (omega (arith, at)))
      (λ is. let at = in_between (stack_place m) m.end a is in part_byte (stack_place m) m.stack at.0 (omega (arith, at))) live)

-- ---- equal memories

module _ (m n : Memory) (shape : SameShape m n) (parted : heap_top m ≤ stack_place m) (short : length m.stack ≤ m.end) (byte : (a : ℕ) → is_live_byte m a ≡ true → byte_at m a ≡ byte_at n a) where
  global_at : (k a : ℕ) → a ≡ 4096 + k → k < length m.globals → slice_index m.globals k ≡ slice_index n.globals k
  global_at k a is below =
      let here : is_between 4096 (globals_end m) a ≡ true = grind (arith, nat_tests) in
      let there : is_between 4096 (globals_end n) a ≡ true = ap (λ l. is_between 4096 (4096 + l) a) (sym shape.globals) ∙ here in
      let at : a - 4096 ≡ k = omega arith in
      let live : is_live_byte m a ≡ true = rw here refl in
      let mine : byte_at m a ≡ slice_index m.globals (a - 4096) = rw here refl in
      let its : byte_at n a ≡ slice_index n.globals (a - 4096) = rw there refl in
      ap (λ j. slice_index m.globals j) (sym at) ∙ sym mine ∙ byte a live ∙ its ∙ ap (λ j. slice_index n.globals j) at

  same_globals : m.globals ≡ n.globals
  same_globals = ext_get_or 0 m.globals n.globals shape.globals (λ k below. global_at k (4096 + k) refl below)

  heap_at : (k a : ℕ) → a ≡ heap_start m + k → k < length m.heap → slice_index m.heap k ≡ slice_index n.heap k
  heap_at k a is below =
      let behind = heap_behind m in
      let start : heap_start m ≡ heap_start n = ap (λ l. rounded_up 16 (4096 + l)) shape.globals in
      let out : is_between 4096 (globals_end m) a ≡ false = grind (arith, nat_tests, behind) in
      let here : is_between (heap_start m) (heap_top m) a ≡ true = grind (arith, nat_tests) in
      let out' : is_between 4096 (globals_end n) a ≡ false = ap (λ l. is_between 4096 (4096 + l) a) (sym shape.globals) ∙ out in
      let here' : is_between (heap_start n) (heap_top n) a ≡ true = ap₂ (λ p l. is_between p (p + l) a) (sym start) (sym shape.heap) ∙ here in
      let at : a - heap_start m ≡ k = omega arith in
      let at' : a - heap_start n ≡ k = ap (λ p. a - p) (sym start) ∙ at in
      let live : is_live_byte m a ≡ true = rw (out, here) refl in
      let mine : byte_at m a ≡ slice_index m.heap (a - heap_start m) = rw (out, here) refl in
      let its : byte_at n a ≡ slice_index n.heap (a - heap_start n) = rw (out', here') refl in
      ap (λ j. slice_index m.heap j) (sym at) ∙ sym mine ∙ byte a live ∙ its ∙ ap (λ j. slice_index n.heap j) at'

  same_heap : m.heap ≡ n.heap
  same_heap = ext_get_or 0 m.heap n.heap shape.heap (λ k below. heap_at k (heap_start m + k) refl below)

  stack_at : (k a : ℕ) → a ≡ stack_place m + k → k < length m.stack → slice_index m.stack k ≡ slice_index n.stack k
  stack_at k a is below =
      let behind = heap_behind m in
      let place = place_same m n shape in
      let start : heap_start m ≡ heap_start n = ap (λ l. rounded_up 16 (4096 + l)) shape.globals in
      let out : is_between 4096 (globals_end m) a ≡ false = grind (arith, nat_tests, behind, parted) in
      let over : is_between (heap_start m) (heap_top m) a ≡ false = grind (arith, nat_tests, parted) in
      let here : is_between (stack_place m) m.end a ≡ true = grind (arith, nat_tests, short) in
      let out' : is_between 4096 (globals_end n) a ≡ false = ap (λ l. is_between 4096 (4096 + l) a) (sym shape.globals) ∙ out in
      let over' : is_between (heap_start n) (heap_top n) a ≡ false = ap₂ (λ p l. is_between p (p + l) a) (sym start) (sym shape.heap) ∙ over in
      let at : a - stack_place m ≡ k = omega arith in
      let at' : a - stack_place n ≡ k = ap (λ p. a - p) (sym place) ∙ at in
      let live : is_live_byte m a ≡ true = rw (out, over, here) refl in
      let mine : byte_at m a ≡ slice_index m.stack (a - stack_place m) = rw (out, over) refl in
      let its : byte_at n a ≡ slice_index n.stack (a - stack_place n) = rw (out', over') refl in
      ap (λ j. slice_index m.stack j) (sym at) ∙ sym mine ∙ byte a live ∙ its ∙ ap (λ j. slice_index n.stack j) at'

  same_stack : m.stack ≡ n.stack
  same_stack = ext_get_or 0 m.stack n.stack shape.stack (λ k below. stack_at k (stack_place m + k) refl below)

  -- the same bytes make the same memory
  pub memory_same : m ≡ n
  memory_same =
      ap (λ x. let f : Memory = record { globals = x; heap = m.heap; stack = m.stack; end = m.end; calls = m.calls; limit = m.limit } in f) same_globals
      ∙ ap (λ x. let f : Memory = record { globals = n.globals; heap = x; stack = m.stack; end = m.end; calls = m.calls; limit = m.limit } in f) same_heap
      ∙ ap (λ x. let f : Memory = record { globals = n.globals; heap = n.heap; stack = x; end = m.end; calls = m.calls; limit = m.limit } in f) same_stack
      ∙ ap (λ x. let f : Memory = record { globals = n.globals; heap = n.heap; stack = n.stack; end = x; calls = m.calls; limit = m.limit } in f) shape.end
      ∙ ap (λ x. let f : Memory = record { globals = n.globals; heap = n.heap; stack = n.stack; end = n.end; calls = x; limit = m.limit } in f) shape.calls
      ∙ ap (λ x. let f : Memory = record { globals = n.globals; heap = n.heap; stack = n.stack; end = n.end; calls = n.calls; limit = x } in f) shape.limit
