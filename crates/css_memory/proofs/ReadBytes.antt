-- What is read of a memory that the code keeps.
use Rattle.std.proofs.Common.{◌≡◌, inl, inr, ℕ, zero, suc, ◌+◌, ◌-◌, ◌≤◌, ◌<◌, true, false, List, [], ◌∷◌, length, take, drop, slice_index, refl, sym, ◌∙◌, arith, if◌then◌else◌}
use Rattle.std.proofs.Math.Seq.{drop-cons}
use Rattle.std.proofs.lemmas.Bool.{cases_lt}
use Rattle.std.proofs.lemmas.Bool.Decides.{nat_tests}
use Rattle.css_semantics.specs.Memory.{is_between, is_live_byte, is_live, byte_at, bytes_at, overlaid}
use Rattle.css_memory.specs.Kept.{Parts, top_of, place_of, end_of, kept, IsKept}
use Rattle.css_memory.proofs.Ranges.{between_by, all_gives, all_by, live_above, live_below, not_in_other, live_globals, live_heap, live_stack}
use Rattle.css_memory.proofs.Places.{globals_below, top_below, stack_above, stack_below, live_byte, byte_of_globals, byte_of_heap, byte_of_stack, byte_below}

not_between : (from to a : ℕ) → (from ≤ a → a < to → ⊥) → is_between from to a ≡ false
not_between from to a none = grind (arith, nat_tests)

module _ (p : Parts) (calls most capacity pages : ℕ) (is : IsKept p capacity pages) where
  -- bytes that are those of a slice, one by one
  slice_bytes : (xs : List ℕ) (from address n : ℕ) → from ≤ address → address + n ≤ from + length xs
      → ((a : ℕ) → address ≤ a → a < address + n → byte_at (kept p calls most) a ≡ slice_index xs (a - from))
      → bytes_at (kept p calls most) address n ≡ take n (drop (address - from) xs)
  slice_bytes xs from address zero above within each = refl
  slice_bytes xs from address (suc n) above within each =
      let here = each address (omega arith) (omega arith) in
      let rest = slice_bytes xs from (address + 1) n (omega arith) (omega arith) (λ a after before. each a (omega arith) (omega arith)) in
      let next : address + 1 - from ≡ suc (address - from) = omega arith in
      rw (here, rest, next, drop-cons xs (address - from) 0 (omega arith)) refl

  -- ---- reads within one part

  pub live_in_globals : (address n : ℕ) → 4096 ≤ address → address + n ≤ p.globals_end → is_live (kept p calls most) address n ≡ true
  live_in_globals address n above within =
      all_by (is_live_byte (kept p calls most)) address n
      (λ a after before. live_byte p calls most capacity pages is a ∙ live_globals p.globals_end p.heap_start (top_of p) (place_of p) (end_of p) is.globals (globals_below p calls most capacity pages is) is.heap (stack_above p calls most capacity pages is) (stack_below p calls most capacity pages is) a (omega arith) (omega arith))

  pub live_in_heap : (address n : ℕ) → p.heap_start ≤ address → address + n ≤ top_of p → is_live (kept p calls most) address n ≡ true
  live_in_heap address n above within =
      all_by (is_live_byte (kept p calls most)) address n
      (λ a after before. live_byte p calls most capacity pages is a ∙ live_heap p.globals_end p.heap_start (top_of p) (place_of p) (end_of p) is.globals (globals_below p calls most capacity pages is) is.heap (stack_above p calls most capacity pages is) (stack_below p calls most capacity pages is) a (omega arith) (omega arith))

  pub live_in_stack : (address n : ℕ) → place_of p ≤ address → address + n ≤ end_of p → is_live (kept p calls most) address n ≡ true
  live_in_stack address n above within =
      all_by (is_live_byte (kept p calls most)) address n
      (λ a after before. live_byte p calls most capacity pages is a ∙ live_stack p.globals_end p.heap_start (top_of p) (place_of p) (end_of p) is.globals (globals_below p calls most capacity pages is) is.heap (stack_above p calls most capacity pages is) (stack_below p calls most capacity pages is) a (omega arith) (omega arith))

  pub read_globals : (address n : ℕ) → 4096 ≤ address → address + n ≤ p.globals_end → bytes_at (kept p calls most) address n ≡ take n (drop (address - 4096) p.low)
  read_globals address n above within =
      slice_bytes p.low 4096 address n above (omega (arith, globals_below p calls most capacity pages is, is.heap))
      (λ a after before. byte_of_globals p calls most capacity pages is a (omega arith) (omega arith))

  pub read_heap : (address n : ℕ) → p.heap_start ≤ address → address + n ≤ top_of p → bytes_at (kept p calls most) address n ≡ take n (drop (address - 4096) p.low)
  read_heap address n above within =
      slice_bytes p.low 4096 address n (omega (arith, globals_below p calls most capacity pages is, is.globals)) (omega arith)
      (λ a after before. byte_of_heap p calls most capacity pages is a (omega arith) (omega arith))

  pub read_stack : (address n : ℕ) → place_of p ≤ address → address + n ≤ end_of p → bytes_at (kept p calls most) address n ≡ take n (drop (address - p.origin) p.high)
  read_stack address n above within =
      slice_bytes p.high p.origin address n (omega arith) (omega arith)
      (λ a after before. byte_of_stack p calls most capacity pages is a (omega arith))

  -- ---- reads of any live bytes

  -- the byte at a live address, of what both parts give
  byte_of_parts : (a b : ℕ) → is_live_byte (kept p calls most) a ≡ true
      → (if is_between p.origin (end_of p) a then slice_index p.high (a - p.origin) else (if is_between 4096 (top_of p) a then slice_index p.low (a - 4096) else b)) ≡ byte_at (kept p calls most) a
  byte_of_parts a b live =
      let here = sym (live_byte p calls most capacity pages is a) ∙ live in
      let above = live_above p.globals_end p.heap_start (top_of p) (place_of p) (end_of p) is.globals (globals_below p calls most capacity pages is) is.heap (stack_above p calls most capacity pages is) (stack_below p calls most capacity pages is) a here in
      let below = live_below p.globals_end p.heap_start (top_of p) (place_of p) (end_of p) is.globals (globals_below p calls most capacity pages is) is.heap (stack_above p calls most capacity pages is) (stack_below p calls most capacity pages is) a here in
      elim (cases_lt a (top_of p)) [
        | inl low ↦
            let out : is_between p.origin (end_of p) a ≡ false = not_between p.origin (end_of p) a (λ after before. omega (arith, top_below p calls most capacity pages is)) in
            let inside : is_between 4096 (top_of p) a ≡ true = between_by 4096 (top_of p) a above low in
            rw (out, inside) (sym (byte_below p calls most capacity pages is a live above low))
        | inr high ↦ elim (cases_lt a (place_of p)) [
          | inl gap ↦ absurd (not_in_other p.globals_end p.heap_start (top_of p) (place_of p) (end_of p) is.globals (globals_below p calls most capacity pages is) is.heap (stack_above p calls most capacity pages is) (stack_below p calls most capacity pages is) a here high gap)
          | inr stack ↦
              let inside : is_between p.origin (end_of p) a ≡ true = between_by p.origin (end_of p) a (omega arith) below in
              rw inside (sym (byte_of_stack p calls most capacity pages is a stack))
        ]
      ]

  -- live bytes are what is written of both parts over so many others
  pub read_parts : (address : ℕ) (into : List ℕ) → is_live (kept p calls most) address (length into) ≡ true
      → overlaid address (overlaid address into 4096 p.low) p.origin p.high ≡ bytes_at (kept p calls most) address (length into)
  read_parts address into live = by address into (λ a after before. all_gives (is_live_byte (kept p calls most)) address (length into) live a after before)
    where
      by : (address : ℕ) (into : List ℕ) → ((a : ℕ) → address ≤ a → a < address + length into → is_live_byte (kept p calls most) a ≡ true)
          → overlaid address (overlaid address into 4096 p.low) p.origin p.high ≡ bytes_at (kept p calls most) address (length into)
      by address [] live = refl
      by address (b ∷ into) live =
          let here = byte_of_parts address b (live address (omega arith) (omega arith)) in
          let rest = by (address + 1) into (λ a after before. live a (omega arith) (omega arith)) in
          rw (here, rest) refl
