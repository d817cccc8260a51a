-- Where the bytes of a flat memory are live, and that its layout stays along a tape.
use Rattle.std.proofs.Common.{◌≡◌, ◌⊎◌, inl, inr, ℕ, ◌+◌, ◌-◌, ◌/◌, ◌*◌, ◌<◌, ◌≤◌, Bool, true, false, ◌||◌, nat_le, nat_lt, [], ◌∷◌, ◌++◌, List, length, replicate, refl, ap, subst, sym, ◌∙◌, arith, if◌then◌else◌}
use Rattle.std.proofs.lemmas.Bool.{and_parts, leb-true, ltb-true}
use Rattle.std.proofs.lemmas.List.{length-append, length-replicate}
use Rattle.css_semantics.specs.Dialogue.{Action, Enter, Turn, Leave, Load, Store, Out, In, Malloc, Calls, Returns, Start, Finish, Barrier, Wait, WaitFault, DimFault, Fault, End, Tape}
use Rattle.css_semantics.specs.Memory.{Memory, rounded_up, globals_end, heap_start, heap_top, heap_end, has_heap, stack_place, is_between, is_live_byte, is_live, overlaid, stored, after, memory_after}
use Rattle.css_semantics.specs.Flat.{IsLaidOut, IsStart, no_globals}
use Rattle.css_semantics.proofs.StackPlaces.{length-overlaid}

-- the heap begins behind the globals
pub heap_behind : (m : Memory) → globals_end m ≤ heap_start m
heap_behind m = omega arith

pub in_between : (from to a : ℕ) → is_between from to a ≡ true → (from ≤ a) × (a < to)
in_between from to a is =
    let parts = and_parts (nat_le from a) (nat_lt a to) is in
    (leb-true from a parts.0, ltb-true a to parts.1)

below_top : (m : Memory) (a : ℕ) (g h s : Bool) → (g ≡ true → a < heap_top m) → (h ≡ true → a < heap_top m) → (s ≡ true → (stack_place m ≤ a) × (a < m.end)) → (g || (h || s)) ≡ true
    → (a < heap_top m) ⊎ ((stack_place m ≤ a) × (a < m.end))
below_top m a true h s of_globals of_heap of_stack live = inl (of_globals refl)
below_top m a false true s of_globals of_heap of_stack live = inl (of_heap refl)
below_top m a false false true of_globals of_heap of_stack live = inr (of_stack refl)
below_top m a false false false of_globals of_heap of_stack live = absurd (cc)

-- a live byte lies below the heap's top, or in the stack
pub live_apart : (m : Memory) (a : ℕ) → is_live_byte m a ≡ true → (a < heap_top m) ⊎ ((stack_place m ≤ a) × (a < m.end))
live_apart m a live =
    below_top m a (is_between 4096 (globals_end m) a) (is_between (heap_start m) (heap_top m) a) (is_between (stack_place m) m.end a)
    (λ is. omega (arith, (in_between 4096 (globals_end m) a is).1, heap_behind m))
    (λ is. (in_between (heap_start m) (heap_top m) a is).1)
    (λ is. in_between (stack_place m) m.end a is) live

-- ---- along a tape

top_stored : (m : Memory) (address : ℕ) (bytes : List ℕ) → heap_top (stored m address bytes) ≡ heap_top m
top_stored m address bytes = rw (length-overlaid 4096 m.globals address bytes, length-overlaid (heap_start m) m.heap address bytes) refl

stored_laid : (live : Bool) (size : ℕ) (m : Memory) (address : ℕ) (bytes : List ℕ) → IsLaidOut size m → IsLaidOut size (if live then stored m address bytes else m)
stored_laid true size m address bytes laid = record { end = laid.end; limit = laid.limit; room = omega (arith, laid.room, top_stored m address bytes) }
stored_laid false size m address bytes laid = laid

-- where the heap grows, it stays below its end
heap_laid : (b : Bool) (size : ℕ) (m : Memory) (n : ℕ) → has_heap m n ≡ b → IsLaidOut size m → IsLaidOut size (if b then record m { heap = m.heap ++ replicate (rounded_up 16 n) 0 } else m)
heap_laid true size m n is laid =
    let parts = and_parts (nat_lt 0 n) (nat_le (heap_top m + rounded_up 16 n) (heap_end m)) is in
    let below = leb-true (heap_top m + rounded_up 16 n) (heap_end m) parts.1 in
    let long = length-append m.heap (replicate (rounded_up 16 n) 0) in
    let more = length-replicate {A = ℕ} (rounded_up 16 n) 0 in
    record { end = laid.end; limit = laid.limit; room = omega (arith, laid.end, laid.room, below, long, more) }
heap_laid false size m n is laid = laid

laid_behind : (size : ℕ) (m : Memory) (action : Action) → IsLaidOut size m → IsLaidOut size (after m action)
laid_behind size m (Enter n) laid = record { end = laid.end; limit = laid.limit; room = laid.room }
laid_behind size m Turn laid = laid
laid_behind size m (Leave base n) laid = record { end = laid.end; limit = laid.limit; room = laid.room }
laid_behind size m (Load address width) laid = laid
laid_behind size m (Store address bytes) laid = stored_laid (is_live m address (length bytes)) size m address bytes laid
laid_behind size m (Out bytes) laid = laid
laid_behind size m In laid = laid
laid_behind size m (Malloc n) laid = heap_laid (has_heap m n) size m n refl laid
laid_behind size m (Calls call) laid = laid
laid_behind size m Returns laid = laid
laid_behind size m Start laid = laid
laid_behind size m Finish laid = laid
laid_behind size m Barrier laid = laid
laid_behind size m (Wait address) laid = laid
laid_behind size m WaitFault laid = laid
laid_behind size m DimFault laid = laid
laid_behind size m (Fault kind) laid = laid
laid_behind size m (End result) laid = laid

pub laid_along : (size : ℕ) (m : Memory) (tape : Tape) → IsLaidOut size m → IsLaidOut size (memory_after m tape)
laid_along size m [] laid = laid
laid_along size m (i ∷ tape) laid = laid_behind size (memory_after m tape) i.action (laid_along size m tape laid)

-- ---- starts

-- a program without globals starts in each memory that has room for the stack above the first address
pub no_globals_start : (size : ℕ) → 4096 + 1064960 ≤ size → IsStart size (no_globals size)
no_globals_start size room = record {
  laid_out = record { end = refl; limit = refl; room = omega (arith, room) };
  stack = refl;
  calls = refl;
}
