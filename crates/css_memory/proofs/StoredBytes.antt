-- What a memory that the code keeps becomes.
use Rattle.std.proofs.Common.{◌≡◌, ℕ, ◌+◌, ◌-◌, ◌≤◌, List, ◌++◌, length, take, drop, replicate, refl, ap, sym, ◌∙◌, arith}
use Rattle.std.proofs.lemmas.List.{take-append-le, drop-append-le}
use Rattle.std.proofs.lemmas.Bool.Decides.{nat_tests}
use Rattle.css_semantics.specs.Memory.{Memory, heap_start, stack_place, overlaid, stored}
use Rattle.css_semantics.proofs.StackPlaces.{length-overlaid}
use Rattle.css_isa.proofs.Bytes.{drop-overlaid, overlaid-shift}
use Rattle.css_memory.specs.Kept.{Parts, top_of, place_of, kept, IsKept}
use Rattle.css_memory.proofs.Overlays.{take-overlaid, none_overlaid}
use Rattle.css_memory.proofs.Places.{globals_below, top_below, stack_above, heap_start_is, place_is}

abbrev pub memory : (globals heap stack : List ℕ) (end calls bytes most : ℕ) → Memory
memory globals heap stack end calls bytes most =
    record { globals = globals; heap = heap; stack = stack; end = end; calls = calls; limit = record { bytes = bytes; calls = most } }

pub same_memory : (globals globals' heap heap' stack stack' : List ℕ) (end end' bytes bytes' calls most : ℕ)
    → globals ≡ globals' → heap ≡ heap' → stack ≡ stack' → end ≡ end' → bytes ≡ bytes' → memory globals heap stack end calls bytes most ≡ memory globals' heap' stack' end' calls bytes' most
same_memory globals globals' heap heap' stack stack' end end' bytes bytes' calls most g h s e b =
    ap (λ x. memory x heap stack end calls bytes most) g
    ∙ ap (λ x. memory globals' x stack end calls bytes most) h
    ∙ ap (λ x. memory globals' heap' x end calls bytes most) s
    ∙ ap (λ x. memory globals' heap' stack' x calls bytes most) e
    ∙ ap (λ x. memory globals' heap' stack' end' calls x most) b

-- bytes stored over both parts
abbrev pub written : Parts → (address : ℕ) (new : List ℕ) → Parts
written p address new = record p { low = overlaid 4096 p.low address new; high = overlaid p.origin p.high address new }

module _ (p : Parts) (calls most capacity pages : ℕ) (is : IsKept p capacity pages) where
  -- they are kept as before
  pub written_kept : (address : ℕ) (new : List ℕ) (capacity' : ℕ) → capacity ≤ capacity' → IsKept (written p address new) capacity' pages
  written_kept address new capacity' room =
      let low = length-overlaid 4096 p.low address new in
      let high = length-overlaid p.origin p.high address new in
      record {
        globals = is.globals;
        heap_start = is.heap_start;
        heap = omega (arith, is.heap, low);
        room = omega (arith, is.room, low, high);
        limit = omega (arith, is.limit, high);
        start = omega (arith, is.start, high);
        end = omega (arith, is.end, high);
        capacity = omega (arith, is.capacity, high, room);
        pages = omega (arith, is.pages, high);
      }

  pub written_is : (address : ℕ) (new : List ℕ) → kept (written p address new) calls most ≡ stored (kept p calls most) address new
  written_is address new =
      let m = kept p calls most in
      let high = length-overlaid p.origin p.high address new in
      let first : 4096 + (p.heap_start - 4096) ≡ heap_start m = omega (arith, heap_start_is p calls most capacity pages is, globals_below p calls most capacity pages is, is.globals) in
      let place : p.origin + p.start ≡ stack_place m = sym (place_is p calls most capacity pages is) in
      same_memory
      (take (p.globals_end - 4096) (overlaid 4096 p.low address new)) (overlaid 4096 m.globals address new)
      (drop (p.heap_start - 4096) (overlaid 4096 p.low address new)) (overlaid (heap_start m) m.heap address new)
      (drop p.start (overlaid p.origin p.high address new)) (overlaid (stack_place m) m.stack address new)
      (p.origin + length (overlaid p.origin p.high address new)) (p.origin + length p.high)
      (length (overlaid p.origin p.high address new)) (length p.high) calls most
      (take-overlaid (p.globals_end - 4096) 4096 p.low address new)
      (drop-overlaid (p.heap_start - 4096) 4096 p.low address new ∙ ap (λ n. overlaid n m.heap address new) first)
      (drop-overlaid p.start p.origin p.high address new ∙ ap (λ n. overlaid n m.stack address new) place)
      (ap (λ n. p.origin + n) high) high

  -- ---- stores within one part

  pub low_alone : (address : ℕ) (new low : List ℕ) → 4096 ≤ address → address + length new ≤ top_of p → low ≡ overlaid 0 p.low (address - 4096) new
      → record p { low = low } ≡ written p address new
  low_alone address new low above within is_low =
      let from : 4096 + (address - 4096) ≡ address = omega arith in
      let shifted : overlaid 4096 p.low address new ≡ overlaid 0 p.low (address - 4096) new =
      ap (λ n. overlaid 4096 p.low n new) (sym from) ∙ overlaid-shift 4096 0 p.low (address - 4096) new in
      let out : overlaid p.origin p.high address new ≡ p.high =
      none_overlaid p.origin p.high address new (λ a after before. let b = top_below p calls most capacity pages is in grind (arith, nat_tests)) in
      ap (λ l. record p { low = l }) (is_low ∙ sym shifted) ∙ ap (λ h. record p { low = overlaid 4096 p.low address new; high = h }) (sym out)

  pub high_alone : (address : ℕ) (new high : List ℕ) → place_of p ≤ address → high ≡ overlaid 0 p.high (address - p.origin) new → record p { high = high } ≡ written p address new
  high_alone address new high above is_high =
      let from : p.origin + (address - p.origin) ≡ address = omega arith in
      let zero_in : p.origin + 0 ≡ p.origin = omega arith in
      let shifted : overlaid p.origin p.high address new ≡ overlaid 0 p.high (address - p.origin) new =
      ap (λ n. overlaid p.origin p.high n new) (sym from) ∙ ap (λ n. overlaid n p.high (p.origin + (address - p.origin)) new) (sym zero_in) ∙ overlaid-shift p.origin 0 p.high (address - p.origin) new in
      let out : overlaid 4096 p.low address new ≡ p.low =
      none_overlaid 4096 p.low address new (λ a after before. let b = stack_above p calls most capacity pages is in grind (arith, nat_tests)) in
      ap (λ h. record p { high = h }) (is_high ∙ sym shifted) ∙ ap (λ l. record p { low = l; high = overlaid p.origin p.high address new }) (sym out)

  -- ---- the heap grows

  pub grown_is : (more : ℕ) → kept (record p { low = p.low ++ replicate more 0 }) calls most ≡ record (kept p calls most) { heap = (kept p calls most).heap ++ replicate more 0 }
  grown_is more =
      let m = kept p calls most in
      let zeros : List ℕ = replicate more 0 in
      same_memory
      (take (p.globals_end - 4096) (p.low ++ zeros)) m.globals
      (drop (p.heap_start - 4096) (p.low ++ zeros)) (m.heap ++ zeros)
      m.stack m.stack m.end m.end (length p.high) (length p.high) calls most
      (take-append-le (p.globals_end - 4096) p.low zeros (omega (arith, globals_below p calls most capacity pages is, is.heap)))
      (drop-append-le (p.heap_start - 4096) p.low zeros (omega (arith, is.heap)))
      refl refl refl
