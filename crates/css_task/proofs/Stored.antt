-- What a store leaves of a task's stack as code keeps it.
use Rattle.std.proofs.Common.{◌≡◌, ℕ, ◌+◌, ◌-◌, ◌≤◌, List, [], length, drop, zero-add, add-zero, ap, sym, ◌∙◌, arith}
use Rattle.css_semantics.specs.Dialogue.{Store}
use Rattle.css_semantics.specs.Memory.{overlaid}
use Rattle.css_semantics.specs.TaskSpaces.{TaskState, place_of, space_after, total}
use Rattle.css_semantics.proofs.TaskKept.{kept, place_is}
use Rattle.css_vm.proofs.Bytes.{drop-overlaid, overlaid-shift}

module _ (end start innermost : ℕ) (stack sizes : List ℕ) (sum : start + total (drop innermost sizes) ≡ 16384) (long : length stack ≡ 16384) (room : 16384 ≤ end) where
  abbrev s : TaskState
  s = kept end start innermost stack sizes []

  -- in the stack
  pub stored_in_stack : (address index : ℕ) (new written : List ℕ) → address + 16384 ≡ end + index → start ≤ index → index + length new ≤ 16384 → written ≡ overlaid 0 stack index new
      → kept end start innermost written sizes [] ≡ space_after s (Store address new)
  stored_in_stack address index new written at above below is =
      let place = place_is end start innermost stack sizes [] sum long room in
      let offset : place_of s + (index - start) ≡ address = omega (arith, place, at, above) in
      let inside : start + (index - start) ≡ index = omega (arith, above) in
      let stack' : drop start written ≡ overlaid (place_of s) (drop start stack) address new =
      ap (drop start) is ∙ drop-overlaid start 0 stack index new
      ∙ ap (λ n. overlaid n (drop start stack) index new) (zero-add start)
      ∙ ap (λ n. overlaid n (drop start stack) index new) (sym (add-zero start))
      ∙ ap (λ n. overlaid (start + 0) (drop start stack) n new) (sym inside)
      ∙ overlaid-shift start 0 (drop start stack) (index - start) new
      ∙ sym (overlaid-shift (place_of s) 0 (drop start stack) (index - start) new)
      ∙ ap (λ n. overlaid (place_of s + 0) (drop start stack) n new) offset
      ∙ ap (λ n. overlaid n (drop start stack) address new) (add-zero (place_of s)) in
      ap (λ bytes. record { memory = record { regions = []; place = end; stack = bytes }; frames = drop innermost sizes }) stack'
