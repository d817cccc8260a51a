-- Main's run in parts, one behind another.
use Rattle.std.proofs.Common.{◌≡◌, ℕ, ℤ, ◌≤◌, List, [], ◌∷◌, ◌++◌, length, Option, Some, slice_get, refl, sym, ap, ◌∙◌, subst, append_assoc, arith}
use Rattle.std.proofs.lemmas.List.{append-nil}
use Rattle.css_base.specs.declared.ending.Ending.{Ending}
use Rattle.css_io.proofs.Told.{Appends-more}
use Rattle.css_semantics.specs.Dialogue.{Outcome, tape_of, output}
use Rattle.css_semantics.specs.Memory.{Memory}
use Rattle.css_semantics.specs.Units.{Metered, with_units}
use Rattle.css_semantics.specs.Flat.{FlatState}
use Rattle.css_vm.specs.Code.{Code}
use Rattle.css_vm.specs.Machine.{State, Begin, At, entry_line, answered}
use Rattle.css_vm.specs.Soundness.{Spot, IsSound, IsAt, Fits}
use Rattle.css_vm.specs.Events.{Falls, IsStacked}
use Rattle.css_driver.specs.Answer.{ending_of}
use Rattle.css_io.specs.Changes.{change}
use Rattle.css_main_side.specs.declared.ran.Ran.{Ran}
use Rattle.css_main_side.specs.declared.ran.Ran.TheVariants.{NoMemory}
use Rattle.css_main_side.specs.Ran.{RanAs}
use Rattle.css_driver.specs.Running.{ComesTo, Running, GoesOn, EndsRun}
use Rattle.css_small_code.specs.Marks.{HasNoMarks}
use Rattle.css_main_side.proofs.Sinks.{Appends-nothing, AppendsPrefix-nothing, RanAs-more}
use Rattle.css_driver.proofs.Turns.{output-running, running_begun}

module _ {S : Type 0} (told : S → Option (List ℕ)) (faults : S → ℕ) (code : Code) where
  -- nothing was done
  pub goes_nowhere : (s : State) (space : Metered Memory) (pending : List ℕ) (out : S) → GoesOn code s space s space pending pending (change told faults out out)
  goes_nowhere s space pending out =
      record {
        front = [];
        got = Appends-nothing (told out);
        running = λ start units o ending written is run.
            subst (λ b. Running start units code o s space (b ++ pending)) (sym (append-nil written)) run;
        never_fell = omega arith;
      }

  -- one part, and then another
  pub goes_further : (s s' s'' : State) (space space' space'' : Metered Memory) (pending pending' pending'' : List ℕ) (out out' out'' : S)
      → GoesOn code s space s' space' pending pending' (change told faults out out') → GoesOn code s' space' s'' space'' pending' pending'' (change told faults out' out'')
      → GoesOn code s space s'' space'' pending pending'' (change told faults out out'')
  goes_further s s' s'' space space' space'' pending pending' pending'' out out' out'' one two =
      record {
        front = one.front ++ two.front;
        got = Appends-more (told out) (told out') (told out'') one.front two.front one.got two.got;
        running = λ start units o ending written is run.
            let between = one.running start units o ending written is run in
            subst (λ b. Running start units code o s'' space'' (b ++ pending'')) (append_assoc written one.front two.front)
            (two.running start units o ending (written ++ one.front) is between);
        never_fell = omega (arith, one.never_fell, two.never_fell);
      }

  -- where no more is done, the sink has a prefix
  pub gives_up : HasNoMarks code → (s : State) (space : Metered Memory) (pending : List ℕ) (out : S) → EndsRun code s space pending (change told faults out out) NoMemory
  gives_up plain s space pending out start units o ending written is run =
      let more = output-running code plain start units o s space (written ++ pending) run in
      (pending ++ more.0, more.1 ∙ append_assoc written pending more.0, AppendsPrefix-nothing (told out) (pending ++ more.0))

  -- one part, and then the last one
  pub goes_to_end : (s s' : State) (space space' : Metered Memory) (pending pending' : List ℕ) (out out' out'' : S) (ran : Ran)
      → GoesOn code s space s' space' pending pending' (change told faults out out') → EndsRun code s' space' pending' (change told faults out' out'') ran
      → EndsRun code s space pending (change told faults out out'') ran
  goes_to_end s s' space space' pending pending' out out' out'' ran one last start units o ending written is run =
      let between = one.running start units o ending written is run in
      let ends = last start units o ending (written ++ one.front) is between in (
        one.front ++ ends.0,
        ends.1 ∙ append_assoc written one.front ends.0,
        RanAs-more told faults out out' out'' ending one.front ends.0 ran one.got one.never_fell ends.2,
      )

  -- the last part of a run from main's entry
  pub ran_whole : (start : FlatState) (units line : ℕ) (out out' : S) (ran : Ran) → line ≡ entry_line (slice_get code.functions code.main)
      → EndsRun code (Begin code.main [] line) (with_units start.memory units) [] (change told faults out out') ran
      → (o : Outcome ℤ) (ending : Ending) → ComesTo start units code o → ending_of o ≡ Some ending → RanAs ending (output (tape_of o)) (change told faults out out') ran
  ran_whole start units line out out' ran at last o ending comes is =
      let ends = last start units o ending [] is (running_begun start units code o line at comes) in
      subst (λ b. RanAs ending b (change told faults out out') ran) (sym ends.1) ends.2

-- sound code fits before main's entry
pub fits_begun : (code : Code) (line : ℕ) (plans : List (List Spot)) → IsSound code plans → Fits code (Begin code.main [] line)
fits_begun code line plans sound =
    let f = sound.main in
    (plans, sound, (0, (refl, (f.0, f.1, sym (ap length f.2)))))

-- an answer leaves the state at its place
IsAt-answered : (code : Code) (plans : List (List Spot)) (steps value : ℕ) (s : State) → IsAt code plans steps s → IsAt code plans steps (answered value s)
IsAt-answered code plans steps value (Begin function arguments line) at = at
IsAt-answered code plans steps value (At a callers place []) at = at
IsAt-answered code plans steps value (At a callers place (x ∷ rest)) at = at

-- behind an event and its answer the code still fits
pub fits_answered : (code : Code) (old new : State) (units units' value : ℕ) → Fits code old → Falls code old units new units' → Fits code (answered value new)
fits_answered code old new units units' value (plans, sound, (steps, at)) falls =
    let next = falls plans steps sound at in
    (plans, sound, (next.0, IsAt-answered code plans next.0 value new next.1))

pub stacked_answered : (code : Code) (place value : ℕ) (s : State) → IsStacked code place s → IsStacked code place (answered value s)
stacked_answered code place value (Begin function arguments line) stacked = tt
stacked_answered code place value (At a callers at []) stacked = stacked
stacked_answered code place value (At a callers at (x ∷ rest)) stacked = stacked
