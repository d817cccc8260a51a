-- What a machine over the memory of a record's task comes to is what the task alone comes to, by the record.
use Rattle.std.proofs.Common.{◌≡◌, ℕ, List, map, All, Some, slice_get, Result, Ok, Err, IfOk, inl, inr, refl, ap, sym, subst, ◌∙◌}
use Rattle.css_base.specs.declared.ending.Stop.{Stop}
use Rattle.css_semantics.specs.Units.{Metered, with_units}
use Rattle.css_semantics.specs.Tasks.{Use}
use Rattle.css_semantics.specs.Alone.{at_entry}
use Rattle.css_vm.specs.declared.code.ArgShape.{ArgShape}
use Rattle.css_vm.specs.Code.{Routine, Shape, Code}
use Rattle.css_vm.specs.Machine.{State, Begin, frame_of}
use Rattle.css_vm.specs.Events.{IsInside, IsStacked}
use Rattle.css_vm.specs.Soundness.{Spot, IsSound, Itself, Fits}
use Rattle.css_vm.specs.declared.machine.Event.{Event}
use Rattle.css_vm.specs.declared.machine.Event.TheVariants as events
use Rattle.css_record.specs.declared.task_record.TaskRecord.{TaskRecord}
use Rattle.css_record.specs.declared.window.Window as coded
use Rattle.css_record.specs.Windows.{window, IsWindow}
use Rattle.css_record.specs.Records.{FitsCode, AreGiven, AllAgree, IsClearOfStack, InputsFit, uses, uses_by, arguments}
use Rattle.css_task.specs.Arrivals.{Arrives}
use Rattle.css_task.specs.Quiet.{IsQuietState}
use Rattle.css_task.specs.Alone.{TaskOf, InputsOf, End, IsAlone, Halted, Outs}
use Rattle.css_task.specs.Cells.{Kept, room, kept_place}
use Rattle.css_task.specs.GivenBytes.{entry_with}
use Rattle.css_task.specs.Placing.{AreWindows}
use Rattle.css_task.specs.Returned.{IsReturned}
use Rattle.css_task.proofs.OneTask.{some_same, one_shape}
use Rattle.css_task.proofs.RoomWorlds.{Stands, room_of}
use Rattle.css_task.proofs.Entry.{entry_room}
use Rattle.css_task.proofs.Ends.{stopped, ended_stopped, ended_outs, ended_unwritten}
use Rattle.css_task.proofs.Fitting.{are_windows, uses_are_windows, length-arguments}

-- what follows from an answer's clause holds of the answer
pub if_ok : {A E : Type 0} (result : Result A E) (P Q : A → Type 0) → ((a : A) → P a → Q a) → IfOk result P → IfOk result Q
if_ok (Ok a) P Q gives is = gives a is
if_ok (Err e) P Q gives is = tt

module _ (code : Code) (r : TaskRecord) (inputs : List (List ℕ)) (fits : FitsCode code r) (given : InputsOf code r inputs) where
  abbrev us : List Use
  us = uses fits.shape r

  abbrev fitting : TaskOf code r fits.routine fits.shape
  fitting = record { function = fits.function; task = fits.task }

  fit : InputsFit us inputs
  fit = given fits.routine fits.shape fitting

  given_windows : AreWindows fits.shape.arguments (map window r.windows.items)
  given_windows = are_windows fits.shape.arguments fits.routine.parameters r.scalars.items (map window r.windows.items) fits.given

  windows : All (λ u. IsWindow u.window) us
  windows = uses_are_windows fits.shape.arguments (map window r.windows.items) given_windows

  stands : Stands us (at_entry us inputs r.stack_place)
  stands = record { uses_are = refl; same_place = refl; room = fits.place; stack = refl }

  -- the memory before the entry
  abbrev pub entry : Kept
  entry = entry_with us inputs r.stack_place

  is_room : room entry ≡ room_of (at_entry us inputs r.stack_place)
  is_room = entry_room us inputs r.stack_place windows fits.agree fit

  abbrev old : State
  old = Begin r.function (arguments fits.shape r) r.line

  abbrev Comes : (units : ℕ) → Event → State → Metered Kept → Type 0
  Comes units e new space' = Arrives code old (with_units entry units) e new space'

  pub same_routine : (f : Routine) → slice_get code.functions r.function ≡ Some f → fits.routine ≡ f
  same_routine f named = some_same (slice_get code.functions r.function) fits.routine f fits.function named

  pub same_shape : (f : Routine) (s : Shape) → TaskOf code r f s → fits.shape ≡ s
  same_shape f s named = one_shape code r fits.routine f fits.shape s fitting named

  -- ---- how the run begins

  pub are_given : (s : Shape) → fits.shape ≡ s → (parameters : List ℕ) × AreGiven s.arguments parameters r.scalars.items (map window r.windows.items)
  are_given s same = (fits.routine.parameters, subst (λ (s : Shape). AreGiven s.arguments fits.routine.parameters r.scalars.items (map window r.windows.items)) same fits.given)

  -- the uses, where the parts and the windows are the record's
  pub uses_are : (s : Shape) → fits.shape ≡ s → (parts : List ArgShape) (ws : List coded.Window) → parts ≡ s.arguments → ws ≡ r.windows.items → uses_by parts (map window ws) ≡ us
  uses_are s same parts ws is is' = ap (λ ps. uses_by ps (map window ws)) is ∙ ap (λ ws. uses_by s.arguments (map window ws)) is' ∙ ap (λ (s : Shape). uses s r) (sym same)

  pub windows_are : (s : Shape) → fits.shape ≡ s → (parts : List ArgShape) (ws : List coded.Window) → parts ≡ s.arguments → ws ≡ r.windows.items → AreWindows parts (map window ws)
  windows_are s same parts ws is is' =
      subst (λ ps. AreWindows ps (map window ws)) (sym is) (subst (λ ws. AreWindows s.arguments (map window ws)) (sym is') (subst (λ (s : Shape). AreWindows s.arguments (map window r.windows.items)) same given_windows))

  pub agrees : (some : List Use) → some ≡ us → AllAgree some
  agrees some is = subst AllAgree (sym is) fits.agree

  pub is_clear : (some : List Use) → some ≡ us → All (IsClearOfStack r.stack_place) some
  is_clear some is = subst (λ us. All (IsClearOfStack r.stack_place) us) (sym is) fits.clear

  pub inputs_fit : (some : List Use) → some ≡ us → InputsFit some inputs
  inputs_fit some is = subst (λ us. InputsFit us inputs) (sym is) fit

  pub begins : (machine : State) (values : List ℕ) (s : Shape) → fits.shape ≡ s → machine ≡ Begin r.function values r.line → values ≡ arguments s r → machine ≡ old
  begins machine values s same is are = is ∙ ap (λ vs. Begin r.function vs r.line) (are ∙ ap (λ s. arguments s r) (sym same))

  pub fits_machine : (plans : List (List Spot)) → IsSound code plans → (machine : State) → machine ≡ old → Fits code machine
  fits_machine plans sound machine is = subst (Fits code) (sym is)
      (plans, sound, (0, (refl, (fits.routine, fits.function, length-arguments fits.shape.arguments fits.routine.parameters r.scalars.items (map window r.windows.items) fits.given))))

  pub quiet_machine : (machine : State) → machine ≡ old → IsQuietState code machine
  quiet_machine machine is = subst (IsQuietState code) (sym is) (Itself fits.routine fits.shape fits.function fits.task)

  pub comes : (units : ℕ) (machine : State) (space : Kept) (e : Event) (new : State) (space' : Metered Kept) → machine ≡ old → space ≡ entry
      → Arrives code machine (with_units space units) e new space' → Comes units e new space'
  comes units machine space e new space' is same arrives =
      subst (λ s. Arrives code old (with_units s units) e new space') same
      (subst (λ m. Arrives code m (with_units space units) e new space') is arrives)

  -- ---- how it ends

  -- a stop of the machine is the task's
  pub stopped_alone : (units : ℕ) (new : State) (space' : Metered Kept) (stop : Stop) (at : ℕ) → Comes units (events.Stopped stop at) new space' → IsAlone code r inputs units (Halted stop at)
  stopped_alone units new space' stop at arrives = record {
    routine = fits.routine;
    shape = fits.shape;
    task = fitting;
    comes = λ limits is.
        let begun = subst (λ n. Arrives code old (with_units entry n) (events.Stopped stop at) new space') (sym is) arrives in
        stopped code limits us inputs r.stack_place r.function r.line (arguments fits.shape r) entry stands is_room new space' stop at begun;
  }

  module _ (units : ℕ) (new : State) (space' : Kept) (units' cell at : ℕ) (arrives : Comes units (events.Ended cell at) new (with_units space' units')) (inside : IsInside new) (stacked : IsStacked code (kept_place space') new) where
    frame : fits.routine.frame ≡ frame_of (slice_get code.functions r.function)
    frame = sym (ap frame_of fits.function)

    -- what comes of a body that has returned comes of the task
    returned_by : (end : End) → IsReturned space' (frame_of (slice_get code.functions r.function)) at end → IsAlone code r inputs units end
    returned_by (Outs outs) (left, written, outs_is) = record {
      routine = fits.routine;
      shape = fits.shape;
      task = fitting;
      comes = λ limits is.
          let begun = subst (λ n. Arrives code old (with_units entry n) (events.Ended cell at) new (with_units space' units')) (sym is) arrives in
          let ends = ended_outs code limits us inputs r.stack_place r.function r.line (arguments fits.shape r) entry stands is_room new space' units' cell at begun inside stacked left written in
          (ends.0, ends.1, ends.2, ends.3, outs_is ∙ ends.4);
    }
    returned_by (Halted stop line) (same, inl refusal) = record {
      routine = fits.routine;
      shape = fits.shape;
      task = fitting;
      comes = λ limits is.
          let begun = subst (λ n. Arrives code old (with_units entry n) (events.Ended cell at) new (with_units space' units')) (sym is) arrives in
          let ends = ended_stopped code limits us inputs r.stack_place r.function r.line (arguments fits.shape r) entry stands is_room new space' units' cell at begun inside stacked stop refusal in
          rw same ends;
    }
    returned_by (Halted stop line) (same, inr (left, unwritten, is_rule)) = record {
      routine = fits.routine;
      shape = fits.shape;
      task = fitting;
      comes = λ limits is.
          let begun = subst (λ n. Arrives code old (with_units entry n) (events.Ended cell at) new (with_units space' units')) (sym is) arrives in
          let ends = ended_unwritten code limits us inputs r.stack_place r.function r.line (arguments fits.shape r) entry stands is_room new space' units' cell at begun inside stacked left unwritten in
          rw (same, is_rule) ends;
    }

    pub returned_alone : (end : End) → IsReturned space' fits.routine.frame at end → IsAlone code r inputs units end
    returned_alone end returned = returned_by end (subst (λ n. IsReturned space' n at end) frame returned)
