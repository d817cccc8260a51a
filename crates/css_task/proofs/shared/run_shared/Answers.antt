use Rattle.std.proofs.Common.{◌≡◌, ℕ, map, ap, sym, subst, ◌∙◌}
use Rattle.css_record.specs.Windows.{window}
use Rattle.css_record.specs.Records.{arguments, arguments_by}
use Rattle.css_semantics.specs.Units.{with_units}
use Rattle.css_vm.specs.declared.machine.Event.TheVariants as events
use Rattle.css_vm.specs.Code.{Routine, routine, shape, code_of}
use Rattle.css_task.specs.Alone.{TaskOf, IsAlone, end_of}
use Rattle.css_task.specs.GivenBytes.{entry_with}
use Rattle.css_task.specs.Returned.{IsReturned}
use Rattle.css_task.proofs.Whole.{same_routine, same_shape, entry, windows_are, uses_are, agrees, is_clear, inputs_fit, begins, fits_machine, quiet_machine, comes, stopped_alone, returned_alone, if_ok}
use Rattle.css_task.proofs.shared.run_shared.Goals as goal

pub new-requires-clause-given : goal.new-requires-clause-given
new-requires-clause-given c =
    let code = code_of c.args.code.now in
    let r = c.args.task.now in
    let inputs = c.args.inputs.now in
    let fits = c.requires.fits in
    let given = c.requires.inputs in
    let named : TaskOf code r (routine c.function_of-function.result.now) (shape c.shape_of.result.now) = record { function = c.function_of-function.ensures; task = c.shape_of.ensures } in
    let same = same_shape code r inputs fits given (routine c.function_of-function.result.now) (shape c.shape_of.result.now) named in
    windows_are code r inputs fits given (shape c.shape_of.result.now) same c.deref-4.result.now c.deref-5.result.now c.deref-4.ensures.value c.deref-5.ensures.value

pub new-requires-clause-agree : goal.new-requires-clause-agree
new-requires-clause-agree c =
    let code = code_of c.args.code.now in
    let r = c.args.task.now in
    let inputs = c.args.inputs.now in
    let fits = c.requires.fits in
    let given = c.requires.inputs in
    let named : TaskOf code r (routine c.function_of-function.result.now) (shape c.shape_of.result.now) = record { function = c.function_of-function.ensures; task = c.shape_of.ensures } in
    let same = same_shape code r inputs fits given (routine c.function_of-function.result.now) (shape c.shape_of.result.now) named in
    let uses = uses_are code r inputs fits given (shape c.shape_of.result.now) same c.deref-4.result.now c.deref-5.result.now c.deref-4.ensures.value c.deref-5.ensures.value in
    agrees code r inputs fits given _ uses

pub new-requires-clause-clear : goal.new-requires-clause-clear
new-requires-clause-clear c =
    let code = code_of c.args.code.now in
    let r = c.args.task.now in
    let inputs = c.args.inputs.now in
    let fits = c.requires.fits in
    let given = c.requires.inputs in
    let named : TaskOf code r (routine c.function_of-function.result.now) (shape c.shape_of.result.now) = record { function = c.function_of-function.ensures; task = c.shape_of.ensures } in
    let same = same_shape code r inputs fits given (routine c.function_of-function.result.now) (shape c.shape_of.result.now) named in
    let uses = uses_are code r inputs fits given (shape c.shape_of.result.now) same c.deref-4.result.now c.deref-5.result.now c.deref-4.ensures.value c.deref-5.ensures.value in
    is_clear code r inputs fits given _ uses

pub new-requires-clause-inputs : goal.new-requires-clause-inputs
new-requires-clause-inputs c =
    let code = code_of c.args.code.now in
    let r = c.args.task.now in
    let inputs = c.args.inputs.now in
    let fits = c.requires.fits in
    let given = c.requires.inputs in
    let named : TaskOf code r (routine c.function_of-function.result.now) (shape c.shape_of.result.now) = record { function = c.function_of-function.ensures; task = c.shape_of.ensures } in
    let same = same_shape code r inputs fits given (routine c.function_of-function.result.now) (shape c.shape_of.result.now) named in
    let uses = uses_are code r inputs fits given (shape c.shape_of.result.now) same c.deref-4.result.now c.deref-5.result.now c.deref-4.ensures.value c.deref-5.ensures.value in
    inputs_fit code r inputs fits given _ uses

pub run_body-requires-clause-fits : goal.run_body-requires-clause-fits
run_body-requires-clause-fits c =
    let code = code_of c.args.code.now in
    let r = c.args.task.now in
    let inputs = c.args.inputs.now in
    let fits = c.requires.fits in
    let given = c.requires.inputs in
    let named : TaskOf code r (routine c.function_of-function.result.now) (shape c.shape_of.result.now) = record { function = c.function_of-function.ensures; task = c.shape_of.ensures } in
    let same = same_shape code r inputs fits given (routine c.function_of-function.result.now) (shape c.shape_of.result.now) named in
    let are : c.deref-6.result.now ≡ arguments (shape c.shape_of.result.now) r = c.deref-6.ensures.value ∙ c.in_ok-arguments.ensures
    ∙ ap (λ xs. arguments_by xs c.deref-2.result.now (map window c.deref-3.result.now)) c.deref.ensures.value
    ∙ ap (λ xs. arguments_by c.shape_of.result.now.args.items xs (map window c.deref-3.result.now)) c.deref-2.ensures.value
    ∙ ap (λ ws. arguments_by c.shape_of.result.now.args.items r.scalars.items (map window ws)) c.deref-3.ensures.value in
    let machine_is = begins code r inputs fits given c.in_ok-machine.machine.state c.deref-6.result.now (shape c.shape_of.result.now) same c.in_ok-machine.ensures.state are in
    fits_machine code r inputs fits given c.requires.sound.0 c.requires.sound.1 c.in_ok-machine.machine.state machine_is

pub run_body-requires-clause-quiet : goal.run_body-requires-clause-quiet
run_body-requires-clause-quiet c =
    let code = code_of c.args.code.now in
    let r = c.args.task.now in
    let inputs = c.args.inputs.now in
    let fits = c.requires.fits in
    let given = c.requires.inputs in
    let named : TaskOf code r (routine c.function_of-function.result.now) (shape c.shape_of.result.now) = record { function = c.function_of-function.ensures; task = c.shape_of.ensures } in
    let same = same_shape code r inputs fits given (routine c.function_of-function.result.now) (shape c.shape_of.result.now) named in
    let are : c.deref-6.result.now ≡ arguments (shape c.shape_of.result.now) r = c.deref-6.ensures.value ∙ c.in_ok-arguments.ensures
    ∙ ap (λ xs. arguments_by xs c.deref-2.result.now (map window c.deref-3.result.now)) c.deref.ensures.value
    ∙ ap (λ xs. arguments_by c.shape_of.result.now.args.items xs (map window c.deref-3.result.now)) c.deref-2.ensures.value
    ∙ ap (λ ws. arguments_by c.shape_of.result.now.args.items r.scalars.items (map window ws)) c.deref-3.ensures.value in
    let machine_is = begins code r inputs fits given c.in_ok-machine.machine.state c.deref-6.result.now (shape c.shape_of.result.now) same c.in_ok-machine.ensures.state are in
    quiet_machine code r inputs fits given c.in_ok-machine.machine.state machine_is

pub returns : goal.returns
returns c =
    let code = code_of c.args.code.now in
    let r = c.args.task.now in
    let inputs = c.args.inputs.now in
    let fits = c.requires.fits in
    let given = c.requires.inputs in
    let named : TaskOf code r (routine c.function_of-function.result.now) (shape c.shape_of.result.now) = record { function = c.function_of-function.ensures; task = c.shape_of.ensures } in
    let same = same_shape code r inputs fits given (routine c.function_of-function.result.now) (shape c.shape_of.result.now) named in
    let uses = uses_are code r inputs fits given (shape c.shape_of.result.now) same c.deref-4.result.now c.deref-5.result.now c.deref-4.ensures.value c.deref-5.ensures.value in
    let are : c.deref-6.result.now ≡ arguments (shape c.shape_of.result.now) r = c.deref-6.ensures.value ∙ c.in_ok-arguments.ensures
    ∙ ap (λ xs. arguments_by xs c.deref-2.result.now (map window c.deref-3.result.now)) c.deref.ensures.value
    ∙ ap (λ xs. arguments_by c.shape_of.result.now.args.items xs (map window c.deref-3.result.now)) c.deref-2.ensures.value
    ∙ ap (λ ws. arguments_by c.shape_of.result.now.args.items r.scalars.items (map window ws)) c.deref-3.ensures.value in
    let machine_is = begins code r inputs fits given c.in_ok-machine.machine.state c.deref-6.result.now (shape c.shape_of.result.now) same c.in_ok-machine.ensures.state are in
    let space_is : c.in_ok-space.space ≡ entry code r inputs fits given = c.in_ok-space.ensures ∙ ap (λ us. entry_with us inputs r.stack_place) uses in
    let new = c.run_body.new in
    let stopped = rw c.in-Stopped.is at c.in_ok-end.ensures in
    let arrived = comes code r inputs fits given c.args.units c.in_ok-machine.machine.state c.in_ok-space.space (events.Stopped c.in-Stopped.stop c.in-Stopped.line) new.machine.state (with_units new.space new.units) machine_is space_is stopped in
    stopped_alone code r inputs fits given c.args.units new.machine.state (with_units new.space new.units) c.in-Stopped.stop c.in-Stopped.line arrived

pub returns-in-Returned : goal.returns-in-Returned
returns-in-Returned c =
    let code = code_of c.args.code.now in
    let r = c.args.task.now in
    let inputs = c.args.inputs.now in
    let fits = c.requires.fits in
    let given = c.requires.inputs in
    let named : TaskOf code r (routine c.function_of-function.result.now) (shape c.shape_of.result.now) = record { function = c.function_of-function.ensures; task = c.shape_of.ensures } in
    let same = same_shape code r inputs fits given (routine c.function_of-function.result.now) (shape c.shape_of.result.now) named in
    let uses = uses_are code r inputs fits given (shape c.shape_of.result.now) same c.deref-4.result.now c.deref-5.result.now c.deref-4.ensures.value c.deref-5.ensures.value in
    let are : c.deref-6.result.now ≡ arguments (shape c.shape_of.result.now) r = c.deref-6.ensures.value ∙ c.in_ok-arguments.ensures
    ∙ ap (λ xs. arguments_by xs c.deref-2.result.now (map window c.deref-3.result.now)) c.deref.ensures.value
    ∙ ap (λ xs. arguments_by c.shape_of.result.now.args.items xs (map window c.deref-3.result.now)) c.deref-2.ensures.value
    ∙ ap (λ ws. arguments_by c.shape_of.result.now.args.items r.scalars.items (map window ws)) c.deref-3.ensures.value in
    let machine_is = begins code r inputs fits given c.in_ok-machine.machine.state c.deref-6.result.now (shape c.shape_of.result.now) same c.in_ok-machine.ensures.state are in
    let space_is : c.in_ok-space.space ≡ entry code r inputs fits given = c.in_ok-space.ensures ∙ ap (λ us. entry_with us inputs r.stack_place) uses in
    let new = c.run_body.new in
    let ended = rw c.in-Returned.is at c.in_ok-end.ensures in
    let arrived = comes code r inputs fits given c.args.units c.in_ok-machine.machine.state c.in_ok-space.space (events.Ended ended.0.0 c.in-Returned.line) new.machine.state (with_units new.space new.units) machine_is space_is ended.0.1 in
    let frame : c.function_of-function.result.now.frame ≡ fits.routine.frame =
    sym (ap (λ (f : Routine). f.frame) (same_routine code r inputs fits given (routine c.function_of-function.result.now) c.function_of-function.ensures)) in
    if_ok c.returned.result (λ end. IsReturned new.space c.function_of-function.result.now.frame c.in-Returned.line (end_of end)) (λ end. IsAlone code r inputs c.args.units (end_of end))
    (λ end returned.
    returned_alone code r inputs fits given c.args.units new.machine.state new.space new.units ended.0.0 c.in-Returned.line arrived ended.1 ended.2 (end_of end)
    (subst (λ (n : ℕ). IsReturned new.space n c.in-Returned.line (end_of end)) frame returned))
    c.returned.ensures
