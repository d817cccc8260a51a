use Rattle.std.proofs.Common.{◌≡◌, Some, None, sym, subst}
use Rattle.css_vm.specs.Code.{code_of}
use Rattle.css_task.specs.Alone.{InputsOf, IsAlone, end_of}
use Rattle.css_yard.specs.Kept.{values_at}
use Rattle.css_yard.proofs.Submitted.{inputs_fit, inputs_are, missing_input}
use Rattle.css_yard.proofs.running.run_behind.Goals as goal

pub run_shared-requires-clause-inputs : goal.run_shared-requires-clause-inputs
run_shared-requires-clause-inputs c =
    let is : values_at c.args.tasks.now c.args.given.now c.args.rec.now.inputs.items ≡ Some c.in-Some.inputs.items =
    rw (← c.as_slice.ensures.value, ← c.in_ok-inputs.ensures {u = tt}, c.in-Some.is) in
    let fit = inputs_fit (code_of c.args.code.now) c.args.limits.now c.args.tasks.now c.requires.done c.args.rec.now c.args.given.now c.requires.may c.in-Some.inputs.items is in
    subst (InputsOf (code_of c.args.code.now) c.args.rec.now) (sym c.as_slice-in-Some.ensures.value) fit

pub returns-in_ok-run_shared-in-Some : goal.returns-in_ok-run_shared-in-Some
returns-in_ok-run_shared-in-Some c =
    let is : values_at c.args.tasks.now c.args.given.now c.args.rec.now.inputs.items ≡ Some c.in-Some.inputs.items =
    rw (← c.as_slice.ensures.value, ← c.in_ok-inputs.ensures {u = tt}, c.in-Some.is) in
    let values = inputs_are (code_of c.args.code.now) c.args.limits.now c.args.tasks.now c.requires.done c.args.rec.now c.args.given.now c.requires.may c.in-Some.inputs.items is in
    let end = end_of c.in_ok-run_shared-in-Some.field-0 in
    let alone = subst (λ inputs. IsAlone (code_of c.args.code.now) c.args.rec.now inputs c.args.limits.now.task_units end) c.as_slice-in-Some.ensures.value (c.in_ok-run_shared-in-Some.ensures {u = tt}) in
    (c.in-Some.inputs.items, values, alone)

pub returns-in-None : goal.returns-in-None
returns-in-None c =
    let is : values_at c.args.tasks.now c.args.given.now c.args.rec.now.inputs.items ≡ None = rw (← c.as_slice.ensures.value, ← c.in_ok-inputs.ensures {u = tt}, c.in-None.is) in
    missing_input (code_of c.args.code.now) c.args.limits.now c.args.tasks.now c.requires.done c.args.rec.now c.args.given.now c.requires.may is
