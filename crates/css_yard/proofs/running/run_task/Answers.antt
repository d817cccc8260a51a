use Rattle.std.proofs.Common.{◌≡◌, List, ℕ, refl, ap₂, subst}
use Rattle.css_record.specs.declared.task_record.TaskRecord.{TaskRecord}
use Rattle.css_vm.specs.Code.{code_of}
use Rattle.css_yard.specs.Values.{Submit}
use Rattle.css_yard.specs.Kept.{CameTo}
use Rattle.css_yard.proofs.Submitted.{done_with}
use Rattle.css_yard.proofs.running.run_task.Goals as goal

pub returns-clause-done : goal.returns-clause-done
returns-clause-done c =
    let given : c.of-2.result.value.items ≡ c.args.given.now.items = rw c.of-2.ensures in
    let same = ap₂ (λ (r : TaskRecord) (gs : List (List ℕ)). let s : Submit = record { rec = r; given = gs } in s) c.of.ensures given in
    let came = subst (λ gs. CameTo (code_of c.args.code.now) c.args.limits.now.task_units c.args.tasks.now c.args.rec.now gs c.in_ok-end.end) c.as_slice.ensures.value (c.in_ok-end.ensures {u = tt}) in
    done_with (code_of c.args.code.now) c.args.limits.now c.args.tasks.now c.requires.done c.args.rec.now c.args.given.now.items c.requires.may _ same refl came
