use Rattle.std.proofs.Common.{List, ◌∙◌, sym, subst, lit≤}
use Rattle.css_vm.specs.Code.{Code}
use Rattle.css_vm.specs.Soundness.{Spot, IsSound}
use Rattle.css_run_tests.proofs.Sound.{task_sound}
use Rattle.css_run_tests.proofs.Yards.{store_of, fresh_has, first_may, first_has, only_made, settled_has}
use Rattle.css_run_tests.proofs.yard.last_made.Goals as goal

pub new-requires-clause-sound : goal.new-requires-clause-sound
new-requires-clause-sound c = subst (λ (code : Code). (plans : List (List Spot)) × IsSound code plans) (sym c.requires) task_sound

pub loop-task-init : goal.loop-task-init
loop-task-init c = fresh_has c.in_ok-yard.yard (c.in_ok-yard.ensures.code ∙ c.requires) (store_of _ _ c.in_ok-yard.ensures.limits (lit≤ tt)) c.in_ok-yard.ensures.state

pub submit-requires-clause-may : goal.submit-requires-clause-may
submit-requires-clause-may c =
    first_may c.loop-task.yard c.in_ok-call.field-0 c.loop-task.task c.in_ok-given.field-0.items c.loop-task.invariant (c.in_ok-call.ensures {u = tt}) (c.in_ok-given.ensures {u = tt})

pub settle-requires-clause-may : goal.settle-requires-clause-may
settle-requires-clause-may c =
    only_made c.submit.new.self c.loop-task.task
    (first_has c.loop-task.yard c.submit.new.self c.in_ok-call.field-0 c.loop-task.task c.in_ok-given.field-0.items c.loop-task.invariant (c.in_ok-call.ensures {u = tt})
    c.submit.ensures.kept c.in_ok-submit.ensures.submitted)

pub loop-task-preserved : goal.loop-task-preserved
loop-task-preserved c =
    settled_has c.submit.new.self c.settle.new.self c.loop-task.task
    (first_has c.loop-task.yard c.submit.new.self c.in_ok-call.field-0 c.loop-task.task c.in_ok-given.field-0.items c.loop-task.invariant (c.in_ok-call.ensures {u = tt})
    c.submit.ensures.kept c.in_ok-submit.ensures.submitted)
    c.settle.ensures.kept c.in_ok-values.ensures.settled
