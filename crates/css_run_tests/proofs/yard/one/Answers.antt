use Rattle.std.proofs.Common.{List, ◌∙◌, sym, subst, lit≤}
use Rattle.css_vm.specs.Code.{Code}
use Rattle.css_vm.specs.Soundness.{Spot, IsSound}
use Rattle.css_run_tests.proofs.Sound.{task_sound}
use Rattle.css_run_tests.proofs.Yards.{store_of, fresh_has, first_may, first_has}
use Rattle.css_run_tests.proofs.yard.one.Goals as goal

pub new-requires-clause-sound : goal.new-requires-clause-sound
new-requires-clause-sound c = subst (λ (code : Code). (plans : List (List Spot)) × IsSound code plans) (sym c.requires) task_sound

pub submit-requires-clause-may : goal.submit-requires-clause-may
submit-requires-clause-may c =
    let none = fresh_has c.in_ok-yard.yard (c.in_ok-yard.ensures.code ∙ c.requires) (store_of _ _ c.in_ok-yard.ensures.limits (lit≤ tt)) c.in_ok-yard.ensures.state in
    first_may c.in_ok-yard.yard c.in_ok-call.field-0 0 c.in_ok-given.field-0.items none (c.in_ok-call.ensures {u = tt}) (c.in_ok-given.ensures {u = tt})

pub returns : goal.returns
returns c =
    let none = fresh_has c.in_ok-yard.yard (c.in_ok-yard.ensures.code ∙ c.requires) (store_of _ _ c.in_ok-yard.ensures.limits (lit≤ tt)) c.in_ok-yard.ensures.state in
    first_has c.in_ok-yard.yard c.submit.new.self c.in_ok-call.field-0 0 c.in_ok-given.field-0.items none (c.in_ok-call.ensures {u = tt})
    c.submit.ensures.kept c.in_ok-submit.ensures.submitted
