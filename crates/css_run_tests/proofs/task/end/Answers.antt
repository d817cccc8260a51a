use Rattle.std.proofs.Common.{List, sym, subst, ◌∙◌}
use Rattle.css_vm.specs.Code.{Code}
use Rattle.css_vm.specs.Soundness.{Spot, IsSound}
use Rattle.css_record.specs.Records.{FitsCode}
use Rattle.css_task.specs.Alone.{InputsOf}
use Rattle.css_run_tests.proofs.Sound.{adding_sound}
use Rattle.css_run_tests.proofs.Calls.{fits_code, inputs_of_call}
use Rattle.css_run_tests.proofs.task.end.Goals as goal

pub run_shared-requires-clause-sound : goal.run_shared-requires-clause-sound
run_shared-requires-clause-sound c = subst (λ (code : Code). (plans : List (List Spot)) × IsSound code plans) (sym c.in_ok-code.ensures) (adding_sound _)

pub run_shared-requires-clause-fits : goal.run_shared-requires-clause-fits
run_shared-requires-clause-fits c = subst (λ (code : Code). FitsCode code c.in_ok-task.task) (sym c.in_ok-code.ensures) (fits_code _ c.in_ok-task.task _ _ (c.in_ok-task.ensures {u = tt}))

pub run_shared-requires-clause-inputs : goal.run_shared-requires-clause-inputs
run_shared-requires-clause-inputs c =
    let given = c.in_ok-inputs.ensures {u = tt} in
    subst (λ (code : Code). InputsOf code c.in_ok-task.task c.deref.result.now) (sym c.in_ok-code.ensures)
    (inputs_of_call _ c.in_ok-task.task _ _ (c.in_ok-task.ensures {u = tt}) c.deref.result.now given.0 (c.deref.ensures.value ∙ given.1) given.2)
