use Rattle.std.proofs.Common.{List, sym, subst, ◌∙◌}
use Rattle.css_vm.specs.Code.{Code}
use Rattle.css_vm.specs.Soundness.{Spot, IsSound}
use Rattle.css_run_tests.proofs.Sound.{task_sound}
use Rattle.css_main_side.specs.Plain.{HasPlainTasks}
use Rattle.css_run_tests.proofs.PlainTask.{task_plain}
use Rattle.css_run_tests.proofs.main_side.ran.Goals as goal

pub new-requires-clause-sound : goal.new-requires-clause-sound
new-requires-clause-sound c = subst (λ (code : Code). (plans : List (List Spot)) × IsSound code plans) (sym c.requires) task_sound

pub play-requires-clause-sound : goal.play-requires-clause-sound
play-requires-clause-sound c = subst (λ (code : Code). (plans : List (List Spot)) × IsSound code plans) (sym c.requires) task_sound

pub play-requires-clause-plain : goal.play-requires-clause-plain
play-requires-clause-plain c = subst HasPlainTasks (sym c.requires) task_plain
