use Rattle.css_core.proofs.Confining.{task_adds}
use Rattle.css_core.proofs.ConfinedSamples.{block_confined, inside_unconfined}
use Rattle.css_core.proofs.laws.tasks_are_confined.Goals as goal

pub returns-clause-asked : goal.returns-clause-asked
returns-clause-asked c w fuel line number p f task values tape confined e is = task_adds w p confined fuel number f task e is values line tape

pub returns-clause-some : goal.returns-clause-some
returns-clause-some c = block_confined

pub returns-clause-not_nested : goal.returns-clause-not_nested
returns-clause-not_nested c = inside_unconfined
