use Rattle.std.proofs.Common.{refl}
use Rattle.css_arguments.proofs.Layouts.{ordered, laid_out}
use Rattle.css_arguments.proofs.laws.layouts_are_of_memories.Goals as goal

pub returns-clause-bytes : goal.returns-clause-bytes
returns-clause-bytes c = λ m address. refl

pub returns-clause-windows : goal.returns-clause-windows
returns-clause-windows c = λ m w. refl

pub returns-clause-order : goal.returns-clause-order
returns-clause-order c = ordered

pub returns-clause-laid_out : goal.returns-clause-laid_out
returns-clause-laid_out c = laid_out
