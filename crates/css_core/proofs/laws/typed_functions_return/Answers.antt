use Rattle.std.proofs.Common.{map, subst, IfSome}
use Rattle.css_core.specs.Functions.{calls}
use Rattle.css_core.specs.Typed.{signature, IsTypedFunction}
use Rattle.css_core.proofs.InRange.{typed_at, fits_calls, body_left}
use Rattle.css_core.proofs.TaskValues.{task_gives_nothing}
use Rattle.css_core.proofs.laws.typed_functions_return.Goals as goal

pub returns-clause-body : goal.returns-clause-body
returns-clause-body c w fuel base number p f flow tape behind typed e gone =
    body_left w (map signature p.functions) (calls w p.functions fuel) (fits_calls w p.functions typed.functions fuel) base fuel f
    (subst (λ o. IfSome o (IsTypedFunction (map signature p.functions))) e (typed_at (map signature p.functions) p.functions typed.functions number)) tape behind flow gone

pub returns-clause-task : goal.returns-clause-task
returns-clause-task c w fuel base line number p f task values v tape behind typed e is gone = task_gives_nothing w p typed fuel number f task values base line v tape behind e is gone
