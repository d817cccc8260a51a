use Rattle.std.proofs.Common.{[], map, subst}
use Rattle.css_base.specs.declared.int_type.IntType.TheVariants.{Int}
use Rattle.css_num.specs.Types.{IsInRange}
use Rattle.css_semantics.specs.Dialogue.{Plain}
use Rattle.css_core.specs.Functions.{calls}
use Rattle.css_core.specs.Typed.{signature}
use Rattle.css_core.proofs.Leaving.{Comes}
use Rattle.css_core.proofs.InRange.{no_arguments, fits_value, fits_calls, fits_source}
use Rattle.css_core.proofs.QuietTyped.{typed_is_quiet}
use Rattle.css_core.proofs.TypedSamples.{steps_typed, block_typed}
use Rattle.css_core.proofs.laws.typed_values_are_in_range.Goals as goal

pub returns-clause-values : goal.returns-clause-values
returns-clause-values c w fuel base line p e t v tape behind typed h is =
    subst (Comes (IsInRange t)) is
    (fits_value w (map signature p.functions) (calls w p.functions fuel) (fits_calls w p.functions typed.functions fuel) base Plain line [] (no_arguments Plain) e t h tape)

pub returns-clause-result : goal.returns-clause-result
returns-clause-result c w fuel p v tape typed e = subst (Comes (IsInRange Int)) e (fits_source w fuel p typed)

pub returns-clause-quiet : goal.returns-clause-quiet
returns-clause-quiet c p typed = typed_is_quiet p typed

pub returns-clause-plain : goal.returns-clause-plain
returns-clause-plain c = steps_typed

pub returns-clause-with_task : goal.returns-clause-with_task
returns-clause-with_task c = block_typed
