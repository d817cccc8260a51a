use Rattle.std.proofs.Common.{ap, ◌∙◌}
use Rattle.css_core.specs.Shapes.{expression}
use Rattle.css_expressions.proofs.Rows.{expression_call}
use Rattle.css_expressions.proofs.calls.call_of.Goals as goal

pub returns : goal.returns
returns c = ap expression c.in_ok-new.ensures.ok ∙ expression_call c.args.function c.args.arguments
