use Rattle.std.proofs.Common.{ap, ◌∙◌}
use Rattle.css_core.specs.Shapes.{expression}
use Rattle.css_expressions.proofs.Rows.{expression_print}
use Rattle.css_expressions.proofs.formats.printed.Goals as goal

pub returns : goal.returns
returns c = ap expression c.in_ok-new.ensures.ok ∙ expression_print c.args.format c.args.arguments
