use Rattle.std.proofs.Common.{rules}
use Rattle.css_types.proofs.RightOperands.{right_of}
use Rattle.css_types.proofs.constants.between.Goals as goal

pub binary-requires-clause-right : goal.binary-requires-clause-right
binary-requires-clause-right c = search (rules, right_of c.args.op c.args.left c.args.right c.convert-w.result c.requires c.convert-w.ensures.in_range)
