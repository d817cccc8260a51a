use Rattle.std.proofs.Common.{rules}
use Rattle.css_num.proofs.Values.{unary_result_in_range}
use Rattle.css_num.proofs.evaluation.unary.Goals as goal

pub returns-in-Minus-clause-in_range : goal.returns-in-Minus-clause-in_range
returns-in-Minus-clause-in_range c = unary_result_in_range c.args.op c.args.t c.args.v _ (search rules) c.requires

pub returns-in-Complement-clause-in_range : goal.returns-in-Complement-clause-in_range
returns-in-Complement-clause-in_range c = unary_result_in_range c.args.op c.args.t c.args.v _ (search rules) c.requires
