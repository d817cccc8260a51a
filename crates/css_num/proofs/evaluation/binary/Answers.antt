use Rattle.std.proofs.Common.{rules}
use Rattle.css_num.proofs.Values.{binary_result_in_range, division_in_range}
use Rattle.css_num.proofs.evaluation.binary.Goals as goal

pub returns-in-Mul-clause-in_range : goal.returns-in-Mul-clause-in_range
returns-in-Mul-clause-in_range c = binary_result_in_range c.args.op c.args.t c.args.a c.args.b _ (search rules) c.requires.left

pub returns-in-Add-clause-in_range : goal.returns-in-Add-clause-in_range
returns-in-Add-clause-in_range c = binary_result_in_range c.args.op c.args.t c.args.a c.args.b _ (search rules) c.requires.left

pub returns-in-Sub-clause-in_range : goal.returns-in-Sub-clause-in_range
returns-in-Sub-clause-in_range c = binary_result_in_range c.args.op c.args.t c.args.a c.args.b _ (search rules) c.requires.left

pub returns-in-Shl-clause-in_range : goal.returns-in-Shl-clause-in_range
returns-in-Shl-clause-in_range c = binary_result_in_range c.args.op c.args.t c.args.a c.args.b _ (search rules) c.requires.left

pub returns-in-Shr-clause-in_range : goal.returns-in-Shr-clause-in_range
returns-in-Shr-clause-in_range c = binary_result_in_range c.args.op c.args.t c.args.a c.args.b _ (search rules) c.requires.left

pub returns-in-And-clause-in_range : goal.returns-in-And-clause-in_range
returns-in-And-clause-in_range c = binary_result_in_range c.args.op c.args.t c.args.a c.args.b _ (search rules) c.requires.left

pub returns-in-Xor-clause-in_range : goal.returns-in-Xor-clause-in_range
returns-in-Xor-clause-in_range c = binary_result_in_range c.args.op c.args.t c.args.a c.args.b _ (search rules) c.requires.left

pub returns-in-Or-clause-in_range : goal.returns-in-Or-clause-in_range
returns-in-Or-clause-in_range c = binary_result_in_range c.args.op c.args.t c.args.a c.args.b _ (search rules) c.requires.left

pub returns-in-Div-clause-in_range : goal.returns-in-Div-clause-in_range
returns-in-Div-clause-in_range c = division_in_range c.args.op c.args.t c.args.a c.args.b _ (search rules) c.requires.left

pub returns-in-Rem-clause-in_range : goal.returns-in-Rem-clause-in_range
returns-in-Rem-clause-in_range c = division_in_range c.args.op c.args.t c.args.a c.args.b _ (search rules) c.requires.left
