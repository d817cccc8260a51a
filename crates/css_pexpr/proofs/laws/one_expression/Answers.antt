use Rattle.css_pexpr.proofs.Longest.{one_tree}
use Rattle.css_pexpr.proofs.TwoReadings.{part_some, part_none, part_high}
use Rattle.css_pexpr.proofs.laws.one_expression.Goals as goal

pub returns : goal.returns
returns c = one_tree
