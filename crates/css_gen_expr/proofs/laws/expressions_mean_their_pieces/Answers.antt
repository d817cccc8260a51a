use Rattle.css_gen_expr.proofs.Conditions.{all_mean}
use Rattle.css_gen_expr.proofs.laws.expressions_mean_their_pieces.Goals as goal

pub returns : goal.returns
returns c = all_mean
