use Rattle.css_gen_expr.proofs.Standing.{find_their_cells}
use Rattle.css_gen_expr.proofs.laws.expressions_find_their_cells.Goals as goal

pub returns : goal.returns
returns c = find_their_cells
