use Rattle.css_gen_expr.proofs.Cells.{same_address, same_bytes}
use Rattle.css_gen_expr.proofs.laws.cells_have_the_bytes_of_values.Goals as goal

pub returns-clause-bytes : goal.returns-clause-bytes
returns-clause-bytes c = same_bytes

pub returns-clause-address : goal.returns-clause-address
returns-clause-address c = same_address
