use Rattle.css_gen_expr.proofs.Inner.{are_inner_codes}
use Rattle.css_gen_expr.proofs.laws.inner_expressions_make_no_events.Goals as goal

pub returns : goal.returns
returns c = are_inner_codes
