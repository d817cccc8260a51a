use Rattle.std.proofs.Common.{◌≡◌, ◌↔◌, ◌≤◌, ◌-◌, ◌∙◌, IsTrue, ap, subst, arith}
use Rattle.std.proofs.lemmas.Bool.{false≢true}
use Rattle.css_tree.specs.Shapes.{expression, listed}
use Rattle.css_tree.specs.Heights.{height_of_arguments}
use Rattle.css_parse.proofs.Levels.{some_height, low_call}
use Rattle.css_parse.proofs.AsLists.{expression-Call}
use Rattle.css_parse.proofs.low.+low.Goals as goal

pub is_low-returns-then-most-eq0 : goal.is_low-returns-then-most-eq0
is_low-returns-then-most-eq0 t c = (λ e. absurd (false≢true e), λ low. absurd (let some = some_height (expression c.args.e.now) in omega arith))

pub is_low-returns-in-Call : goal.is_low-returns-in-Call
is_low-returns-in-Call t c =
    low_call c.all_low.result (expression c.args.e.now) c.in-Call.line c.in-Call.name (listed c.in-Call.arguments.items) c.args.most
    (ap expression c.in-Call.is ∙ expression-Call c.in-Call.line c.in-Call.name c.in-Call.arguments) (omega arith)
    (subst (λ l. IsTrue c.all_low.result ↔ (height_of_arguments (listed l) ≤ c.args.most - 1)) c.as_slice.ensures.value c.all_low.ensures)
