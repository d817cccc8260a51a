use Rattle.css_history.proofs.Values.{are_submitted, ends_are_own, values_are_own}
use Rattle.css_history.proofs.laws.values_are_tasks_own.Goals as goal

pub returns : goal.returns
returns c = λ b. record {
  submitted = are_submitted b;
  ends = ends_are_own b;
  values = values_are_own b;
}
