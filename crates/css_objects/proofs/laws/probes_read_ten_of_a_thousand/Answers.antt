use Rattle.css_objects.proofs.Spaced.{thousand_steps, thousand_same, thousand_nothing, thousand_crosses}
use Rattle.css_objects.proofs.laws.probes_read_ten_of_a_thousand.Goals as goal

pub returns-clause-steps : goal.returns-clause-steps
returns-clause-steps c = thousand_steps

pub returns-clause-same : goal.returns-clause-same
returns-clause-same c = thousand_same

pub returns-clause-nothing : goal.returns-clause-nothing
returns-clause-nothing c = thousand_nothing

pub returns-clause-crosses : goal.returns-clause-crosses
returns-clause-crosses c = thousand_crosses
