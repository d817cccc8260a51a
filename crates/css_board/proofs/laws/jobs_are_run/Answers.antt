use Rattle.css_board.proofs.Runs.{jobs_are_run}
use Rattle.css_board.proofs.laws.jobs_are_run.Goals as goal

pub returns : goal.returns
returns c = jobs_are_run
