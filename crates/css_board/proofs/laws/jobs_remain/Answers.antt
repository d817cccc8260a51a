use Rattle.css_board.proofs.Runs.{jobs_remain}
use Rattle.css_board.proofs.laws.jobs_remain.Goals as goal

pub returns : goal.returns
returns c = jobs_remain
