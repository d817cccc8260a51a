use Rattle.css_report.proofs.Lines.{a_line}
use Rattle.css_report.proofs.laws.calls_have_stats.Goals as goal

pub returns : goal.returns
returns c = a_line
