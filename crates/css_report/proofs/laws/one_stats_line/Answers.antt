use Rattle.css_report.proofs.Lines.{one_line}
use Rattle.css_report.proofs.laws.one_stats_line.Goals as goal

pub returns : goal.returns
returns c = one_line
