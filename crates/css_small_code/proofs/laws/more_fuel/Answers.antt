use Rattle.std.proofs.Common.{◌+◌, arith}
use Rattle.css_small_code.proofs.MoreFuel.{extends_source}
use Rattle.css_small_code.proofs.laws.more_fuel.Goals as goal

pub returns : goal.returns
returns c w fuel more p = extends_source w fuel (fuel + more) p (omega arith)
