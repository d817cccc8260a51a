use Rattle.std.proofs.Common.{refl, arith}
use Rattle.css_judged.proofs.laws.main_begins.Goals as goal

pub returns : goal.returns
returns c = λ limits start. record { by_main = refl; memory = refl; objects = refl; units = omega arith }
