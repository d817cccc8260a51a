use Rattle.css_small_code.proofs.EnoughJudged.{judged_never_tired}
use Rattle.css_small_code.proofs.laws.enough_fuel_judged.Goals as goal

pub returns : goal.returns
returns c limits start p tape numbers = judged_never_tired limits start p numbers tape
