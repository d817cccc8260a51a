use Rattle.css_small_code.proofs.EnoughFuel.{never_tired}
use Rattle.css_small_code.proofs.laws.enough_fuel.Goals as goal

pub returns : goal.returns
returns c start units p tape numbers = never_tired start units p numbers tape
