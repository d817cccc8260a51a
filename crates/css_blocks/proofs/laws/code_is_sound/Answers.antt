use Rattle.std.proofs.Common.{map}
use Rattle.css_blocks.specs.Layout.{code_of}
use Rattle.css_blocks.proofs.Plans.{plan_of}
use Rattle.css_blocks.proofs.Whole.{whole_sound}
use Rattle.css_blocks.proofs.laws.code_is_sound.Goals as goal

pub returns : goal.returns
returns c = λ p whole. (map (plan_of (code_of p)) p.functions, whole_sound p whole)
