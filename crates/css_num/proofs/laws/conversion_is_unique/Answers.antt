use Rattle.std.proofs.Common.{sym, ◌∙◌, ◌^◌}
use Rattle.css_num.specs.Types.{bits_of}
use Rattle.css_num.proofs.Congruence.{congruent_in, converted-congruent}
use Rattle.css_num.proofs.Ranges.{converted-value}
use Rattle.css_num.proofs.laws.conversion_is_unique.Goals as goal

pub returns : goal.returns
returns c = λ t z v h same. sym (converted-congruent t (congruent_in (2 ^ bits_of t) v z same)) ∙ converted-value t v h
