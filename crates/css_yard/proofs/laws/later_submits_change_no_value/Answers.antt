use Rattle.std.proofs.Common.{◌++◌, refl}
use Rattle.std.proofs.lemmas.List.Elements.{Contains-append_left}
use Rattle.css_yard.proofs.Later.{value_later}
use Rattle.css_yard.proofs.Before.{value_before}
use Rattle.css_yard.proofs.laws.later_submits_change_no_value.Goals as goal

pub returns : goal.returns
returns c = record {
  kept = λ code units submits more given version bytes value. value_later code units submits (submits ++ more) (λ s has. Contains-append_left submits more s has) value;
  none_new = λ code limits units submits more s given out bytes are has value. value_before code limits units submits more are value (s, has, refl);
}
