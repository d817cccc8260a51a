use Rattle.std.proofs.Common.{refl}
use Rattle.std.proofs.lemmas.List.Elements.{Contains-append_left}
use Rattle.css_yard.proofs.Later.{ends_later}
use Rattle.css_yard.proofs.Before.{ends_before}
use Rattle.css_yard.proofs.laws.later_submits_change_no_end.Goals as goal
use Rattle.std.proofs.Common.{◌++◌}

pub returns : goal.returns
returns c = record {
  kept = λ code units submits more number end ends. ends_later code units submits (submits ++ more) (λ s has. Contains-append_left submits more s has) ends;
  none_new = λ code limits units submits more s end are has ends. ends_before code limits units submits more are ends s has refl;
}
