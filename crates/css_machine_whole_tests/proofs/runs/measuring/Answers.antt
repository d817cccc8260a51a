use Rattle.std.proofs.Common.{[], ◌∷◌, refl}
use Rattle.css_semantics.specs.Dialogue.{Measuring}
use Rattle.css_isa.specs.Code.{routine}
use Rattle.css_machine_whole_tests.specs.Codes.{code_with}
use Rattle.css_machine_whole_tests.proofs.Checked.{spot, spot_in, fits_by, fits_alike}
use Rattle.css_machine_whole_tests.proofs.runs.measuring.Goals as goal

pub returns : goal.returns
returns c =
    fits_alike c.alone.result (code_with (routine c.in_ok-main.main ∷ [])) c.alone.ensures
    (rw c.in_ok-main.ensures
    (fits_by _ ((spot 0 5 ∷ spot_in (Measuring []) 0 4 ∷ spot_in (Measuring []) 1 3 ∷ spot_in (Measuring []) 2 2 ∷ spot_in (Measuring []) 1 1 ∷ spot 1 0 ∷ []) ∷ []) 1 refl))
