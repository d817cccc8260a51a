use Rattle.std.proofs.Common.{[], ◌∷◌, refl}
use Rattle.css_isa.specs.Code.{routine}
use Rattle.css_machine_whole_tests.specs.Codes.{code_with}
use Rattle.css_machine_whole_tests.proofs.Checked.{spot, fits_by, fits_alike}
use Rattle.css_machine_whole_tests.proofs.runs.dividing.Goals as goal

pub returns : goal.returns
returns c =
    fits_alike c.alone.result (code_with (routine c.in_ok-main.main ∷ [])) c.alone.ensures
    (rw c.in_ok-main.ensures
    (fits_by _ ((spot 0 3 ∷ spot 1 2 ∷ spot 2 1 ∷ spot 1 0 ∷ []) ∷ []) 1 refl))
