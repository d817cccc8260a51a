use Rattle.std.proofs.Common.{[], ◌∷◌, refl}
use Rattle.css_isa.specs.Code.{routine}
use Rattle.css_machine_whole_tests.specs.Codes.{code_with}
use Rattle.css_machine_whole_tests.proofs.Checked.{spot, fits_by, fits_alike}
use Rattle.css_machine_whole_tests.proofs.runs.calling.Goals as goal

pub returns : goal.returns
returns c =
    fits_alike c.pair.result (code_with (routine c.in_ok-main.main ∷ routine c.in_ok-callee.callee ∷ [])) c.pair.ensures
    (rw (c.in_ok-main.ensures, c.in_ok-callee.ensures)
    (fits_by _ ((spot 0 2 ∷ spot 1 1 ∷ spot 2 0 ∷ spot 1 0 ∷ []) ∷ (spot 0 5 ∷ spot 1 4 ∷ spot 1 3 ∷ spot 2 2 ∷ spot 2 1 ∷ spot 1 0 ∷ []) ∷ []) 1 refl))
