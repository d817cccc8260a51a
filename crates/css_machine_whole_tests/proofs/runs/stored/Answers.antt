use Rattle.std.proofs.Common.{[], ◌∷◌, refl}
use Rattle.css_isa.specs.Code.{routine}
use Rattle.css_machine_whole_tests.specs.Codes.{code_with}
use Rattle.css_machine_whole_tests.proofs.Checked.{spot, fits_by, fits_alike}
use Rattle.css_machine_whole_tests.proofs.runs.stored.Goals as goal

pub returns : goal.returns
returns c =
    fits_alike c.alone.result (code_with (routine c.in_ok-main.main ∷ [])) c.alone.ensures
    (rw c.in_ok-main.ensures
    (fits_by _ ((spot 0 6 ∷ spot 1 5 ∷ spot 2 4 ∷ spot 1 3 ∷ spot 0 2 ∷ spot 1 1 ∷ spot 1 0 ∷ []) ∷ []) 1 (rw (c.requires.stores, c.requires.loads) refl)))
