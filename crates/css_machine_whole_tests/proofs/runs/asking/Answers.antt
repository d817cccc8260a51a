use Rattle.std.proofs.Common.{[], ◌∷◌, refl}
use Rattle.css_semantics.specs.Dialogue.{Waiting, Measuring}
use Rattle.css_isa.specs.Code.{routine}
use Rattle.css_machine_whole_tests.specs.Codes.{code_with}
use Rattle.css_machine_whole_tests.proofs.Checked.{spot, spot_in, fits_by, fits_alike}
use Rattle.css_machine_whole_tests.proofs.runs.asking.Goals as goal

pub returns : goal.returns
returns c =
    fits_alike c.pair.result (code_with (routine c.in_ok-main.main ∷ routine c.in_ok-task.task ∷ [])) c.pair.ensures
    (rw (c.in_ok-main.ensures, c.in_ok-task.ensures)
    (fits_by _ ((spot 0 20 ∷ spot 0 19 ∷ spot 1 18 ∷ spot 0 17 ∷ spot 1 16 ∷ spot 1 15 ∷ spot 0 14 ∷ spot 1 13 ∷ spot 2 12 ∷ spot_in (Measuring []) 2 11 ∷ spot_in (Measuring []) 3 10 ∷ spot 3 9 ∷ spot 1 8 ∷ spot 0 7 ∷ spot_in Waiting 0 6 ∷ spot_in Waiting 1 5 ∷ spot 1 4 ∷ spot 0 3 ∷ spot 0 2 ∷ spot 0 1 ∷ spot 1 0 ∷ []) ∷ (spot 0 1 ∷ spot 1 0 ∷ []) ∷ []) 1 refl))
