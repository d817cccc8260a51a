use Rattle.std.proofs.Common.{[], ◌∷◌, refl}
use Rattle.css_vm.proofs.Checked.{spot, alone, fits_by, fits_alike}
use Rattle.css_machine_tests.proofs.machine.runs.shuffled.Goals as goal

pub returns : goal.returns
returns c =
    fits_alike c.main_alone.result (alone 0 c.in_ok-body.body.items) c.main_alone.ensures
    (rw (c.in_ok-body.ensures.items, c.instr.ensures, c.instr-2.ensures, c.instr-3.ensures, c.instr-4.ensures, c.instr-5.ensures, c.instr-6.ensures, c.instr-7.ensures, c.instr-8.ensures, c.instr-9.ensures)
    (fits_by _ ((spot 0 8 ∷ spot 1 7 ∷ spot 2 6 ∷ spot 3 5 ∷ spot 2 4 ∷ spot 1 3 ∷ spot 2 2 ∷ spot 2 1 ∷ spot 1 0 ∷ []) ∷ []) 1 refl))
