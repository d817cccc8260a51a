use Rattle.std.proofs.Common.{[], ◌∷◌, refl}
use Rattle.css_vm.proofs.Checked.{spot, alone, fits_by, fits_alike}
use Rattle.css_machine_tests.proofs.machine.runs.writing.Goals as goal

pub returns : goal.returns
returns c =
    fits_alike c.main_alone.result (alone c.args.frame c.in_ok-body.body.items) c.main_alone.ensures
    (rw (c.in_ok-body.ensures.items, c.instr.ensures, c.instr-2.ensures, c.instr-3.ensures)
    (fits_by _ ((spot 0 2 ∷ spot 1 1 ∷ spot 1 0 ∷ []) ∷ []) 1 refl))
