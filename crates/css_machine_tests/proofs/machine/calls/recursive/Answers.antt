use Rattle.std.proofs.Common.{[], ◌∷◌, refl}
use Rattle.css_vm.specs.Code.{routine}
use Rattle.css_vm.proofs.Checked.{spot, pair, fits_by, fits_alike}
use Rattle.css_machine_tests.proofs.machine.calls.recursive.Goals as goal

pub returns : goal.returns
returns c =
    fits_alike c.two.result (pair (routine c.plain.result) (routine c.plain-2.result)) c.two.ensures
    (rw (c.plain.ensures, c.plain-2.ensures, c.in_ok-main.ensures.items, c.in_ok-callee.ensures.items, c.instr.ensures, c.instr-2.ensures, c.instr-3.ensures, c.instr-4.ensures)
    (fits_by _ ((spot 0 0 ∷ spot 1 0 ∷ []) ∷ (spot 0 0 ∷ spot 1 0 ∷ []) ∷ []) 1 refl))
