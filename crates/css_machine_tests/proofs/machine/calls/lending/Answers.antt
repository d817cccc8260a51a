use Rattle.std.proofs.Common.{[], ◌∷◌, refl}
use Rattle.css_vm.specs.Code.{routine}
use Rattle.css_vm.proofs.Checked.{spot, pair, fits_by, fits_alike}
use Rattle.css_machine_tests.proofs.machine.calls.lending.Goals as goal

pub returns : goal.returns
returns c =
    fits_alike c.two.result (pair (routine c.plain.result) (routine c.function.result)) c.two.ensures
    (rw (c.plain.ensures, c.function.ensures, c.in_ok-main.ensures.items, c.in_ok-callee.ensures.items, c.in_ok-params.ensures.items, c.instr.ensures, c.instr-2.ensures, c.instr-3.ensures, c.instr-4.ensures, c.instr-5.ensures, c.instr-6.ensures, c.instr-7.ensures, c.instr-8.ensures, c.instr-9.ensures, c.instr-10.ensures, c.instr-11.ensures, c.instr-12.ensures, c.instr-13.ensures)
    (fits_by _ ((spot 0 7 ∷ spot 1 6 ∷ spot 2 5 ∷ spot 1 4 ∷ spot 0 3 ∷ spot 1 2 ∷ spot 2 1 ∷ spot 1 0 ∷ spot 1 0 ∷ []) ∷ (spot 0 3 ∷ spot 1 2 ∷ spot 1 1 ∷ spot 1 0 ∷ []) ∷ []) 1 refl))
