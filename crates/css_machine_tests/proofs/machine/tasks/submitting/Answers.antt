use Rattle.std.proofs.Common.{[], ◌∷◌, Some, false, map, refl}
use Rattle.css_vm.specs.Spaces.{bytes_of}
use Rattle.css_vm.specs.Code.{routine}
use Rattle.css_vm.proofs.Checked.{spot, pair, fits_by, fits_alike}
use Rattle.css_machine_tests.proofs.machine.tasks.submitting.Goals as goal

pub returns : goal.returns
returns c =
    fits_alike c.two.result
    (pair (routine c.plain.result) (record {
      frame = 16;
      parameters = map bytes_of c.in_ok-vec.field-0.items;
      task = Some (record { high = false; arguments = c.in_ok-args.args.items });
      body = c.in_ok-body.body.items;
    }))
    c.two.ensures
    (rw (c.plain.ensures, c.in_ok-main.ensures.items, c.in_ok-body.ensures.items, c.in_ok-args.ensures.items, c.in_ok-vec.ensures.items, c.instr.ensures, c.instr-2.ensures, c.instr-3.ensures, c.instr-4.ensures, c.instr-5.ensures, c.instr-6.ensures, c.instr-7.ensures, c.instr-8.ensures, c.instr-9.ensures, c.instr-10.ensures)
    (fits_by _ ((spot 0 7 ∷ spot 0 6 ∷ spot 1 5 ∷ spot 2 4 ∷ spot 3 3 ∷ spot 4 2 ∷ spot 2 1 ∷ spot 1 0 ∷ []) ∷ (spot 0 1 ∷ spot 1 0 ∷ []) ∷ []) 1 refl))
