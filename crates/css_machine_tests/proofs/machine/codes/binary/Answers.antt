use Rattle.css_vm.proofs.Checked.{alone, fits_alike, binary_fits}
use Rattle.css_machine_tests.proofs.machine.codes.binary.Goals as goal

pub returns : goal.returns
returns c =
    fits_alike c.main_alone.result (alone 0 c.in_ok-body.body.items) c.main_alone.ensures
    (rw (c.in_ok-body.ensures.items, c.instr.ensures, c.instr-2.ensures, c.instr-3.ensures, c.instr-4.ensures)
    (binary_fits _ _ c.args.op c.requires.on c.requires.two c.requires.one))
