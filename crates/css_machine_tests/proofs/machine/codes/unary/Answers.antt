use Rattle.css_vm.proofs.Checked.{alone, fits_alike, unary_fits}
use Rattle.css_machine_tests.proofs.machine.codes.unary.Goals as goal

pub returns : goal.returns
returns c =
    fits_alike c.main_alone.result (alone 0 c.in_ok-body.body.items) c.main_alone.ensures
    (rw (c.in_ok-body.ensures.items, c.instr.ensures, c.instr-2.ensures, c.instr-3.ensures)
    (unary_fits _ c.args.op c.requires.on c.requires.takes_one c.requires.gives_one))
