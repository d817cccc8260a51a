use Rattle.std.proofs.Common.{arith}
use Rattle.css_isa.specs.declared.code.Op.TheVariants as ops
use Rattle.css_isa.specs.Code.{code_of}
use Rattle.css_machine.proofs.Made.{finds_before, makes_malloc}
use Rattle.css_machine.proofs.rounds.allot.Goals as goal

pub top-requires : goal.top-requires
top-requires c = omega (arith, (finds_before (code_of c.args.code.now) ops.Malloc c.args.line c.args.activations.now c.requires.fits c.requires.before).0)

pub returns : goal.returns
returns c =
    rw (c.address-size.ensures, c.advance.ensures)
    (makes_malloc (code_of c.args.code.now) c.args.line c.args.activations.now c.top.result c.top.ensures.0 c.requires.before c.top.ensures.1)
