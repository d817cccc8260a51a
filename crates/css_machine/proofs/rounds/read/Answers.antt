use Rattle.css_isa.specs.Code.{code_of}
use Rattle.css_machine.proofs.Made.{makes_in}
use Rattle.css_machine.proofs.rounds.read.Goals as goal

pub returns : goal.returns
returns c =
    rw (c.advance.ensures, c.in_ok-push.ensures)
    (makes_in (code_of c.args.code.now) c.args.line c.args.activations.now c.requires.before)
