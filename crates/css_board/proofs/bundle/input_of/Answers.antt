use Rattle.css_board.proofs.Jobs.{not_found}
use Rattle.css_board.proofs.bundle.input_of.Goals as goal

pub returns-in-None : goal.returns-in-None
returns-in-None c = not_found c.args.history.now c.args.given.now c.args.version c.in-Made.task c.in-Made.out c.in-Made.is c.in-None.ensures.none
