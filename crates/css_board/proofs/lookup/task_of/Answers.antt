use Rattle.css_board.proofs.Jobs.{has_submit, is_submit_at, are_there_at}
use Rattle.css_board.proofs.lookup.task_of.Goals as goal

pub unreachable-requires : goal.unreachable-requires
unreachable-requires c = has_submit c.args.first c.args.history.now c.args.cells.now c.args.number c.cell_at-cell.result c.requires.kept c.requires.place c.cell_at-cell.ensures c.in-None.ensures.none

pub returns-clause-submit : goal.returns-clause-submit
returns-clause-submit c = is_submit_at c.args.first c.args.history.now c.args.cells.now c.args.number c.cell_at-cell.result c.requires.kept c.requires.place c.cell_at-cell.ensures _ _ c.in-Some.ensures.some

pub returns-clause-there : goal.returns-clause-there
returns-clause-there c = are_there_at c.args.first c.args.history.now c.args.cells.now c.args.number c.cell_at-cell.result c.requires.kept c.requires.place c.cell_at-cell.ensures _ _ c.in-Some.ensures.some
