use Rattle.std.proofs.Common.{arith}
use Rattle.css_record.specs.Windows.{window}
use Rattle.css_task.proofs.Rows.{below_base, in_window, no_row, over_end}
use Rattle.css_task.proofs.placed.Placed.offset.Goals as goal
use Rattle.css_task.proofs.placed.Placed.offset.Goals.{else-row-window-via-then-row-window+else-column-count, else-row-window-via-else-row-window}

pub returns-then-address-window-clause-has : goal.returns-then-address-window-clause-has
returns-then-address-window-clause-has c =
    below_base (window c.args.self.now.window) c.requires.window c.args.address c.args.count c.requires.some (omega arith)

pub returns-then-column-count-clause-has : goal.returns-then-column-count-clause-has
returns-then-column-count-clause-has c =
    in_window (window c.args.self.now.window) c.requires.window c.args.address c.args.count c.requires.some (omega arith) (omega arith) (omega arith)

pub returns-else-row-window-clause-has : goal.returns-else-row-window-clause-has
returns-else-row-window-clause-has c = elim c.else-row-window.branch [
  | else-row-window-via-then-row-window+else-column-count w ↦
      over_end (window c.args.self.now.window) c.requires.window c.args.address c.args.count c.requires.some (omega arith) (omega arith)
  | else-row-window-via-else-row-window w ↦
      no_row (window c.args.self.now.window) c.requires.window c.args.address c.args.count c.requires.some (omega arith) (omega arith)
]
