use Rattle.std.proofs.Common.{sym, ◌∙◌, arith}
use Rattle.css_record.specs.Windows.{window}
use Rattle.css_arguments.proofs.Live.{dead_first, dead_last, dead_gap, last_gap}
use Rattle.css_arguments.proofs.judging.is_live.Goals as goal

pub returns-then-window-lt-FIRST_GLOBAL : goal.returns-then-window-lt-FIRST_GLOBAL
returns-then-window-lt-FIRST_GLOBAL c =
    sym (dead_first c.args.layout.now c.requires.layout (window c.args.window.now) c.requires.is_window (omega arith))

pub returns-then-from-row_end : goal.returns-then-from-row_end
returns-then-from-row_end c =
    sym (dead_last c.args.layout.now c.requires.layout (window c.args.window.now) c.requires.is_window (omega (arith, c.if-from-row_end.true, c.from.ensures, c.row_end.ensures)))

pub returns-then-meets_gap : goal.returns-then-meets_gap
returns-then-meets_gap c =
    sym (dead_gap c.args.layout.now c.requires.layout (window c.args.window.now) c.requires.is_window (sym c.meets_gap.ensures ∙ c.if-meets_gap.true))

pub returns : goal.returns
returns c =
    last_gap c.args.layout.now c.requires.layout (window c.args.window.now) c.requires.is_window c.meets_gap-2.result c.meets_gap-2.ensures (omega arith)
    (omega (arith, c.if-from-row_end.false, c.from.ensures, c.row_end.ensures)) (sym c.meets_gap.ensures ∙ c.if-meets_gap.false)
