use Rattle.std.proofs.Common.{inl, inr, sym, arith}
use Rattle.css_record.specs.Windows.{window}
use Rattle.css_semantics.proofs.WindowRanges.{none_below}
use Rattle.css_arguments.proofs.EnoughRows.{reach}
use Rattle.css_arguments.proofs.window.meets.Goals as goal
use Rattle.css_arguments.proofs.window.meets.Goals.{then-behind-from, else-behind-from}

pub returns-then-to-base : goal.returns-then-to-base
returns-then-to-base c = sym (none_below (window c.args.window.now) c.args.from c.args.to (omega arith))

pub returns : goal.returns
returns c =
    rw c.row_end.ensures
    (reach (window c.args.window.now) c.args.from c.args.to c.from-base.result c.from.result c.if-behind-from.row c.from-base.ensures c.from.ensures c.requires.is_window c.requires.some (omega arith)
    (elim c.if-behind-from.branch [
      | then-behind-from w ↦ inl (w.row-is, omega arith)
      | else-behind-from w ↦ inr (omega arith, omega arith)
    ]))
