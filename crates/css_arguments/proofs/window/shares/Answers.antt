use Rattle.std.proofs.Common.{sym, ◌∙◌}
use Rattle.css_record.specs.Windows.{window}
use Rattle.css_semantics.proofs.WindowRanges.{share_is_rows, share-sym}
use Rattle.css_arguments.proofs.window.shares.Goals as goal

pub returns-then-a-b : goal.returns-then-a-b
returns-then-a-b c =
    c.rows_share_with.ensures ∙ sym (share_is_rows (window c.args.a.now) (window c.args.b.now) c.requires.first.width c.requires.second.width)

pub returns-else-a-b : goal.returns-else-a-b
returns-else-a-b c =
    c.rows_share_with-else-a-b.ensures
    ∙ sym (share_is_rows (window c.args.b.now) (window c.args.a.now) c.requires.second.width c.requires.first.width)
    ∙ share-sym (window c.args.b.now) (window c.args.a.now)
