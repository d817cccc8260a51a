use Rattle.std.proofs.Common.{◌≤◌, ◌+◌, length}
use Rattle.css_tags.proofs.Transfers.{still_copied}
use Rattle.css_tags.proofs.transfer.copy_over.Goals as goal

pub returns-in-Nothing : goal.returns-in-Nothing
returns-in-Nothing c =
    let within : c.args.piece.start + c.args.piece.length ≤ length c.args.block.now.bytes =
    rw c.in-Nothing.is at c.requires.inside in
    rw c.in-Nothing.is (still_copied c.args.block.now c.args.piece within)
