use Rattle.css_blocks.proofs.Parts.{row_is, is_sized}
use Rattle.css_blocks.proofs.build.row.Goals as goal

pub returns-clause-sized : goal.returns-clause-sized
returns-clause-sized c = is_sized c.args.parts c.requires

pub returns-clause-makes : goal.returns-clause-makes
returns-clause-makes c = row_is c.args.parts
