use Rattle.css_tags.proofs.Groups.{whole_blocks, whole_copies}
use Rattle.css_tags.proofs.group.Group.whole.Goals as goal

pub returns-clause-blocks : goal.returns-clause-blocks
returns-clause-blocks c = rw (← c.self.view_is) (whole_blocks _ _ c.self.invariant.0)

pub returns-clause-copies : goal.returns-clause-copies
returns-clause-copies c = rw (← c.self.view_is) (whole_copies _ _ c.self.invariant.0)
