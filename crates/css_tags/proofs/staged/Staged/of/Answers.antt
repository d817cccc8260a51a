use Rattle.std.proofs.Common.{refl, ◌∙◌}
use Rattle.css_tags.proofs.staged.Staged.of.Goals as goal

pub returns : goal.returns
returns c =
    let blocks = c.into_parts-blocks.ensures.blocks ∙ c.whole.ensures.blocks c.requires in
    let copies = c.into_parts-blocks.ensures.copies ∙ c.whole.ensures.copies c.requires in
    rw (c.is_put-put.ensures, blocks, copies) refl
