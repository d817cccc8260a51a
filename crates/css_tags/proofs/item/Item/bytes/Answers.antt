use Rattle.std.proofs.Common.{◌≡◌, sym, ◌∙◌, length}
use Rattle.css_tags.specs.Groups.{IsWidth}
use Rattle.css_tags.proofs.Pieces.{sum_pieces}
use Rattle.css_tags.proofs.item.Item.bytes.Goals as goal

pub returns-in-From : goal.returns-in-From
returns-in-From c =
    let is = rw c.in-From.is at c.requires in
    let same : length c.in-From.field-0 ≡ length c.in-From.block.bytes = is.0 in
    let width : IsWidth c.in-From.field-2 (length c.in-From.field-0) = rw same is.1 in
    rw (c.in-From.is, c.from.ensures, c.length.ensures.value) (sym same ∙ sym (sum_pieces (length c.in-From.field-0) c.in-From.field-2 width))
