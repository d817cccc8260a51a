use Rattle.std.proofs.Common.{◌≡◌, length, refl}
use Rattle.css_tags.specs.Groups.{IsWidth}
use Rattle.css_tags.proofs.Moving.{moving_first}
use Rattle.css_tags.proofs.transfer.Transfer.get.Goals as goal

pub invariant_of-t-7 : goal.invariant_of-t-7
invariant_of-t-7 c =
    let is = rw c.in-From.is at c.requires in
    let same : length c.in-From.buffer ≡ length c.in-From.block.bytes = is.0 in
    let width : IsWidth c.in-From.width (length c.in-From.buffer) = rw same is.1 in
    record { width = width; moving = moving_first _ c.in-From.width width refl (rw same refl) refl }

pub returns-in-From-clause-moving : goal.returns-in-From-clause-moving
returns-in-From-clause-moving c =
    let is = rw c.in-From.is at c.requires in
    let same : length c.in-From.buffer ≡ length c.in-From.block.bytes = is.0 in
    let width : IsWidth c.in-From.width (length c.in-From.buffer) = rw same is.1 in
    moving_first _ c.in-From.width width refl (rw same refl) refl
