use Rattle.std.proofs.Common.{refl, ap, ◌∙◌, length}
use Rattle.std.proofs.lemmas.List.{length-replicate}
use Rattle.css_tags.proofs.Moving.{moving_first}
use Rattle.css_tags.proofs.transfer.Transfer.put.Goals as goal

pub invariant_of-result : goal.invariant_of-result
invariant_of-result c = record {
  width = c.requires.width;
  moving = moving_first _ _ c.requires.width refl (ap length c.requires.zeros ∙ length-replicate _ 0) refl;
}

pub returns-clause-moving : goal.returns-clause-moving
returns-clause-moving c =
    moving_first _ _ c.requires.width refl (ap length c.requires.zeros ∙ length-replicate _ 0) refl
