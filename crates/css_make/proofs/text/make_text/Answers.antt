use Rattle.std.proofs.Common.{ap, ◌∙◌}
use Rattle.css_make.specs.Template.{program_text}
use Rattle.css_make.proofs.text.make_text.Goals as goal

pub returns : goal.returns
returns c = ap (λ v. v.items) c.into_bytes.ensures.value ∙ (c.in_ok-text.ensures.ok ∙ ap program_text c.shape-sizes.ensures)
