use Rattle.css_erased_text.proofs.OtherTokens.{others_spelled}
use Rattle.css_erased_text.proofs.laws.erasing_takes_directives_alone.Goals as goal

pub returns : goal.returns
returns c = others_spelled
