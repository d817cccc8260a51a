use Rattle.css_erased_text.proofs.Counting.{erased_newlines}
use Rattle.css_erased_text.proofs.laws.erasing_keeps_newlines.Goals as goal

pub returns : goal.returns
returns c = erased_newlines
