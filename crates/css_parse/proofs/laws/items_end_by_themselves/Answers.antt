use Rattle.css_parse.proofs.Complete.{items_end}
use Rattle.css_parse.proofs.laws.items_end_by_themselves.Goals as goal

pub returns : goal.returns
returns c = items_end
