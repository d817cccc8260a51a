use Rattle.css_listing.proofs.Texts as texts
use Rattle.css_listing.proofs.laws.one_code.Goals as goal

pub returns : goal.returns
returns c = texts.one_code
