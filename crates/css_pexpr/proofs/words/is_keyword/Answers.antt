use Rattle.std.proofs.Common.{◌≡◌, refl}
use Rattle.css_tree.specs.Words.{is_keyword}
use Rattle.css_pexpr.proofs.words.is_keyword.Goals as goal

pub returns : goal.returns
unfolding is_keyword
returns c = c.is_listed.ensures
