use Rattle.std.proofs.Common.{◌≡◌, drop}
use Rattle.css_macros.specs.Macros.{same_kinds}
use Rattle.css_macros.specs.MacroTokens.{plain_kinds}
use Rattle.css_macros.specs.ListedTokens.{listed_kinds}
use Rattle.css_macros.proofs.macros.are_same.Given as goal

abbrev pub invariant-loop-index : goal.invariant-loop-index
invariant-loop-index l = same_kinds (listed_kinds l.these) (plain_kinds l.those) ≡ same_kinds (listed_kinds (drop l.index l.these)) (plain_kinds (drop l.index l.those))
