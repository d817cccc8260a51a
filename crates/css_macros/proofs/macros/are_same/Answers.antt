use Rattle.std.proofs.Common.{sym}
use Rattle.std.proofs.lemmas.List.{length-map}
use Rattle.css_macros.specs.MacroTokens.{plain_kinds}
use Rattle.css_macros.specs.ListedTokens.{listed_kinds}
use Rattle.css_macros.proofs.MacroTables.{same_kinds-lengths}
use Rattle.css_macros.proofs.macros.are_same.Goals as goal

pub returns-then-these-those : goal.returns-then-these-those
returns-then-these-those c =
    sym (same_kinds-lengths (listed_kinds c.args.these.now) (plain_kinds c.args.those.now)
    (λ same. c.if-these-those.true (simp length-map at same)))
