use Rattle.std.proofs.Common.{[], All, take}
use Rattle.css_history.specs.Rules.{IsReady}
use Rattle.css_board.proofs.ends.are_ready.Given as goal

abbrev pub invariant-loop-version : goal.invariant-loop-version
invariant-loop-version l = All (IsReady l.history []) (take l.version-index l.versions)
