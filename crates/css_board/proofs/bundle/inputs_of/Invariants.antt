use Rattle.std.proofs.Common.{take}
use Rattle.css_board.specs.Drafts.{AreInputDrafts}
use Rattle.css_board.proofs.bundle.inputs_of.Given as goal

abbrev pub invariant-loop-version : goal.invariant-loop-version
invariant-loop-version l = AreInputDrafts l.history l.given (take l.version-index l.versions) l.inputs.items
