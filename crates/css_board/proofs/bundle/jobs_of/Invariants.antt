use Rattle.std.proofs.Common.{take}
use Rattle.css_board.specs.Drafts.{AreDrafts}
use Rattle.css_board.proofs.bundle.jobs_of.Given as goal

abbrev pub invariant-loop-number : goal.invariant-loop-number
invariant-loop-number l = AreDrafts l.history (take l.number-index l.numbers) l.jobs.items
