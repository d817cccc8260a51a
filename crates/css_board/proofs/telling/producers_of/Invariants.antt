use Rattle.std.proofs.Common.{◌≡◌, [], drop}
use Rattle.css_board.specs.Graphs.{producers_after}
use Rattle.css_board.proofs.telling.producers_of.Given as goal

abbrev pub invariant-loop-version : goal.invariant-loop-version
invariant-loop-version l = producers_after l.producers.items (drop l.version-index l.versions) ≡ producers_after [] l.versions
