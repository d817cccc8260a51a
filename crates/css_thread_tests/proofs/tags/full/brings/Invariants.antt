use Rattle.std.proofs.Common.{All}
use Rattle.css_tags.specs.Groups.{IsItem}
use Rattle.css_thread_tests.proofs.tags.full.brings.Given as goal

abbrev pub invariant-loop-number : goal.invariant-loop-number
invariant-loop-number l = All IsItem l.items.items
