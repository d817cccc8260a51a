use Rattle.std.proofs.Common.{All}
use Rattle.css_tags.specs.Groups.{IsPutItem}
use Rattle.css_thread_tests.proofs.tags.full.puts.Given as goal

abbrev pub invariant-loop-number : goal.invariant-loop-number
invariant-loop-number l = All IsPutItem l.blocks.items
