use Rattle.std.proofs.Common.{◌≡◌, false}
use Rattle.css_thread_tests.proofs.seen.turns.take_turns.Given as goal

abbrev pub invariant-loop : goal.invariant-loop
invariant-loop g l = record {
  lock : l.pass.lock ≡ l.lock;
  outside : l.pass.inside ≡ false;
  number : l.pass.number ≡ l.me;
}
