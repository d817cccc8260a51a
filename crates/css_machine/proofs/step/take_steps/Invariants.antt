use Rattle.std.proofs.Common.{◌≡◌, ◌+◌, ◌≤◌, ℕ, length}
use Rattle.css_semantics.specs.Units.{with_units, metered, spending}
use Rattle.css_isa.specs.Code.{routine}
use Rattle.css_machine.specs.Modes.{mode_as}
use Rattle.css_machine.specs.Steps.{here, RanInside}
use Rattle.css_machine.proofs.step.take_steps.Given as goal

abbrev pub invariant-loop : goal.invariant-loop
invariant-loop g l = record {
  ran : (units : ℕ) → RanInside (metered g.S.Space.reply) (spending g.S.Space.learn) (routine l.function) l.base (here (mode_as l.initial.mode) l.initial.place l.initial.stack.own) (with_units l.initial.space units) l.counter
      (here (mode_as l.mode) l.place l.stack.own) (with_units l.space units);
  height : length l.stack.own ≤ length l.initial.stack.own + l.counter;
  below : l.stack.below ≡ l.initial.stack.below;
  capacity : l.stack.capacity ≡ l.initial.stack.capacity;
  stays : g.S.Space.place l.space ≡ g.S.Space.place l.initial.space;
}
