use Rattle.std.proofs.Common.{◌≡◌, ℕ}
use Rattle.css_semantics.specs.Units.{with_units, metered, spending}
use Rattle.css_vm.specs.Code.{routine}
use Rattle.css_vm.specs.Steps.{RanInside}
use Rattle.css_vm.proofs.step.take_steps.Given as goal

abbrev pub invariant-loop : goal.invariant-loop
invariant-loop g l = record {
  ran : (units : ℕ) → RanInside (metered g.S.Space.reply) (spending g.S.Space.learn) (routine l.function) l.base l.initial.place l.initial.stack.own (with_units l.initial.space units) l.counter l.place l.stack.own (with_units l.space units);
  kept : l.stack.below ≡ l.initial.stack.below;
  place : g.S.Space.place l.space ≡ g.S.Space.place l.initial.space;
}
