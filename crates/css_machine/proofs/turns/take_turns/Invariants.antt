use Rattle.std.proofs.Common.{◌≡◌, ◌+◌, ◌-◌, ◌≤◌, length}
use Rattle.css_isa.specs.Code.{routine}
use Rattle.css_machine.specs.Modes.{mode_as}
use Rattle.css_machine.specs.Steps.{here, HasRoom, WentInside}
use Rattle.css_machine.proofs.turns.take_turns.Given as goal

abbrev pub invariant-loop-line : goal.invariant-loop-line
invariant-loop-line g l = record {
  went : WentInside g.S.Space.reply g.S.Space.learn (routine l.function) l.base (here (mode_as l.initial.mode) l.initial.place l.initial.stack.own) l.initial.space l.initial.units
      (here (mode_as l.mode) l.place l.stack.own) l.space l.units;
  room : HasRoom (routine l.function) l.base (here (mode_as l.mode) l.place l.stack.own) (l.stack.capacity - (length l.stack.below + length l.stack.own));
  units : l.units ≤ l.initial.units;
  below : l.stack.below ≡ l.initial.stack.below;
  capacity : l.stack.capacity ≡ l.initial.stack.capacity;
  stays : g.S.Space.place l.space ≡ g.S.Space.place l.initial.space;
}

abbrev pub decreases-loop-line : goal.decreases-loop-line
decreases-loop-line g l = l.units
