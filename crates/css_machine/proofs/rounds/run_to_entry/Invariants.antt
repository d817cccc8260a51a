use Rattle.std.proofs.Common.{◌≤◌}
use Rattle.css_isa.specs.Code.{code_of}
use Rattle.css_machine.specs.Events.{IsStacked}
use Rattle.css_machine.specs.States.{depth}
use Rattle.css_machine.specs.Steps.{Went}
use Rattle.css_machine.proofs.rounds.run_to_entry.Given as goal

abbrev pub invariant-loop-round : goal.invariant-loop-round
invariant-loop-round g l = record {
  went : Went g.S.Space.reply g.S.Space.learn (code_of l.code) l.initial.activations l.initial.space l.initial.units l.activations l.space l.units;
  stacked : IsStacked (code_of l.code) (g.S.Space.place l.space) l.activations;
  units : l.units ≤ l.initial.units;
}

abbrev pub decreases-loop-round : goal.decreases-loop-round
decreases-loop-round g l = depth l.activations
