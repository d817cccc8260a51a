use Rattle.css_isa.specs.Code.{code_of}
use Rattle.css_machine.specs.Events.{IsStacked}
use Rattle.css_machine.specs.Steps.{Went}
use Rattle.css_machine.proofs.rounds.run.Given as goal

abbrev pub invariant-loop-event : goal.invariant-loop-event
invariant-loop-event g l = record {
  went : Went g.S.Space.reply g.S.Space.learn (code_of l.code) l.initial.activations l.initial.space l.initial.units l.activations l.space l.units;
  stacked : IsStacked (code_of l.code) (g.S.Space.place l.space) l.activations;
}

abbrev pub decreases-loop-event : goal.decreases-loop-event
decreases-loop-event g l = l.units
