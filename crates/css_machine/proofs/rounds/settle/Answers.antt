use Rattle.css_isa.specs.Code.{code_of}
use Rattle.css_machine.proofs.Runs.{comes_made}
use Rattle.css_machine.proofs.rounds.settle.Goals as goal

pub returns-in_ok-event-in_default : goal.returns-in_ok-event-in_default
returns-in_ok-event-in_default g c =
    comes_made g.S.Space.reply g.S.Space.learn (code_of c.args.code.now) g.S.Space.place c.args.activations.now c.args.space.now c.args.units.now c.in_ok-event-in_default.event c.make_event.new.activations c.in_ok-event-in_default.ensures c.requires.stacked
