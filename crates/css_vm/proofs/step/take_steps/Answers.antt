use Rattle.std.proofs.Common.{◌≤◌, length, ◌∙◌, arith}
use Rattle.css_semantics.specs.Units.{with_units, metered, spending}
use Rattle.css_vm.specs.Code.{routine}
use Rattle.css_vm.proofs.Steps.{ran_then, ran_placed, steps_within, ran_pauses}
use Rattle.css_vm.proofs.step.take_steps.Goals as goal

pub take_step-requires : goal.take_step-requires
take_step-requires g c =
    let m = with_units c.args.space.now 0 in
    ran_placed (metered g.S.Space.reply) (spending g.S.Space.learn) (routine c.args.function.now) c.args.base c.args.place.now c.args.stack.now.own m (c.loop.invariant.ran 0) c.requires

pub returns-in-Some-clause-pauses : goal.returns-in-Some-clause-pauses
returns-in-Some-clause-pauses g c = λ units.
    let paused = rw c.in-Some.is at c.in_ok-pause.ensures.steps in
    let m = with_units c.args.space.now units in
    ran_pauses (metered g.S.Space.reply) (spending g.S.Space.learn) (routine c.args.function.now) c.args.base c.args.place.now c.args.stack.now.own m (c.loop.invariant.ran units) c.in-Some.pause c.take_step.new.place c.take_step.new.stack.own (with_units c.take_step.new.space units) (paused units)

pub loop-preserved : goal.loop-preserved
loop-preserved g c =
    let on = rw c.in_default.is at c.in_ok-pause.ensures.steps in
    record {
      ran = λ units. ran_then (metered g.S.Space.reply) (spending g.S.Space.learn) (routine c.args.function.now) c.args.base c.args.place.now c.args.stack.now.own (with_units c.args.space.now units) (c.loop.invariant.ran units) (on units);
      kept = c.in_ok-pause.ensures.kept ∙ c.loop.invariant.kept;
      place = c.in_ok-pause.ensures.place ∙ c.loop.invariant.place;
    }

-- a vector has fewer elements than the loop has turns
pub unreachable-requires : goal.unreachable-requires
unreachable-requires g c =
    let few : c.loop.counter ≤ length c.args.function.now.body.items = steps_within (metered g.S.Space.reply) (spending g.S.Space.learn) (routine c.args.function.now) c.args.base c.args.place.now c.args.stack.now.own (with_units c.args.space.now 0) (c.loop.invariant.ran 0) c.requires in
    omega arith
