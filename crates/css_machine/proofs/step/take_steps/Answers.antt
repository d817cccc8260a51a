use Rattle.std.proofs.Common.{◌≡◌, ◌+◌, ◌-◌, ◌≤◌, length, Some, slice_get, refl, ap, sym, ◌∙◌, subst, arith}
use Rattle.std.proofs.lemmas.Option.{slice_get_within, same_Some}
use Rattle.css_semantics.specs.Units.{with_units, metered, spending}
use Rattle.css_isa.specs.declared.code.Instr.{Instr}
use Rattle.css_isa.specs.Code.{routine}
use Rattle.css_isa.specs.Roles.{role_of}
use Rattle.css_machine.specs.Modes.{mode_as}
use Rattle.css_machine.specs.Steps.{cells_inside, room_inside, here}
use Rattle.css_machine.proofs.Inside.{ran_step, stops_step, steps_place}
use Rattle.css_machine.proofs.Rows.{ran_none, ran_then, ran_stops, still_room, finds_inside, steps_within}
use Rattle.css_machine.proofs.step.take_steps.Goals as goal

pub loop-init : goal.loop-init
loop-init g c = record {
  ran = λ units. ran_none (metered g.S.Space.reply) (spending g.S.Space.learn) (routine c.args.function.now) c.args.base (here (mode_as c.args.mode.now) c.args.place.now c.args.stack.now.own) (with_units c.args.space.now units);
  height = omega arith;
  below = refl;
  capacity = refl;
  stays = refl;
}

pub instr_in-requires : goal.instr_in-requires
instr_in-requires g c =
    let f = routine c.args.function.now in
    let old = here (mode_as c.args.mode.now) c.args.place.now c.args.stack.now.own in
    let mid = here (mode_as c.loop.mode) c.loop.place c.loop.stack.own in
    let has = still_room (metered g.S.Space.reply) (spending g.S.Space.learn) f c.args.base old (with_units c.args.space.now 0) c.loop.counter mid (with_units c.loop.space 0) (c.loop.invariant.ran 0) c.args.stack.now.capacity c.loop.stack.capacity c.args.stack.now.below c.loop.stack.below c.requires c.loop.invariant.capacity c.loop.invariant.below c.loop.invariant.height in
    let found = finds_inside f c.args.base mid _ has in
    rw c.as_slice-body.ensures (slice_get_within f.body c.loop.place found.0 found.1)

pub step-requires-clause-finds : goal.step-requires-clause-finds
step-requires-clause-finds g c =
    let f = routine c.args.function.now in
    let old = here (mode_as c.args.mode.now) c.args.place.now c.args.stack.now.own in
    let mid = here (mode_as c.loop.mode) c.loop.place c.loop.stack.own in
    let has = still_room (metered g.S.Space.reply) (spending g.S.Space.learn) f c.args.base old (with_units c.args.space.now 0) c.loop.counter mid (with_units c.loop.space 0) (c.loop.invariant.ran 0) c.args.stack.now.capacity c.loop.stack.capacity c.args.stack.now.below c.loop.stack.below c.requires c.loop.invariant.capacity c.loop.invariant.below c.loop.invariant.height in
    let found = finds_inside f c.args.base mid _ has in
    let there : slice_get f.body c.loop.place ≡ Some c.instr_in.result = ap (λ l. slice_get l c.loop.place) (sym c.as_slice-body.ensures) ∙ c.instr_in.ensures.is in
    let same : found.0 ≡ c.instr_in.result = same_Some found.0 c.instr_in.result (sym found.1 ∙ there) in
    subst (λ (i : Instr). cells_inside (role_of i.op) ≤ length c.loop.stack.own) same found.2

pub step-requires-clause-room : goal.step-requires-clause-room
step-requires-clause-room g c =
    let f = routine c.args.function.now in
    let old = here (mode_as c.args.mode.now) c.args.place.now c.args.stack.now.own in
    let mid = here (mode_as c.loop.mode) c.loop.place c.loop.stack.own in
    let has = still_room (metered g.S.Space.reply) (spending g.S.Space.learn) f c.args.base old (with_units c.args.space.now 0) c.loop.counter mid (with_units c.loop.space 0) (c.loop.invariant.ran 0) c.args.stack.now.capacity c.loop.stack.capacity c.args.stack.now.below c.loop.stack.below c.requires c.loop.invariant.capacity c.loop.invariant.below c.loop.invariant.height in
    let found = finds_inside f c.args.base mid _ has in
    let there : slice_get f.body c.loop.place ≡ Some c.instr_in.result = ap (λ l. slice_get l c.loop.place) (sym c.as_slice-body.ensures) ∙ c.instr_in.ensures.is in
    let same : found.0 ≡ c.instr_in.result = same_Some found.0 c.instr_in.result (sym found.1 ∙ there) in
    subst (λ (i : Instr). room_inside (role_of i.op) ≤ c.loop.stack.capacity - (length c.loop.stack.below + length c.loop.stack.own)) same found.3

pub returns-in-Turns-clause-rests : goal.returns-in-Turns-clause-rests
returns-in-Turns-clause-rests g c = λ units.
    let flows = c.in-Turns.ensures.flows in
    let there : slice_get c.args.function.now.body c.loop.place ≡ Some c.instr_in.result = ap (λ l. slice_get l c.loop.place) (sym c.as_slice-body.ensures) ∙ c.instr_in.ensures.is in
    rw (flows.1, flows.2, flows.3, flows.4) (c.loop.counter, c.loop.invariant.ran units, (c.instr_in.result, there, flows.0))

pub returns-in-Pauses-clause-rests : goal.returns-in-Pauses-clause-rests
returns-in-Pauses-clause-rests g c = λ units.
    let flows = c.in-Pauses.ensures.flows in
    let there : slice_get c.args.function.now.body c.loop.place ≡ Some c.instr_in.result = ap (λ l. slice_get l c.loop.place) (sym c.as_slice-body.ensures) ∙ c.instr_in.ensures.is in
    rw (flows.1, flows.2, flows.3, flows.4) (c.loop.counter, c.loop.invariant.ran units, (c.instr_in.result, there, flows.0))

pub instr_in-requires-in-Stops : goal.instr_in-requires-in-Stops
instr_in-requires-in-Stops g c =
    let flows = c.in-Stops.ensures.flows in
    rw flows.1 (slice_get_within c.as_slice-body.result.now c.loop.place c.instr_in.result c.instr_in.ensures.is)

pub returns-in-Stops-clause-rests : goal.returns-in-Stops-clause-rests
returns-in-Stops-clause-rests g c = λ units.
    let f = routine c.args.function.now in
    let i = c.instr_in.result in
    let flows = c.in-Stops.ensures.flows in
    let mode = mode_as c.loop.mode in
    let old = here (mode_as c.args.mode.now) c.args.place.now c.args.stack.now.own in
    let there : slice_get f.body c.loop.place ≡ Some i = ap (λ l. slice_get l c.loop.place) (sym c.as_slice-body.ensures) ∙ c.instr_in.ensures.is in
    let again : slice_get c.as_slice-body.result.now c.loop.place ≡ Some c.instr_in-in-Stops.result = rw flows.1 at c.instr_in-in-Stops.ensures.is in
    let same : c.instr_in-in-Stops.result ≡ i = same_Some c.instr_in-in-Stops.result i (sym again ∙ c.instr_in.ensures.is) in
    rw (flows.0, same)
    (ran_stops (metered g.S.Space.reply) (spending g.S.Space.learn) f c.args.base old (with_units c.args.space.now units) (c.loop.invariant.ran units) c.in-Stops.stop mode i.line
    (stops_step g.S.Space.reply g.S.Space.learn f c.args.base i mode c.loop.place c.loop.stack.own there c.loop.space units c.in-Stops.stop flows.3))

pub returns-in-Stops-clause-stays : goal.returns-in-Stops-clause-stays
returns-in-Stops-clause-stays g c = ap g.S.Space.place c.in-Stops.ensures.flows.2 ∙ c.loop.invariant.stays

pub loop-preserved : goal.loop-preserved
loop-preserved g c =
    let f = routine c.args.function.now in
    let i = c.instr_in.result in
    let steps = c.in-Goes.ensures.flows in
    let old = here (mode_as c.args.mode.now) c.args.place.now c.args.stack.now.own in
    let there : slice_get f.body c.loop.place ≡ Some i = ap (λ l. slice_get l c.loop.place) (sym c.as_slice-body.ensures) ∙ c.instr_in.ensures.is in
    record {
      ran = λ units.
          ran_then (metered g.S.Space.reply) (spending g.S.Space.learn) f c.args.base old (with_units c.args.space.now units) (c.loop.invariant.ran units)
          (ran_step g.S.Space.reply g.S.Space.learn f c.args.base i (mode_as c.loop.mode) c.loop.place c.loop.stack.own there c.loop.space units (mode_as c.step.new.mode) c.step.new.place c.step.new.stack.own c.step.new.space steps);
      height = omega (arith, c.in-Goes.ensures.height, c.loop.invariant.height);
      below = c.in-Goes.ensures.below ∙ c.loop.invariant.below;
      capacity = c.in-Goes.ensures.capacity ∙ c.loop.invariant.capacity;
      stays =
          steps_place g.S.Space.reply g.S.Space.learn g.S.Space.place g.S.Space.place_moves (role_of i.op) i.op c.args.base (mode_as c.loop.mode) c.loop.place c.loop.stack.own c.loop.space (mode_as c.step.new.mode) c.step.new.place c.step.new.stack.own c.step.new.space steps
          ∙ c.loop.invariant.stays;
    }

pub unreachable-requires : goal.unreachable-requires
unreachable-requires g c =
    let f = routine c.args.function.now in
    let old = here (mode_as c.args.mode.now) c.args.place.now c.args.stack.now.own in
    let mid = here (mode_as c.loop.mode) c.loop.place c.loop.stack.own in
    let few : c.loop.counter ≤ length f.body = steps_within (metered g.S.Space.reply) (spending g.S.Space.learn) f c.args.base old (with_units c.args.space.now 0) c.loop.counter mid (with_units c.loop.space 0) _ (c.loop.invariant.ran 0) c.requires in
    omega (arith, few, ap length c.as_slice-body.ensures, c.as_slice-body.type_inv.1, c.loop-test.false)
