use Rattle.std.proofs.Common.{◌≡◌, ◌+◌, ◌-◌, ◌≤◌, length, refl, ap, sym, ◌∙◌, subst, arith}
use Rattle.std.proofs.lemmas.Option.{slice_get_within, same_Some}
use Rattle.css_isa.specs.declared.code.Instr.{Instr}
use Rattle.css_isa.specs.declared.code.Op.TheVariants as ops
use Rattle.css_isa.specs.Code.{routine}
use Rattle.css_machine.specs.declared.turns.Pause.TheVariants as pauses
use Rattle.css_machine.specs.Modes.{mode_as}
use Rattle.css_machine.specs.Steps.{here}
use Rattle.css_machine.proofs.Rows.{inside_none, inside_ran, inside_then, inside_room, inside_pauses, inside_turn, turn_stops}
use Rattle.css_machine.proofs.turns.take_turns.Goals as goal

pub loop-line-init : goal.loop-line-init
loop-line-init g c = record {
  went = inside_none g.S.Space.reply g.S.Space.learn (routine c.args.function.now) c.args.base (here (mode_as c.args.mode.now) c.args.place.now c.args.stack.now.own) c.args.space.now c.args.units.now;
  room = c.requires;
  units = omega arith;
  below = refl;
  capacity = refl;
  stays = refl;
}

pub instr_at-requires : goal.instr_at-requires
instr_at-requires g c =
    let rests = c.in-Turns.ensures.rests 0 in
    slice_get_within c.args.function.now.body c.take_steps.new.place rests.2.0 rests.2.1

pub returns-in-Err-clause-pauses : goal.returns-in-Err-clause-pauses
returns-in-Err-clause-pauses g c =
    let f = routine c.args.function.now in
    let units = c.loop-line.units in
    let rests = c.in-Turns.ensures.rests units in
    let old = here (mode_as c.args.mode.now) c.args.place.now c.args.stack.now.own in
    let mid = here (mode_as c.loop-line.mode) c.loop-line.place c.loop-line.stack.own in
    let new = here (mode_as c.take_steps.new.mode) c.take_steps.new.place c.take_steps.new.stack.own in
    let i = c.instr_at.result.now in
    let same : rests.2.0 ≡ i = same_Some rests.2.0 i (sym rests.2.1 ∙ c.instr_at.ensures.is) in
    let is : i.op ≡ ops.Turn = subst (λ (j : Instr). j.op ≡ ops.Turn) same rests.2.2 in
    let went = inside_then g.S.Space.reply g.S.Space.learn f c.args.base c.loop-line.invariant.went (inside_ran g.S.Space.reply g.S.Space.learn f c.args.base mid c.loop-line.space rests.0 new c.take_steps.new.space units rests.1) in
    let spent = c.in-Err.ensures.spent in
    inside_pauses g.S.Space.reply g.S.Space.learn f c.args.base (pauses.Stopped c.in-Err.stop i.line) new c.take_steps.new.space c.take_unit.new.units went c.loop-line.invariant.units
    (turn_stops g.S.Space.reply g.S.Space.learn f c.args.base i (mode_as c.take_steps.new.mode) c.take_steps.new.place c.take_steps.new.stack.own c.instr_at.ensures.is is c.take_steps.new.space units c.in-Err.stop spent.1 spent.0)

pub returns-then-room-as_slice-clause-pauses : goal.returns-then-room-as_slice-clause-pauses
returns-then-room-as_slice-clause-pauses g c =
    let f = routine c.args.function.now in
    let units = c.loop-line.units in
    let rests = c.in-Turns.ensures.rests units in
    let mid = here (mode_as c.loop-line.mode) c.loop-line.place c.loop-line.stack.own in
    let new = here (mode_as c.take_steps.new.mode) c.take_steps.new.place c.take_steps.new.stack.own in
    let i = c.instr_at.result.now in
    let same : rests.2.0 ≡ i = same_Some rests.2.0 i (sym rests.2.1 ∙ c.instr_at.ensures.is) in
    let is : i.op ≡ ops.Turn = subst (λ (j : Instr). j.op ≡ ops.Turn) same rests.2.2 in
    let went = inside_then g.S.Space.reply g.S.Space.learn f c.args.base c.loop-line.invariant.went (inside_ran g.S.Space.reply g.S.Space.learn f c.args.base mid c.loop-line.space rests.0 new c.take_steps.new.space units rests.1) in
    let taken = c.in_default.ensures in
    let turned = inside_turn g.S.Space.reply g.S.Space.learn f c.args.base i (mode_as c.take_steps.new.mode) c.take_steps.new.place c.take_steps.new.stack.own c.instr_at.ensures.is is c.take_steps.new.space units taken.finds in (
      rw taken.takes (inside_then g.S.Space.reply g.S.Space.learn f c.args.base went turned),
      omega (arith, taken.takes, taken.finds, c.loop-line.invariant.units),
    )

pub loop-line-preserved : goal.loop-line-preserved
loop-line-preserved g c =
    let f = routine c.args.function.now in
    let units = c.loop-line.units in
    let rests = c.in-Turns.ensures.rests units in
    let mid = here (mode_as c.loop-line.mode) c.loop-line.place c.loop-line.stack.own in
    let new = here (mode_as c.take_steps.new.mode) c.take_steps.new.place c.take_steps.new.stack.own in
    let i = c.instr_at.result.now in
    let same : rests.2.0 ≡ i = same_Some rests.2.0 i (sym rests.2.1 ∙ c.instr_at.ensures.is) in
    let is : i.op ≡ ops.Turn = subst (λ (j : Instr). j.op ≡ ops.Turn) same rests.2.2 in
    let went = inside_then g.S.Space.reply g.S.Space.learn f c.args.base c.loop-line.invariant.went (inside_ran g.S.Space.reply g.S.Space.learn f c.args.base mid c.loop-line.space rests.0 new c.take_steps.new.space units rests.1) in
    let taken = c.in_default.ensures in
    let turned = inside_turn g.S.Space.reply g.S.Space.learn f c.args.base i (mode_as c.take_steps.new.mode) c.take_steps.new.place c.take_steps.new.stack.own c.instr_at.ensures.is is c.take_steps.new.space units taken.finds in
    let all = inside_then g.S.Space.reply g.S.Space.learn f c.args.base went turned in
    let stack = c.take_steps.new.stack in
    let enough : length f.body ≤ stack.capacity - (length stack.below + length stack.own) = omega (arith, c.room.ensures, ap length c.as_slice.ensures, c.if-room-as_slice.false) in
    record {
      went = rw taken.takes all;
      room = inside_room g.S.Space.reply g.S.Space.learn f c.args.base _ _ all c.requires enough;
      units = omega (arith, taken.takes, c.loop-line.invariant.units);
      below = c.in-Turns.ensures.below ∙ c.loop-line.invariant.below;
      capacity = c.in-Turns.ensures.capacity ∙ c.loop-line.invariant.capacity;
      stays = c.in-Turns.ensures.stays ∙ c.loop-line.invariant.stays;
    }

pub returns-in-Pauses-clause-pauses : goal.returns-in-Pauses-clause-pauses
returns-in-Pauses-clause-pauses g c =
    let f = routine c.args.function.now in
    let units = c.loop-line.units in
    let rests = c.in-Pauses.ensures.rests units in
    let mid = here (mode_as c.loop-line.mode) c.loop-line.place c.loop-line.stack.own in
    let new = here (mode_as c.take_steps.new.mode) c.take_steps.new.place c.take_steps.new.stack.own in (
      inside_then g.S.Space.reply g.S.Space.learn f c.args.base c.loop-line.invariant.went (inside_ran g.S.Space.reply g.S.Space.learn f c.args.base mid c.loop-line.space rests.0 new c.take_steps.new.space units rests.1),
      c.loop-line.invariant.units,
      rests.2,
    )

pub returns-in-Stops-clause-pauses : goal.returns-in-Stops-clause-pauses
returns-in-Stops-clause-pauses g c =
    let f = routine c.args.function.now in
    let new = here (mode_as c.take_steps.new.mode) c.take_steps.new.place c.take_steps.new.stack.own in
    inside_pauses g.S.Space.reply g.S.Space.learn f c.args.base (pauses.Stopped c.in-Stops.stop c.in-Stops.line) new c.take_steps.new.space c.loop-line.units c.loop-line.invariant.went c.loop-line.invariant.units (c.in-Stops.ensures.rests c.loop-line.units)
