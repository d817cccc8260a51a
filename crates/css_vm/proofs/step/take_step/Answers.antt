use Rattle.std.proofs.Common.{◌≡◌, ℕ, ◌⊎◌, inl, inr, IsTrue, true, Err, ap, refl, rules}
use Rattle.css_vm.specs.declared.code.Op.{Op}
use Rattle.css_vm.specs.declared.code.Op.TheVariants as ops
use Rattle.css_vm.specs.declared.code.MarkKind.{MarkKind}
use Rattle.css_vm.specs.declared.code.Conversion.{Conversion}
use Rattle.css_semantics.specs.Units.{with_units, metered, spending}
use Rattle.css_vm.specs.Code.{routine}
use Rattle.css_vm.specs.Effects.{goes_on}
use Rattle.css_vm.specs.Steps.{is_pause}
use Rattle.css_vm.proofs.Steps.{ran_performs, ran_jump, ran_jumpz_taken, ran_jumpz_passed, stops_here, pauses_here}
use Rattle.css_vm.proofs.step.take_step.Goals as goal
use Rattle.css_vm.proofs.step.take_step.Goals.{then-goes, else-goes}

pub returns-in-Jump-clause-steps : goal.returns-in-Jump-clause-steps
returns-in-Jump-clause-steps g c = λ units.
    ran_jump (routine c.args.function.now) c.instr_at.result.now c.args.base c.args.place.now c.instr_at.ensures.is (metered g.S.Space.reply) (spending g.S.Space.learn) c.in-Jump.to c.args.stack.now.own (with_units c.args.space.now units) c.in-Jump.is

pub returns-after-goes-clause-steps : goal.returns-after-goes-clause-steps
returns-after-goes-clause-steps g c = λ units.
    let f = routine c.args.function.now in
    let i = c.instr_at.result.now in
    let reply = metered g.S.Space.reply in
    let learn = spending g.S.Space.learn in
    let m = with_units c.args.space.now units in
    elim c.if-goes.branch [
      | then-goes w ↦
          rw (w.place-is, c.pop-goes.ensures.own)
          (ran_jumpz_taken f i c.args.base c.args.place.now c.instr_at.ensures.is reply learn c.in-Jumpz.to c.pop-goes.result c.pop-goes.new.self.own m c.in-Jumpz.is w.if-goes.true)
      | else-goes w ↦
          rw (w.place-is, c.pop-goes.ensures.own)
          (ran_jumpz_passed f i c.args.base c.args.place.now c.instr_at.ensures.is reply learn c.in-Jumpz.to c.pop-goes.result c.pop-goes.new.self.own m c.in-Jumpz.is w.if-goes.false)
    ]

paused : (op : Op) → ((k : ℕ) × (op ≡ ops.Call k)) ⊎ (((k : ℕ) × (op ≡ ops.Submit k)) ⊎ (((kind : MarkKind) × (op ≡ ops.Mark kind)) ⊎ ((op ≡ ops.Turn) ⊎ (((conversion : Conversion) × (op ≡ ops.Out conversion)) ⊎ (op ≡ ops.Ret))))) → is_pause op ≡ true
paused op (inl is) = rw is.1 refl
paused op (inr (inl is)) = rw is.1 refl
paused op (inr (inr (inl is))) = rw is.1 refl
paused op (inr (inr (inr (inl is)))) = rw is refl
paused op (inr (inr (inr (inr (inl is))))) = rw is.1 refl
paused op (inr (inr (inr (inr (inr is))))) = rw is refl

pub returns-in-Call-clause-steps : goal.returns-in-Call-clause-steps
returns-in-Call-clause-steps g c = λ units.
    let is = paused c.instr_at.result.now.op c.in-Call.is in
    pauses_here (metered g.S.Space.reply) (spending g.S.Space.learn) (routine c.args.function.now) c.args.base c.args.place.now c.args.stack.now.own (with_units c.args.space.now units) c.instr_at.result.now c.instr_at.ensures.is is

pub returns-in-Ok-clause-steps : goal.returns-in-Ok-clause-steps
returns-in-Ok-clause-steps g c = λ units.
    let i = c.instr_at.result.now in
    let on : IsTrue (goes_on i.op) = search rules in
    let old = with_units c.args.space.now units in
    let new = with_units c.perform.new.space units in
    ran_performs (routine c.args.function.now) i c.args.base c.args.place.now c.instr_at.ensures.is (metered g.S.Space.reply) (spending g.S.Space.learn) c.args.stack.now.own c.perform.new.stack.own old new on (c.in-Ok.ensures.performs units)

pub returns-in-Err-Stop-clause-steps : goal.returns-in-Err-Stop-clause-steps
returns-in-Err-Stop-clause-steps g c = λ units.
    let i = c.instr_at.result.now in
    let halts = c.in-Err-Stop.ensures.halts c.in-Err-Stop.stop (ap Err c.in-Err-Stop.field-0-is) units in
    let old = with_units c.args.space.now units in
    stops_here (routine c.args.function.now) i c.args.base c.args.place.now c.instr_at.ensures.is (metered g.S.Space.reply) (spending g.S.Space.learn) c.args.stack.now.own old c.in-Err-Stop.stop halts
