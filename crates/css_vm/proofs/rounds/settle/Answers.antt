use Rattle.css_vm.specs.declared.code.Op.TheVariants as ops
use Rattle.css_vm.specs.Code.{code_of}
use Rattle.css_vm.specs.Steps.{IsBefore}
use Rattle.css_vm.proofs.Pauses.{round_turn, turn_stops, comes_out, comes_mark, comes_submit}
use Rattle.css_vm.proofs.rounds.settle.Goals as goal

pub returns-in-Ok : goal.returns-in-Ok
returns-in-Ok g c =
    let taken = c.in-Ok.ensures in
    rw (c.advance.ensures, taken.takes)
    (round_turn g.S.Space.reply g.S.Space.learn g.S.Space.place (code_of c.args.code.now) c.args.line c.args.activations.now c.args.space.now c.args.units.now (rw c.in-Turn.is at c.requires.before) c.requires.stacked taken.finds)

pub returns-in-Err : goal.returns-in-Err
returns-in-Err g c =
    let spent = c.in-Err.ensures.spent in
    turn_stops g.S.Space.reply g.S.Space.learn g.S.Space.place (code_of c.args.code.now) c.args.line c.args.activations.now c.args.space.now c.args.units.now c.in-Err.stop c.args.activations.now c.args.space.now c.take_unit.new.units (rw c.in-Turn.is at c.requires.before) spent.1 spent.0

pub returns-in-Out-Char : goal.returns-in-Out-Char
returns-in-Out-Char g c =
    rw (c.byte.ensures, c.advance-in-Out-Char.ensures)
    (comes_out g.S.Space.reply g.S.Space.learn g.S.Space.place (code_of c.args.code.now) c.args.line c.in-Out-Char.field-0 c.args.activations.now c.args.space.now c.args.units.now c.top.result c.top.ensures.0 (rw c.in-Out-Char.is at c.requires.before) c.requires.stacked c.top.ensures.1)

pub returns-in_ok-mark-in-Mark : goal.returns-in_ok-mark-in-Mark
returns-in_ok-mark-in-Mark g c =
    rw c.in_ok-mark-in-Mark.ensures
    (comes_mark g.S.Space.reply g.S.Space.learn g.S.Space.place (code_of c.args.code.now) c.args.line c.in-Mark.kind c.args.activations.now c.args.space.now c.args.units.now (rw c.in-Mark.is at c.requires.before) c.requires.stacked)

pub returns-in_ok-call-in-Submit : goal.returns-in_ok-call-in-Submit
returns-in_ok-call-in-Submit g c =
    let made = c.in_ok-call-in-Submit.ensures in
    let before : IsBefore (code_of c.args.code.now) (ops.Submit c.in_ok-call-in-Submit.call.function) c.args.line c.args.activations.now = rw made.0 (rw c.in-Submit.is at c.requires.before) in
    comes_submit g.S.Space.reply g.S.Space.learn g.S.Space.place (code_of c.args.code.now) c.args.line c.args.activations.now c.args.space.now c.args.units.now c.in_ok-call-in-Submit.call c.submit.new.activations before c.requires.stacked made.1
