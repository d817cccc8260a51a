use Rattle.std.proofs.Common.{◌≡◌, ◌≤◌, length, sym, ◌∙◌, arith, ap}
use Rattle.std.proofs.lemmas.List.{length-map}
use Rattle.css_isa.specs.Code.{routine, code_of}
use Rattle.css_isa.specs.declared.code.Op.TheVariants as ops
use Rattle.css_isa.specs.Spaces.{bytes_of}
use Rattle.css_isa.specs.Soundness.{arguments_taken}
use Rattle.css_machine.specs.States.{stack_of}
use Rattle.css_machine.proofs.Made.{finds_before}
use Rattle.css_machine.proofs.Calls.{round_call, call_stops}
use Rattle.css_machine.proofs.rounds.call.Goals as goal

pub returns-in_ok-begin-in-Ok : goal.returns-in_ok-begin-in-Ok
returns-in_ok-begin-in-Ok g c =
    let callee = routine c.function-callee.result.now in
    let entered = c.in-Ok.ensures in
    let params = c.function-callee.result.now.params in
    let arity = length c.as_slice-arity.result.now in
    let count : arity ≡ length callee.parameters = ap length c.as_slice-arity.ensures ∙ sym (length-map params bytes_of) in
    let enough : arity ≤ length (stack_of c.args.activations.now) = omega (arith, (finds_before (code_of c.args.code.now) (ops.Call c.args.function) c.args.line c.args.activations.now c.requires.fits c.requires.before).0, ap arguments_taken c.function-callee.ensures, count) in
    rw (c.in_ok-begin-in-Ok.ensures, c.drop_topmost.ensures)
    (round_call g.S.Space.reply g.S.Space.learn g.S.Space.place (code_of c.args.code.now) c.args.line c.args.activations.now c.args.space.now c.args.units.now c.args.function arity c.in-Ok.base callee c.enter.new.space c.enter.new.units c.requires.before c.requires.stacked c.function-callee.ensures count enough
    (rw (← c.topmost.ensures) entered.enters) entered.takes entered.at entered.above)

pub returns-in-Err : goal.returns-in-Err
returns-in-Err g c =
    let callee = routine c.function-callee.result.now in
    let params = c.function-callee.result.now.params in
    let arity = length c.as_slice-arity.result.now in
    let count : arity ≡ length callee.parameters = ap length c.as_slice-arity.ensures ∙ sym (length-map params bytes_of) in
    let enough : arity ≤ length (stack_of c.args.activations.now) = omega (arith, (finds_before (code_of c.args.code.now) (ops.Call c.args.function) c.args.line c.args.activations.now c.requires.fits c.requires.before).0, ap arguments_taken c.function-callee.ensures, count) in
    call_stops g.S.Space.reply g.S.Space.learn g.S.Space.place (code_of c.args.code.now) c.args.line c.args.activations.now c.args.space.now c.args.units.now c.args.function arity callee c.in-Err.stop c.args.activations.now c.enter.new.space c.enter.new.units c.requires.before c.function-callee.ensures count enough
    (rw (← c.topmost.ensures) c.in-Err.ensures.stops)
