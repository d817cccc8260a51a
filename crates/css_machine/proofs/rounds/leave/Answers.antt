use Rattle.std.proofs.Common.{true≢false, refl, sym}
use Rattle.css_isa.specs.Code.{routine, code_of}
use Rattle.css_machine.proofs.Calls.{comes_end, round_return, return_stops}
use Rattle.css_machine.proofs.rounds.leave.Goals as goal

pub returns-then-is_first : goal.returns-then-is_first
returns-then-is_first g c = λ units.
    comes_end g.S.Space.reply g.S.Space.learn g.S.Space.place (code_of c.args.code.now) c.args.line c.args.activations.now c.args.space.now units c.top-cell.result c.top-cell.ensures.0 c.requires.before c.requires.stacked (c.if-is_first.ensures.0 refl) c.top-cell.ensures.1

pub returns-in-Err : goal.returns-in-Err
returns-in-Err g c = λ units.
    return_stops g.S.Space.reply g.S.Space.learn g.S.Space.place (code_of c.args.code.now) c.args.line c.args.activations.now c.args.space.now units c.top-cell.result c.top-cell.ensures.0 (routine c.function-2.result.now) c.in-Err.stop c.args.activations.now c.pop_frame.new.self units c.requires.before c.requires.stacked (λ none. true≢false (sym (c.if-is_first.ensures.1 none))) c.top-cell.ensures.1 (rw (← c.function.ensures) c.function-2.ensures) c.in-Err.ensures.refuses

pub returns : goal.returns
returns g c = λ units.
    let left = c.in_default.ensures in
    rw (c.end.ensures, left.learns)
    (round_return g.S.Space.reply g.S.Space.learn g.S.Space.place (code_of c.args.code.now) c.args.line g.S.Space.place_moves c.args.activations.now c.args.space.now units c.top-cell.result c.top-cell.ensures.0 (routine c.function-2.result.now) left.says.0 c.requires.before c.requires.stacked (λ none. true≢false (sym (c.if-is_first.ensures.1 none))) c.top-cell.ensures.1 (rw (← c.function.ensures) c.function-2.ensures) left.says.1)
