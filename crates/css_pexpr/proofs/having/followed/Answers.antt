use Rattle.std.proofs.Common.{◌≡◌, Bool, Option, Some, sym, ap, ◌∙◌}
use Rattle.std.specs.Prelude.{option_map}
use Rattle.std.proofs.lemmas.Result.{IfOk-weaker}
use Rattle.css_pexpr.specs.declared.manner.Manner.{Manner}
use Rattle.css_pexpr.specs.declared.follow.Follow.TheVariants as follows
use Rattle.css_pexpr.specs.declared.state.State.{State}
use Rattle.css_pexpr.specs.Frames.{Stack}
use Rattle.css_pexpr.specs.Reading.{followed}
use Rattle.css_pexpr.specs.Shapes.{operand_of}
use Rattle.css_pexpr.specs.Stacks.{stack}
use Rattle.css_pexpr.specs.States.{state_of}
use Rattle.css_pexpr.proofs.having.followed.Goals as goal

pub returns-in-OpenBracket : goal.returns-in-OpenBracket
returns-in-OpenBracket c =
    let frames = stack c.args.frames.now in
    let x = operand_of c.args.x in
    let Read : Option State → Type 0 = λ o. (m : Manner) (b : Bool) → option_map (state_of (stack c.opened.new.frames)) o ≡ followed m frames b x (Some follows.OpenBracket) in
    IfOk-weaker c.opened.result Read _ (λ o h. h c.args.manner c.args.is_name ∙ sym (ap (λ f. followed c.args.manner frames c.args.is_name x (Some f)) c.in-OpenBracket.is)) c.opened.ensures

pub returns-in-OpenParenthesis : goal.returns-in-OpenParenthesis
returns-in-OpenParenthesis c =
    let frames = stack c.args.frames.now in
    let x = operand_of c.args.x in
    let Read : Option State → Type 0 = λ o. (m : Manner) → option_map (state_of (stack c.passing.new.frames)) o ≡ followed m frames c.args.is_name x (Some follows.OpenParenthesis) in
    IfOk-weaker c.passing.result Read _ (λ o h. h c.args.manner ∙ sym (ap (λ f. followed c.args.manner frames c.args.is_name x (Some f)) c.in-OpenParenthesis.is)) c.passing.ensures

pub returns-in-Increment : goal.returns-in-Increment
returns-in-Increment c =
    let frames = stack c.args.frames.now in
    let x = operand_of c.args.x in
    let Read : Option State → Type 0 = λ o. (fs : Stack) (b : Bool) → option_map (state_of fs) o ≡ followed c.args.manner fs b x (Some follows.Increment) in
    IfOk-weaker c.increment.result Read _ (λ o h. h frames c.args.is_name ∙ sym (ap (λ f. followed c.args.manner frames c.args.is_name x (Some f)) c.in-Increment.is)) c.increment.ensures

pub returns-in-Decrement : goal.returns-in-Decrement
returns-in-Decrement c =
    let frames = stack c.args.frames.now in
    let x = operand_of c.args.x in
    let Read : Option State → Type 0 = λ o. (fs : Stack) (b : Bool) → option_map (state_of fs) o ≡ followed c.args.manner fs b x (Some follows.Decrement) in
    IfOk-weaker c.decrement.result Read _ (λ o h. h frames c.args.is_name ∙ sym (ap (λ f. followed c.args.manner frames c.args.is_name x (Some f)) c.in-Decrement.is)) c.decrement.ensures
