use Rattle.std.proofs.Common.{◌≡◌, ◌∷◌, false, Option, Some, sym, ap, ◌∙◌}
use Rattle.std.specs.Prelude.{option_map}
use Rattle.std.proofs.lemmas.Result.{IfOk-weaker}
use Rattle.css_tree.specs.Syntax.{Index}
use Rattle.css_tree.specs.Expressions.{postfix}
use Rattle.css_pexpr.specs.declared.state.State.{State}
use Rattle.css_pexpr.specs.Frames.{operand, made_of_two, Stack}
use Rattle.css_pexpr.specs.Reading.{Has, indexed}
use Rattle.css_pexpr.specs.Shapes.{frame, node, operand_of}
use Rattle.css_pexpr.specs.Stacks.{stack}
use Rattle.css_pexpr.specs.States.{state_of}
use Rattle.css_pexpr.proofs.Others.{no_element}
use Rattle.css_pexpr.proofs.closing.indexed.Goals as goal

pub returns-in-Element : goal.returns-in-Element
returns-in-Element c =
    let left = stack c.pop.new.self in
    let x = operand_of c.args.index in
    let whole = ap (λ s. indexed c.args.manner s x) c.in-Some.ensures.some ∙ ap (λ f. indexed c.args.manner (frame f ∷ left) x) c.in-Element.is in
    let Read : Option State → Type 0 =
    λ o. (fs : Stack) → option_map (state_of fs) o ≡ Some (Has fs false (operand postfix c.in-Element.line (made_of_two c.args.manner.most (Index c.in-Element.line) (node c.in-Element.array) (node c.args.index.node)))) in
    IfOk-weaker c.indexed_at.result Read _ (λ o h. h left ∙ sym whole) c.indexed_at.ensures

pub returns-in_default-opening : goal.returns-in_default-opening
returns-in_default-opening c =
    sym
    (ap (λ s. indexed c.args.manner s (operand_of c.args.index)) c.in-Some.ensures.some
    ∙ no_element c.args.manner c.in-Some.opening (stack c.pop.new.self) (operand_of c.args.index) c.in_default-opening.not-Element)
