use Rattle.std.proofs.Common.{◌≡◌, Bool, Option, sym, ap, ◌∙◌}
use Rattle.std.specs.Prelude.{option_map}
use Rattle.std.proofs.lemmas.Result.{IfOk-weaker}
use Rattle.css_tree.specs.declared.expression.Expression as coded
use Rattle.css_tree.specs.Shapes.{expression}
use Rattle.css_pexpr.specs.Reading.{Has, finished}
use Rattle.css_pexpr.specs.Shapes.{operand_of}
use Rattle.css_pexpr.specs.Stacks.{stack}
use Rattle.css_pexpr.specs.States.{state_of}
use Rattle.css_pexpr.proofs.scan.finish.Goals as goal

pub returns-in-Has : goal.returns-in-Has
returns-in-Has c =
    let frames = stack c.args.frames.now in
    let Built : Option coded.Expression → Type 0 = λ o. (is_name : Bool) → option_map expression o ≡ finished c.args.manner (Has frames is_name (operand_of c.in-Has.operand)) in
    IfOk-weaker c.tree_of.result Built _ (λ o h. h c.in-Has.is_name ∙ sym (ap (λ s. finished c.args.manner (state_of frames s)) c.in-Has.is)) c.tree_of.ensures
