use Rattle.std.proofs.Common.{◌≡◌, ◌∷◌, Option, Some, sym, ap, ◌∙◌}
use Rattle.std.specs.Prelude.{option_map}
use Rattle.std.proofs.lemmas.Result.{IfOk-weaker}
use Rattle.css_pexpr.specs.declared.state.State.{State}
use Rattle.css_pexpr.specs.Reading.{begun, first_word}
use Rattle.css_pexpr.specs.Shapes.{frame}
use Rattle.css_pexpr.specs.Stacks.{stack}
use Rattle.css_pexpr.specs.States.{state_of}
use Rattle.css_pexpr.proofs.Others.{no_type}
use Rattle.css_pexpr.proofs.wanting.begun.Goals as goal

pub returns-in-Group : goal.returns-in-Group
returns-in-Group c =
    let m = c.args.manner in
    let left = stack c.pop.new.self in
    let s = c.in-Some.specifier in
    let whole = ap (λ o. begun m (stack c.args.frames.now) o) c.in-Some.is ∙ ap (λ z. begun m z (Some s)) c.in-Some-pop.ensures.some in
    let First : Option State → Type 0 = λ o. option_map (state_of left) o ≡ first_word m left c.in-Group.line s in
    IfOk-weaker c.typed.result First _ (λ o h. h ∙ sym (whole ∙ ap (λ f. begun m (frame f ∷ left) (Some s)) c.in-Group.is)) c.typed.ensures

pub returns-in_default-last : goal.returns-in_default-last
returns-in_default-last c =
    let m = c.args.manner in
    let s = c.in-Some.specifier in
    let whole = ap (λ o. begun m (stack c.args.frames.now) o) c.in-Some.is ∙ ap (λ z. begun m z (Some s)) c.in-Some-pop.ensures.some in
    sym (whole ∙ no_type m c.in-Some-pop.last (stack c.pop.new.self) s c.in_default-last.not-Group)
