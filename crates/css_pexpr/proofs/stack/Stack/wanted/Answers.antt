use Rattle.std.proofs.Common.{◌≡◌, refl, sym, ap, ◌∙◌}
use Rattle.css_pexpr.specs.Frames.{wanted}
use Rattle.css_pexpr.proofs.Stacking.{last_frame}
use Rattle.css_pexpr.proofs.stack.Stack.wanted.Goals as goal

pub returns-in-Some : goal.returns-in-Some
returns-in-Some c =
    let r = last_frame c.args.self.now.frames.items c.deref.result.now c.in-Some.last.now (sym c.deref.ensures.value) c.in-Some.ensures.value in
    c.wanted.ensures c.args.level r.0 ∙ ap (wanted c.args.level) (sym r.1)
