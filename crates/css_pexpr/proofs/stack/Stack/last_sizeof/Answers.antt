use Rattle.std.proofs.Common.{◌≡◌, refl, sym, ap, ◌∙◌}
use Rattle.css_pexpr.specs.Frames.{last_sizeof}
use Rattle.css_pexpr.proofs.Stacking.{last_frame}
use Rattle.css_pexpr.proofs.stack.Stack.last_sizeof.Goals as goal

pub returns-in-Some : goal.returns-in-Some
returns-in-Some c =
    let r = last_frame c.args.self.now.frames.items c.deref.result.now c.in-Some.last.now (sym c.deref.ensures.value) c.in-Some.ensures.value in
    c.sizeof_line.ensures r.0 ∙ ap (last_sizeof) (sym r.1)
