use Rattle.std.proofs.Common.{◌≡◌, ℕ, ◌<◌, Bool, true, false, nat_eq, refl, sym, ◌∙◌, arith}
use Rattle.std.proofs.lemmas.Bool.{eqb-true, eqb-false}
use Rattle.css_pexpr.specs.Frames.{is_closed}
use Rattle.css_pexpr.specs.Stacks.{stack}
use Rattle.css_pexpr.proofs.Stacking.{closed_count}
use Rattle.css_pexpr.proofs.stack.Stack.is_closed.Goals as goal

pub returns : goal.returns
returns c = by (nat_eq n 0) refl
  where
    n : ℕ
    n = c.args.self.now.unclosed

    by : (b : Bool) → nat_eq n 0 ≡ b → b ≡ is_closed (stack c.args.self.now)
    by true e = sym ((closed_count (stack c.args.self.now) n c.args.self.now.counted).0 (eqb-true n 0 e))
    by false e = sym ((closed_count (stack c.args.self.now) n c.args.self.now.counted).1 (let h = eqb-false n 0 e in omega (arith, h)))
