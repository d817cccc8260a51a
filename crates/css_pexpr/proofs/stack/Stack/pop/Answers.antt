use Rattle.std.proofs.Common.{◌≡◌, [], ◌∷◌, ◌++◌, ◌+◌, ◌-◌, ◌<◌, length, refl, sym, ap, ◌∙◌, arith}
use Rattle.css_pexpr.specs.Frames.{open_frames}
use Rattle.css_pexpr.specs.Shapes.{onto, frame}
use Rattle.css_pexpr.specs.Stacks.{stack}
use Rattle.css_pexpr.proofs.Stacking.{onto-last, opens_one, opens_none}
use Rattle.css_pexpr.proofs.stack.Stack.pop.Goals as goal
use Rattle.css_pexpr.proofs.stack.Stack.pop.Goals.{then-is_open, else-is_open}

pub overflow_sub-self : goal.overflow_sub-self
overflow_sub-self c =
    let whole = ap (λ l. onto l []) c.in_ok-last.ensures.items ∙ onto-last c.pop.new.self.items c.in_ok-last.last [] in
    let one = ap open_frames whole ∙ opens_one c.in_ok-last.last (onto c.pop.new.self.items []) (sym c.is_open.ensures ∙ c.if-is_open.true) in
    let counted = c.args.self.now.counted in
    omega arith

pub invariant_of-self-then-is_open : goal.invariant_of-self-then-is_open
invariant_of-self-then-is_open c =
    let whole = ap (λ l. onto l []) c.in_ok-last.ensures.items ∙ onto-last c.pop.new.self.items c.in_ok-last.last [] in
    let one = ap open_frames whole ∙ opens_one c.in_ok-last.last (onto c.pop.new.self.items []) (sym c.is_open.ensures ∙ c.if-is_open.true) in
    let counted = c.args.self.now.counted in
    record { counted = omega arith }

pub invariant_of-self-else-is_open : goal.invariant_of-self-else-is_open
invariant_of-self-else-is_open c =
    let whole = ap (λ l. onto l []) c.in_ok-last.ensures.items ∙ onto-last c.pop.new.self.items c.in_ok-last.last [] in
    record { counted = c.args.self.now.counted ∙ ap open_frames whole ∙ opens_none c.in_ok-last.last (onto c.pop.new.self.items []) (sym c.is_open.ensures ∙ c.if-is_open.false) }

pub returns-clause-some : goal.returns-clause-some
returns-clause-some c =
    let whole = ap (λ l. onto l []) c.in_ok-last.ensures.items ∙ onto-last c.pop.new.self.items c.in_ok-last.last [] in
    elim c.if-is_open.branch [
      | then-is_open w ↦ whole ∙ ap (λ s. frame c.in_ok-last.last ∷ stack s) (sym w.self-is)
      | else-is_open w ↦ whole ∙ ap (λ s. frame c.in_ok-last.last ∷ stack s) (sym w.self-is)
    ]
