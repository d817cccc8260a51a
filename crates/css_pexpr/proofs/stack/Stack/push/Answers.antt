use Rattle.std.proofs.Common.{◌≡◌, [], ◌∷◌, ◌++◌, ◌+◌, ◌<◌, length, refl, sym, ap, ◌∙◌, arith}
use Rattle.std.proofs.lemmas.List.{length-append}
use Rattle.css_pexpr.specs.Frames.{open_frames}
use Rattle.css_pexpr.specs.Shapes.{onto, frame}
use Rattle.css_pexpr.specs.Stacks.{stack}
use Rattle.css_pexpr.proofs.Stacking.{onto-last, opens_one, opens_none, few_open}
use Rattle.css_pexpr.proofs.stack.Stack.push.Goals as goal

pub invariant_of-self-then-opens : goal.invariant_of-self-then-opens
invariant_of-self-then-opens c =
    let whole = ap (λ l. onto l []) c.in_ok-push.ensures.items ∙ onto-last c.args.self.now.frames.items c.args.next [] in
    let counted = c.args.self.now.counted in
    record { counted = ap (λ n. n + 1) counted ∙ sym (ap open_frames whole ∙ opens_one c.args.next (stack c.args.self.now) (sym c.is_open-opens.ensures ∙ c.if-opens.true)) }

pub invariant_of-self-else-opens : goal.invariant_of-self-else-opens
invariant_of-self-else-opens c =
    let whole = ap (λ l. onto l []) c.in_ok-push.ensures.items ∙ onto-last c.args.self.now.frames.items c.args.next [] in
    record { counted = c.args.self.now.counted ∙ sym (ap open_frames whole ∙ opens_none c.args.next (stack c.args.self.now) (sym c.is_open-opens.ensures ∙ c.if-opens.false)) }

pub returns-then-opens : goal.returns-then-opens
returns-then-opens c = ap (λ l. onto l []) c.in_ok-push.ensures.items ∙ onto-last c.args.self.now.frames.items c.args.next []

pub returns-else-opens : goal.returns-else-opens
returns-else-opens c = ap (λ l. onto l []) c.in_ok-push.ensures.items ∙ onto-last c.args.self.now.frames.items c.args.next []

pub prove-unreachable-requires : goal.prove-unreachable-requires
prove-unreachable-requires c =
    let few = few_open c.args.self.now.frames.items in
    let counted = c.args.self.now.counted in
    let low = c.if-prove.true in
    let count = c.len-count.ensures in
    let long = ap length c.in_ok-push.ensures.items ∙ length-append c.args.self.now.frames.items (c.args.next ∷ []) in
    absurd (omega arith)
