use Rattle.std.proofs.Common.{refl, ap, ◌∷◌, ◌∙◌}
use Rattle.css_vm.proofs.Stacks.{first_below}
use Rattle.css_vm.proofs.operations.divide.Goals as goal

pub returns-then-divisor-eq0-clause-by_zero : goal.returns-then-divisor-eq0-clause-by_zero
returns-then-divisor-eq0-clause-by_zero g c =
    let popped = c.pop-divisor.ensures.own in
    let below = first_below c.args.stack.now.own c.pop-divisor.result c.pop-divisor.new.self.own popped c.requires.finds in (
      refl,
      (
        below.0,
        below.1,
        popped ∙ ap (λ top. top ∷ c.pop-divisor.new.self.own) c.if-divisor-eq0.true ∙ ap (λ rest. 0 ∷ rest) below.2,
      ),
    )
