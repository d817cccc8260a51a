use Rattle.std.proofs.Common.{◌≡◌, ℕ, ◌+◌, ◌-◌, ◌≤◌, length, get_or, take, drop, reverse, ap, sym, ◌∙◌, arith}
use Rattle.std.specs.List.{swap}
use Rattle.css_vm.specs.Stacks.{Parted}
use Rattle.css_vm.proofs.Stacks.{two_first, swap_two_first, swap_below, own_length}
use Rattle.css_vm.proofs.stack.Stack.swap_top.Goals as goal

pub returns-clause-own : goal.returns-clause-own
returns-clause-own c =
    let cells = c.self.inside.cells.items in
    let floor = c.self.inside.floor in
    let last : ℕ = c.len-last.result - 1 - 1 in
    let seen = own_length floor cells c.args.self.now c.self.view_is in
    let full : length cells ≡ last + 2 = omega (arith, c.self.inside.cells.ok.0) in
    let within : floor ≤ last = omega arith in
    let above : c.len-last.result - 1 ≡ last + 1 = omega arith in (
      get_or cells last 0,
      get_or cells (last + 1) 0,
      reverse (drop floor (take last cells)),
      ap (λ (p : Parted). p.own) (sym c.self.view_is) ∙ two_first floor cells last full within,
      ap (λ l. reverse (drop floor l)) (c.swap.ensures.items ∙ ap (swap cells last) above) ∙ swap_two_first floor cells last full within,
    )

pub returns-clause-below : goal.returns-clause-below
returns-clause-below c =
    let cells = c.self.inside.cells.items in
    let floor = c.self.inside.floor in
    let last : ℕ = c.len-last.result - 1 - 1 in
    let seen = own_length floor cells c.args.self.now c.self.view_is in
    let full : length cells ≡ last + 2 = omega (arith, c.self.inside.cells.ok.0) in
    let within : floor ≤ last = omega arith in
    let above : c.len-last.result - 1 ≡ last + 1 = omega arith in
    ap (take floor) (c.swap.ensures.items ∙ ap (swap cells last) above) ∙ swap_below floor cells last full within ∙ ap (λ (p : Parted). p.below) c.self.view_is
