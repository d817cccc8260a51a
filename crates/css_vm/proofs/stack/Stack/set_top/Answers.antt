use Rattle.std.proofs.Common.{◌≡◌, ◌+◌, ◌-◌, ◌≤◌, length, get_or, take, drop, reverse, arith, ap, sym, ◌∙◌}
use Rattle.css_vm.specs.Stacks.{Parted}
use Rattle.css_vm.proofs.Stacks.{top_first, set_top_first, own_length}
use Rattle.css_vm.proofs.stack.Stack.set_top.Goals as goal

pub returns-clause-own : goal.returns-clause-own
returns-clause-own c =
    let cells = c.self.inside.cells.items in
    let floor = c.self.inside.floor in
    let last = c.len-last.result - 1 in
    let seen = own_length floor cells c.args.self.now c.self.view_is in
    let full : length cells ≡ last + 1 = omega (arith, c.self.inside.cells.ok.0) in
    let within : floor ≤ last = omega arith in (
      get_or cells last 0,
      reverse (drop floor (take last cells)),
      ap (λ (p : Parted). p.own) (sym c.self.view_is) ∙ top_first floor cells last full within,
      set_top_first floor cells last c.args.cell full within,
    )
