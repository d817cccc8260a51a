use Rattle.std.proofs.Common.{◌≡◌, ◌+◌, ◌-◌, ◌≤◌, length, take, drop, reverse, ap, ◌∙◌, arith}
use Rattle.css_machine.specs.Stacks.{Parted}
use Rattle.css_machine.proofs.Stacks.{own_length, without_topmost}
use Rattle.css_machine.proofs.stack.Stack.drop_topmost.Goals as goal

pub returns-clause-own : goal.returns-clause-own
returns-clause-own c =
    let me = c.self.inside in
    let count = c.args.count in
    let cells = me.cells.items in
    let seen = ap (λ (p : Parted). p.own) c.self.view_is in
    let many : count ≤ me.top - me.floor = omega (arith, ap length seen, own_length me.floor me.top cells c.self.invariant.0 c.self.invariant.1, c.requires) in
    let whole : me.top - count + count ≡ me.top = omega (arith, many) in
    without_topmost me.floor (me.top - count) count cells (omega (arith, many, c.self.invariant.0)) (omega (arith, whole, c.self.invariant.1))
    ∙ ap (λ n. drop count (reverse (drop me.floor (take n cells)))) whole
    ∙ ap (drop count) seen
