use Rattle.std.proofs.Common.{◌≡◌, ◌+◌, ◌-◌, ◌≤◌, length, take, drop, reverse, ap, ◌∙◌, arith}
use Rattle.css_machine.specs.Stacks.{Parted}
use Rattle.css_machine.proofs.Stacks.{own_length, topmost_cells}
use Rattle.css_machine.proofs.stack.Stack.topmost.Goals as goal

pub returns : goal.returns
returns c =
    let me = c.self.inside in
    let count = c.args.count in
    let cells = me.cells.items in
    let seen = ap (λ (p : Parted). p.own) c.self.view_is in
    let many : count ≤ me.top - me.floor = omega (arith, ap length seen, own_length me.floor me.top cells c.self.invariant.0 c.self.invariant.1, c.requires) in
    let whole : me.top - count + count ≡ me.top = omega (arith, many) in
    let so_many : me.top - (me.top - count) ≡ count = omega (arith, many) in
    ap (λ l. take (me.top - (me.top - count)) (drop (me.top - count) l)) c.deref.ensures.value
    ∙ ap (λ n. take n (drop (me.top - count) cells)) so_many
    ∙ topmost_cells me.floor (me.top - count) count cells (omega (arith, many, c.self.invariant.0)) (omega (arith, whole, c.self.invariant.1))
    ∙ ap (λ n. reverse (take count (reverse (drop me.floor (take n cells))))) whole
    ∙ ap (λ l. reverse (take count l)) seen
