use Rattle.std.proofs.Common.{◌≡◌, ℕ, ◌+◌, ◌-◌, ◌<◌, ◌≤◌, ◌∷◌, length, get_or, take, drop, set, reverse, ap, sym, ◌∙◌, arith}
use Rattle.std.proofs.lemmas.Grind.{get_or_default_zero}
use Rattle.css_machine.specs.Stacks.{Parted}
use Rattle.css_machine.proofs.Stacks.{own_length, two_first, swapped_first}
use Rattle.css_machine.proofs.stack.Stack.swap_top.Goals as goal

pub returns-clause-own : goal.returns-clause-own
returns-clause-own c =
    let me = c.self.inside in
    let cells = me.cells.items in
    let low : ℕ = me.top - 2 in
    let seen = ap (λ (p : Parted). p.own) c.self.view_is in
    let many : 2 ≤ me.top - me.floor = omega (arith, ap length seen, own_length me.floor me.top cells c.self.invariant.0 c.self.invariant.1, c.requires) in
    let whole : low + 1 + 1 ≡ me.top = omega (arith, many) in
    let high : low + 1 ≡ me.top - 1 = omega (arith, many) in
    let within : me.floor ≤ low = omega (arith, many) in
    let more : low + 1 < length cells = omega (arith, many, c.self.invariant.1) in
    let rest = reverse (drop me.floor (take low cells)) in
    let lower : c.index-low.result.now ≡ get_or cells low 0 = c.index-low.ensures ∙ get_or_default_zero cells low c.index-low.result.now (omega (arith, more)) in
    let higher : c.index-high.result.now ≡ get_or cells (low + 1) 0 =
    c.index-high.ensures ∙ ap (λ n. get_or cells n c.index-high.result.now) (sym high) ∙ get_or_default_zero cells (low + 1) c.index-high.result.now more in (
      get_or cells low 0,
      get_or cells (low + 1) 0,
      rest,
      sym seen ∙ ap (λ n. reverse (drop me.floor (take n cells))) (sym whole) ∙ two_first me.floor low cells within more,
      ap (λ n. reverse (drop me.floor (take n (set (set cells low c.index-high.result.now) (me.top - 1) c.index-low.result.now)))) (sym whole)
          ∙ ap (λ n. reverse (drop me.floor (take (low + 1 + 1) (set (set cells low c.index-high.result.now) n c.index-low.result.now)))) (sym high)
          ∙ swapped_first me.floor low cells c.index-high.result.now c.index-low.result.now within more
          ∙ ap (λ x. x ∷ c.index-high.result.now ∷ rest) lower
          ∙ ap (λ x. get_or cells low 0 ∷ x ∷ rest) higher,
    )
