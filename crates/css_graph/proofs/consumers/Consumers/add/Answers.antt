use Rattle.std.proofs.Common.{refl, ◌≡◌, ◌<◌, ◌≤◌, ℕ, ◌+◌, Bool, true, false, List, ◌∷◌, [], ◌++◌, eqb, length, get_or, take, drop, map, ap, sym, ◌∙◌, subst, arith, rules}
use Rattle.std.proofs.lemmas.List.{take_more}
use Rattle.css_graph.specs.declared.consumers.ConsumerList.{ConsumerList}
use Rattle.css_graph.specs.Nodes.{IsAscending}
use Rattle.css_graph.specs.Consumers.{line_of, HaveRoom, with_each}
use Rattle.std.proofs.Math.Seq.{take-append_seam}
use Rattle.css_graph.proofs.Keyed.{ascending_pushed}
use Rattle.css_graph.proofs.ConsumerLists.{list_number, ascending_lines, numbers_stay, below_stays, line_numbers}
use Rattle.css_graph.proofs.consumers.Consumers.add.Goals as goal

pub invariant_of-self-in_err-reserve_each : goal.invariant_of-self-in_err-reserve_each
invariant_of-self-in_err-reserve_each c =
    let e : c.deref_mut.result.now ≡ c.self.inside.lists.items = c.deref_mut.ensures.value ∙ c.in_ok-reserve.ensures.items in
    let same = ap length c.deref_mut.ensures.value in
    let many : c.reserve.new.self.len ≡ length c.reserve_each.new.lists = omega (arith, same, c.reserve_each.auto.lists) in
    let whole = ap (λ (k : ℕ). take k (c.reserve_each.new.lists ++ drop (length c.reserve_each.new.lists) c.reserve.new.self.items)) many ∙ take-append_seam c.reserve_each.new.lists (drop (length c.reserve_each.new.lists) c.reserve.new.self.items) in
    subst (λ (xs : List ConsumerList). IsAscending (map list_number xs)) (sym whole) (ascending_lines c.self.inside.lists.items c.reserve_each.new.lists (c.reserve_each.ensures.kept ∙ ap (map line_of) e) c.self.invariant)

pub append_each-requires-clause-ordered : goal.append_each-requires-clause-ordered
append_each-requires-clause-ordered c =
    let e : c.deref_mut.result.now ≡ c.self.inside.lists.items = c.deref_mut.ensures.value ∙ c.in_ok-reserve.ensures.items in
    let same = ap length c.deref_mut.ensures.value in
    let many : c.reserve.new.self.len ≡ length c.reserve_each.new.lists = omega (arith, same, c.reserve_each.auto.lists) in
    let whole = ap (λ (k : ℕ). take k (c.reserve_each.new.lists ++ drop (length c.reserve_each.new.lists) c.reserve.new.self.items)) many ∙ take-append_seam c.reserve_each.new.lists (drop (length c.reserve_each.new.lists) c.reserve.new.self.items) in
    let e2 : c.deref_mut-2.result.now ≡ c.reserve_each.new.lists = c.deref_mut-2.ensures.value ∙ whole in
    ascending_lines c.self.inside.lists.items c.deref_mut-2.result.now (ap (map line_of) e2 ∙ c.reserve_each.ensures.kept ∙ ap (map line_of) e) c.self.invariant

pub invariant_of-self-2 : goal.invariant_of-self-2
invariant_of-self-2 c =
    let ls = c.self.inside.lists.items in
    let ms = c.append_each.new.lists in
    let e : c.deref_mut.result.now ≡ ls = c.deref_mut.ensures.value ∙ c.in_ok-reserve.ensures.items in
    let same = ap length c.deref_mut.ensures.value in
    let many : c.reserve.new.self.len ≡ length c.reserve_each.new.lists = omega (arith, same, c.reserve_each.auto.lists) in
    let whole = ap (λ (k : ℕ). take k (c.reserve_each.new.lists ++ drop (length c.reserve_each.new.lists) c.reserve.new.self.items)) many ∙ take-append_seam c.reserve_each.new.lists (drop (length c.reserve_each.new.lists) c.reserve.new.self.items) in
    let e2 : c.deref_mut-2.result.now ≡ c.reserve_each.new.lists = c.deref_mut-2.ensures.value ∙ whole in
    let kept : map line_of c.deref_mut-2.result.now ≡ map line_of ls = ap (map line_of) e2 ∙ c.reserve_each.ensures.kept ∙ ap (map line_of) e in
    let lines : map line_of ms ≡ with_each c.args.number c.args.producers.now (map line_of ls) = c.append_each.ensures ∙ ap (with_each c.args.number c.args.producers.now) kept in
    let stay = numbers_stay c.args.number c.args.producers.now ls ms lines in
    let up : IsAscending (map list_number ms) = subst IsAscending (sym stay) c.self.invariant in
    let under = rw (← c.self.view_is) at c.requires.above in
    let list : ConsumerList = record { number = c.args.number; consumers = c.new.result } in
    let same2 = ap length e2 in
    let many2 : c.reserve.new.self.len ≡ length ms = omega (arith, many, same2, c.append_each.auto.lists) in
    let zs : List ConsumerList = drop (length ms) (take c.reserve.new.self.len (c.reserve_each.new.lists ++ drop (length c.reserve_each.new.lists) c.reserve.new.self.items)) in
    let whole2 : take c.reserve.new.self.len (ms ++ zs) ≡ ms = ap (λ (k : ℕ). take k (ms ++ zs)) many2 ∙ take-append_seam ms zs in
    subst (λ (xs : List ConsumerList). IsAscending (map list_number xs)) (sym (c.push_reserved.ensures.items ∙ ap (λ (xs : List ConsumerList). xs ++ list ∷ []) whole2)) (ascending_pushed list_number ms list up (below_stays c.args.number ls ms stay under))
