use Rattle.std.proofs.Common.{refl, ◌≡◌, ◌<◌, ◌≤◌, ℕ, ◌+◌, Bool, true, false, List, ◌∷◌, [], ◌++◌, eqb, length, get_or, take, drop, map, vec_len, vec_capacity, ap, sym, ◌∙◌, subst, arith, rules}
use Rattle.css_graph.specs.declared.consumers.ConsumerList.{ConsumerList}
use Rattle.css_graph.specs.Tasks.{is_among}
use Rattle.css_graph.specs.Nodes.{IsAscending}
use Rattle.css_graph.specs.Consumers.{line_of, consumers_at, HaveRoom, with_each}
use Rattle.css_graph.proofs.ConsumerLists.{line_read, line_absent}
use Rattle.css_graph.proofs.consumers.Consumers.of.Goals as goal

pub returns-in-Some : goal.returns-in-Some
returns-in-Some c =
    let ls = c.self.inside.lists.items in
    let at : (get_or ls c.in-Some.at c.index.result.now).number ≡ c.args.number = rw c.deref.ensures.value at (c.in-Some.ensures.found c.index.result.now) in
    let l : c.in-Some.at < length ls = rw c.deref.ensures.value at c.in-Some.ensures.within in
    let read = line_read c.args.number ls c.in-Some.at c.index.result.now c.self.invariant l at c.index.ensures in
    c.as_slice.ensures.value ∙ sym read ∙ ap (λ (lines : List (ℕ × List ℕ)). consumers_at lines c.args.number) c.self.view_is

pub returns-in-None : goal.returns-in-None
returns-in-None c =
    let ls = c.self.inside.lists.items in
    let gone = rw c.deref.ensures.value at c.in-None.ensures.absent in
    sym (line_absent c.args.number ls gone) ∙ ap (λ (lines : List (ℕ × List ℕ)). consumers_at lines c.args.number) c.self.view_is
