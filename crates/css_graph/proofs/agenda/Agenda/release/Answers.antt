use Rattle.std.proofs.Common.{refl, ◌≡◌, ◌<◌, ℕ, Bool, List, ◌∷◌, [], length, get_or, ap, sym, ◌∙◌, arith, length-set}
use Rattle.css_graph.specs.declared.node.Node.{Node}
use Rattle.css_graph.specs.Nodes.{Agenda, ready_high, ready_low, one_less_missing}
use Rattle.css_graph.proofs.Keyed.{same_absent}
use Rattle.css_graph.proofs.Agendas.{length_where, changes}
use Rattle.css_graph.proofs.agenda.Agenda.release.Goals as goal

abbrev number_of : Node → ℕ
number_of x = x.number

pub get-requires : goal.get-requires
get-requires c =
    let xs = c.self.inside.nodes.items in
    let long = all_long xs c.in-Some.at c.in-Some.ensures.within (λ d. ap length (c.release.ensures.items d) ∙ length-set xs c.in-Some.at (one_less_missing (get_or xs c.in-Some.at d))) in
    omega (arith, long, c.in-Some.ensures.within)
  where
    all_long : {n : ℕ} (xs : List Node) (i : ℕ) → i < length xs → (Node → n ≡ length xs) → n ≡ length xs
    all_long [] i l h = absurd (omega (arith, l))
    all_long (x ∷ xs) i l h = h x

pub requeue-requires-clause-high_room : goal.requeue-requires-clause-high_room
requeue-requires-clause-high_room c =
    let xs = c.self.inside.nodes.items in
    let ys = c.release.new.self.items in
    let p : Node → Bool = ready_high c.self.inside.bound in
    let found : (d : Node) → (get_or xs c.in-Some.at d).number ≡ c.args.number = λ d. c.in-Some.ensures.found d in
    let l : c.in-Some.at < length xs = c.in-Some.ensures.within in
    let changed = changes one_less_missing (λ x. refl) c.args.number xs ys c.in-Some.at c.get.result.now c.self.invariant.ordered l found c.release.ensures.items (c.get.ensures c.get.result.now) in
    let puts_length = ap length (changed.queue p c.self.inside.high.numbers c.self.invariant.high) in
    let long = length_where p ys in
    omega (arith, puts_length, long, changed.long, c.self.invariant.within, c.self.invariant.high_room)

pub requeue-requires-clause-low_room : goal.requeue-requires-clause-low_room
requeue-requires-clause-low_room c =
    let xs = c.self.inside.nodes.items in
    let ys = c.release.new.self.items in
    let p : Node → Bool = ready_low c.self.inside.bound in
    let found : (d : Node) → (get_or xs c.in-Some.at d).number ≡ c.args.number = λ d. c.in-Some.ensures.found d in
    let l : c.in-Some.at < length xs = c.in-Some.ensures.within in
    let changed = changes one_less_missing (λ x. refl) c.args.number xs ys c.in-Some.at c.get.result.now c.self.invariant.ordered l found c.release.ensures.items (c.get.ensures c.get.result.now) in
    let puts_length = ap length (changed.queue p c.self.inside.low.numbers c.self.invariant.low) in
    let long = length_where p ys in
    omega (arith, puts_length, long, changed.long, c.self.invariant.within, c.self.invariant.low_room)

pub invariant_of-self : goal.invariant_of-self
invariant_of-self c =
    let xs = c.self.inside.nodes.items in
    let ys = c.release.new.self.items in
    let b = c.self.inside.bound in
    let found : (d : Node) → (get_or xs c.in-Some.at d).number ≡ c.args.number = λ d. c.in-Some.ensures.found d in
    let l : c.in-Some.at < length xs = c.in-Some.ensures.within in
    let changed = changes one_less_missing (λ x. refl) c.args.number xs ys c.in-Some.at c.get.result.now c.self.invariant.ordered l found c.release.ensures.items (c.get.ensures c.get.result.now) in
    record {
      ordered = changed.ordered;
      high = c.requeue.ensures.high ∙ changed.queue (ready_high b) c.self.inside.high.numbers c.self.invariant.high;
      low = c.requeue.ensures.low ∙ changed.queue (ready_low b) c.self.inside.low.numbers c.self.invariant.low;
      within = omega (arith, changed.long, c.self.invariant.within);
      nodes_room = omega (arith, c.release.ensures.room, c.self.invariant.nodes_room);
      high_room = omega (arith, c.self.invariant.high_room, c.requeue.ensures.high_room);
      low_room = omega (arith, c.self.invariant.low_room, c.requeue.ensures.low_room);
      small = c.self.invariant.small;
    }

pub returns-in-Some-clause-nodes : goal.returns-in-Some-clause-nodes
returns-in-Some-clause-nodes c =
    let xs = c.self.inside.nodes.items in
    let ys = c.release.new.self.items in
    let e : xs ≡ c.args.self.now.nodes = ap (λ (a : Agenda). a.nodes) c.self.view_is in
    let found : (d : Node) → (get_or xs c.in-Some.at d).number ≡ c.args.number = λ d. c.in-Some.ensures.found d in
    let l : c.in-Some.at < length xs = c.in-Some.ensures.within in
    let changed = changes one_less_missing (λ x. refl) c.args.number xs ys c.in-Some.at c.get.result.now c.self.invariant.ordered l found c.release.ensures.items (c.get.ensures c.get.result.now) in
    rw (← e) changed.nodes

pub returns-in-None-clause-nodes : goal.returns-in-None-clause-nodes
returns-in-None-clause-nodes c =
    let xs = c.self.inside.nodes.items in
    let e : xs ≡ c.args.self.now.nodes = ap (λ (a : Agenda). a.nodes) c.self.view_is in
    let gone = c.in-None.ensures.absent in
    rw (← e) (sym (same_absent number_of one_less_missing c.args.number xs gone))
