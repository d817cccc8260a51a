use Rattle.std.proofs.Common.{◌≡◌, ℕ, Bool, List, ◌∷◌, [], ◌++◌, length, map, ap, sym, ◌∙◌, subst, arith, length-append}
use Rattle.css_graph.specs.declared.node.Node.{Node}
use Rattle.css_graph.specs.Nodes.{Agenda, IsAscending, ready_high, ready_low, numbers_where, put}
use Rattle.css_graph.proofs.Keyed.{where_pushed, ascending_pushed}
use Rattle.css_graph.proofs.Agendas.{length_where}
use Rattle.css_graph.proofs.agenda.Agenda.push.Goals as goal

abbrev number_of : Node → ℕ
number_of x = x.number

pub requeue-requires-clause-high_room : goal.requeue-requires-clause-high_room
requeue-requires-clause-high_room c =
    let xs = c.self.inside.nodes.items in
    let p : Node → Bool = ready_high c.self.inside.bound in
    let e : xs ≡ c.args.self.now.nodes = ap (λ (a : Agenda). a.nodes) c.self.view_is in
    let r : c.self.inside.room ≡ c.args.self.now.room = ap (λ (a : Agenda). a.room) c.self.view_is in
    let under = rw (← e) at c.requires.above in
    let puts = ap (put c.args.node.number (p c.args.node)) c.self.invariant.high ∙ where_pushed number_of p xs c.args.node under in
    let puts_length = ap length puts in
    let long = length_where p (xs ++ c.args.node ∷ []) in
    let one = length-append xs (c.args.node ∷ []) in
    let same = ap length e in
    omega (arith, puts_length, long, one, same, r, c.requires.room, c.self.invariant.high_room)

pub requeue-requires-clause-low_room : goal.requeue-requires-clause-low_room
requeue-requires-clause-low_room c =
    let xs = c.self.inside.nodes.items in
    let p : Node → Bool = ready_low c.self.inside.bound in
    let e : xs ≡ c.args.self.now.nodes = ap (λ (a : Agenda). a.nodes) c.self.view_is in
    let r : c.self.inside.room ≡ c.args.self.now.room = ap (λ (a : Agenda). a.room) c.self.view_is in
    let under = rw (← e) at c.requires.above in
    let puts = ap (put c.args.node.number (p c.args.node)) c.self.invariant.low ∙ where_pushed number_of p xs c.args.node under in
    let puts_length = ap length puts in
    let long = length_where p (xs ++ c.args.node ∷ []) in
    let one = length-append xs (c.args.node ∷ []) in
    let same = ap length e in
    omega (arith, puts_length, long, one, same, r, c.requires.room, c.self.invariant.low_room)

pub invariant_of-self : goal.invariant_of-self
invariant_of-self c =
    let xs = c.self.inside.nodes.items in
    let b = c.self.inside.bound in
    let e : xs ≡ c.args.self.now.nodes = ap (λ (a : Agenda). a.nodes) c.self.view_is in
    let r : c.self.inside.room ≡ c.args.self.now.room = ap (λ (a : Agenda). a.room) c.self.view_is in
    let under = rw (← e) at c.requires.above in
    let items = c.push_reserved.ensures.items in
    let one = length-append xs (c.args.node ∷ []) in
    let long = ap length items in
    let same = ap length e in
    record {
      ordered = subst (λ (ys : List Node). IsAscending (map number_of ys)) (sym items) (ascending_pushed number_of xs c.args.node c.self.invariant.ordered under);
      high = c.requeue.ensures.high ∙ ap (put c.args.node.number (ready_high b c.args.node)) c.self.invariant.high ∙ where_pushed number_of (ready_high b) xs c.args.node under ∙ ap (numbers_where (ready_high b)) (sym items);
      low = c.requeue.ensures.low ∙ ap (put c.args.node.number (ready_low b c.args.node)) c.self.invariant.low ∙ where_pushed number_of (ready_low b) xs c.args.node under ∙ ap (numbers_where (ready_low b)) (sym items);
      within = omega (arith, one, long, same, r, c.requires.room);
      nodes_room = omega (arith, c.push_reserved.ensures.room, c.self.invariant.nodes_room);
      high_room = omega (arith, c.self.invariant.high_room, c.requeue.ensures.high_room);
      low_room = omega (arith, c.self.invariant.low_room, c.requeue.ensures.low_room);
      small = c.self.invariant.small;
    }
