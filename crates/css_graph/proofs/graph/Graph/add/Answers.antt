use Rattle.std.proofs.Common.{refl, ◌≡◌, ◌≢◌, ◌<◌, ◌≤◌, ℕ, ◌+◌, ◌-◌, Bool, true, false, not, ltb, List, ◌∷◌, [], ◌++◌, length, take, map, min, ap, sym, ◌∙◌, subst, arith, rules}
use Rattle.std.specs.List.{list_all, count_by}
use Rattle.css_graph.specs.declared.node.Node.{Node}
use Rattle.css_graph.specs.declared.state.TaskState.TheVariants.{Waiting, Out}
use Rattle.css_graph.specs.Tasks.{Task, TaskGraph, is_number_added, is_number_waiting, is_number_finished, where_come}
use Rattle.css_graph.specs.Bundle.{AreDifferent, takeable, in_turn, bundle, continued}
use Rattle.css_graph.specs.Nodes.{task_of, in_state_by, count_where, numbers_where, ready_high, ready_low}
use Rattle.css_graph.specs.Consumers.{with_line}
use Rattle.css_graph.specs.Graph.{IsTied}
use Rattle.css_graph.proofs.Counts.{counted}
use Rattle.css_graph.proofs.Graphs.{lines_below, nodes_below, added_tied}
use Rattle.css_graph.proofs.graph.Graph.add.Goals as goal

pub add-requires-clause-above : goal.add-requires-clause-above
add-requires-clause-above c =
    let g = c.self.inside in
    let n = c.args.number in
    let e : map task_of g.agenda.nodes ≡ c.args.self.now.tasks = ap (λ (h : TaskGraph). h.tasks) c.self.view_is in
    let above : list_all (λ (t : Task). ltb t.number n) (map task_of g.agenda.nodes) ≡ true = subst (λ (ts : List Task). list_all (λ (t : Task). ltb t.number n) ts ≡ true) (sym e) c.requires.above in
    subst (λ (ls : List (ℕ × List ℕ)). list_all (λ (line : ℕ × List ℕ). ltb line.0 n) ls ≡ true) (sym c.self.invariant.1.consumers) (lines_below (map task_of g.agenda.nodes) n above)

pub push-requires-clause-above : goal.push-requires-clause-above
push-requires-clause-above c =
    let g = c.self.inside in
    let n = c.args.number in
    let e : map task_of g.agenda.nodes ≡ c.args.self.now.tasks = ap (λ (h : TaskGraph). h.tasks) c.self.view_is in
    let above : list_all (λ (t : Task). ltb t.number n) (map task_of g.agenda.nodes) ≡ true = subst (λ (ts : List Task). list_all (λ (t : Task). ltb t.number n) ts ≡ true) (sym e) c.requires.above in
    subst (λ (xs : List Node). list_all (λ (x : Node). ltb x.number n) xs ≡ true) (sym c.reserve.ensures.nodes) (nodes_below g.agenda.nodes n above)

pub invariant_of-self-2 : goal.invariant_of-self-2
invariant_of-self-2 c =
    let g = c.self.inside in
    let n = c.args.number in
    let ps = c.args.producers.now in
    let own = c.in_ok-from_slice.field-0 in
    let items : own.items ≡ ps = c.in_ok-from_slice.ensures.items in
    let ts = map task_of g.agenda.nodes in
    let e : ts ≡ c.args.self.now.tasks = ap (λ (h : TaskGraph). h.tasks) c.self.view_is in
    let above : list_all (λ (t : Task). ltb t.number n) ts ≡ true = subst (λ (us : List Task). list_all (λ (t : Task). ltb t.number n) us ≡ true) (sym e) c.requires.above in
    let added : list_all (is_number_added ts) own.items ≡ true =
    subst (λ (ns : List ℕ). list_all (is_number_added ts) ns ≡ true) (sym items) (subst (λ (us : List Task). list_all (is_number_added us) ps ≡ true) (sym e) c.requires.added) in
    let different : AreDifferent own.items = subst AreDifferent (sym items) c.requires.different in
    let missing : c.unfinished-missing.result ≡ count_where (λ p. not (is_number_finished ts p)) own.items =
    c.unfinished-missing.ensures ∙ ap (count_by (λ p. not (is_number_finished ts p))) (sym items) ∙ sym (counted (λ p. not (is_number_finished ts p)) own.items) in
    let x : Node = record { number = n; producers = own; high = c.args.high; state = Waiting; missing = c.unfinished-missing.result } in
    let nodes : c.push.new.self.nodes ≡ g.agenda.nodes ++ x ∷ [] = c.push.ensures.nodes ∙ ap (λ (xs : List Node). xs ++ x ∷ []) c.reserve.ensures.nodes in
    let tied = added_tied g.agenda c.push.new.self g.consumers x c.self.invariant.1 refl missing above added different nodes (c.push.ensures.bound ∙ c.reserve.ensures.bound) in
    let lines : with_line n own.items g.consumers ≡ c.add.new.self = ap (λ (ns : List ℕ). with_line n ns g.consumers) items ∙ sym c.in_ok-add.ensures.added in
    (c.self.invariant.0, subst (λ (ls : List (ℕ × List ℕ)). IsTied c.push.new.self ls) lines tied)
