use Rattle.std.proofs.Common.{refl, ◌≡◌, ◌≢◌, ◌<◌, ◌≤◌, ℕ, ◌+◌, ◌-◌, Bool, true, false, not, ltb, List, ◌∷◌, [], ◌++◌, length, take, map, min, ap, sym, ◌∙◌, subst, arith, rules}
use Rattle.std.specs.List.{list_all, count_by}
use Rattle.css_graph.specs.declared.node.Node.{Node}
use Rattle.css_graph.specs.declared.state.TaskState.TheVariants.{Waiting, Out}
use Rattle.css_graph.specs.Tasks.{Task, TaskGraph, is_number_added, is_number_waiting, is_number_finished, where_come}
use Rattle.css_graph.specs.Bundle.{AreDifferent, takeable, in_turn, bundle, continued}
use Rattle.css_graph.specs.Nodes.{task_of, in_state_by, count_where, numbers_where, ready_high, ready_low}
use Rattle.css_graph.specs.Consumers.{with_line}
use Rattle.css_graph.specs.Graph.{IsTied}
use Rattle.css_graph.proofs.Takeable.{count_is, turn_is, turn_waits, turn_differs, passing_take, different_take}
use Rattle.css_graph.proofs.Following.{continued_short}
use Rattle.css_graph.proofs.Graphs.{none_takeable, some_takeable, out_tied, states_tasks, bundle_is, take_short}
use Rattle.css_graph.proofs.graph.Graph.choose_bundle.Goals as goal

pub returns-then-ready-eq0-clause-nothing : goal.returns-then-ready-eq0-clause-nothing
returns-then-ready-eq0-clause-nothing c =
    let plan = c.self.inside.agenda in
    let tied = c.self.invariant.1 in
    let ts = map task_of plan.nodes in
    let e : ts ≡ c.args.self.now.tasks = ap (λ (h : TaskGraph). h.tasks) c.self.view_is in
    let r = c.ready_count-ready.result in
    let counts : r ≡ length (takeable ts) = c.ready_count-ready.ensures.value ∙ count_is plan.bound plan.nodes tied.bound tied.counted in
    subst (λ (us : List Task). takeable us ≡ []) e (none_takeable ts r counts c.if-ready-eq0.true)

pub continued-requires-clause-waiting : goal.continued-requires-clause-waiting
continued-requires-clause-waiting c =
    let plan = c.self.inside.agenda in
    let tied = c.self.invariant.1 in
    let ts = map task_of plan.nodes in
    let e : ts ≡ c.args.self.now.tasks = ap (λ (h : TaskGraph). h.tasks) c.self.view_is in
    let r = c.ready_count-ready.result in
    let counts : r ≡ length (takeable ts) = c.ready_count-ready.ensures.value ∙ count_is plan.bound plan.nodes tied.bound tied.counted in
    let share = c.min-share.result in
    let first = c.in_ok-beginning.beginning.items in
    let first_is : first ≡ take share (in_turn ts) = c.in_ok-beginning.ensures ∙ ap (take share) (turn_is plan.bound plan.nodes tied.bound tied.counted) in
    subst (λ (ns : List ℕ). list_all (is_number_waiting ts) ns ≡ true) (sym first_is) (passing_take (is_number_waiting ts) share (in_turn ts) (turn_waits ts))

pub continued-requires-clause-different : goal.continued-requires-clause-different
continued-requires-clause-different c =
    let plan = c.self.inside.agenda in
    let queues = numbers_where (ready_high plan.bound) plan.nodes ++ numbers_where (ready_low plan.bound) plan.nodes in
    subst AreDifferent (sym c.in_ok-beginning.ensures) (different_take c.min-share.result queues (turn_differs plan.bound plan.nodes c.self.invariant.1.ordered))

pub invariant_of-self : goal.invariant_of-self
invariant_of-self c =
    let plan = c.self.inside.agenda in
    let nodes = c.set_states.ensures.nodes ∙ ap (λ (ns : List ℕ). map (in_state_by Out ns) plan.nodes) c.deref.ensures.value in
    (c.self.invariant.0, out_tied plan c.self.inside.consumers c.self.invariant.1 c.set_states.new.self c.in_ok-bundle.bundle.items c.in_ok-bundle.ensures.waiting nodes c.set_states.ensures.bound)

pub returns-clause-something : goal.returns-clause-something
returns-clause-something c none =
    let plan = c.self.inside.agenda in
    let tied = c.self.invariant.1 in
    let ts = map task_of plan.nodes in
    let e : ts ≡ c.args.self.now.tasks = ap (λ (h : TaskGraph). h.tasks) c.self.view_is in
    let r = c.ready_count-ready.result in
    let counts : r ≡ length (takeable ts) = c.ready_count-ready.ensures.value ∙ count_is plan.bound plan.nodes tied.bound tied.counted in
    let few : takeable ts ≡ [] = subst (λ (us : List Task). takeable us ≡ []) (sym e) none in
    some_takeable ts r counts (omega (arith, c.if-ready-eq0.false)) few

pub returns-clause-bundle : goal.returns-clause-bundle
returns-clause-bundle c =
    let plan = c.self.inside.agenda in
    let tied = c.self.invariant.1 in
    let ts = map task_of plan.nodes in
    let e : ts ≡ c.args.self.now.tasks = ap (λ (h : TaskGraph). h.tasks) c.self.view_is in
    let r = c.ready_count-ready.result in
    let counts : r ≡ length (takeable ts) = c.ready_count-ready.ensures.value ∙ count_is plan.bound plan.nodes tied.bound tied.counted in
    let share = c.min-share.result in
    let first = c.in_ok-beginning.beginning.items in
    let first_is : first ≡ take share (in_turn ts) = c.in_ok-beginning.ensures ∙ ap (take share) (turn_is plan.bound plan.nodes tied.bound tied.counted) in
    let g : TaskGraph = record { workers = c.self.inside.workers; tasks = ts } in
    let share_is = c.min-share.ensures ∙ ap (min c.args.most) c.div_ceil.ensures in
    bundle_is g c.args.most r share first c.in_ok-bundle.bundle.items counts share_is first_is c.in_ok-bundle.ensures.bundle
    ∙ ap (λ (h : TaskGraph). bundle h c.args.most) c.self.view_is

pub returns-clause-out : goal.returns-clause-out
returns-clause-out c =
    let g = c.self.inside in
    let plan = g.agenda in
    let nodes = c.set_states.ensures.nodes ∙ ap (λ (ns : List ℕ). map (in_state_by Out ns) plan.nodes) c.deref.ensures.value in
    let tasks = states_tasks Out c.in_ok-bundle.bundle.items plan.nodes c.set_states.new.self.nodes nodes in
    ap (λ (ts : List Task). let h : TaskGraph = record { workers = g.workers; tasks = ts } in h) tasks
    ∙ ap (λ (h : TaskGraph). where_come h Out c.in_ok-bundle.bundle.items) c.self.view_is

pub returns-clause-short : goal.returns-clause-short
returns-clause-short c =
    let plan = c.self.inside.agenda in
    let tied = c.self.invariant.1 in
    let ts = map task_of plan.nodes in
    let e : ts ≡ c.args.self.now.tasks = ap (λ (h : TaskGraph). h.tasks) c.self.view_is in
    let r = c.ready_count-ready.result in
    let counts : r ≡ length (takeable ts) = c.ready_count-ready.ensures.value ∙ count_is plan.bound plan.nodes tied.bound tied.counted in
    let share = c.min-share.result in
    let first = c.in_ok-beginning.beginning.items in
    let first_is : first ≡ take share (in_turn ts) = c.in_ok-beginning.ensures ∙ ap (take share) (turn_is plan.bound plan.nodes tied.bound tied.counted) in
    let whole = ap length c.in_ok-bundle.ensures.bundle in
    let short = continued_short ts (c.args.most - length first) first in
    let taken = take_short share (in_turn ts) in
    let same = ap length first_is in
    let share_is = c.min-share.ensures in
    omega (arith, whole, short, taken, same, share_is)
