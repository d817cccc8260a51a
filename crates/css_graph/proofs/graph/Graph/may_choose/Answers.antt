use Rattle.std.proofs.Common.{refl, ◌≡◌, ◌≢◌, ◌<◌, ◌≤◌, ℕ, ◌+◌, Bool, true, false, ltb, List, ◌∷◌, [], ◌++◌, length, map, ap, sym, ◌∙◌, subst, inl, inr, arith, rules}
use Rattle.std.specs.List.{list_all}
use Rattle.css_graph.specs.declared.state.TaskState.TheVariants.{Waiting, Out, Finished, Stopped}
use Rattle.css_graph.specs.Tasks.{Task, TaskGraph, is_number_out, come_to, where_come}
use Rattle.css_graph.specs.Bundle.{takeable}
use Rattle.css_graph.specs.Nodes.{task_of, in_state_by, less_by}
use Rattle.std.proofs.lemmas.Bool.{cases_lt, ltb-true, lt-ltb}
use Rattle.css_graph.proofs.Takeable.{count_is}
use Rattle.css_graph.proofs.Graphs.{none_takeable, some_takeable}
use Rattle.css_graph.proofs.graph.Graph.may_choose.Goals as goal

pub returns : goal.returns
returns c =
    let plan = c.self.inside.agenda in
    let tied = c.self.invariant.1 in
    let r = c.ready_count.result in
    let e : map task_of plan.nodes ≡ c.args.self.now.tasks = ap (λ (g : TaskGraph). g.tasks) c.self.view_is in
    let counts : r ≡ length (takeable c.args.self.now.tasks) = c.ready_count.ensures.value ∙ count_is plan.bound plan.nodes tied.bound tied.counted ∙ ap (λ (ts : List Task). length (takeable ts)) e in (
      λ t. some_takeable c.args.self.now.tasks r counts (ltb-true 0 r t),
      λ some. elim (cases_lt 0 r) [
        | inl l ↦ lt-ltb 0 r l
        | inr z ↦ absurd (some (none_takeable c.args.self.now.tasks r counts (omega arith)))
      ],
    )
