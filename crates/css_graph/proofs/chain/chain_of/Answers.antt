use Rattle.std.proofs.Common.{refl, ◌≡◌, ◌<◌, ◌≤◌, ℕ, ◌+◌, ◌-◌, suc, Bool, true, false, List, ◌∷◌, [], ◌++◌, None, Some, slice_get, length, get_or, take, map, ap, sym, ◌∙◌, subst, append-nil, arith, rules}
use Rattle.std.specs.List.{list_all}
use Rattle.std.proofs.lemmas.Bool.{and_from, false≢true}
use Rattle.std.proofs.lemmas.List.{take_more}
use Rattle.css_graph.specs.Tasks.{is_number_waiting}
use Rattle.css_graph.specs.Bundle.{AreDifferent, next_number, continued}
use Rattle.css_graph.specs.Nodes.{task_of}
use Rattle.css_graph.specs.Chain.{Knows}
use Rattle.css_graph.proofs.Numbers.{list_all_append}
use Rattle.css_graph.proofs.Following.{fresh_differs, ended, continued_step, continued_zero}
use Rattle.css_graph.proofs.ConsumerLists.{different_at}
use Rattle.css_graph.proofs.Chains.{IsNext, known_next, known_none, known_more, all_at}
use Rattle.css_graph.proofs.chain.chain_of.Goals as goal

pub loop-number-preserved : goal.loop-number-preserved
loop-number-preserved c =
    let plan = c.args.agenda.now in
    let lines = c.args.consumers.now in
    let i = c.loop-number.number-index in
    let ns = c.args.bundle.now in
    let l : i < length ns = c.loop-number-test.true in
    let fresh = different_at ns c.requires.different i 0 l in
    let waits = all_at (is_number_waiting (map task_of plan.nodes)) ns i 0 l c.requires.waiting in
    let more = known_more plan lines c.requires.tied (take i ns) c.loop-number.chain c.append.new.self (get_or ns i 0) c.loop-number.invariant fresh waits c.in_ok-append.ensures.left c.in_ok-append.ensures.members c.in_ok-append.ensures.candidates in
    subst (λ (ms : List ℕ). Knows c.append.new.self plan ms) (sym (take_more ns i 0 l)) more
