use Rattle.std.proofs.Common.{refl, ◌≡◌, ◌<◌, ◌≤◌, ℕ, ◌+◌, ◌-◌, suc, Bool, true, false, List, ◌∷◌, [], ◌++◌, None, Some, slice_get, length, get_or, take, map, ap, sym, ◌∙◌, subst, append-nil, arith, rules}
use Rattle.std.specs.List.{list_all}
use Rattle.std.proofs.lemmas.Bool.{and_from, false≢true}
use Rattle.std.proofs.lemmas.List.{take_more}
use Rattle.css_graph.specs.Tasks.{is_number_waiting}
use Rattle.css_graph.specs.Bundle.{AreDifferent, next_number, continued}
use Rattle.css_graph.specs.Nodes.{task_of}
use Rattle.css_graph.specs.Chain.{Knows}
use Rattle.css_graph.proofs.Numbers.{list_all_append}
use Rattle.css_graph.proofs.Following.{fresh_differs, ended, continued_step, continued_zero}
use Rattle.css_graph.proofs.ConsumerLists.{different_at}
use Rattle.css_graph.proofs.Chains.{IsNext, known_next, known_none, known_more, all_at}
use Rattle.css_graph.proofs.chain.append_next.Goals as goal

pub returns-in_default-clause-next : goal.returns-in_default-clause-next
returns-in_default-clause-next c =
    let plan = c.args.agenda.now in
    let lines = c.args.consumers.now in
    let ts = map task_of plan.nodes in
    let B = c.args.bundle.now.items in
    let e : None ≡ slice_get c.args.chain.now.candidates.numbers 0 = search rules in
    let none : next_number ts B ≡ [] = known_none plan lines c.requires.tied B c.requires.waiting c.args.chain.now c.requires.known e in
    sym (ap (λ (l : List ℕ). B ++ l) none ∙ append-nil B)

pub returns-in_default-clause-ends : goal.returns-in_default-clause-ends
returns-in_default-clause-ends c =
    let plan = c.args.agenda.now in
    let lines = c.args.consumers.now in
    let ts = map task_of plan.nodes in
    let B = c.args.bundle.now.items in
    let e : None ≡ slice_get c.args.chain.now.candidates.numbers 0 = search rules in
    let none : next_number ts B ≡ [] = known_none plan lines c.requires.tied B c.requires.waiting c.args.chain.now c.requires.known e in
    (λ t. absurd (false≢true t), λ some. absurd (some none))

pub returns-clause-next : goal.returns-clause-next
returns-clause-next c =
    let plan = c.args.agenda.now in
    let lines = c.args.consumers.now in
    let ts = map task_of plan.nodes in
    let B = c.args.bundle.now.items in
    let k = known_next plan lines c.requires.tied B c.requires.waiting c.args.chain.now c.requires.known c.in-Some.number c.in-Some.ensures in
    c.in_ok-push.ensures.items ∙ ap (λ (l : List ℕ). B ++ l) (sym k.next)

pub returns-clause-known : goal.returns-clause-known
returns-clause-known c =
    let plan = c.args.agenda.now in
    let lines = c.args.consumers.now in
    let ts = map task_of plan.nodes in
    let B = c.args.bundle.now.items in
    let k = known_next plan lines c.requires.tied B c.requires.waiting c.args.chain.now c.requires.known c.in-Some.number c.in-Some.ensures in
    let more = known_more plan lines c.requires.tied B c.args.chain.now c.append.new.self c.in-Some.number c.requires.known k.fresh k.waits c.in_ok-append.ensures.left c.in_ok-append.ensures.members c.in_ok-append.ensures.candidates in
    subst (λ (ns : List ℕ). Knows c.append.new.self plan ns) (sym c.in_ok-push.ensures.items) more

pub returns-clause-ends : goal.returns-clause-ends
returns-clause-ends c =
    let plan = c.args.agenda.now in
    let lines = c.args.consumers.now in
    let ts = map task_of plan.nodes in
    let B = c.args.bundle.now.items in
    let k = known_next plan lines c.requires.tied B c.requires.waiting c.args.chain.now c.requires.known c.in-Some.number c.in-Some.ensures in
    let some : next_number ts B ≡ [] → ⊥ = λ e. (let bad : c.in-Some.number ∷ [] ≡ [] = sym k.next ∙ e in absurd cc) in
    (λ t. some, λ more. refl)

pub returns-clause-waiting : goal.returns-clause-waiting
returns-clause-waiting c =
    let plan = c.args.agenda.now in
    let lines = c.args.consumers.now in
    let ts = map task_of plan.nodes in
    let B = c.args.bundle.now.items in
    let k = known_next plan lines c.requires.tied B c.requires.waiting c.args.chain.now c.requires.known c.in-Some.number c.in-Some.ensures in
    subst (λ (ns : List ℕ). list_all (is_number_waiting ts) ns ≡ true) (sym c.in_ok-push.ensures.items)
    (list_all_append (is_number_waiting ts) B (c.in-Some.number ∷ []) c.requires.waiting (and_from (is_number_waiting ts c.in-Some.number) true k.waits refl))

pub returns-clause-different : goal.returns-clause-different
returns-clause-different c =
    let plan = c.args.agenda.now in
    let lines = c.args.consumers.now in
    let ts = map task_of plan.nodes in
    let B = c.args.bundle.now.items in
    let k = known_next plan lines c.requires.tied B c.requires.waiting c.args.chain.now c.requires.known c.in-Some.number c.in-Some.ensures in
    subst AreDifferent (sym c.in_ok-push.ensures.items) (fresh_differs B c.in-Some.number c.requires.different k.fresh)
