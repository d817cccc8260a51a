use Rattle.std.proofs.Common.{refl, ◌≡◌, ◌<◌, ◌≤◌, ℕ, ◌+◌, ◌-◌, Bool, true, false, cond, ◌&&◌, not, List, ◌∷◌, [], ◌++◌, eqb, length, get_or, take, map, ap, sym, ◌∙◌, subst, arith, rules, unwrap_or}
use Rattle.css_graph.specs.Nodes.{Queue, count_where, numbers_where, put, task_of}
use Rattle.css_graph.specs.Chain.{left_at, is_member, is_candidate, missing_at, may_follow}
use Rattle.std.specs.List.{list_any}
use Rattle.css_graph.specs.declared.node.Node.{Node}
use Rattle.css_graph.proofs.Chains.{put_length, candidates_met}
use Rattle.css_graph.proofs.chain.Chain.meet.Goals as goal

pub put-requires : goal.put-requires
put-requires c =
    let long = put_length c.args.number c.goes_on-goes_on.result c.reserve_one.new.self.numbers in
    let same = ap length c.in_ok-reserve_one.ensures.numbers in
    omega (arith, long, same, c.in_ok-reserve_one.ensures.room)

pub returns-clause-candidates : goal.returns-clause-candidates
returns-clause-candidates c =
    let old = c.args.self.now in
    let after = c.lessen.new.self in
    let plan = c.args.agenda.now in
    let n = c.args.number in
    let w = c.goes_on-goes_on.result in
    let was : c.lessen.new.self.candidates.numbers ≡ old.candidates.numbers = ap (λ (q : Queue). q.numbers) c.in_ok-lessen.ensures.candidates in
    let w_is : w ≡ (list_any (λ (x : Node). eqb x.number n && may_follow plan.bound x) plan.nodes && (not (is_member after n) && eqb (left_at after plan.nodes n) 0)) =
    c.goes_on-goes_on.ensures ∙ ap (λ (k : ℕ). list_any (λ (x : Node). eqb x.number n && may_follow plan.bound x) plan.nodes && (not (is_member after n) && eqb k 0)) c.left_at-left.ensures in
    c.put.ensures.numbers ∙ ap (put n w) (c.in_ok-reserve_one.ensures.numbers ∙ was ∙ c.requires.candidates)
    ∙ candidates_met (left_at old plan.nodes) (left_at after plan.nodes) (is_member old) (is_member after) plan.bound plan.nodes n w c.requires.ordered c.in_ok-lessen.ensures.left c.in_ok-lessen.ensures.members w_is
