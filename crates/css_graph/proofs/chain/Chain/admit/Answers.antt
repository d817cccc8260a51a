use Rattle.std.proofs.Common.{refl, ◌≡◌, ◌<◌, ◌≤◌, ℕ, ◌+◌, ◌-◌, Bool, true, false, cond, List, ◌∷◌, [], ◌++◌, eqb, length, get_or, take, map, ap, sym, ◌∙◌, subst, arith, rules, unwrap_or}
use Rattle.css_graph.specs.Nodes.{Queue, count_where, numbers_where, put, task_of}
use Rattle.css_graph.specs.Chain.{left_at, is_member, is_candidate, missing_at}
use Rattle.css_graph.proofs.Chains.{put_length, candidates_admitted}
use Rattle.css_graph.proofs.chain.Chain.admit.Goals as goal

pub put-requires : goal.put-requires
put-requires c =
    let long = put_length c.args.number false c.reserve_one.new.self.numbers in
    let same = ap length c.in_ok-reserve_one.ensures.numbers in
    omega (arith, long, same, c.in_ok-reserve_one.ensures.room)

pub returns-clause-candidates : goal.returns-clause-candidates
returns-clause-candidates c =
    let old = c.args.self.now in
    let after = c.enter.new.self in
    let plan = c.args.agenda.now in
    let n = c.args.number in
    let was : c.enter.new.self.candidates.numbers ≡ old.candidates.numbers = ap (λ (q : Queue). q.numbers) c.in_ok-enter.ensures.candidates in
    c.put.ensures.numbers ∙ ap (put n false) (c.in_ok-reserve_one.ensures.numbers ∙ was ∙ c.requires.candidates)
    ∙ candidates_admitted (left_at old plan.nodes) (left_at after plan.nodes) (is_member old) (is_member after) plan.bound plan.nodes n c.requires.ordered (c.in_ok-enter.ensures.left plan.nodes) c.in_ok-enter.ensures.members
