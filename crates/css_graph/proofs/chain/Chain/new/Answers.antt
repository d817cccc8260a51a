use Rattle.std.proofs.Common.{refl, ◌≡◌, ◌<◌, ◌≤◌, ℕ, ◌+◌, ◌-◌, Bool, true, false, cond, List, ◌∷◌, [], ◌++◌, eqb, length, get_or, take, map, ap, sym, ◌∙◌, subst, arith, rules, unwrap_or}
use Rattle.css_graph.specs.Nodes.{count_where, numbers_where, put, task_of}
use Rattle.css_graph.specs.Chain.{left_at, is_member, is_candidate, missing_at}
use Rattle.css_graph.proofs.Chains.{none_known}
use Rattle.css_graph.proofs.chain.Chain.new.Goals as goal

pub returns : goal.returns
returns c = none_known (record { left = c.new.result; members = c.new-2.result; candidates = c.new-3.result }) c.args.agenda.now c.requires (λ n. grind (arith, c.new.ensures.empty)) (λ n. grind (arith, c.new-2.ensures.empty)) c.new-3.ensures
