use Rattle.std.proofs.Common.{◌≡◌, ◌∷◌, ◌∙◌, ℕ, List, [], ap, subst}
use Rattle.css_seen.specs.Entries.{AllMade}
use Rattle.css_seen.specs.Views.{View}
use Rattle.css_seen.specs.Accounts.{numbered}
use Rattle.css_thread_tests.proofs.seen.many.claimed_by_many.Goals as goal

pub returns-clause-each : goal.returns-clause-each
returns-clause-each g c =
    let claim : ℕ → List (ℕ × ℕ) = λ k. (k, c.args.cell) ∷ [] in
    let count = c.in_ok-passes.ensures.len ∙ c.in_ok-children.ensures.len in
    let joined : c.join_all.new.pass.joined ≡ numbered c.args.n claim = ap {A = View (ℕ × ℕ) _} (λ v. v.joined) c.in_ok-join_all.ensures.joined ∙ ap (λ (n : ℕ). numbered n claim) count in
    subst (λ l. AllMade (λ (e : ℕ × ℕ). e.0) c.enter.result.1 l) joined c.enter.ensures.joined
