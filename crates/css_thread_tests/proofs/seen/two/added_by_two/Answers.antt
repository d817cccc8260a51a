use Rattle.std.proofs.Common.{◌≡◌, ◌∷◌, ◌++◌, ◌∙◌, ℕ, List, [], IfOk, ap, subst}
use Rattle.css_seen.specs.Entries.{AllMade}
use Rattle.css_seen.specs.Accounts.{HasMade}
use Rattle.css_thread_tests.proofs.seen.two.added_by_two.Goals as goal

pub returns-clause-each : goal.returns-clause-each
returns-clause-each g c =
    let first : List (ℕ × ℕ) = (1, c.args.first) ∷ [] in
    let second : List (ℕ × ℕ) = (2, c.args.second) ∷ [] in
    let lock = c.in-Ok.lock in
    let one : HasMade lock 1 first c.in_ok-one.one = subst (λ r. IfOk r (HasMade lock 1 first)) c.in_ok-one.was c.join-one.ensures.first in
    let two : HasMade lock 2 second c.in_ok-two.two = subst (λ r. IfOk r (HasMade lock 2 second)) c.in_ok-two.was c.join-one.ensures.second in
    let none : c.split-two.new.pass.joined ≡ [] = ap (λ v. v.joined) c.split-two.ensures.counted ∙ (ap (λ v. v.joined) c.split-one.ensures.counted ∙ ap (λ v. v.joined) c.in-Ok.ensures.first) in
    let with_one : c.split-two.new.pass.joined ++ (c.in_ok-one.one.number, c.in_ok-one.one.made) ∷ c.in_ok-one.one.joined ≡ [] ++ (1, first) ∷ [] = cc (none, one.number_is, one.made_is, one.joined_is) in
    let joined_one = ap (λ v. v.joined) c.join.ensures.joined ∙ with_one in
    let with_two : c.join.new.pass.joined ++ (c.in_ok-two.two.number, c.in_ok-two.two.made) ∷ c.in_ok-two.two.joined ≡ ((1, first) ∷ []) ++ (2, second) ∷ [] = cc (joined_one, two.number_is, two.made_is, two.joined_is) in
    let joined_both = ap (λ v. v.joined) c.join-2.ensures.joined ∙ with_two in
    subst (λ l. AllMade (λ (e : ℕ × ℕ). e.0) c.enter.result.log.items l) joined_both c.enter.ensures.joined
