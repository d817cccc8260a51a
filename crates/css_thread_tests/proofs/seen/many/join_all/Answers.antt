use Rattle.std.proofs.Common.{◌≡◌, ℕ, suc, ◌+◌, ◌∙◌, ap, subst, sym, arith, length, List, [], ◌∷◌, ◌++◌, IfOk, slice_index_or, length-append}
use Rattle.std.specs.Vec.Iter.{into_iter_items}
use Rattle.css_seen.specs.Views.{View}
use Rattle.css_seen.specs.Accounts.{HasMade, numbered}
use Rattle.css_thread_tests.proofs.seen.many.join_all.Goals as goal

pub loop-p-preserved : goal.loop-p-preserved
loop-p-preserved c =
    let was = c.loop-p.invariant in
    let step = c.in-Some.ensures.steps in
    let before = c.loop-p.pass in
    let after = c.join.new.pass in
    let p = c.in_ok-p.field-0 in
    let lock = c.args.lock.now in
    let claim : ℕ → List (ℕ × ℕ) = λ k. (k, c.args._cell) ∷ [] in
    let m : ℕ = length before.joined in
    let back = rw step.0 at (was.rest 0 c.in-Some.p (omega (arith, step.1))) in
    let found : HasMade lock (m + 0 + 1) (claim (m + 0 + 1)) p = subst (λ r. IfOk r (HasMade lock (m + 0 + 1) (claim (m + 0 + 1)))) c.in_ok-p.was back in
    let mine : HasMade lock (suc m) (claim (suc m)) p = subst (λ (n : ℕ). HasMade lock n (claim n) p) (omega arith) found in
    let merged = c.join.ensures.joined in
    let one : (p.number, p.made) ∷ p.joined ≡ (suc m, claim (suc m)) ∷ [] = cc (mine.number_is, mine.made_is, mine.joined_is) in
    let joined : after.joined ≡ before.joined ++ (suc m, claim (suc m)) ∷ [] = ap (λ v. v.joined) merged ∙ ap (λ l. before.joined ++ l) one in
    let len : length after.joined ≡ suc m = omega (arith, ap length joined, length-append before.joined ((suc m, claim (suc m)) ∷ [])) in
    record {
      same = ap {A = View (ℕ × ℕ) _} (λ v. record v { seen = after.seen; joined = after.joined }) merged ∙ ap {A = View (ℕ × ℕ) _} (λ v. record v { seen = after.seen; joined = after.joined }) was.same;
      all = omega (arith, was.all, step.1, len);
      rest = λ k d lt. let r = rw step.0 at (was.rest (suc k) d (omega (arith, step.1))) in subst (λ (n : ℕ). IfOk (slice_index_or (into_iter_items c.next.new.self) k d) (HasMade lock n (claim n))) (omega (arith, len)) r;
      joined = joined ∙ (ap (λ l. l ++ (suc m, claim (suc m)) ∷ []) was.joined ∙ ap (λ (n : ℕ). numbered n claim) (sym len));
    }
