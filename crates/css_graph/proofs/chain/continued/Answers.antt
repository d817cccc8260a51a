use Rattle.std.proofs.Common.{refl, ◌≡◌, ◌≢◌, ◌↔◌, ◌<◌, ◌≤◌, ℕ, ◌+◌, ◌-◌, suc, Bool, true, false, IsTrue, List, ◌∷◌, [], ◌++◌, length, map, ap, sym, ◌∙◌, append-nil, arith, rules}
use Rattle.std.proofs.lemmas.Bool.{false≢true}
use Rattle.css_graph.specs.Bundle.{next_number, continued}
use Rattle.css_graph.specs.Nodes.{task_of}
use Rattle.css_graph.proofs.Following.{ended, continued_step, continued_zero}
use Rattle.css_graph.proofs.chain.continued.Goals as goal
use Rattle.css_graph.proofs.chain.continued.Goals.{else-loop-step-test, then-loop-step-test+in_ok-append_next+then-not-branch}

none_from_ends : (ns : List ℕ) (b : Bool) → (IsTrue b ↔ (ns ≢ [])) → b ≡ false → ns ≡ []
none_from_ends [] b ends e = refl
none_from_ends (n ∷ ns) b ends e =
    let some : n ∷ ns ≡ [] → ⊥ = λ bad. cc in
    let yes : b ≡ true = ends.1 some in
    absurd (false≢true (sym e ∙ yes))

pub loop-step-preserved : goal.loop-step-preserved
loop-step-preserved c =
    let ts = map task_of c.args.agenda.now.nodes in
    let inv = c.loop-step.invariant in
    let B = c.loop-step.bundle.items in
    let room = c.saturating_sub-room.result in
    let s = c.loop-step.step in
    let l : s < room = c.loop-step-test.true in
    record {
      bundle = ap (continued ts (room - (s + 1))) c.in_ok-append_next.ensures.next ∙ sym (continued_step ts B (room - s) (room - (s + 1)) (omega arith)) ∙ inv.bundle;
      waiting = c.in_ok-append_next.ensures.waiting;
      different = c.in_ok-append_next.ensures.different;
      known = c.in_ok-append_next.ensures.known;
    }

pub returns-clause-bundle : goal.returns-clause-bundle
returns-clause-bundle c =
    let ts = map task_of c.args.agenda.now.nodes in
    let inv = c.loop-step.invariant in
    let B = c.loop-step.bundle.items in
    let room = c.saturating_sub-room.result in
    let s = c.loop-step.step in
    let first = c.args.beginning.items in
    let room_is : room ≡ c.args.most - length first = first_of (omega (arith, c.saturating_sub-room.ensures, c.len.ensures), search rules) in
    elim c.loop-step-test.branch [
      | else-loop-step-test w ↦
          let over : room ≤ s = w.loop-step-test.false in
          ap (λ v. v.items) w.bundle-is ∙ sym (continued_zero ts B (room - s) (omega arith)) ∙ inv.bundle ∙ ap (λ (k : ℕ). continued ts k first) room_is
      | then-loop-step-test+in_ok-append_next+then-not-branch w ↦
          let gone : w.in_ok-append_next.field-0 ≡ false = grind arith in
          let none : next_number ts B ≡ [] = none_from_ends (next_number ts B) w.in_ok-append_next.field-0 w.in_ok-append_next.ensures.ends gone in
          ap (λ v. v.items) w.bundle-is ∙ w.in_ok-append_next.ensures.next ∙ ap (λ (l : List ℕ). B ++ l) none ∙ append-nil B ∙ sym (ended ts B none (room - s)) ∙ inv.bundle ∙ ap (λ (k : ℕ). continued ts k first) room_is
    ]
