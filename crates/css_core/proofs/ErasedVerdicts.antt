-- A verdict is that of the program without tasks, and its images are taken at that program's points.
use Rattle.std.proofs.Common.{◌≡◌, inl, inr, ℕ, ◌≤◌, ◌==◌, ℤ, Bool, true, false, Option, Some, None, All, cond, if◌then◌else◌, List, [], ◌∷◌, ◌++◌, refl, sym, ap, ◌∙◌, subst, append_assoc, ⊎_elim, arith}
use Rattle.std.specs.Prelude.{find}
use Rattle.std.proofs.lemmas.Bool.{cases_lt, eqb-true}
use Rattle.std.proofs.lemmas.List.Elements.{All-append, All-from_recursion}
use Rattle.std.proofs.lemmas.Option.{same_Some}
use Rattle.css_base.specs.declared.limits.Limits.{Limits}
use Rattle.css_base.specs.declared.ending.Stop.TheVariants as stops
use Rattle.css_semantics.specs.Dialogue.{Stopped, Tired, Tape, Outcome, Goes, Stops, tape_of, output}
use Rattle.css_semantics.specs.Actions.{Directive, Starting, Finishing, AtBarrier, WaitingOn, NoDirective, directive_of}
use Rattle.css_semantics.specs.Memory.{Memory, image, memory_after}
use Rattle.css_semantics.specs.Flat.{FlatState, flat}
use Rattle.css_semantics.specs.Tasks.{is_started}
use Rattle.css_semantics.specs.Pending.{Object, pending}
use Rattle.css_semantics.specs.Verdict.{ImageKind, OfBarrier, OfFinish, OfWait, Image, bytes_of_window, images_at, images_by, images, Verdict, verdict, judged_in}
use Rattle.css_semantics.proofs.Tapes.{output-append}
use Rattle.css_core.specs.Core.{Program}
use Rattle.css_core.specs.Functions.{source}
use Rattle.css_semantics.specs.Fronts.{Extends}
use Rattle.css_core.specs.Without.{without_tasks, IsQuietProgram}
use Rattle.css_semantics.specs.Plain.{plain, entries}
use Rattle.css_semantics.specs.Erased.{IsPassed, IsErased, Answers}
use Rattle.css_semantics.specs.Fronts.{Grows}
use Rattle.css_core.proofs.MoreFuel.{extends_source}
use Rattle.css_semantics.proofs.PlainTapes.{same_output}
use Rattle.css_semantics.specs.Points.{Point, points}
use Rattle.css_semantics.proofs.Points.{passed_all, passed_older, all_along}
use Rattle.css_core.proofs.Erasing.{erased_source}
use Rattle.css_core.proofs.Judging.{rules_refuse_aside, erases}

-- what extends an outcome has its tape behind it
grown : {A : Type 0} (o more : Outcome A) → Extends o more → Grows (tape_of o) more
grown (Goes a t) more h = ([], ap tape_of h)
grown (Stops (Stopped stop line) t) more h = ([], ap tape_of h)
grown (Stops Tired t) more h = h

-- ---- the verdict

-- what is written before a plain tape's end is a front of all
front : (tape : Tape) (q more : Outcome ℤ) → Grows (plain tape) q → Extends q more → (later : List ℕ) × (output (tape_of more) ≡ output tape ++ later)
front tape q more grows extends =
    let last = grown q more extends in
    let newer = last.0 ++ grows.0 in
    let is = last.1 ∙ ap (λ t. last.0 ++ t) grows.1 ∙ sym (append_assoc last.0 grows.0 (plain tape)) in
    (output newer, ap output is ∙ output-append newer (plain tape) ∙ ap (λ bytes. bytes ++ output newer) (same_output tape))

answers : (start : Memory) (o q more : Outcome ℤ) (v : Verdict) → IsErased o q → Extends q more → verdict start o ≡ Some v → Answers v.ending v.output more
answers start (Goes value tape) q more v is extends e =
    subst (λ (x : Verdict). Answers x.ending x.output more) (same_Some _ v e) (plain tape, subst (λ x. Extends x more) is extends, same_output tape)
answers start (Stops (Stopped (stops.Fault kind) line) tape) q more v is extends e =
    subst (λ (x : Verdict). Answers x.ending x.output more) (same_Some _ v e) (plain tape, subst (λ x. Extends x more) is extends, same_output tape)
answers start (Stops (Stopped (stops.Rule rule) line) tape) q more v is extends e =
    subst (λ (x : Verdict). Answers x.ending x.output more) (same_Some _ v e) (front tape q more is extends)
answers start (Stops Tired tape) q more v is extends e = cc

-- what isn't tired is what it extends to
settled : {A : Type 0} (o more : Outcome A) → Extends o more → ((tape : Tape) → o ≡ Stops Tired tape → ⊥) → more ≡ o
settled (Goes value tape) more h ends = h
settled (Stops (Stopped stop line) tape) more h ends = h
settled (Stops Tired tape) more h ends = absurd (ends tape refl)

-- ---- points

passed_more : {A : Type 0} (tape : Tape) (q more : Outcome A) → Extends q more → IsPassed tape (tape_of q) → IsPassed tape (tape_of more)
passed_more tape q more extends h =
    let last = grown q more extends in
    (last.0 ++ h.0, last.1 ∙ ap (λ t. last.0 ++ t) h.1 ∙ sym (append_assoc last.0 h.0 (plain tape)))

-- ---- under the rules

module _ (limits : Limits) (start : FlatState) (n : ℕ) (p : Program) (is_quiet : IsQuietProgram p) where
  abbrev judged_by : ℕ → Outcome ℤ
  judged_by fuel = source (judged_in limits start) fuel p

  abbrev erased_by : ℕ → Outcome ℤ
  erased_by fuel = source (flat start n) fuel (without_tasks p)

  pub is_erased : (fuel : ℕ) → entries (tape_of (judged_by fuel)) ≤ n → IsErased (judged_by fuel) (erased_by fuel)
  is_erased fuel few = erased_source (judged_in limits start) (flat start n) _ (erases _ (rules_refuse_aside start.memory limits) start n) fuel p is_quiet few

  pub erased_verdict : (fuel enough : ℕ) (v : Verdict) → verdict start.memory (judged_by fuel) ≡ Some v → entries (tape_of (judged_by fuel)) ≤ n → fuel ≤ enough → Answers v.ending v.output (erased_by enough)
  erased_verdict fuel enough v e few le =
      answers start.memory (judged_by fuel) (erased_by fuel) (erased_by enough) v (is_erased fuel few) (extends_source (flat start n) fuel enough (without_tasks p) le) e

  pub erased_verdict_by_any : (fuel other : ℕ) (v : Verdict) → verdict start.memory (judged_by fuel) ≡ Some v → entries (tape_of (judged_by fuel)) ≤ n → ((tape : Tape) → erased_by other ≡ Stops Tired tape → ⊥) → Answers v.ending v.output (erased_by other)
  erased_verdict_by_any fuel other v e few ends =
      ⊎_elim
      (λ lt. subst (λ q. Answers v.ending v.output q) (settled (erased_by other) (erased_by fuel) (extends_source (flat start n) other fuel (without_tasks p) (omega (arith, lt))) ends) (erased_verdict fuel fuel v e few (omega arith)))
      (λ le. erased_verdict fuel other v e few le) (cases_lt other fuel)

  pub passed : (fuel enough : ℕ) (newer tape : Tape) → tape_of (judged_by fuel) ≡ newer ++ tape → entries (tape_of (judged_by fuel)) ≤ n → fuel ≤ enough → IsPassed tape (tape_of (erased_by enough))
  passed fuel enough newer tape e few le =
      passed_older (tape_of (judged_by fuel)) newer tape (tape_of (erased_by enough)) e
      (passed_more (tape_of (judged_by fuel)) (erased_by fuel) (erased_by enough) (extends_source (flat start n) fuel enough (without_tasks p) le) (passed_all (judged_by fuel) (erased_by fuel) (is_erased fuel few)))

  pub passed_points : (fuel enough : ℕ) → entries (tape_of (judged_by fuel)) ≤ n → fuel ≤ enough → All (λ (point : Point). IsPassed point.before (tape_of (erased_by enough))) (points (tape_of (judged_by fuel)))
  passed_points fuel enough few le = all_along (tape_of (erased_by enough)) (tape_of (judged_by fuel)) (passed fuel enough [] (tape_of (judged_by fuel)) refl few le)
