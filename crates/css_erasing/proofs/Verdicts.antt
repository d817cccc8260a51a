-- A verdict is that of the erased program.
use Rattle.std.proofs.Common.{◌≡◌, ℕ, ◌≤◌, ℤ, Some, List, [], ◌++◌, refl, sym, ap, ◌∙◌, subst, append_assoc, ⊎_elim, arith}
use Rattle.std.proofs.lemmas.Bool.{cases_lt}
use Rattle.std.proofs.lemmas.Option.{same_Some}
use Rattle.css_base.specs.declared.limits.Limits.{Limits}
use Rattle.css_base.specs.declared.ending.Stop.TheVariants as stops
use Rattle.css_semantics.specs.Dialogue.{Tape, Outcome, Goes, Stops, Stopped, Tired, tape_of, output}
use Rattle.css_semantics.specs.Memory.{Memory}
use Rattle.css_semantics.specs.Flat.{FlatState, flat}
use Rattle.css_semantics.specs.Verdict.{Verdict, verdict, judged_in}
use Rattle.css_semantics.proofs.Tapes.{output-append}
use Rattle.css_small.specs.Tree.{Program}
use Rattle.css_small_code.specs.Meaning.{source}
use Rattle.css_small_code.specs.Fuel.{Extends}
use Rattle.css_small_code.proofs.Grows.{Grows}
use Rattle.css_small_code.proofs.MoreFuel.{extends_source}
use Rattle.css_erasing.specs.Unmarked.{unmarked}
use Rattle.css_semantics.specs.Plain.{plain, entries}
use Rattle.css_semantics.specs.Erased.{IsErased, Answers}
use Rattle.css_semantics.proofs.PlainTapes.{same_output}
use Rattle.css_erasing.proofs.Programs.{erased_source}

-- what extends an outcome has its tape behind it
pub grown : {A : Type 0} (o more : Outcome A) → Extends o more → Grows (tape_of o) more
grown (Goes a t) more h = ([], ap tape_of h)
grown (Stops (Stopped stop line) t) more h = ([], ap tape_of h)
grown (Stops Tired t) more h = h

-- what is written before a plain tape's end is a front of all
front : (tape : Tape) (q more : Outcome ℤ) → Grows (plain tape) q → Extends q more → (later : List ℕ) × (output (tape_of more) ≡ output tape ++ later)
front tape q more grows extends =
    let last = grown q more extends in
    let newer = last.0 ++ grows.0 in
    let is = last.1 ∙ ap (λ t. last.0 ++ t) grows.1 ∙ sym (append_assoc last.0 grows.0 (plain tape)) in
    (output newer, ap output is ∙ output-append newer (plain tape) ∙ ap (λ bytes. bytes ++ output newer) (same_output tape))

answers : (start : Memory) (o q more : Outcome ℤ) (v : Verdict) → IsErased o q → Extends q more → verdict start o ≡ Some v → Answers v.ending v.output more
answers start (Goes value tape) q more v is extends e =
    subst (λ (x : Verdict). Answers x.ending x.output more) (same_Some _ v e) (plain tape, subst (λ x. Extends x more) is extends, same_output tape)
answers start (Stops (Stopped (stops.Fault kind) line) tape) q more v is extends e =
    subst (λ (x : Verdict). Answers x.ending x.output more) (same_Some _ v e) (plain tape, subst (λ x. Extends x more) is extends, same_output tape)
answers start (Stops (Stopped (stops.Rule rule) line) tape) q more v is extends e =
    subst (λ (x : Verdict). Answers x.ending x.output more) (same_Some _ v e) (front tape q more is extends)
answers start (Stops Tired tape) q more v is extends e = cc

pub erased_verdict : (limits : Limits) (start : FlatState) (fuel enough n : ℕ) (p : Program) (v : Verdict) → verdict start.memory (source (judged_in limits start) fuel p) ≡ Some v → entries (tape_of (source (judged_in limits start) fuel p)) ≤ n → fuel ≤ enough →
    Answers v.ending v.output (source (flat start n) enough (unmarked p))
erased_verdict limits start fuel enough n p v e few le =
    let o = source (judged_in limits start) fuel p in
    let q = source (flat start n) fuel (unmarked p) in
    let more = source (flat start n) enough (unmarked p) in
    answers start.memory o q more v (erased_source limits start n fuel p few) (extends_source (flat start n) fuel enough (unmarked p) le) e

-- what isn't tired is what it extends to
settled : {A : Type 0} (o more : Outcome A) → Extends o more → ((tape : Tape) → o ≡ Stops Tired tape → ⊥) → more ≡ o
settled (Goes value tape) more h ends = h
settled (Stops (Stopped stop line) tape) more h ends = h
settled (Stops Tired tape) more h ends = absurd (ends tape refl)

pub erased_verdict_by_any : (limits : Limits) (start : FlatState) (fuel other n : ℕ) (p : Program) (v : Verdict) → verdict start.memory (source (judged_in limits start) fuel p) ≡ Some v → entries (tape_of (source (judged_in limits start) fuel p)) ≤ n →
    ((tape : Tape) → source (flat start n) other (unmarked p) ≡ Stops Tired tape → ⊥) → Answers v.ending v.output (source (flat start n) other (unmarked p))
erased_verdict_by_any limits start fuel other n p v e few ends =
    let w = flat start n in
    ⊎_elim
    (λ lt. subst (λ q. Answers v.ending v.output q) (settled (source w other (unmarked p)) (source w fuel (unmarked p)) (extends_source w other fuel (unmarked p) (omega (arith, lt))) ends) (erased_verdict limits start fuel fuel n p v e few (omega arith)))
    (λ le. erased_verdict limits start fuel other n p v e few le) (cases_lt other fuel)
