-- Points of a dialogue, and images.
use Rattle.std.proofs.Common.{◌≡◌, ℕ, ◌≤◌, ◌==◌, ℤ, Bool, true, false, Option, Some, None, All, if◌then◌else◌, List, [], ◌∷◌, ◌++◌, map, refl, sym, ap, ap₂, ◌∙◌, subst, append_assoc}
use Rattle.css_base.specs.declared.limits.Limits.{Limits}
use Rattle.css_base.specs.declared.ending.Stop.TheVariants as stops
use Rattle.css_semantics.specs.Actions.{Directive, Starting, Finishing, AtBarrier, WaitingOn, NoDirective, directive_of}
use Rattle.css_semantics.specs.Dialogue.{Tape, Outcome, Goes, Stops, Stopped, Tired, tape_of}
use Rattle.css_semantics.specs.Memory.{Memory, image, memory_after}
use Rattle.css_semantics.specs.Flat.{FlatState, flat}
use Rattle.css_semantics.specs.Tasks.{Window, is_started}
use Rattle.css_semantics.specs.Pending.{Object, pending}
use Rattle.css_semantics.specs.Verdict.{ImageKind, OfBarrier, OfFinish, OfWait, Image, bytes_of_window, images_at, images, Verdict, verdict, judged_in}
use Rattle.css_small.specs.Tree.{Program}
use Rattle.css_small_code.specs.Meaning.{source}
use Rattle.css_small_code.specs.Fuel.{Extends}
use Rattle.css_small_code.proofs.MoreFuel.{extends_source}
use Rattle.css_erasing.specs.Unmarked.{unmarked}
use Rattle.css_semantics.specs.Plain.{plain, entries}
use Rattle.css_semantics.specs.Erased.{IsPassed, IsErased}
use Rattle.css_semantics.specs.Points.{Point, points}
use Rattle.css_semantics.proofs.Points.{passed_all, passed_older, all_along}
use Rattle.css_erasing.proofs.Programs.{erased_source}
use Rattle.css_erasing.proofs.Verdicts.{grown}

passed_more : {A : Type 0} (tape : Tape) (q more : Outcome A) → Extends q more → IsPassed tape (tape_of q) → IsPassed tape (tape_of more)
passed_more tape q more extends h =
    let last = grown q more extends in
    (last.0 ++ h.0, last.1 ∙ ap (λ t. last.0 ++ t) h.1 ∙ sym (append_assoc last.0 h.0 (plain tape)))

pub passed : (limits : Limits) (start : FlatState) (fuel enough n : ℕ) (p : Program) (newer tape : Tape) → tape_of (source (judged_in limits start) fuel p) ≡ newer ++ tape → entries (tape_of (source (judged_in limits start) fuel p)) ≤ n → fuel ≤ enough →
    IsPassed tape (tape_of (source (flat start n) enough (unmarked p)))
passed limits start fuel enough n p newer tape e few le =
    let o = source (judged_in limits start) fuel p in
    let q = source (flat start n) fuel (unmarked p) in
    passed_older (tape_of o) newer tape (tape_of (source (flat start n) enough (unmarked p))) e
    (passed_more (tape_of o) q (source (flat start n) enough (unmarked p)) (extends_source (flat start n) fuel enough (unmarked p) le) (passed_all o q (erased_source limits start n fuel p few)))

pub passed_points : (limits : Limits) (start : FlatState) (fuel enough n : ℕ) (p : Program) → entries (tape_of (source (judged_in limits start) fuel p)) ≤ n → fuel ≤ enough →
    All (λ (point : Point). IsPassed point.before (tape_of (source (flat start n) enough (unmarked p)))) (points (tape_of (source (judged_in limits start) fuel p)))
passed_points limits start fuel enough n p few le =
    let tape = tape_of (source (judged_in limits start) fuel p) in
    all_along (tape_of (source (flat start n) enough (unmarked p))) tape (passed limits start fuel enough n p [] tape refl few le)
