-- The worked constructs.
use Rattle.std.proofs.Common.{◌≡◌, ℕ, zero, suc, [], ◌∷◌, Some, refl, sym, ap, ◌∙◌, subst, arith}
use Rattle.css_semantics.specs.Dialogue.{World, Tape, Outcome, Goes, then_do, Plain}
use Rattle.css_isa.specs.Steps.{Finished, Begin, entered}
use Rattle.css_isa.specs.Machine.{exec}
use Rattle.css_isa.specs.declared.code.Op.TheVariants as ops
use Rattle.css_blocks.specs.declared.part.Way.TheVariants.{Breaks, Continues}
use Rattle.css_blocks.specs.Pieces.{Skip, Do, Catch, Unless, row}
use Rattle.css_blocks.specs.Meaning.{Calls, Does, Jumps, on_fall, caught, turns, means}
use Rattle.css_blocks.specs.Layout.{routine_of, code_of}
use Rattle.css_blocks.specs.Programs.{returned, run_of, calls_of}
use Rattle.css_blocks.specs.Finds.{AreFound, Fit}
use Rattle.css_blocks.specs.Correct.{SameDialogue}
use Rattle.css_blocks.specs.Samples.{choosing, choosing_by_hand, looping_body, looping_step, looping_function, looping, tested_by_hand, turns_by_hand, looping_by_hand, next, calling, calling_by_hand, task, submitting, submitting_by_hand}
use Rattle.css_blocks.proofs.Equations.{then_assoc, then_same, if_then, fault_then}
use Rattle.css_blocks.proofs.Programs.{behaves}

-- the same dialogue, written otherwise
pub same_as : {A : Type 0} {from from' to : ℕ → Outcome A} → ((n : ℕ) → from n ≡ from' n) → SameDialogue from to → SameDialogue from' to
same_as e s = record {
  ends = λ n a t h. s.ends n a t (e n ∙ h);
  stops = λ n stop line t h. s.stops n stop line t (e n ∙ h);
  goes_on = λ n t h. s.goes_on n t (e n ∙ h);
  ends_only = λ n a t h. let r = s.ends_only n a t h in (r.0, sym (e r.0) ∙ r.1);
  stops_only = λ n stop line t h. let r = s.stops_only n stop line t h in (r.0, sym (e r.0) ∙ r.1);
}

some_same : {A : Type 0} {a b : A} → Some a ≡ Some b → a ≡ b
some_same e = cc

choosing_fits : Fit choosing
choosing_fits zero f at =
    let found : AreFound (code_of choosing) _ = record {
      finds = ((refl, omega arith, tt), ((omega arith, ((refl, omega arith, tt), ((omega arith, refl), tt)), ((refl, omega arith, tt), ((omega arith, refl), tt)), refl), tt));
      ends = refl;
    } in
    subst (λ g. AreFound (code_of choosing) g.body) (some_same at) found
choosing_fits (suc k) f at = cc

choosing_means : (w : World) (line : ℕ) (tape : Tape) (n : ℕ) → run_of w choosing 0 [] line tape n ≡ choosing_by_hand w line tape n
choosing_means w line tape n = simp (then_assoc, if_then)

pub choosing_code : (w : World) (line : ℕ) (tape : Tape) → SameDialogue (choosing_by_hand w line tape) (λ n. exec w (code_of choosing) n (Begin 0 [] line) tape)
choosing_code w line tape = same_as (choosing_means w line tape) ((behaves choosing choosing_fits).each w 0 [] line tape)

-- ---- a loop

looping_fits : Fit looping
looping_fits zero f at =
    let found : AreFound (code_of looping) _ = record {
      finds = (
        (
          (((refl, omega arith, tt), tt), ((omega arith, refl), tt)),
          (
            ((refl, omega arith, tt), ((omega arith, refl, refl), ((refl, omega arith, tt), ((omega arith, refl, refl), tt)))),
            (((refl, omega arith, tt), ((refl, omega arith, tt), ((refl, omega arith, tt), tt))), tt),
          ),
          refl,
        ),
        tt,
      );
      ends = refl;
    } in
    subst (λ g. AreFound (code_of looping) g.body) (some_same at) found
looping_fits (suc k) f at = cc

module _ (w : World) (calls : Calls) (m base : ℕ) where
  abbrev first : Does
  first = means w calls m base (row (row (Do 2 ops.In ∷ []) ∷ Unless 2 Breaks ∷ []))

  abbrev second : Does
  second = means w calls m base (row (Catch Continues looping_body ∷ looping_step ∷ []))

  turns_mean : (n : ℕ) (t : Tape) → turns w 2 n first second Plain [] t ≡ then_do (turns_by_hand w n t) (λ r t'. Goes (Jumps Breaks Plain []) t')
  turns_mean zero t = refl
  turns_mean (suc n) t = simp (then_assoc, if_then, turns_mean n)

  loop_means : (n : ℕ) (t : Tape) → then_do (first Plain [] t) (on_fall (turns w 2 n first second)) ≡ then_do (tested_by_hand w (turns_by_hand w n) t) (λ r t'. Goes (Jumps Breaks Plain []) t')
  loop_means n t = simp (then_assoc, if_then, turns_mean n)

looping_means : (w : World) (line : ℕ) (tape : Tape) (n : ℕ) → run_of w looping 0 [] line tape n ≡ looping_by_hand w line tape n
looping_means w line tape n = then_same (entered w (routine_of looping_function) [] line tape) inside ∙ simp then_assoc
  where
    inside : (base : ℕ) (t : Tape) → then_do (means w (calls_of w looping.functions n) n base looping_function.body Plain [] t) (λ e t'. Goes (returned 6 base e) t') ≡ then_do (tested_by_hand w (turns_by_hand w n) t) (λ r t'. Goes (Finished 0 base 6) t')
    inside base t =
        ap (λ o. then_do (then_do (then_do o (λ e t'. Goes (caught Breaks e) t')) (on_fall (means w (calls_of w looping.functions n) n base Skip))) (λ e t'. Goes (returned 6 base e) t')) (loop_means w (calls_of w looping.functions n) n base n t)
        ∙ simp then_assoc

pub looping_code : (w : World) (line : ℕ) (tape : Tape) → SameDialogue (looping_by_hand w line tape) (λ n. exec w (code_of looping) n (Begin 0 [] line) tape)
looping_code w line tape = same_as (looping_means w line tape) ((behaves looping looping_fits).each w 0 [] line tape)

-- ---- a call

calling_fits : Fit calling
calling_fits zero f at =
    let found : AreFound (code_of calling) _ = record {
      finds = ((refl, omega arith, tt), (((routine_of next, refl, refl), omega arith, refl), ((omega arith, refl), tt)));
      ends = refl;
    } in
    subst (λ g. AreFound (code_of calling) g.body) (some_same at) found
calling_fits (suc zero) f at =
    let found : AreFound (code_of calling) _ = record {
      finds = ((refl, omega arith, tt), ((refl, omega arith, tt), ((refl, omega arith, tt), ((refl, omega arith, tt), ((omega arith, refl), tt)))));
      ends = refl;
    } in
    subst (λ g. AreFound (code_of calling) g.body) (some_same at) found
calling_fits (suc (suc k)) f at = cc

calling_means : (w : World) (line : ℕ) (tape : Tape) (n : ℕ) → run_of w calling 0 [] line tape n ≡ calling_by_hand w line tape n
calling_means w line tape zero = simp then_assoc
calling_means w line tape (suc n) = simp then_assoc

pub calling_code : (w : World) (line : ℕ) (tape : Tape) → SameDialogue (calling_by_hand w line tape) (λ n. exec w (code_of calling) n (Begin 0 [] line) tape)
calling_code w line tape = same_as (calling_means w line tape) ((behaves calling calling_fits).each w 0 [] line tape)

-- ---- a task's call

submitting_fits : Fit submitting
submitting_fits zero f at =
    let found : AreFound (code_of submitting) _ = record {
      finds = (
        (refl, omega arith, tt),
        (
          (refl, omega arith, tt),
          (
            (
              omega arith,
              ((refl, omega arith, tt), ((refl, omega arith, tt), ((refl, omega arith, tt), ((refl, omega arith, tt), ((refl, omega arith, tt), (((routine_of task, _, refl, refl, refl, refl), omega arith), tt)))))),
              (((routine_of task, refl, refl), omega arith, refl), tt),
              refl,
            ),
            ((omega arith, refl), tt),
          ),
        ),
      );
      ends = refl;
    } in
    subst (λ g. AreFound (code_of submitting) g.body) (some_same at) found
submitting_fits (suc zero) f at =
    let found : AreFound (code_of submitting) _ = record { finds = tt; ends = refl } in
    subst (λ g. AreFound (code_of submitting) g.body) (some_same at) found
submitting_fits (suc (suc k)) f at = cc

submitting_means : (w : World) (line : ℕ) (tape : Tape) (n : ℕ) → run_of w submitting 0 [] line tape n ≡ submitting_by_hand w line tape n
submitting_means w line tape zero = simp (then_assoc, if_then, fault_then)
submitting_means w line tape (suc n) = simp (then_assoc, if_then, fault_then)

pub submitting_code : (w : World) (line : ℕ) (tape : Tape) → SameDialogue (submitting_by_hand w line tape) (λ n. exec w (code_of submitting) n (Begin 0 [] line) tape)
submitting_code w line tape = same_as (submitting_means w line tape) ((behaves submitting submitting_fits).each w 0 [] line tape)
