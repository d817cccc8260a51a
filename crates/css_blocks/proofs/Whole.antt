-- Code of a whole program of pieces is sound.
use Rattle.std.proofs.Common.{◌≡◌, ℕ, zero, suc, ◌+◌, pos, List, [], ◌∷◌, ◌++◌, map, All, Some, refl, ap, ◌∙◌, subst, arith, ◌≢◌, length}
use Rattle.std.specs.Prelude.{slice_get}
use Rattle.std.proofs.lemmas.List.Elements.{All-nil, All-cons}
use Rattle.css_isa.specs.declared.code.Instr.{Instr}
use Rattle.css_isa.specs.declared.code.Op.TheVariants as ops
use Rattle.css_semantics.specs.Dialogue.{World, Tape, Goes}
use Rattle.css_isa.specs.Steps.{Begin, Stuck}
use Rattle.css_isa.specs.Machine.{exec}
use Rattle.css_isa.proofs.NeverStuck.{never_stuck}
use Rattle.css_isa.specs.Code.{Code}
use Rattle.css_isa.specs.Soundness.{IsQuiet, IsShapeOf, IsSoundBody, IsSound}
use Rattle.css_blocks.specs.Pieces.{Piece, Skip, Then, Do, Choice, When, Loop, Catch, Exit, Unless, Invoke, Submit, Leave, Ways, both, aimed}
use Rattle.css_blocks.specs.Layout.{size, instr, lower, Function, Program, ended, routine_of, code_of}
use Rattle.css_blocks.specs.Finds.{MakesNoEvents, IsWhole}
use Rattle.css_blocks.specs.Programs.{run_of}
use Rattle.css_blocks.proofs.Plans.{plan_of, body_sound}
use Rattle.css_blocks.proofs.Programs.{behaves}

module _ (code : Code) where
  abbrev AllQuiet : List Instr → Type 0
  AllQuiet is = All (λ i. IsQuiet code i.op) is

  both_quiet : (a b : List Instr) → AllQuiet a → AllQuiet b → AllQuiet (a ++ b)
  both_quiet [] b ha hb = hb
  both_quiet (i ∷ a) b ha hb = All-cons (λ i. IsQuiet code i.op) i (a ++ b) (ha 0 i (omega arith)) (both_quiet a b (λ k d lt. ha (suc k) d (omega (arith, lt))) hb)

  more_quiet : (i : Instr) (is : List Instr) → IsQuiet code i.op → AllQuiet is → AllQuiet (i ∷ is)
  more_quiet i is h hs = All-cons (λ i. IsQuiet code i.op) i is h hs

  lowered_quiet : (p : Piece) (at : ℕ) (ts : Ways ℕ) → MakesNoEvents code p → AllQuiet (lower p at ts)
  lowered_quiet Skip at ts h = All-nil (λ i. IsQuiet code i.op)
  lowered_quiet (Then p q) at ts h = both_quiet (lower p at ts) (lower q (at + size p) ts) (lowered_quiet p at ts h.0) (lowered_quiet q (at + size p) ts h.1)
  lowered_quiet (Do line op) at ts h = more_quiet (instr line op) [] h (All-nil (λ i. IsQuiet code i.op))
  lowered_quiet (Choice line p q) at ts h =
      let second = at + 1 + size p + 1 in
      more_quiet (instr line (ops.Jumpz second)) _ tt (both_quiet (lower p (at + 1) ts) _ (lowered_quiet p (at + 1) ts h.0) (more_quiet (instr line (ops.Jump (second + size q))) _ tt (lowered_quiet q second ts h.1)))
  lowered_quiet (When line p) at ts h = more_quiet (instr line (ops.Jumpz (at + 1 + size p))) _ tt (lowered_quiet p (at + 1) ts h)
  lowered_quiet (Loop line p q) at ts h =
      both_quiet (lower p at ts) _ (lowered_quiet p at ts h.0) (more_quiet (instr line ops.Turn) _ tt (both_quiet (lower q (at + size p + 1) ts) _ (lowered_quiet q (at + size p + 1) ts h.1) (more_quiet (instr line (ops.Jump at)) [] tt (All-nil (λ i. IsQuiet code i.op)))))
  lowered_quiet (Catch way p) at ts h = lowered_quiet p at (aimed way (at + size p) ts) h
  lowered_quiet (Exit line way) at ts h = more_quiet _ [] tt (All-nil (λ i. IsQuiet code i.op))
  lowered_quiet (Unless line way) at ts h = more_quiet _ [] tt (All-nil (λ i. IsQuiet code i.op))
  lowered_quiet (Invoke line f count) at ts h = more_quiet _ [] tt (All-nil (λ i. IsQuiet code i.op))
  lowered_quiet (Submit line f count dims) at ts h = absurd h
  lowered_quiet (Leave line) at ts h = more_quiet _ [] tt (All-nil (λ i. IsQuiet code i.op))

  pub ended_quiet : (p : Piece) (end : ℕ) → MakesNoEvents code p → AllQuiet (ended p end)
  ended_quiet p end h = both_quiet (lower p 0 (both (size p))) _ (lowered_quiet p 0 (both (size p)) h) (more_quiet (instr end (ops.Push (pos 0))) (instr end ops.Ret ∷ []) tt (more_quiet (instr end ops.Ret) [] tt (All-nil (λ i. IsQuiet code i.op))))

-- an element of what is made of a list
mapped : {A B : Type 0} (g : A → B) (xs : List A) (k : ℕ) (x : A) → slice_get xs k ≡ Some x → slice_get (map g xs) k ≡ Some (g x)
mapped g [] k x at = cc
mapped g (y ∷ xs) zero x at = let same : y ≡ x = cc in ap (λ y. Some (g y)) same
mapped g (y ∷ xs) (suc k) x at = mapped g xs k x at

made_of : {A B : Type 0} (g : A → B) (xs : List A) (k : ℕ) (b : B) → slice_get (map g xs) k ≡ Some b → (x : A) × (slice_get xs k ≡ Some x) × (g x ≡ b)
made_of g [] k b at = cc
made_of g (y ∷ xs) zero b at = (y, refl, cc)
made_of g (y ∷ xs) (suc k) b at = made_of g xs k b at

pub whole_sound : (p : Program) → IsWhole p → IsSound (code_of p) (map (plan_of (code_of p)) p.functions)
whole_sound p whole =
    let code = code_of p in
    record {
      each = λ k r at.
          let made = made_of routine_of p.functions k r at in
          (plan_of code made.0, mapped (plan_of code) p.functions k made.0 made.1, subst (λ r. IsSoundBody code r (plan_of code made.0)) made.2 (body_sound code made.0 (whole.fits k made.0 made.1)));
      main = (routine_of whole.main.0, mapped routine_of p.functions p.main whole.main.0 whole.main.1, whole.main.2);
      shapes = λ k r s at task.
          let made = made_of routine_of p.functions k r at in
          subst (λ r. IsShapeOf code s r) made.2 (whole.shapes k made.0 s made.1 (ap (λ r. r.task) made.2 ∙ task));
      quiet = λ k r reached at.
          let made = made_of routine_of p.functions k r at in
          subst (λ r. All (λ i. IsQuiet code i.op) r.body) made.2 (ended_quiet code made.0.body made.0.end (whole.quiet k made.0 reached made.1));
      globals = whole.globals;
      datums = whole.datums;
    }

-- ---- never stuck

pub code_goes_on : (p : Program) → IsWhole p → (w : World) (k : ℕ) (f : Function) → slice_get p.functions k ≡ Some f → (arguments : List ℕ) → length arguments ≡ length f.parameters → (line : ℕ) (t t' : Tape) (n : ℕ)
    → exec w (code_of p) n (Begin k arguments line) t ≢ Goes Stuck t'
code_goes_on p whole w k f at arguments count line t t' n =
    never_stuck w (code_of p) n (Begin k arguments line) t t'
    (map (plan_of (code_of p)) p.functions, whole_sound p whole, (0, (refl, (routine_of f, mapped routine_of p.functions k f at, count))))

pub pieces_go_on : (p : Program) → IsWhole p → (w : World) (k : ℕ) (f : Function) → slice_get p.functions k ≡ Some f → (arguments : List ℕ) → length arguments ≡ length f.parameters → (line : ℕ) (t t' : Tape) (n : ℕ)
    → run_of w p k arguments line t n ≢ Goes Stuck t'
pieces_go_on p whole w k f at arguments count line t t' n e =
    let there = ((behaves p whole.fits).each w k arguments line t).ends n Stuck t' e in code_goes_on p whole w k f at arguments count line t t' there.0 there.1
