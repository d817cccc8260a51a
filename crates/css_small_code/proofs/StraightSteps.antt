-- The machine does what straight-line operators do to the stack.
use Rattle.std.proofs.Common.{◌≡◌, ℕ, suc, ◌+◌, Bool, true, false, List, [], ◌∷◌, length, Option, Some, None, nat_eq, if◌then◌else◌, refl, ap, ◌∙◌, arith}
use Rattle.std.specs.Prelude.{slice_get}
use Rattle.css_base.specs.declared.ending.FaultKind.TheVariants.{DivideByZero}
use Rattle.css_semantics.specs.Dialogue.{Tape, World, Outcome, Goes, fault}
use Rattle.css_vm.specs.declared.code.Op.{Op}
use Rattle.css_vm.specs.declared.code.Op.TheVariants as ops
use Rattle.css_vm.specs.Code.{Code}
use Rattle.css_vm.specs.Machine.{Halt, After, On, on_cell, one, two, division, effect, exec}
use Rattle.css_small_code.specs.Code.{in_line}
use Rattle.css_small_code.proofs.Stands.{Stands}
use Rattle.css_small_code.proofs.Steps.{Running, state, one_step}
use Rattle.css_small_code.proofs.Straight.{and_then, one_for, two_for, divided, left_by, applied}

module _ (w : World) (code : Code) (here : Running code) (line place : ℕ) where
  -- to the next place with this stack
  abbrev onward : List ℕ → Tape → Outcome After
  onward stack tape = Goes (On (state w code here (place + 1) stack)) tape

  one_does : (g : ℕ → ℕ) (stack later : List ℕ) (tape : Tape) → one_for g stack ≡ Some later → one w code here.activation here.callers line place g stack tape ≡ onward later tape
  one_does g [] later tape leaves = cc
  one_does g (a ∷ rest) later tape leaves = cc

  two_does : (g : ℕ → ℕ → ℕ) (stack later : List ℕ) (tape : Tape) → two_for g stack ≡ Some later → two w code here.activation here.callers line place g stack tape ≡ onward later tape
  two_does g [] later tape leaves = cc
  two_does g (b ∷ []) later tape leaves = cc
  two_does g (b ∷ a ∷ rest) later tape leaves = cc

  unless_does : (zero : Bool) (stack later : List ℕ) (tape : Tape) → (if zero then None else Some stack) ≡ Some later → (if zero then fault DivideByZero line tape else onward stack tape) ≡ onward later tape
  unless_does true stack later tape leaves = cc
  unless_does false stack later tape leaves = cc

  division_does : (g : ℕ → ℕ → ℕ) (stack later : List ℕ) (tape : Tape) → divided g stack ≡ Some later → division w code here.activation here.callers line place g stack tape ≡ onward later tape
  division_does g [] later tape leaves = cc
  division_does g (b ∷ []) later tape leaves = cc
  division_does g (b ∷ a ∷ rest) later tape leaves = unless_does (nat_eq b 0) (g a b ∷ rest) later tape leaves

  copy_does : (found : Option ℕ) (stack later : List ℕ) (tape : Tape) → and_then found (λ a. Some (a ∷ stack)) ≡ Some later → on_cell found tape (λ a. onward (a ∷ stack) tape) ≡ onward later tape
  copy_does None stack later tape leaves = cc
  copy_does (Some a) stack later tape leaves = cc

  -- what an operator leaves, the machine's step leaves
  does : (op : Op) (stack later : List ℕ) (tape : Tape) → left_by op stack ≡ Some later → effect w code here.activation here.callers line place op stack tape ≡ onward later tape
  does (ops.Push v) stack later tape leaves = cc
  does ops.Drop [] later tape leaves = cc
  does ops.Drop (a ∷ rest) later tape leaves = cc
  does (ops.Dup n) stack later tape leaves = copy_does (slice_get stack n) stack later tape leaves
  does ops.Swap [] later tape leaves = cc
  does ops.Swap (b ∷ []) later tape leaves = cc
  does ops.Swap (b ∷ a ∷ rest) later tape leaves = cc
  does ops.Add stack later tape leaves = two_does _ stack later tape leaves
  does ops.Sub stack later tape leaves = two_does _ stack later tape leaves
  does ops.Mul stack later tape leaves = two_does _ stack later tape leaves
  does ops.And stack later tape leaves = two_does _ stack later tape leaves
  does ops.Or stack later tape leaves = two_does _ stack later tape leaves
  does ops.Xor stack later tape leaves = two_does _ stack later tape leaves
  does ops.Neg stack later tape leaves = one_does _ stack later tape leaves
  does ops.Not stack later tape leaves = one_does _ stack later tape leaves
  does ops.Divs stack later tape leaves = division_does _ stack later tape leaves
  does ops.Rems stack later tape leaves = division_does _ stack later tape leaves
  does (ops.Shl n) stack later tape leaves = two_does _ stack later tape leaves
  does (ops.Shrs n) stack later tape leaves = two_does _ stack later tape leaves
  does ops.Eq stack later tape leaves = two_does _ stack later tape leaves
  does ops.Ne stack later tape leaves = two_does _ stack later tape leaves
  does ops.Lts stack later tape leaves = two_does _ stack later tape leaves
  does (ops.Conv t) stack later tape leaves = one_does _ stack later tape leaves
  does _ stack later tape leaves = cc

  -- one step at an operator that leaves a stack
  pub step_does : (op : Op) (stack later : List ℕ) (tape : Tape) (n : ℕ) → slice_get here.routine.body place ≡ Some (record { op = op; line = line }) → left_by op stack ≡ Some later → exec w code (suc n) (state w code here place stack) tape ≡ exec w code n (state w code here (place + 1) later) tape
  step_does op stack later tape n stands leaves =
      one_step w code here line op place stack tape (onward later tape) stands (does op stack later tape leaves) n

module _ (w : World) (code : Code) (here : Running code) (line : ℕ) where
  -- from a place, as many steps as there are operators, and n more
  abbrev pub through : List Op → ℕ → ℕ → List ℕ → Tape → Outcome Halt
  through all n place stack tape = exec w code (length all + n) (state w code here place stack) tape

  -- operators behind the first run from whatever the first leaves
  abbrev Follow : List Op → ℕ → ℕ → List ℕ → Tape → Type 0
  Follow all n place later tape = (stack : List ℕ) → applied all stack ≡ Some later → through all n place stack tape ≡ exec w code n (state w code here (place + length all) later) tape

  runs_from : (op : Op) (all : List Op) (place : ℕ) (stack later : List ℕ) (tape : Tape) (n : ℕ) (found : Option (List ℕ)) → slice_get here.routine.body place ≡ Some (record { op = op; line = line }) → left_by op stack ≡ found → and_then found (applied all) ≡ Some later → Follow all n (place + 1) later tape → through (op ∷ all) n place stack tape ≡ exec w code n (state w code here (place + length (op ∷ all)) later) tape
  runs_from op all place stack later tape n None stands is leaves follow = cc
  runs_from op all place stack later tape n (Some mid) stands is leaves follow =
      let steps : length (op ∷ all) + n ≡ suc (length all + n) = omega arith in
      let behind : place + 1 + length all ≡ place + length (op ∷ all) = omega arith in
      ap (λ k. exec w code k (state w code here place stack) tape) steps
      ∙ step_does w code here line place op stack mid tape (length all + n) stands is
      ∙ follow mid leaves
      ∙ ap (λ p. exec w code n (state w code here p later) tape) behind

  -- Where operators of one line stand, as many steps as there are of them lead to the place behind them, with the stack that they leave.
  pub straight_runs : (all : List Op) (place : ℕ) (stack later : List ℕ) (tape : Tape) (n : ℕ) → Stands here.routine.body place (in_line line all) → applied all stack ≡ Some later → through all n place stack tape ≡ exec w code n (state w code here (place + length all) later) tape
  straight_runs [] place stack later tape n stands leaves =
      let same : stack ≡ later = cc in
      let steps : 0 + n ≡ n = omega arith in
      let same_place : place ≡ place + 0 = omega arith in
      ap (λ k. exec w code k (state w code here place stack) tape) steps
      ∙ ap (λ s. exec w code n (state w code here place s) tape) same
      ∙ ap (λ p. exec w code n (state w code here p later) tape) same_place
  straight_runs (op ∷ all) place stack later tape n stands leaves =
      runs_from op all place stack later tape n (left_by op stack) stands.0 refl leaves (λ mid behind. straight_runs all (place + 1) mid later tape n stands.1 behind)
