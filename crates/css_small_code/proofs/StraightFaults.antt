-- Straight-line operators that find their cells and leave no stack divide by 0: there the machine is at fault.
use Rattle.std.proofs.Common.{◌≡◌, ℕ, suc, ◌+◌, ◌-◌, ◌≤◌, Bool, true, false, IsTrue, List, [], ◌∷◌, length, Option, Some, None, nat_eq, if◌then◌else◌, refl, sym, ap, subst, ◌∙◌, arith}
use Rattle.std.specs.Prelude.{slice_get}
use Rattle.std.proofs.lemmas.Option.{slice_get-get_or}
use Rattle.css_base.specs.declared.ending.FaultKind.TheVariants.{DivideByZero}
use Rattle.css_semantics.specs.Dialogue.{Tape, World, Goes, fault}
use Rattle.css_vm.specs.declared.code.Op.{Op}
use Rattle.css_vm.specs.declared.code.Op.TheVariants as ops
use Rattle.css_vm.specs.Cells.{cell_of}
use Rattle.css_vm.specs.Code.{Code}
use Rattle.css_vm.specs.Machine.{On, division, effect, exec}
use Rattle.css_vm.specs.Soundness.{takes, gives, needs}
use Rattle.css_small_code.specs.Code.{in_line}
use Rattle.css_small_code.proofs.Stands.{Stands}
use Rattle.css_small_code.proofs.Steps.{Running, state, one_step}
use Rattle.css_small_code.proofs.Straight.{and_then, one_for, two_for, divided, left_by, applied, is_straight, FindCells}
use Rattle.css_small_code.proofs.StraightSteps.{through, step_does}

-- ---- heights

one_height : (g : ℕ → ℕ) (stack later : List ℕ) → one_for g stack ≡ Some later → length later ≡ length stack - 1 + 1
one_height g [] later leaves = cc
one_height g (a ∷ rest) later leaves = let is : g a ∷ rest ≡ later = cc in omega (arith, ap length is)

two_height : (g : ℕ → ℕ → ℕ) (stack later : List ℕ) → two_for g stack ≡ Some later → length later ≡ length stack - 2 + 1
two_height g [] later leaves = cc
two_height g (b ∷ []) later leaves = cc
two_height g (b ∷ a ∷ rest) later leaves = let is : g a b ∷ rest ≡ later = cc in omega (arith, ap length is)

unless_height : (zero : Bool) (stack later : List ℕ) → (if zero then None else Some stack) ≡ Some later → length later ≡ length stack
unless_height true stack later leaves = cc
unless_height false stack later leaves = let is : stack ≡ later = cc in sym (ap length is)

divided_height : (g : ℕ → ℕ → ℕ) (stack later : List ℕ) → divided g stack ≡ Some later → length later ≡ length stack - 2 + 1
divided_height g [] later leaves = cc
divided_height g (b ∷ []) later leaves = cc
divided_height g (b ∷ a ∷ rest) later leaves = omega (arith, unless_height (nat_eq b 0) (g a b ∷ rest) later leaves)

copy_height : (found : Option ℕ) (stack later : List ℕ) → and_then found (λ a. Some (a ∷ stack)) ≡ Some later → length later ≡ length stack + 1
copy_height None stack later leaves = cc
copy_height (Some a) stack later leaves = let is : a ∷ stack ≡ later = cc in omega (arith, ap length is)

pub left_height : (code : Code) (op : Op) (stack later : List ℕ) → left_by op stack ≡ Some later → length later ≡ length stack - takes code op + gives code op
left_height code (ops.Push v) stack later leaves = let is : cell_of v ∷ stack ≡ later = cc in omega (arith, ap length is)
left_height code ops.Drop [] later leaves = cc
left_height code ops.Drop (a ∷ rest) later leaves = let is : rest ≡ later = cc in omega (arith, ap length is)
left_height code (ops.Dup n) stack later leaves = omega (arith, copy_height (slice_get stack n) stack later leaves)
left_height code ops.Swap [] later leaves = cc
left_height code ops.Swap (b ∷ []) later leaves = cc
left_height code ops.Swap (b ∷ a ∷ rest) later leaves = let is : a ∷ b ∷ rest ≡ later = cc in omega (arith, ap length is)
left_height code ops.Add stack later leaves = two_height _ stack later leaves
left_height code ops.Sub stack later leaves = two_height _ stack later leaves
left_height code ops.Mul stack later leaves = two_height _ stack later leaves
left_height code ops.And stack later leaves = two_height _ stack later leaves
left_height code ops.Or stack later leaves = two_height _ stack later leaves
left_height code ops.Xor stack later leaves = two_height _ stack later leaves
left_height code ops.Neg stack later leaves = one_height _ stack later leaves
left_height code ops.Not stack later leaves = one_height _ stack later leaves
left_height code ops.Divs stack later leaves = divided_height _ stack later leaves
left_height code ops.Rems stack later leaves = divided_height _ stack later leaves
left_height code (ops.Shl n) stack later leaves = two_height _ stack later leaves
left_height code (ops.Shrs n) stack later leaves = two_height _ stack later leaves
left_height code ops.Eq stack later leaves = two_height _ stack later leaves
left_height code ops.Ne stack later leaves = two_height _ stack later leaves
left_height code ops.Lts stack later leaves = two_height _ stack later leaves
left_height code (ops.Conv t) stack later leaves = one_height _ stack later leaves
left_height code _ stack later leaves = cc

-- ---- an operator that finds its cells and leaves no stack

one_leaves : {A : Type 0} (g : ℕ → ℕ) (stack : List ℕ) → 1 ≤ length stack → one_for g stack ≡ None → A
one_leaves g [] finds none = absurd (omega arith)
one_leaves g (a ∷ rest) finds none = cc

two_leave : {A : Type 0} (g : ℕ → ℕ → ℕ) (stack : List ℕ) → 2 ≤ length stack → two_for g stack ≡ None → A
two_leave g [] finds none = absurd (omega arith)
two_leave g (b ∷ []) finds none = absurd (omega arith)
two_leave g (b ∷ a ∷ rest) finds none = cc

copy_leaves : {A : Type 0} (n : ℕ) (stack : List ℕ) → n + 1 ≤ length stack → left_by (ops.Dup n) stack ≡ None → A
copy_leaves n stack finds none =
    let found = slice_get-get_or stack n 0 (omega arith) in
    cc

module _ (w : World) (code : Code) (here : Running code) (line place : ℕ) where
  unless_stops : (zero : Bool) (stack : List ℕ) (tape : Tape) → (if zero then None else Some stack) ≡ None → (if zero then fault DivideByZero line tape else Goes (On (state w code here (place + 1) stack)) tape) ≡ fault DivideByZero line tape
  unless_stops true stack tape none = refl
  unless_stops false stack tape none = cc

  division_stops : (g : ℕ → ℕ → ℕ) (stack : List ℕ) (tape : Tape) → 2 ≤ length stack → divided g stack ≡ None → division w code here.activation here.callers line place g stack tape ≡ fault DivideByZero line tape
  division_stops g [] tape finds none = absurd (omega arith)
  division_stops g (b ∷ []) tape finds none = absurd (omega arith)
  division_stops g (b ∷ a ∷ rest) tape finds none = unless_stops (nat_eq b 0) (g a b ∷ rest) tape none

  stops : (op : Op) (stack : List ℕ) (tape : Tape) → IsTrue (is_straight op) → needs code op ≤ length stack → left_by op stack ≡ None → effect w code here.activation here.callers line place op stack tape ≡ fault DivideByZero line tape
  stops (ops.Push v) stack tape straight finds none = cc
  stops ops.Drop [] tape straight finds none = absurd (omega arith)
  stops ops.Drop (a ∷ rest) tape straight finds none = cc
  stops (ops.Dup n) stack tape straight finds none = copy_leaves n stack finds none
  stops ops.Swap [] tape straight finds none = absurd (omega arith)
  stops ops.Swap (b ∷ []) tape straight finds none = absurd (omega arith)
  stops ops.Swap (b ∷ a ∷ rest) tape straight finds none = cc
  stops ops.Add stack tape straight finds none = two_leave _ stack finds none
  stops ops.Sub stack tape straight finds none = two_leave _ stack finds none
  stops ops.Mul stack tape straight finds none = two_leave _ stack finds none
  stops ops.And stack tape straight finds none = two_leave _ stack finds none
  stops ops.Or stack tape straight finds none = two_leave _ stack finds none
  stops ops.Xor stack tape straight finds none = two_leave _ stack finds none
  stops ops.Neg stack tape straight finds none = one_leaves _ stack finds none
  stops ops.Not stack tape straight finds none = one_leaves _ stack finds none
  stops ops.Divs stack tape straight finds none = division_stops _ stack tape finds none
  stops ops.Rems stack tape straight finds none = division_stops _ stack tape finds none
  stops (ops.Shl n) stack tape straight finds none = two_leave _ stack finds none
  stops (ops.Shrs n) stack tape straight finds none = two_leave _ stack finds none
  stops ops.Eq stack tape straight finds none = two_leave _ stack finds none
  stops ops.Ne stack tape straight finds none = two_leave _ stack finds none
  stops ops.Lts stack tape straight finds none = two_leave _ stack finds none
  stops (ops.Conv t) stack tape straight finds none = one_leaves _ stack finds none
  stops _ stack tape straight finds none = cc

  step_stops : (op : Op) (stack : List ℕ) (tape : Tape) (n : ℕ) → slice_get here.routine.body place ≡ Some (record { op = op; line = line }) → IsTrue (is_straight op) → needs code op ≤ length stack → left_by op stack ≡ None → exec w code (suc n) (state w code here place stack) tape ≡ fault DivideByZero line tape
  step_stops op stack tape n stands straight finds none =
      one_step w code here line op place stack tape (fault DivideByZero line tape) stands (stops op stack tape straight finds none) n

module _ (w : World) (code : Code) (here : Running code) (line : ℕ) where
  -- operators behind the first are at fault if they leave no stack, from whatever the first leaves
  abbrev FollowFaults : List Op → ℕ → ℕ → ℕ → Tape → Type 0
  FollowFaults all n place height tape = (stack : List ℕ) → height ≡ length stack → applied all stack ≡ None → through w code here line all n place stack tape ≡ fault DivideByZero line tape

  faults_from : (op : Op) (all : List Op) (place : ℕ) (stack : List ℕ) (tape : Tape) (n : ℕ) (found : Option (List ℕ)) → slice_get here.routine.body place ≡ Some (record { op = op; line = line }) → IsTrue (is_straight op) → needs code op ≤ length stack → left_by op stack ≡ found → and_then found (applied all) ≡ None → FollowFaults all n (place + 1) (length stack - takes code op + gives code op) tape → through w code here line (op ∷ all) n place stack tape ≡ fault DivideByZero line tape
  faults_from op all place stack tape n None stands straight finds is none follow =
      let steps : length (op ∷ all) + n ≡ suc (length all + n) = omega arith in
      ap (λ k. exec w code k (state w code here place stack) tape) steps
      ∙ step_stops w code here line place op stack tape (length all + n) stands straight finds is
  faults_from op all place stack tape n (Some mid) stands straight finds is none follow =
      let steps : length (op ∷ all) + n ≡ suc (length all + n) = omega arith in
      ap (λ k. exec w code k (state w code here place stack) tape) steps
      ∙ step_does w code here line place op stack mid tape (length all + n) stands is
      ∙ follow mid (sym (left_height code op stack mid is)) none

  -- Where operators of one line stand that find their cells but leave no stack, one of them divides by 0: as many steps as there are
  -- of them end in the fault.
  pub straight_faults : (all : List Op) (place height : ℕ) (stack : List ℕ) (tape : Tape) (n : ℕ) → Stands here.routine.body place (in_line line all) → FindCells code height all → height ≡ length stack → applied all stack ≡ None → through w code here line all n place stack tape ≡ fault DivideByZero line tape
  straight_faults [] place height stack tape n stands find is none = cc
  straight_faults (op ∷ all) place height stack tape n stands find is none =
      let finds : needs code op ≤ length stack = subst (λ k. needs code op ≤ k) is find.1 in
      let later : height - takes code op + gives code op ≡ length stack - takes code op + gives code op = ap (λ k. k - takes code op + gives code op) is in
      faults_from op all place stack tape n (left_by op stack) stands.0 find.0 finds refl none
      (λ mid same. straight_faults all (place + 1) (height - takes code op + gives code op) mid tape n stands.1 find.2 (later ∙ same))
