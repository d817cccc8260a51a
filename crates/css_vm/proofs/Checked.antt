-- A test by which plans of some code are seen to be sound.
use Rattle.std.proofs.Common.{◌≡◌, ℕ, ℤ, zero, suc, ◌+◌, ◌-◌, ◌≤◌, List, [], ◌∷◌, length, Option, Some, None, is_none, is_some, Result, Ok, Err, IfOk, slice_get, Bool, true, false, not, ◌&&◌, ◌||◌, nat_eq, nat_le, nat_lt, IsTrue, All, refl, ap, sym, subst, ◌∙◌, arith, add-zero, zero-add}
use Rattle.std.specs.List.{list_all}
use Rattle.std.proofs.lemmas.Bool.{leb-true, ltb-true, eqb-true, eq-eqb, le-leb, lt-ltb, and_parts, and_from, not-true}
use Rattle.std.proofs.lemmas.List.Elements.{All-nil, All-cons, All-contains}
use Rattle.css_vm.specs.declared.code.ArgShape.{ArgShape}
use Rattle.css_vm.specs.declared.code.ArgShape.TheVariants as shapes
use Rattle.css_vm.specs.declared.code.Instr.{Instr}
use Rattle.css_vm.specs.declared.code.Op.{Op}
use Rattle.css_vm.specs.declared.code.Op.TheVariants as ops
use Rattle.css_vm.specs.declared.code as coded
use Rattle.css_vm.specs.Code.{Routine, Shape, Code, code_of}
use Rattle.css_vm.specs.Machine.{State, Begin, At, answered}
use Rattle.css_vm.specs.Events.{IsStacked, Falls}
use Rattle.css_vm.specs.Effects.{goes_on, no_functions}
use Rattle.css_vm.specs.Soundness.{Spot, Stays, Leads, GoesOn, Names, IsFine, IsSoundBody, IsPart, AreParts, IsShapeOf, IsReached, Itself, Called, IsQuiet, IsSound, Fits, takes, gives, needs}

abbrev pub spot : ℕ → ℕ → Spot
spot height rank = record { height = height; rank = rank }

-- ---- the tests

abbrev is_next : Option Spot → Spot → ℕ → Bool
is_next None s height = false
is_next (Some next) s height = nat_eq next.height height && nat_lt next.rank s.rank

abbrev leads : List Spot → ℕ → Spot → ℕ → Bool
leads plan place s height = is_next (slice_get plan place) s height

abbrev has_height : Option Spot → ℕ → Bool
has_height None height = false
has_height (Some next) height = nat_eq next.height height

abbrev is_first : Option Spot → Bool
is_first o = has_height o 0

abbrev is_task : Option Routine → Bool
is_task None = false
is_task (Some f) = is_some f.task

abbrev is_empty : List ℕ → Bool
is_empty [] = true
is_empty (x ∷ xs) = false

-- main has no parameters, and is no task
abbrev is_main : Option Routine → Bool
is_main None = false
is_main (Some f) = is_empty f.parameters && is_none f.task

abbrev is_part : ArgShape → ℕ → Bool
is_part shapes.Scalar width = true
is_part (shapes.Window direction element dims strided) width = nat_eq width 4 && (nat_le 1 element && (not strided || nat_eq dims 3))

abbrev are_parts : List ArgShape → List ℕ → Bool
are_parts [] [] = true
are_parts (s ∷ shapes) (width ∷ parameters) = is_part s width && are_parts shapes parameters
are_parts _ _ = false

abbrev has_shape : Option Shape → List ℕ → Bool
has_shape None parameters = true
has_shape (Some s) parameters = nat_le (length parameters) 32 && are_parts s.arguments parameters

module _ (code : Code) where
  abbrev names : Op → Bool
  names (ops.Call k) = is_some (slice_get code.functions k)
  names (ops.Submit k) = is_task (slice_get code.functions k)
  names op = true

  abbrev goes : List Spot → ℕ → Spot → Op → Bool
  goes plan place s ops.Ret = true
  goes plan place s (ops.Jump to) = leads plan to s s.height
  goes plan place s (ops.Jumpz to) = leads plan to s (s.height - 1) && leads plan (place + 1) s (s.height - 1)
  goes plan place s ops.Turn = has_height (slice_get plan (place + 1)) s.height
  goes plan place s (ops.Call k) = has_height (slice_get plan (place + 1)) (s.height - takes code (ops.Call k) + 1)
  goes plan place s op = leads plan (place + 1) s (s.height - takes code op + gives code op)

  abbrev is_fine : List Spot → ℕ → Spot → Op → Bool
  is_fine plan place s op = nat_le (needs code op) s.height && (names op && goes plan place s op)

  -- the spots from a place on fit the instructions from there on
  abbrev are_fine : List Spot → ℕ → ℕ → List Spot → List Instr → Bool
  are_fine plan most place [] is = true
  are_fine plan most place (s ∷ spots) [] = false
  are_fine plan most place (s ∷ spots) (i ∷ is) = is_fine plan place s i.op && nat_le s.rank most && are_fine plan most (place + 1) spots is

  abbrev is_sound_body : Routine → List Spot → Bool
  is_sound_body f plan = is_first (slice_get plan 0) && are_fine plan (length f.body) 0 plan f.body

  abbrev are_sound : List Routine → List (List Spot) → Bool
  are_sound [] plans = true
  are_sound (f ∷ functions) [] = false
  are_sound (f ∷ functions) (plan ∷ plans) = is_sound_body f plan && are_sound functions plans

  -- an instruction that makes no event and doesn't call main
  abbrev is_quiet : Op → Bool
  is_quiet (ops.Out c) = false
  is_quiet (ops.Submit k) = false
  is_quiet (ops.Mark kind) = false
  is_quiet (ops.Call k) = not (nat_eq k code.main)
  is_quiet op = true

  -- from this number on all functions but main are quiet
  abbrev are_quiet : ℕ → List Routine → Bool
  are_quiet k [] = true
  are_quiet k (f ∷ functions) = (nat_eq k code.main || list_all (λ i. is_quiet i.op) f.body) && are_quiet (k + 1) functions

  abbrev pub is_sound : List (List Spot) → Bool
  is_sound plans =
      (are_sound code.functions plans && is_main (slice_get code.functions code.main))
      && (list_all (λ f. has_shape f.task f.parameters) code.functions && are_quiet 0 code.functions)

-- ---- what they show

leads_by : (plan : List Spot) (place : ℕ) (s : Spot) (height : ℕ) (o : Option Spot) → slice_get plan place ≡ o → is_next o s height ≡ true → Leads plan place s height
leads_by plan place s height None at holds = absurd (cc)
leads_by plan place s height (Some next) at holds = (next, at, eqb-true next.height height (and_parts _ _ holds).0, ltb-true next.rank s.rank (and_parts _ _ holds).1)

stays_by : (plan : List Spot) (place height : ℕ) (o : Option Spot) → slice_get plan place ≡ o → has_height o height ≡ true → Stays plan place height
stays_by plan place height None at holds = absurd (cc)
stays_by plan place height (Some next) at holds = (next, at, eqb-true next.height height holds)

first_by : (plan : List Spot) (o : Option Spot) → slice_get plan 0 ≡ o → is_first o ≡ true → (rank : ℕ) × (slice_get plan 0 ≡ Some (spot 0 rank))
first_by plan None at holds = absurd (cc)
first_by plan (Some first) at holds = (first.rank, at ∙ ap (λ h. let s : Spot = spot h first.rank in Some s) (eqb-true first.height 0 holds))

some_by : {X : Type 0} (o : Option X) → is_some o ≡ true → (x : X) × (o ≡ Some x)
some_by None holds = absurd (cc)
some_by (Some x) holds = (x, refl)

task_by : (o : Option Routine) → is_task o ≡ true → (f : Routine) × (s : Shape) × (o ≡ Some f) × (f.task ≡ Some s)
task_by None holds = absurd (cc)
task_by (Some f) holds = let s = some_by f.task holds in (f, s.0, refl, s.1)

all_by : {X : Type 0} (test : X → Bool) (P : X → Type 0) → ((x : X) → test x ≡ true → P x) → (xs : List X) → list_all test xs ≡ true → All P xs
all_by test P shows [] holds = All-nil P
all_by test P shows (x ∷ xs) holds =
    let parts = and_parts (test x) (list_all test xs) holds in
    All-cons P x xs (shows x parts.0) (all_by test P shows xs parts.1)

at_by : {X : Type 0} (test : X → Bool) (xs : List X) → list_all test xs ≡ true → (k : ℕ) (x : X) → slice_get xs k ≡ Some x → test x ≡ true
at_by test [] holds k x at = absurd (cc)
at_by test (y ∷ xs) holds zero x at =
    let same : y ≡ x = cc in
    ap test (sym same) ∙ (and_parts (test y) (list_all test xs) holds).0
at_by test (y ∷ xs) holds (suc k) x at = at_by test xs (and_parts (test y) (list_all test xs) holds).1 k x at

module _ (code : Code) where
  names_by : (op : Op) → names code op ≡ true → Names code op
  names_by (ops.Call k) holds = some_by (slice_get code.functions k) holds
  names_by (ops.Submit k) holds = task_by (slice_get code.functions k) holds
  names_by _ holds = tt

  goes_by : (plan : List Spot) (place : ℕ) (s : Spot) (op : Op) → goes code plan place s op ≡ true → GoesOn code plan place s op
  goes_by plan place s ops.Ret holds = tt
  goes_by plan place s (ops.Jump to) holds = leads_by plan to s s.height (slice_get plan to) refl holds
  goes_by plan place s (ops.Jumpz to) holds = (leads_by plan to s (s.height - 1) (slice_get plan to) refl (and_parts _ _ holds).0, leads_by plan (place + 1) s (s.height - 1) (slice_get plan (place + 1)) refl (and_parts _ _ holds).1)
  goes_by plan place s ops.Turn holds = stays_by plan (place + 1) s.height (slice_get plan (place + 1)) refl holds
  goes_by plan place s (ops.Call k) holds = stays_by plan (place + 1) (s.height - takes code (ops.Call k) + 1) (slice_get plan (place + 1)) refl holds
  goes_by plan place s op holds = leads_by plan (place + 1) s (s.height - takes code op + gives code op) (slice_get plan (place + 1)) refl holds

  fine_by : (plan : List Spot) (place : ℕ) (s : Spot) (op : Op) → is_fine code plan place s op ≡ true → IsFine code plan place s op
  fine_by plan place s op holds =
      let parts = and_parts (nat_le (needs code op) s.height) (names code op && goes code plan place s op) holds in
      let rest = and_parts (names code op) (goes code plan place s op) parts.1 in
      record { finds = leb-true (needs code op) s.height parts.0; names = names_by op rest.0; goes_on = goes_by plan place s op rest.1 }

  -- the instruction of a spot
  abbrev HasInstr : List Spot → ℕ → ℕ → List Instr → ℕ → Spot → Type 0
  HasInstr plan most place is k s = (i : Instr) × (slice_get is k ≡ Some i) × IsFine code plan place s i.op × (s.rank ≤ most)

  each_fine : (plan : List Spot) (most place : ℕ) (spots : List Spot) (is : List Instr) → are_fine code plan most place spots is ≡ true → (k : ℕ) (s : Spot) → slice_get spots k ≡ Some s → HasInstr plan most (place + k) is k s
  each_fine plan most place [] is holds k s at = absurd (cc)
  each_fine plan most place (s' ∷ spots) [] holds k s at = absurd (cc)
  each_fine plan most place (s' ∷ spots) (i ∷ is) holds zero s at =
      let same : s' ≡ s = cc in
      let parts = and_parts _ (are_fine code plan most (place + 1) spots is) holds in
      let here = and_parts (is_fine code plan place s' i.op) (nat_le s'.rank most) parts.0 in
      rw add-zero (subst (λ (s : Spot). HasInstr plan most place (i ∷ is) 0 s) same (i, refl, fine_by plan place s' i.op here.0, leb-true s'.rank most here.1))
  each_fine plan most place (s' ∷ spots) (i ∷ is) holds (suc k) s at =
      let parts = and_parts _ (are_fine code plan most (place + 1) spots is) holds in
      let on : place + 1 + k ≡ place + suc k = omega arith in
      subst (λ (n : ℕ). HasInstr plan most n is k s) on (each_fine plan most (place + 1) spots is parts.1 k s at)

  body_by : (f : Routine) (plan : List Spot) → is_sound_body code f plan ≡ true → IsSoundBody code f plan
  body_by f plan holds =
      let parts = and_parts (is_first (slice_get plan 0)) (are_fine code plan (length f.body) 0 plan f.body) holds in
      record {
        first = first_by plan (slice_get plan 0) refl parts.0;
        each = λ place s at. subst (λ (n : ℕ). HasInstr plan (length f.body) n f.body place s) (zero-add place) (each_fine plan (length f.body) 0 plan f.body parts.1 place s at);
      }

  bodies_by : (functions : List Routine) (plans : List (List Spot)) → are_sound code functions plans ≡ true → (k : ℕ) (f : Routine) → slice_get functions k ≡ Some f → (plan : List Spot) × (slice_get plans k ≡ Some plan) × IsSoundBody code f plan
  bodies_by [] plans holds k f at = absurd (cc)
  bodies_by (g ∷ functions) [] holds k f at = absurd (cc)
  bodies_by (g ∷ functions) (plan ∷ plans) holds zero f at =
      let same : g ≡ f = cc in
      let parts = and_parts (is_sound_body code g plan) (are_sound code functions plans) holds in
      (plan, refl, subst (λ (f : Routine). IsSoundBody code f plan) same (body_by g plan parts.0))
  bodies_by (g ∷ functions) (plan ∷ plans) holds (suc k) f at =
      bodies_by functions plans (and_parts (is_sound_body code g plan) (are_sound code functions plans) holds).1 k f at

-- ---- tasks

three_by : (strided : Bool) (dims : ℕ) → (not strided || nat_eq dims 3) ≡ true → strided ≡ true → dims ≡ 3
three_by true dims holds is = eqb-true dims 3 holds
three_by false dims holds is = absurd (cc)

part_by : (code : Code) (s : ArgShape) (width : ℕ) → is_part s width ≡ true → IsPart code s width
part_by code shapes.Scalar width holds = tt
part_by code (shapes.Window direction element dims strided) width holds =
    let parts = and_parts (nat_eq width 4) (nat_le 1 element && (not strided || nat_eq dims 3)) holds in
    let rest = and_parts (nat_le 1 element) (not strided || nat_eq dims 3) parts.1 in
    (eqb-true width 4 parts.0, leb-true 1 element rest.0, three_by strided dims rest.1)

parts_by : (code : Code) (shapes : List ArgShape) (parameters : List ℕ) → are_parts shapes parameters ≡ true → AreParts code shapes parameters
parts_by code [] [] holds = tt
parts_by code [] (width ∷ parameters) holds = absurd (cc)
parts_by code (s ∷ shapes) [] holds = absurd (cc)
parts_by code (s ∷ shapes) (width ∷ parameters) holds =
    let parts = and_parts (is_part s width) (are_parts shapes parameters) holds in
    (part_by code s width parts.0, parts_by code shapes parameters parts.1)

shape_by : (code : Code) (o : Option Shape) (f : Routine) (s : Shape) → has_shape o f.parameters ≡ true → o ≡ Some s → IsShapeOf code s f
shape_by code None f s holds is = absurd (cc)
shape_by code (Some t) f s holds is =
    let same : t ≡ s = cc in
    let parts = and_parts (nat_le (length f.parameters) 32) (are_parts t.arguments f.parameters) holds in
    (leb-true (length f.parameters) 32 parts.0, subst (λ (s : Shape). AreParts code s.arguments f.parameters) same (parts_by code t.arguments f.parameters parts.1))

empty_by : (xs : List ℕ) → is_empty xs ≡ true → xs ≡ []
empty_by [] holds = refl
empty_by (x ∷ xs) holds = absurd (cc)

no_task : {X : Type 0} (o : Option X) (x : X) → is_none o ≡ true → o ≡ Some x → ⊥
no_task None x holds is = absurd (cc)
no_task (Some y) x holds is = absurd (cc)

main_by : (o : Option Routine) → is_main o ≡ true → (f : Routine) × (o ≡ Some f) × (f.parameters ≡ []) × (is_none f.task ≡ true)
main_by None holds = absurd (cc)
main_by (Some f) holds =
    let parts = and_parts (is_empty f.parameters) (is_none f.task) holds in
    (f, refl, empty_by f.parameters parts.0, parts.1)

module _ (code : Code) (main : (f : Routine) × (slice_get code.functions code.main ≡ Some f) × (f.parameters ≡ []) × (is_none f.task ≡ true)) (quiet : are_quiet code 0 code.functions ≡ true) where
  quiet_op : (op : Op) → is_quiet code op ≡ true → IsQuiet code op
  quiet_op (ops.Out c) holds = absurd (cc)
  quiet_op (ops.Submit k) holds = absurd (cc)
  quiet_op (ops.Mark kind) holds = absurd (cc)
  quiet_op _ holds = tt

  calls_another : (op : Op) (k : ℕ) → is_quiet code op ≡ true → op ≡ ops.Call k → k ≡ code.main → ⊥
  calls_another op k holds is same =
      let called : not (nat_eq k code.main) ≡ true = ap (is_quiet code) (sym is) ∙ holds in
      let other = not-true (nat_eq k code.main) called in
      let equal = eq-eqb k code.main same in
      absurd (cc)

  quiet_here : (first : ℕ) (f : Routine) (is_main : Bool) → nat_eq first code.main ≡ is_main → (is_main || list_all (λ i. is_quiet code i.op) f.body) ≡ true → (first ≡ code.main → ⊥) → list_all (λ i. is_quiet code i.op) f.body ≡ true
  quiet_here first f true is holds other = absurd (other (eqb-true first code.main is))
  quiet_here first f false is holds other = holds

  quiet_from : (first : ℕ) (functions : List Routine) → are_quiet code first functions ≡ true → (k : ℕ) (f : Routine) → slice_get functions k ≡ Some f → (first + k ≡ code.main → ⊥) → list_all (λ i. is_quiet code i.op) f.body ≡ true
  quiet_from first [] holds k f at other = absurd (cc)
  quiet_from first (g ∷ functions) holds zero f at other =
      let same : g ≡ f = cc in
      let parts = and_parts (nat_eq first code.main || list_all (λ i. is_quiet code i.op) g.body) (are_quiet code (first + 1) functions) holds in
      let here = quiet_here first g (nat_eq first code.main) refl parts.0 (λ is. other (omega (arith, is))) in
      subst (λ (f : Routine). list_all (λ i. is_quiet code i.op) f.body ≡ true) same here
  quiet_from first (g ∷ functions) holds (suc k) f at other =
      let parts = and_parts (nat_eq first code.main || list_all (λ i. is_quiet code i.op) g.body) (are_quiet code (first + 1) functions) holds in
      let on : first + suc k ≡ first + 1 + k = omega arith in
      quiet_from (first + 1) functions parts.1 k f at (λ is. other (on ∙ is))

  -- what a task reaches isn't main
  reached_by : {k : ℕ} → IsReached code k → k ≡ code.main → ⊥
  reached_by (Itself f s at task) same =
      let is_main : main.0 ≡ f = cc (main.1, at, same) in
      no_task main.0.task s main.3 (ap (λ (g : Routine). g.task) is_main ∙ task)
  reached_by (Called caller f i reached at has is) same =
      let others = quiet_from 0 code.functions quiet caller f at (λ e. reached_by reached (omega (arith, e))) in
      let quiet_instr = All-contains (λ (i : Instr). is_quiet code i.op ≡ true) f.body i (all_by (λ i. is_quiet code i.op) (λ i. is_quiet code i.op ≡ true) (λ i h. h) f.body others) has in
      calls_another i.op _ quiet_instr is same

  quiet_by : (k : ℕ) (f : Routine) → IsReached code k → slice_get code.functions k ≡ Some f → All (λ i. IsQuiet code i.op) f.body
  quiet_by k f reached at =
      all_by (λ i. is_quiet code i.op) (λ i. IsQuiet code i.op) (λ i h. quiet_op i.op h) f.body
      (quiet_from 0 code.functions quiet k f at (λ e. reached_by reached (omega (arith, e))))

-- ---- code whose plans pass the test

sound_by : (code : Code) (plans : List (List Spot)) → is_sound code plans ≡ true → IsSound code plans
sound_by code plans holds =
    let parts = and_parts (are_sound code code.functions plans && is_main (slice_get code.functions code.main)) (list_all (λ f. has_shape f.task f.parameters) code.functions && are_quiet code 0 code.functions) holds in
    let bodies = and_parts (are_sound code code.functions plans) (is_main (slice_get code.functions code.main)) parts.0 in
    let tasks = and_parts (list_all (λ f. has_shape f.task f.parameters) code.functions) (are_quiet code 0 code.functions) parts.1 in
    let main = main_by (slice_get code.functions code.main) bodies.1 in
    record {
      each = bodies_by code code.functions plans bodies.0;
      main = (main.0, main.1, main.2);
      shapes = λ k f s at task. shape_by code f.task f s (at_by (λ (f : Routine). has_shape f.task f.parameters) code.functions tasks.0 k f at) task;
      quiet = quiet_by code main tasks.1;
    }

-- it fits from the entry of main on
pub fits_by : (code : Code) (plans : List (List Spot)) (line : ℕ) → is_sound code plans ≡ true → Fits code (Begin code.main [] line)
fits_by code plans line holds =
    let sound = sound_by code plans holds in
    let no_arguments : 0 ≡ length sound.main.0.parameters = ap length (sym sound.main.2) in
    (plans, sound, (0, (refl, (sound.main.0, sound.main.1, no_arguments))))

-- ---- an instruction that leads on, where only the cells are known that it takes and gives

module _ (code : Code) where
  takes_alike : (op : Op) → IsTrue (goes_on op) → takes code op ≡ takes no_functions op
  takes_alike (ops.Call k) on = absurd (cc)
  takes_alike (ops.Submit k) on = absurd (cc)
  takes_alike _ on = refl

  gives_alike : (op : Op) → gives code op ≡ gives no_functions op
  gives_alike _ = refl

  names_nothing : (op : Op) → IsTrue (goes_on op) → names code op ≡ true
  names_nothing (ops.Call k) on = absurd (cc)
  names_nothing (ops.Submit k) on = absurd (cc)
  names_nothing _ on = refl

  goes_by_next : (plan : List Spot) (place : ℕ) (s : Spot) (op : Op) → IsTrue (goes_on op) → is_next (slice_get plan (place + 1)) s (s.height - takes code op + gives code op) ≡ true → goes code plan place s op ≡ true
  goes_by_next plan place s (ops.Jump to) on holds = absurd (cc)
  goes_by_next plan place s (ops.Jumpz to) on holds = absurd (cc)
  goes_by_next plan place s (ops.Call k) on holds = absurd (cc)
  goes_by_next plan place s (ops.Submit k) on holds = absurd (cc)
  goes_by_next plan place s (ops.Mark kind) on holds = absurd (cc)
  goes_by_next plan place s ops.Turn on holds = absurd (cc)
  goes_by_next plan place s (ops.Out c) on holds = absurd (cc)
  goes_by_next plan place s ops.Ret on holds = absurd (cc)
  goes_by_next plan place s _ on holds = holds

  needs_no_more : (op : Op) (n : ℕ) → takes code op ≡ n → 1 ≤ n → nat_le (needs code op) n ≡ true
  needs_no_more (ops.Dup m) n is some = absurd (omega arith)
  needs_no_more op n is some = ap (λ m. nat_le m n) is ∙ le-leb n n (omega arith)

  -- an instruction that makes one cell of so many
  pub one_fine : (plan : List Spot) (place height rank : ℕ) (op : Op) → slice_get plan (place + 1) ≡ Some (spot 1 rank) → IsTrue (goes_on op) → takes no_functions op ≡ height → 1 ≤ height → gives no_functions op ≡ 1 → is_fine code plan place (spot height (suc rank)) op ≡ true
  one_fine plan place height rank op last on takes_all some one =
      let all : takes code op ≡ height = takes_alike op on ∙ takes_all in
      let left : height - takes code op + gives code op ≡ 1 = omega (arith, all, gives_alike op ∙ one) in
      let next : is_next (slice_get plan (place + 1)) (spot height (suc rank)) (height - takes code op + gives code op) ≡ true = rw (last, left) (lt-ltb rank (suc rank) (omega arith)) in
      and_from (nat_le (needs code op) height) (names code op && goes code plan place (spot height (suc rank)) op) (needs_no_more op height all some)
      (and_from (names code op) (goes code plan place (spot height (suc rank)) op) (names_nothing op on)
      (goes_by_next plan place (spot height (suc rank)) op on next))

-- ---- code that a function makes

pub fits_alike : {E : Type 0} (r : Result coded.Code.Code E) (code : Code) → IfOk r (λ c. code_of c ≡ code) → Fits code (Begin 0 [] 1) → IfOk r (λ c. Fits (code_of c) (Begin 0 [] 1))
fits_alike (Ok c) code is fits = subst (λ (code : Code). Fits code (Begin 0 [] 1)) (sym is) fits
fits_alike (Err e) code is fits = tt

-- main alone, with this frame
abbrev pub alone : ℕ → List Instr → Code
alone frame body = record { functions = record { frame = frame; parameters = []; task = None; body = body } ∷ []; main = 0 }

-- main and another function
abbrev pub pair : Routine → Routine → Code
pair f g = record { functions = f ∷ g ∷ []; main = 0 }

abbrev at_line : Op → ℕ → Instr
at_line op line = record { op = op; line = line }

-- an instruction that makes one number of two
pub binary_fits : (a b : ℤ) (op : Op) → IsTrue (goes_on op) → takes no_functions op ≡ 2 → gives no_functions op ≡ 1
    → Fits (alone 0 (at_line (ops.Push a) 2 ∷ at_line (ops.Push b) 2 ∷ at_line op 3 ∷ at_line ops.Ret 4 ∷ [])) (Begin 0 [] 1)
binary_fits a b op on two one =
    let code = alone 0 (at_line (ops.Push a) 2 ∷ at_line (ops.Push b) 2 ∷ at_line op 3 ∷ at_line ops.Ret 4 ∷ []) in
    let plan : List Spot = spot 0 3 ∷ spot 1 2 ∷ spot 2 1 ∷ spot 1 0 ∷ [] in
    fits_by code (plan ∷ []) 1 (rw (one_fine code plan 2 2 0 op refl on two (omega arith) one))

-- and one that makes one of one
pub unary_fits : (a : ℤ) (op : Op) → IsTrue (goes_on op) → takes no_functions op ≡ 1 → gives no_functions op ≡ 1
    → Fits (alone 0 (at_line (ops.Push a) 2 ∷ at_line op 3 ∷ at_line ops.Ret 4 ∷ [])) (Begin 0 [] 1)
unary_fits a op on takes_one gives_one =
    let code = alone 0 (at_line (ops.Push a) 2 ∷ at_line op 3 ∷ at_line ops.Ret 4 ∷ []) in
    let plan : List Spot = spot 0 2 ∷ spot 1 1 ∷ spot 1 0 ∷ [] in
    fits_by code (plan ∷ []) 1 (rw (one_fine code plan 1 1 0 op refl on takes_one (omega arith) gives_one))

-- ---- what a run leaves

-- a machine that isn't owed an answer goes on
pub left_fits : (code : Code) (old new : State) (units units' : ℕ) → Falls code old units new units' → Fits code old → Fits code new
left_fits code old new units units' falls fits =
    let next = falls fits.0 fits.2.0 fits.1 fits.2.1 in
    (fits.0, fits.1, (next.0, next.1))

-- an answer moves no frame
pub answered_stacked : (code : Code) (place value : ℕ) (s : State) → IsStacked code place s → IsStacked code place (answered value s)
answered_stacked code place value (Begin function arguments line) stacked = stacked
answered_stacked code place value (At a callers at []) stacked = stacked
answered_stacked code place value (At a callers at (x ∷ rest)) stacked = stacked
