-- A test by which plans of some code are seen to be sound.
use Rattle.std.proofs.Common.{◌≡◌, ℕ, zero, suc, ◌+◌, ◌-◌, ◌≤◌, List, [], ◌∷◌, length, Option, Some, None, is_none, is_some, Result, Ok, Err, IfOk, slice_get, Bool, true, false, not, ◌&&◌, ◌||◌, nat_eq, nat_le, nat_lt, All, refl, ap, sym, subst, ◌∙◌, arith, add-zero, zero-add}
use Rattle.std.specs.List.{list_all}
use Rattle.std.proofs.lemmas.Bool.{leb-true, ltb-true, eqb-true, eq-eqb, and_parts, not-true}
use Rattle.std.proofs.lemmas.List.Elements.{All-nil, All-cons, All-contains}
use Rattle.css_semantics.specs.Dialogue.{Mode, Plain, Waiting, Measuring}
use Rattle.css_semantics.specs.Memory.{first_global}
use Rattle.css_isa.specs.declared.code.ArgShape.{ArgShape}
use Rattle.css_isa.specs.declared.code.ArgShape.TheVariants as shapes
use Rattle.css_isa.specs.declared.code.Instr.{Instr}
use Rattle.css_isa.specs.declared.code.Op.{Op}
use Rattle.css_isa.specs.declared.code.Op.TheVariants as ops
use Rattle.css_isa.specs.declared.code as coded
use Rattle.css_isa.specs.Code.{Routine, Shape, Datum, Code, code_of}
use Rattle.css_isa.specs.Roles.{Role, Straight, Turning, Outward, Telling, Awaiting, Changing, Testing, Jumping, Branching, Calling, Submitting, Returning, role_of}
use Rattle.css_isa.specs.Steps.{Begin}
use Rattle.css_isa.specs.Soundness.{Spot, Plan, spot_at, Stays, Leads, height_behind, needs, AreNamed, IsPlainAt, LeadsOn, IsFine, IsSoundBody, IsPart, AreParts, IsShapeOf, IsReached, Itself, Called, MakesNoEvent, IsQuiet, IsWithin, IsSound, Fits}

-- so many cells, in plain mode, with a rank
abbrev pub spot : ℕ → ℕ → Option Spot
spot height rank = Some (record { height = height; mode = Plain; rank = rank })

-- and in another mode
abbrev pub spot_in : Mode → ℕ → ℕ → Option Spot
spot_in mode height rank = Some (record { height = height; mode = mode; rank = rank })

-- ---- the tests

abbrev is_same : Mode → Mode → Bool
is_same Plain Plain = true
is_same Waiting Waiting = true
is_same (Measuring []) (Measuring []) = true
is_same _ _ = false

abbrev is_next : Option Spot → Spot → ℕ → Mode → Bool
is_next None s height mode = false
is_next (Some next) s height mode = nat_eq next.height height && (is_same next.mode mode && nat_lt next.rank s.rank)

abbrev has_height : Option Spot → ℕ → Mode → Bool
has_height None height mode = false
has_height (Some next) height mode = nat_eq next.height height && is_same next.mode mode

abbrev is_first : Option Spot → Bool
is_first o = has_height o 0 Plain

abbrev is_task : Option Routine → Bool
is_task None = false
is_task (Some f) = is_some f.task

abbrev is_empty : {X : Type 0} → List X → Bool
is_empty [] = true
is_empty (x ∷ xs) = false

-- main has no parameters, and is no task
abbrev is_main : Option Routine → Bool
is_main None = false
is_main (Some f) = is_empty f.parameters && is_none f.task

abbrev is_part : ArgShape → ℕ → Bool
is_part shapes.Scalar width = true
is_part (shapes.Window direction element dims strided) width = nat_eq width 4 && (nat_le 1 element && (not strided || nat_eq dims 3))

abbrev are_parts : List ArgShape → List ℕ → Bool
are_parts [] [] = true
are_parts (s ∷ shapes) (width ∷ parameters) = is_part s width && are_parts shapes parameters
are_parts _ _ = false

abbrev has_shape : Option Shape → List ℕ → Bool
has_shape None parameters = true
has_shape (Some s) parameters = nat_le (length parameters) 32 && are_parts s.arguments parameters

module _ (code : Code) where
  abbrev names : Role → Bool
  names (Calling k) = is_some (slice_get code.functions k)
  names (Submitting k) = is_task (slice_get code.functions k)
  names role = true

  abbrev is_plain : Role → Mode → Bool
  is_plain Telling mode = is_same mode Plain
  is_plain (Calling k) mode = is_same mode Plain
  is_plain Returning mode = is_same mode Plain
  is_plain role mode = true

  abbrev goes : Plan → ℕ → Spot → Role → Bool
  goes plan place s (Straight needed taken given) = is_next (spot_at plan (place + 1)) s (s.height - taken + given) s.mode
  goes plan place s Turning = has_height (spot_at plan (place + 1)) s.height s.mode
  goes plan place s (Outward taken given) = is_next (spot_at plan (place + 1)) s (s.height - taken + given) s.mode
  goes plan place s Telling = is_next (spot_at plan (place + 1)) s s.height s.mode
  goes plan place s Awaiting = is_next (spot_at plan (place + 1)) s (s.height - 1) s.mode
  goes plan place s (Changing mode) = is_next (spot_at plan (place + 1)) s s.height mode
  goes plan place s Testing = is_next (spot_at plan (place + 1)) s (s.height + 1) s.mode
  goes plan place s (Jumping to) = is_next (spot_at plan to) s s.height s.mode
  goes plan place s (Branching to) = is_next (spot_at plan to) s (s.height - 1) s.mode && is_next (spot_at plan (place + 1)) s (s.height - 1) s.mode
  goes plan place s (Calling k) = has_height (spot_at plan (place + 1)) (height_behind code (Calling k) s.height) s.mode
  goes plan place s (Submitting k) = is_next (spot_at plan (place + 1)) s (height_behind code (Submitting k) s.height) s.mode
  goes plan place s Returning = true

  abbrev is_fine : Plan → ℕ → Spot → Op → Bool
  is_fine plan place s op = nat_le (needs code op) s.height && (names (role_of op) && (is_plain (role_of op) s.mode && goes plan place s (role_of op)))

  -- the spots from a place on fit the instructions from there on
  abbrev are_fine : Plan → ℕ → ℕ → Plan → List Instr → Bool
  are_fine plan most place [] is = true
  are_fine plan most place (s ∷ spots) [] = false
  are_fine plan most place (None ∷ spots) (i ∷ is) = are_fine plan most (place + 1) spots is
  are_fine plan most place (Some s ∷ spots) (i ∷ is) = is_fine plan place s i.op && nat_le s.rank most && are_fine plan most (place + 1) spots is

  abbrev is_sound_body : Routine → Plan → Bool
  is_sound_body f plan = is_first (spot_at plan 0) && are_fine plan (length f.body) 0 plan f.body

  abbrev are_sound : List Routine → List Plan → Bool
  are_sound [] plans = true
  are_sound (f ∷ functions) [] = false
  are_sound (f ∷ functions) (plan ∷ plans) = is_sound_body f plan && are_sound functions plans

  -- an instruction that makes no event and doesn't call main
  abbrev is_quiet_at : Role → Bool
  is_quiet_at (Outward taken given) = false
  is_quiet_at Telling = false
  is_quiet_at Awaiting = false
  is_quiet_at (Changing mode) = false
  is_quiet_at Testing = false
  is_quiet_at (Submitting k) = false
  is_quiet_at (Calling k) = not (nat_eq k code.main)
  is_quiet_at role = true

  abbrev is_quiet : Op → Bool
  is_quiet op = is_quiet_at (role_of op)

  -- from this number on all functions but main are quiet
  abbrev are_quiet : ℕ → List Routine → Bool
  are_quiet k [] = true
  are_quiet k (f ∷ functions) = (nat_eq k code.main || list_all (λ i. is_quiet i.op) f.body) && are_quiet (k + 1) functions

  abbrev has_no_globals : Bool
  has_no_globals = nat_le first_global code.globals_end && is_empty code.datums

  abbrev pub is_sound : List Plan → Bool
  is_sound plans =
      (are_sound code.functions plans && is_main (slice_get code.functions code.main))
      && ((list_all (λ f. has_shape f.task f.parameters) code.functions && are_quiet 0 code.functions) && has_no_globals)

-- ---- what they show

same_by : (a b : Mode) → is_same a b ≡ true → a ≡ b
same_by Plain Plain holds = refl
same_by Waiting Waiting holds = refl
same_by (Measuring []) (Measuring []) holds = refl
same_by _ _ holds = absurd (cc)

leads_by : (plan : Plan) (place : ℕ) (s : Spot) (height : ℕ) (mode : Mode) (o : Option Spot) → spot_at plan place ≡ o → is_next o s height mode ≡ true → Leads plan place s height mode
leads_by plan place s height mode None at holds = absurd (cc)
leads_by plan place s height mode (Some next) at holds =
    let parts = and_parts _ _ holds in
    let rest = and_parts _ _ parts.1 in
    (next, at, eqb-true next.height height parts.0, same_by next.mode mode rest.0, ltb-true next.rank s.rank rest.1)

stays_by : (plan : Plan) (place height : ℕ) (mode : Mode) (o : Option Spot) → spot_at plan place ≡ o → has_height o height mode ≡ true → Stays plan place height mode
stays_by plan place height mode None at holds = absurd (cc)
stays_by plan place height mode (Some next) at holds =
    let parts = and_parts _ _ holds in
    (next, at, eqb-true next.height height parts.0, same_by next.mode mode parts.1)

spot_same : (s : Spot) (height : ℕ) (mode : Mode) → s.height ≡ height → s.mode ≡ mode → Some s ≡ Some (record { height = height; mode = mode; rank = s.rank })
spot_same s height mode h m = rw (sym h, sym m) refl

first_by : (plan : Plan) (o : Option Spot) → spot_at plan 0 ≡ o → is_first o ≡ true → (rank : ℕ) × (spot_at plan 0 ≡ Some (record { height = 0; mode = Plain; rank = rank }))
first_by plan None at holds = absurd (cc)
first_by plan (Some first) at holds =
    let parts = and_parts _ _ holds in
    (first.rank, at ∙ spot_same first 0 Plain (eqb-true first.height 0 parts.0) (same_by first.mode Plain parts.1))

some_by : {X : Type 0} (o : Option X) → is_some o ≡ true → (x : X) × (o ≡ Some x)
some_by None holds = absurd (cc)
some_by (Some x) holds = (x, refl)

task_by : (o : Option Routine) → is_task o ≡ true → (f : Routine) × (s : Shape) × (o ≡ Some f) × (f.task ≡ Some s)
task_by None holds = absurd (cc)
task_by (Some f) holds = let s = some_by f.task holds in (f, s.0, refl, s.1)

all_by : {X : Type 0} (test : X → Bool) (P : X → Type 0) → ((x : X) → test x ≡ true → P x) → (xs : List X) → list_all test xs ≡ true → All P xs
all_by test P shows [] holds = All-nil P
all_by test P shows (x ∷ xs) holds =
    let parts = and_parts (test x) (list_all test xs) holds in
    All-cons P x xs (shows x parts.0) (all_by test P shows xs parts.1)

at_by : {X : Type 0} (test : X → Bool) (xs : List X) → list_all test xs ≡ true → (k : ℕ) (x : X) → slice_get xs k ≡ Some x → test x ≡ true
at_by test [] holds k x at = absurd (cc)
at_by test (y ∷ xs) holds zero x at =
    let same : y ≡ x = cc in
    ap test (sym same) ∙ (and_parts (test y) (list_all test xs) holds).0
at_by test (y ∷ xs) holds (suc k) x at = at_by test xs (and_parts (test y) (list_all test xs) holds).1 k x at

module _ (code : Code) where
  names_by : (role : Role) → names code role ≡ true → AreNamed code role
  names_by (Calling k) holds = some_by (slice_get code.functions k) holds
  names_by (Submitting k) holds = task_by (slice_get code.functions k) holds
  names_by (Straight needed taken given) holds = tt
  names_by Turning holds = tt
  names_by (Outward taken given) holds = tt
  names_by Telling holds = tt
  names_by Awaiting holds = tt
  names_by (Changing mode) holds = tt
  names_by Testing holds = tt
  names_by (Jumping to) holds = tt
  names_by (Branching to) holds = tt
  names_by Returning holds = tt

  plain_by : (role : Role) (mode : Mode) → is_plain code role mode ≡ true → IsPlainAt code role mode
  plain_by Telling mode holds = same_by mode Plain holds
  plain_by (Calling k) mode holds = same_by mode Plain holds
  plain_by Returning mode holds = same_by mode Plain holds
  plain_by (Straight needed taken given) mode holds = tt
  plain_by Turning mode holds = tt
  plain_by (Outward taken given) mode holds = tt
  plain_by Awaiting mode holds = tt
  plain_by (Changing other) mode holds = tt
  plain_by Testing mode holds = tt
  plain_by (Jumping to) mode holds = tt
  plain_by (Branching to) mode holds = tt
  plain_by (Submitting k) mode holds = tt

  goes_by : (plan : Plan) (place : ℕ) (s : Spot) (role : Role) → goes code plan place s role ≡ true → LeadsOn code plan place s role
  goes_by plan place s (Straight needed taken given) holds = leads_by plan (place + 1) s (s.height - taken + given) s.mode (spot_at plan (place + 1)) refl holds
  goes_by plan place s Turning holds = stays_by plan (place + 1) s.height s.mode (spot_at plan (place + 1)) refl holds
  goes_by plan place s (Outward taken given) holds = leads_by plan (place + 1) s (s.height - taken + given) s.mode (spot_at plan (place + 1)) refl holds
  goes_by plan place s Telling holds = leads_by plan (place + 1) s s.height s.mode (spot_at plan (place + 1)) refl holds
  goes_by plan place s Awaiting holds = leads_by plan (place + 1) s (s.height - 1) s.mode (spot_at plan (place + 1)) refl holds
  goes_by plan place s (Changing mode) holds = leads_by plan (place + 1) s s.height mode (spot_at plan (place + 1)) refl holds
  goes_by plan place s Testing holds = leads_by plan (place + 1) s (s.height + 1) s.mode (spot_at plan (place + 1)) refl holds
  goes_by plan place s (Jumping to) holds = leads_by plan to s s.height s.mode (spot_at plan to) refl holds
  goes_by plan place s (Branching to) holds =
      let parts = and_parts _ _ holds in
      (leads_by plan to s (s.height - 1) s.mode (spot_at plan to) refl parts.0, leads_by plan (place + 1) s (s.height - 1) s.mode (spot_at plan (place + 1)) refl parts.1)
  goes_by plan place s (Calling k) holds = stays_by plan (place + 1) (height_behind code (Calling k) s.height) s.mode (spot_at plan (place + 1)) refl holds
  goes_by plan place s (Submitting k) holds = leads_by plan (place + 1) s (height_behind code (Submitting k) s.height) s.mode (spot_at plan (place + 1)) refl holds
  goes_by plan place s Returning holds = tt

  fine_by : (plan : Plan) (place : ℕ) (s : Spot) (op : Op) → is_fine code plan place s op ≡ true → IsFine code plan place s op
  fine_by plan place s op holds =
      let parts = and_parts (nat_le (needs code op) s.height) (names code (role_of op) && (is_plain code (role_of op) s.mode && goes code plan place s (role_of op))) holds in
      let rest = and_parts (names code (role_of op)) (is_plain code (role_of op) s.mode && goes code plan place s (role_of op)) parts.1 in
      let last = and_parts (is_plain code (role_of op) s.mode) (goes code plan place s (role_of op)) rest.1 in
      record { finds = leb-true (needs code op) s.height parts.0; names = names_by (role_of op) rest.0; is_plain = plain_by (role_of op) s.mode last.0; goes_on = goes_by plan place s (role_of op) last.1 }

  -- the instruction of a spot
  abbrev HasInstr : Plan → ℕ → ℕ → List Instr → ℕ → Spot → Type 0
  HasInstr plan most place is k s = (i : Instr) × (slice_get is k ≡ Some i) × IsFine code plan place s i.op × (s.rank ≤ most)

  each_fine : (plan : Plan) (most place : ℕ) (spots : Plan) (is : List Instr) → are_fine code plan most place spots is ≡ true → (k : ℕ) (s : Spot) → spot_at spots k ≡ Some s → HasInstr plan most (place + k) is k s
  each_fine plan most place [] is holds k s at = absurd (cc)
  each_fine plan most place (s' ∷ spots) [] holds k s at = absurd (cc)
  each_fine plan most place (None ∷ spots) (i ∷ is) holds zero s at = absurd (cc)
  each_fine plan most place (Some s' ∷ spots) (i ∷ is) holds zero s at =
      let same : s' ≡ s = cc in
      let parts = and_parts _ (are_fine code plan most (place + 1) spots is) holds in
      let here = and_parts (is_fine code plan place s' i.op) (nat_le s'.rank most) parts.0 in
      rw add-zero (subst (λ (s : Spot). HasInstr plan most place (i ∷ is) 0 s) same (i, refl, fine_by plan place s' i.op here.0, leb-true s'.rank most here.1))
  each_fine plan most place (None ∷ spots) (i ∷ is) holds (suc k) s at =
      let on : place + 1 + k ≡ place + suc k = omega arith in
      subst (λ (n : ℕ). HasInstr plan most n is k s) on (each_fine plan most (place + 1) spots is holds k s at)
  each_fine plan most place (Some s' ∷ spots) (i ∷ is) holds (suc k) s at =
      let parts = and_parts _ (are_fine code plan most (place + 1) spots is) holds in
      let on : place + 1 + k ≡ place + suc k = omega arith in
      subst (λ (n : ℕ). HasInstr plan most n is k s) on (each_fine plan most (place + 1) spots is parts.1 k s at)

  body_by : (f : Routine) (plan : Plan) → is_sound_body code f plan ≡ true → IsSoundBody code f plan
  body_by f plan holds =
      let parts = and_parts (is_first (spot_at plan 0)) (are_fine code plan (length f.body) 0 plan f.body) holds in
      record {
        first = first_by plan (spot_at plan 0) refl parts.0;
        each = λ place s at. subst (λ (n : ℕ). HasInstr plan (length f.body) n f.body place s) (zero-add place) (each_fine plan (length f.body) 0 plan f.body parts.1 place s at);
      }

  bodies_by : (functions : List Routine) (plans : List Plan) → are_sound code functions plans ≡ true → (k : ℕ) (f : Routine) → slice_get functions k ≡ Some f → (plan : Plan) × (slice_get plans k ≡ Some plan) × IsSoundBody code f plan
  bodies_by [] plans holds k f at = absurd (cc)
  bodies_by (g ∷ functions) [] holds k f at = absurd (cc)
  bodies_by (g ∷ functions) (plan ∷ plans) holds zero f at =
      let same : g ≡ f = cc in
      let parts = and_parts (is_sound_body code g plan) (are_sound code functions plans) holds in
      (plan, refl, subst (λ (f : Routine). IsSoundBody code f plan) same (body_by g plan parts.0))
  bodies_by (g ∷ functions) (plan ∷ plans) holds (suc k) f at =
      bodies_by functions plans (and_parts (is_sound_body code g plan) (are_sound code functions plans) holds).1 k f at

-- ---- tasks

three_by : (strided : Bool) (dims : ℕ) → (not strided || nat_eq dims 3) ≡ true → strided ≡ true → dims ≡ 3
three_by true dims holds is = eqb-true dims 3 holds
three_by false dims holds is = absurd (cc)

part_by : (code : Code) (s : ArgShape) (width : ℕ) → is_part s width ≡ true → IsPart code s width
part_by code shapes.Scalar width holds = tt
part_by code (shapes.Window direction element dims strided) width holds =
    let parts = and_parts (nat_eq width 4) (nat_le 1 element && (not strided || nat_eq dims 3)) holds in
    let rest = and_parts (nat_le 1 element) (not strided || nat_eq dims 3) parts.1 in
    (eqb-true width 4 parts.0, leb-true 1 element rest.0, three_by strided dims rest.1)

parts_by : (code : Code) (shapes : List ArgShape) (parameters : List ℕ) → are_parts shapes parameters ≡ true → AreParts code shapes parameters
parts_by code [] [] holds = tt
parts_by code [] (width ∷ parameters) holds = absurd (cc)
parts_by code (s ∷ shapes) [] holds = absurd (cc)
parts_by code (s ∷ shapes) (width ∷ parameters) holds =
    let parts = and_parts (is_part s width) (are_parts shapes parameters) holds in
    (part_by code s width parts.0, parts_by code shapes parameters parts.1)

shape_by : (code : Code) (o : Option Shape) (f : Routine) (s : Shape) → has_shape o f.parameters ≡ true → o ≡ Some s → IsShapeOf code s f
shape_by code None f s holds is = absurd (cc)
shape_by code (Some t) f s holds is =
    let same : t ≡ s = cc in
    let parts = and_parts (nat_le (length f.parameters) 32) (are_parts t.arguments f.parameters) holds in
    (leb-true (length f.parameters) 32 parts.0, subst (λ (s : Shape). AreParts code s.arguments f.parameters) same (parts_by code t.arguments f.parameters parts.1))

empty_by : (xs : List ℕ) → is_empty xs ≡ true → xs ≡ []
empty_by [] holds = refl
empty_by (x ∷ xs) holds = absurd (cc)

no_task : {X : Type 0} (o : Option X) (x : X) → is_none o ≡ true → o ≡ Some x → ⊥
no_task None x holds is = absurd (cc)
no_task (Some y) x holds is = absurd (cc)

main_by : (o : Option Routine) → is_main o ≡ true → (f : Routine) × (o ≡ Some f) × (f.parameters ≡ []) × (is_none f.task ≡ true)
main_by None holds = absurd (cc)
main_by (Some f) holds =
    let parts = and_parts (is_empty f.parameters) (is_none f.task) holds in
    (f, refl, empty_by f.parameters parts.0, parts.1)

module _ (code : Code) (main : (f : Routine) × (slice_get code.functions code.main ≡ Some f) × (f.parameters ≡ []) × (is_none f.task ≡ true)) (quiet : are_quiet code 0 code.functions ≡ true) where
  quiet_as : (role : Role) → is_quiet_at code role ≡ true → MakesNoEvent code role
  quiet_as (Straight needed taken given) holds = tt
  quiet_as Turning holds = tt
  quiet_as (Outward taken given) holds = absurd (cc)
  quiet_as Telling holds = absurd (cc)
  quiet_as Awaiting holds = absurd (cc)
  quiet_as (Changing mode) holds = absurd (cc)
  quiet_as Testing holds = absurd (cc)
  quiet_as (Jumping to) holds = tt
  quiet_as (Branching to) holds = tt
  quiet_as (Calling k) holds = tt
  quiet_as (Submitting k) holds = absurd (cc)
  quiet_as Returning holds = tt

  quiet_op : (op : Op) → is_quiet code op ≡ true → IsQuiet code op
  quiet_op op holds = quiet_as (role_of op) holds

  calls_another : (op : Op) (k : ℕ) → is_quiet code op ≡ true → op ≡ ops.Call k → k ≡ code.main → ⊥
  calls_another op k holds is same =
      let called : not (nat_eq k code.main) ≡ true = ap (is_quiet code) (sym is) ∙ holds in
      let other = not-true (nat_eq k code.main) called in
      let equal = eq-eqb k code.main same in
      absurd (cc)

  quiet_here : (first : ℕ) (f : Routine) (is_main : Bool) → nat_eq first code.main ≡ is_main → (is_main || list_all (λ i. is_quiet code i.op) f.body) ≡ true → (first ≡ code.main → ⊥) → list_all (λ i. is_quiet code i.op) f.body ≡ true
  quiet_here first f true is holds other = absurd (other (eqb-true first code.main is))
  quiet_here first f false is holds other = holds

  quiet_from : (first : ℕ) (functions : List Routine) → are_quiet code first functions ≡ true → (k : ℕ) (f : Routine) → slice_get functions k ≡ Some f → (first + k ≡ code.main → ⊥) → list_all (λ i. is_quiet code i.op) f.body ≡ true
  quiet_from first [] holds k f at other = absurd (cc)
  quiet_from first (g ∷ functions) holds zero f at other =
      let same : g ≡ f = cc in
      let parts = and_parts (nat_eq first code.main || list_all (λ i. is_quiet code i.op) g.body) (are_quiet code (first + 1) functions) holds in
      let here = quiet_here first g (nat_eq first code.main) refl parts.0 (λ is. other (omega (arith, is))) in
      subst (λ (f : Routine). list_all (λ i. is_quiet code i.op) f.body ≡ true) same here
  quiet_from first (g ∷ functions) holds (suc k) f at other =
      let parts = and_parts (nat_eq first code.main || list_all (λ i. is_quiet code i.op) g.body) (are_quiet code (first + 1) functions) holds in
      let on : first + suc k ≡ first + 1 + k = omega arith in
      quiet_from (first + 1) functions parts.1 k f at (λ is. other (on ∙ is))

  -- what a task reaches isn't main
  reached_by : {k : ℕ} → IsReached code k → k ≡ code.main → ⊥
  reached_by (Itself f s at task) same =
      let is_main : main.0 ≡ f = cc (main.1, at, same) in
      no_task main.0.task s main.3 (ap (λ (g : Routine). g.task) is_main ∙ task)
  reached_by (Called caller f i reached at has is) same =
      let others = quiet_from 0 code.functions quiet caller f at (λ e. reached_by reached (omega (arith, e))) in
      let quiet_instr = All-contains (λ (i : Instr). is_quiet code i.op ≡ true) f.body i (all_by (λ i. is_quiet code i.op) (λ i. is_quiet code i.op ≡ true) (λ i h. h) f.body others) has in
      calls_another i.op _ quiet_instr is same

  quiet_by : (k : ℕ) (f : Routine) → IsReached code k → slice_get code.functions k ≡ Some f → All (λ i. IsQuiet code i.op) f.body
  quiet_by k f reached at =
      all_by (λ i. is_quiet code i.op) (λ i. IsQuiet code i.op) (λ i h. quiet_op i.op h) f.body
      (quiet_from 0 code.functions quiet k f at (λ e. reached_by reached (omega (arith, e))))

-- ---- code whose plans pass the test

no_datums : (code : Code) (datums : List Datum) → is_empty datums ≡ true → All (IsWithin code) datums
no_datums code [] holds = All-nil (IsWithin code)
no_datums code (d ∷ datums) holds = absurd (cc)

sound_by : (code : Code) (plans : List Plan) → is_sound code plans ≡ true → IsSound code plans
sound_by code plans holds =
    let parts = and_parts (are_sound code code.functions plans && is_main (slice_get code.functions code.main)) ((list_all (λ f. has_shape f.task f.parameters) code.functions && are_quiet code 0 code.functions) && has_no_globals code) holds in
    let bodies = and_parts (are_sound code code.functions plans) (is_main (slice_get code.functions code.main)) parts.0 in
    let others = and_parts (list_all (λ f. has_shape f.task f.parameters) code.functions && are_quiet code 0 code.functions) (has_no_globals code) parts.1 in
    let tasks = and_parts (list_all (λ f. has_shape f.task f.parameters) code.functions) (are_quiet code 0 code.functions) others.0 in
    let globals = and_parts (nat_le first_global code.globals_end) (is_empty code.datums) others.1 in
    let main = main_by (slice_get code.functions code.main) bodies.1 in
    record {
      each = bodies_by code code.functions plans bodies.0;
      main = (main.0, main.1, main.2);
      shapes = λ k f s at task. shape_by code f.task f s (at_by (λ (f : Routine). has_shape f.task f.parameters) code.functions tasks.0 k f at) task;
      quiet = quiet_by code main tasks.1;
      globals = leb-true first_global code.globals_end globals.0;
      datums = no_datums code code.datums globals.1;
    }

-- it fits from the entry of main on
pub fits_by : (code : Code) (plans : List Plan) (line : ℕ) → is_sound code plans ≡ true → Fits code (Begin code.main [] line)
fits_by code plans line holds =
    let sound = sound_by code plans holds in
    let no_arguments : 0 ≡ length sound.main.0.parameters = ap length (sym sound.main.2) in
    (plans, sound, (0, (refl, (sound.main.0, sound.main.1, no_arguments))))

-- ---- code that a function makes

pub fits_alike : {E : Type 0} (r : Result coded.Code.Code E) (code : Code) → IfOk r (λ c. code_of c ≡ code) → Fits code (Begin 0 [] 1) → IfOk r (λ c. Fits (code_of c) (Begin 0 [] 1))
fits_alike (Ok c) code is fits = subst (λ (code : Code). Fits code (Begin 0 [] 1)) (sym is) fits
fits_alike (Err e) code is fits = tt

-- functions without globals, of which the first is main
abbrev pub functions_alone : List Routine → Code
functions_alone functions = record { globals_end = 4096; datums = []; functions = functions; main = 0 }
