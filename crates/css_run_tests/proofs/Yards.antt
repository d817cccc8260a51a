-- What the tests submit may be submitted, and what it makes can be fetched.
use Rattle.std.proofs.Common.{◌≡◌, ◌≤◌, ◌+◌, ℕ, List, [], ◌∷◌, ◌++◌, length, All, lit<, refl, sym, ◌∙◌, ap, ap₂, subst, arith, true}
use Rattle.std.specs.List.{slice_get}
use Rattle.std.proofs.lemmas.List.Elements.{All-nil, All-cons}
use Rattle.css_base.specs.declared.limits.Limits.{Limits}
use Rattle.css_record.specs.declared.task_record.TaskRecord.{TaskRecord}
use Rattle.css_record.specs.declared.version.VersionName.{VersionName}
use Rattle.css_record.specs.declared.version.VersionName.TheVariants as names
use Rattle.css_yard.specs.Values.{Submit}
use Rattle.css_yard.specs.Yards.{IsMade, CanFetch, FitsInput, MaySubmit, State, phase_behind, fresh, Submitted, Settled}
use Rattle.css_yard.specs.InOrders.{OrderYard}
use Rattle.css_yard.proofs.Lists.{has_place}
use Rattle.css_run_tests.specs.Tasks.{dividing, task_code, IsCall, IsGiven}
use Rattle.css_run_tests.specs.Yards.{IsSecondInput, HasNone, HasOne, HasTwo}
use Rattle.css_run_tests.proofs.Calls.{the_use, call_may, call_made}

no_last : (before : List Submit) (last : Submit) → [] ≡ before ++ last ∷ [] → ⊥
no_last [] last is = cc
no_last (x ∷ before) last is = cc

one_last : (before : List Submit) (first last : Submit) → first ∷ [] ≡ before ++ last ∷ [] → first ≡ last
one_last [] first last is = cc
one_last (x ∷ before) first last is =
    let rest : [] ≡ before ++ last ∷ [] = cc in
    absurd (no_last before last rest)

given_fits : (submits : List Submit) (given : List (List ℕ)) (place : ℕ) → place ≡ 0 → IsGiven given → FitsInput task_code submits given (names.Given place) the_use
given_fits submits given place is (bytes, are, long) = (bytes, ap₂ (λ xs k. slice_get xs k) are is, long)

pub store_of : (limits given : Limits) → limits ≡ given → 32768 ≤ given.local_store → 32768 ≤ limits.local_store
store_of limits given is store = subst (λ (l : Limits). 32768 ≤ l.local_store) (sym is) store

pub fresh_has : (y : OrderYard) → y.code ≡ task_code → 32768 ≤ y.limits.local_store → y.state ≡ fresh → HasNone y
fresh_has y code store state = record {
  code = code;
  store = store;
  phase = ap (λ (s : State). s.phase) state;
  submits = ap (λ (s : State). s.submits) state;
}

pub first_may : (y : OrderYard) (r : TaskRecord) (number : ℕ) (given : List (List ℕ)) → HasNone y → IsCall r number (names.Given 0) → IsGiven given → MaySubmit y.code y.limits y.state.submits r given
first_may y r number given has call is =
    let may = call_may dividing r number (names.Given 0) call y.limits [] given has.store (lit< tt) (λ last before none. absurd (no_last before last none)) (given_fits [] given 0 refl is) in
    subst (λ z. MaySubmit z y.limits y.state.submits r given) (sym has.code) (subst (λ xs. MaySubmit task_code y.limits xs r given) (sym has.submits) may)

pub first_has : (old new : OrderYard) (r : TaskRecord) (number : ℕ) (given : List (List ℕ)) → HasNone old → IsCall r number (names.Given 0) → (new.code ≡ old.code) × (new.limits ≡ old.limits) → Submitted old.state r given new.state → HasOne new number
first_has old new r number given has call kept submitted = record {
  code = kept.0 ∙ has.code;
  store = subst (λ (l : Limits). 32768 ≤ l.local_store) (sym kept.1) has.store;
  phase = ap (λ (s : State). s.phase) submitted ∙ has.phase;
  first = record { rec = r; given = given };
  input = names.Given 0;
  submits = ap (λ (s : State). s.submits) submitted ∙ ap (λ xs. let it : Submit = record { rec = r; given = given } in xs ++ it ∷ []) has.submits;
  is_call = call;
}

pub only_made : (y : OrderYard) (number : ℕ) → HasOne y number → All (CanFetch y.code y.state.submits) (names.Made number 0 ∷ [])
only_made y number has =
    let submits : List Submit = has.first ∷ [] in
    let made = call_made dividing has.first.rec number has.input has.is_call submits has.first refl (has_place submits 0 has.first refl) in
    let can = CanFetch y.code y.state.submits in
    All-cons can (names.Made number 0) [] (the_use, subst (λ z. IsMade z y.state.submits number 0 the_use) (sym has.code) (subst (λ xs. IsMade task_code xs number 0 the_use) (sym has.submits) made)) (All-nil can)

pub settled_has : (old new : OrderYard) (number : ℕ) → HasOne old number → (new.code ≡ old.code) × (new.limits ≡ old.limits) → Settled old.state new.state → HasNone new
settled_has old new number has kept settled = record {
  code = kept.0 ∙ has.code;
  store = subst (λ (l : Limits). 32768 ≤ l.local_store) (sym kept.1) has.store;
  phase = ap (λ (s : State). s.phase) settled ∙ ap phase_behind has.phase;
  submits = ap (λ (s : State). s.submits) settled;
}

second_fits : (first : Submit) (input other : VersionName) (given : List (List ℕ)) → IsCall first.rec 0 input → IsSecondInput other given → FitsInput task_code (first ∷ []) given other the_use
second_fits first input (names.Given place) given call (is, are) = given_fits (first ∷ []) given place is are
second_fits first input (names.Made task out) given call (zero_task, zero_out) =
    let made = call_made dividing first.rec 0 input call (first ∷ []) first refl (has_place (first ∷ []) 0 first refl) in
    let at_task = subst (λ n. IsMade task_code (first ∷ []) n 0 the_use) (sym zero_task) made in
    (the_use, subst (λ n. IsMade task_code (first ∷ []) task n the_use) (sym zero_out) at_task, refl)

pub second_may : (y : OrderYard) (r : TaskRecord) (other : VersionName) (given : List (List ℕ)) → HasOne y 0 → IsCall r 1 other → IsSecondInput other given → MaySubmit y.code y.limits y.state.submits r given
second_may y r other given has call is =
    let may = call_may dividing r 1 other call y.limits (has.first ∷ []) given has.store (lit< tt)
    (λ last before one. let same = one_last before has.first last one in omega (arith, has.is_call.is_number, ap (λ (s : Submit). s.rec.number) same))
    (second_fits has.first has.input other given has.is_call is) in
    subst (λ z. MaySubmit z y.limits y.state.submits r given) (sym has.code) (subst (λ xs. MaySubmit task_code y.limits xs r given) (sym has.submits) may)

pub second_has : (old new : OrderYard) (r : TaskRecord) (other : VersionName) (given : List (List ℕ)) → HasOne old 0 → IsCall r 1 other → (new.code ≡ old.code) × (new.limits ≡ old.limits) → Submitted old.state r given new.state → HasTwo new
second_has old new r other given has call kept submitted = record {
  code = kept.0 ∙ has.code;
  store = subst (λ (l : Limits). 32768 ≤ l.local_store) (sym kept.1) has.store;
  phase = ap (λ (s : State). s.phase) submitted ∙ has.phase;
  first = has.first;
  second = record { rec = r; given = given };
  input = has.input;
  other = other;
  submits = ap (λ (s : State). s.submits) submitted ∙ ap (λ xs. let it : Submit = record { rec = r; given = given } in xs ++ it ∷ []) has.submits;
  is_call = has.is_call;
  is_other = call;
}

pub used_has : (old new : OrderYard) → HasTwo old → (new.code ≡ old.code) × (new.limits ≡ old.limits) → new.state ≡ record old.state { is_used = true } → HasTwo new
used_has old new has kept used = record {
  code = kept.0 ∙ has.code;
  store = subst (λ (l : Limits). 32768 ≤ l.local_store) (sym kept.1) has.store;
  phase = ap (λ (s : State). s.phase) used ∙ has.phase;
  first = has.first;
  second = has.second;
  input = has.input;
  other = has.other;
  submits = ap (λ (s : State). s.submits) used ∙ has.submits;
  is_call = has.is_call;
  is_other = has.is_other;
}

pub first_made : (y : OrderYard) → HasTwo y → CanFetch y.code y.state.submits (names.Made 0 0)
first_made y has =
    let submits : List Submit = has.first ∷ has.second ∷ [] in
    let made = call_made dividing has.first.rec 0 has.input has.is_call submits has.first refl (has_place submits 0 has.first refl) in
    (the_use, subst (λ z. IsMade z y.state.submits 0 0 the_use) (sym has.code) (subst (λ xs. IsMade task_code xs 0 0 the_use) (sym has.submits) made))

pub second_made : (y : OrderYard) → HasTwo y → CanFetch y.code y.state.submits (names.Made 1 0)
second_made y has =
    let submits : List Submit = has.first ∷ has.second ∷ [] in
    let made = call_made dividing has.second.rec 1 has.other has.is_other submits has.second refl (has_place submits 1 has.second refl) in
    (the_use, subst (λ z. IsMade z y.state.submits 1 0 the_use) (sym has.code) (subst (λ xs. IsMade task_code xs 1 0 the_use) (sym has.submits) made))

pub both_made : (y : OrderYard) → HasTwo y → All (CanFetch y.code y.state.submits) (names.Made 1 0 ∷ names.Made 0 0 ∷ [])
both_made y has =
    let can = CanFetch y.code y.state.submits in
    All-cons can (names.Made 1 0) (names.Made 0 0 ∷ []) (second_made y has) (All-cons can (names.Made 0 0) [] (first_made y has) (All-nil can))
