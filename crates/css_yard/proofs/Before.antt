-- Ends and values of what is submitted don't come of what is submitted later.
use Rattle.std.proofs.Common.{◌≡◌, ◌≤◌, ℕ, suc, List, ◌++◌, length, take, drop, Some, Contains, refl, sym, ◌∙◌, ap, subst, arith}
use Rattle.std.specs.List.{slice_get}
use Rattle.std.proofs.lemmas.List.{take-append-le, take-append-drop}
use Rattle.std.proofs.lemmas.List.Elements.{Contains-append_left}
use Rattle.std.proofs.lemmas.Option.{slice_get_within}
use Rattle.css_base.specs.declared.limits.Limits.{Limits}
use Rattle.css_record.specs.declared.version.VersionName.{VersionName}
use Rattle.css_record.specs.declared.version.VersionName.TheVariants as names
use Rattle.css_record.specs.Records.{uses}
use Rattle.css_semantics.specs.Tasks.{Use}
use Rattle.css_vm.specs.Code.{Code}
use Rattle.css_task.specs.Alone.{End}
use Rattle.css_yard.specs.Values.{Submit, Ends, IsValue, AreValues, Alone, Given, Made, NoMore, More}
use Rattle.css_yard.specs.Yards.{FitsInput, MaySubmit, reading}
use Rattle.css_yard.specs.Submits.{AreSubmitted}
use Rattle.css_yard.proofs.Lists.{place_of, is_within, before_more}
use Rattle.css_yard.proofs.Numbers.{one_place}
use Rattle.css_yard.proofs.OneEnd.{task_of}

-- the version of one of these tasks
abbrev IsOf : List Submit → VersionName → Type 0
IsOf submits (names.Given place) = Unit {0}
IsOf submits (names.Made task out) = (t : Submit) × Contains submits t × (t.rec.number ≡ task)

of_input : (code : Code) (submits : List Submit) (given : List (List ℕ)) (version : VersionName) (u : Use) → FitsInput code submits given version u → IsOf submits version
of_input code submits given (names.Given place) u fits = tt
of_input code submits given (names.Made task out) u (v, made, long) = (made.submit, made.is_there, made.number)

-- the inputs of a submit are of tasks before it
inputs_of : (code : Code) (limits : Limits) (before : List Submit) (s : Submit) → MaySubmit code limits before s.rec s.given → (k : ℕ) (version : VersionName) → slice_get s.rec.inputs.items k ≡ Some version → IsOf before version
inputs_of code limits before s may k version is =
    let f = may.fits.routine in
    let shape = may.fits.shape in
    let u = is_within (reading (uses shape s.rec)) k (omega (arith, slice_get_within s.rec.inputs.items k version is, may.fits.inputs)) in
    of_input code before s.given version u.0 (may.inputs shape f (task_of code s.rec may.fits) k version u.0 is u.1)

of_more : (before submits : List Submit) (version : VersionName) → ((t : Submit) → Contains before t → Contains submits t) → IsOf before version → IsOf submits version
of_more before submits (names.Given place) all of = tt
of_more before submits (names.Made task out) all (t, has, number) = (t, all t has, number)

module _ (code : Code) (limits : Limits) (units : ℕ) (submits more : List Submit) (are : AreSubmitted code limits (submits ++ more)) where
  -- those before one of the first submits are among them
  front_of : (k : ℕ) → k ≤ length submits → (t : Submit) → Contains (take k (submits ++ more)) t → Contains submits t
  front_of k few t has =
      let front = subst (λ xs. Contains xs t) (take-append-le k submits more few) has in
      subst (λ xs. Contains xs t) (take-append-drop k submits) (Contains-append_left (take k submits) (drop k submits) t front)

  mutual
    pub ends_before : {number : ℕ} {end : End} → Ends code units (submits ++ more) number end → (t : Submit) → Contains submits t → t.rec.number ≡ number → Ends code units submits number end
    ends_before {number} (Alone s inputs has is values alone) t among same =
        let place = place_of (submits ++ more) s has in
        let at = place_of submits t among in
        let one : place.0 ≡ at.0 = one_place code limits (submits ++ more) are place.0 at.0 s t place.1 (before_more submits more at.0 t at.1) (is ∙ sym same) in
        let below : place.0 ≤ length submits = omega (arith, one, slice_get_within submits at.0 t at.1) in
        let both : Some s ≡ Some t = sym place.1 ∙ ap (slice_get (submits ++ more)) one ∙ before_more submits more at.0 t at.1 in
        let it : t ≡ s = cc in
        Alone s inputs (subst (Contains submits) it among) is
        (values_before values (λ k version is. of_more (take place.0 (submits ++ more)) submits version (front_of place.0 below) (inputs_of code limits (take place.0 (submits ++ more)) s (are place.0 s place.1) k version is)))
        alone

    pub value_before : {given : List (List ℕ)} {version : VersionName} {bytes : List ℕ} → IsValue code units (submits ++ more) given version bytes → IsOf submits version → IsValue code units submits given version bytes
    value_before (Given place is) of = Given place is
    value_before (Made task out outs ends is) (t, has, number) = Made task out outs (ends_before ends t has number) is

    values_before : {given : List (List ℕ)} {versions : List VersionName} {values : List (List ℕ)} → AreValues code units (submits ++ more) given versions values
        → ((k : ℕ) (version : VersionName) → slice_get versions k ≡ Some version → IsOf submits version) → AreValues code units submits given versions values
    values_before NoMore of = NoMore
    values_before (More {version = v} value values) of = More (value_before value (of 0 v refl)) (values_before values (λ k version is. of (suc k) version is))
