-- A task comes to one end, and a version has one value.
use Rattle.std.proofs.Common.{◌≡◌, ℕ, List, ◌∷◌, Some, Contains, refl, sym, ◌∙◌, ap, ap₂, subst, inl, inr, arith}
use Rattle.std.proofs.lemmas.Bool.{cases_lt}
use Rattle.css_base.specs.declared.ending.Stop.{Stop}
use Rattle.css_base.specs.declared.limits.Limits.{Limits}
use Rattle.css_record.specs.declared.task_record.TaskRecord.{TaskRecord}
use Rattle.css_record.specs.declared.version.VersionName.{VersionName}
use Rattle.css_record.specs.Records.{FitsCode, uses, arguments}
use Rattle.css_semantics.specs.Alone.{alone_world, outs_after}
use Rattle.css_vm.specs.Code.{Shape, Code}
use Rattle.css_task.specs.Alone.{TaskOf, End, Outs, Halted, ComesTo, IsAlone}
use Rattle.css_task.proofs.OneTask.{comes_alone}
use Rattle.css_yard.specs.Values.{Submit, Ends, IsValue, AreValues, IsFirstStop, Alone, Given, Made, NoMore, More}
use Rattle.css_yard.specs.Submits.{AreSubmitted}
use Rattle.css_yard.proofs.OneRun.{one_tape, goes_or_stops, one_stop}
use Rattle.css_yard.proofs.Lists.{place_of}
use Rattle.css_yard.proofs.Numbers.{one_submit}

-- so many units, and nothing else
abbrev pub units_alone : ℕ → Limits
units_alone units = record { workers = 0; bundle = 0; local_store = 0; memory = 0; main_units = 0; task_units = units }

-- in one world, a task comes to one end
pub comes_to_one : (code : Code) (r : TaskRecord) (s : Shape) (inputs : List (List ℕ)) (limits : Limits) (a b : End) → ComesTo code r s inputs limits a → ComesTo code r s inputs limits b → a ≡ b
comes_to_one code r s inputs limits (Outs outs) (Outs outs') (n, cell, tape, goes, is) (m, cell', tape', goes', is') =
    let w = alone_world limits (uses s r) inputs r.stack_place in
    let same = one_tape w code r.function (arguments s r) r.line n m (Some cell) (Some cell') tape tape' goes goes' in
    ap Outs (is ∙ ap (outs_after (uses s r) inputs r.stack_place) same ∙ sym is')
comes_to_one code r s inputs limits (Outs outs) (Halted stop line) (n, cell, tape, goes, is) (m, tape', stops) =
    let w = alone_world limits (uses s r) inputs r.stack_place in
    absurd (goes_or_stops w code r.function (arguments s r) r.line n m (Some cell) tape tape' stop line goes stops)
comes_to_one code r s inputs limits (Halted stop line) (Outs outs) (m, tape', stops) (n, cell, tape, goes, is) =
    let w = alone_world limits (uses s r) inputs r.stack_place in
    absurd (goes_or_stops w code r.function (arguments s r) r.line n m (Some cell) tape tape' stop line goes stops)
comes_to_one code r s inputs limits (Halted stop line) (Halted stop' line') (n, tape, stops) (m, tape', stops') =
    let w = alone_world limits (uses s r) inputs r.stack_place in
    let same = one_stop w code r.function (arguments s r) r.line n m tape tape' stop stop' line line' stops stops' in
    ap₂ Halted same.0 same.1

-- a record that fits its code is of one task of it
pub task_of : (code : Code) (r : TaskRecord) (fits : FitsCode code r) → TaskOf code r fits.routine fits.shape
task_of code r fits = record { function = fits.function; task = fits.task }

-- alone, over the same inputs
pub alone_is_one : (code : Code) (r : TaskRecord) (inputs : List (List ℕ)) (units : ℕ) (a b : End) → FitsCode code r → IsAlone code r inputs units a → IsAlone code r inputs units b → a ≡ b
alone_is_one code r inputs units a b fits one other =
    let f = fits.routine in
    let s = fits.shape in
    let limits = units_alone units in
    comes_to_one code r s inputs limits a b (comes_alone code r inputs units a one f s limits (task_of code r fits) refl) (comes_alone code r inputs units b other f s limits (task_of code r fits) refl)

module _ (code : Code) (limits : Limits) (units : ℕ) (submits : List Submit) (are : AreSubmitted code limits submits) where
  fits_code : (s : Submit) → Contains submits s → FitsCode code s.rec
  fits_code s has = let p = place_of submits s has in (are p.0 s p.1).fits

  mutual
    pub one_end : {number : ℕ} {a b : End} → Ends code units submits number a → Ends code units submits number b → a ≡ b
    one_end {a = a} {b = b} (Alone s inputs has is values alone) (Alone s' inputs' has' is' values' alone') =
        let same : s' ≡ s = one_submit code limits submits are s' s has' has (is' ∙ sym is) in
        let read : inputs' ≡ inputs = sym (one_values values (subst (λ (x : Submit). AreValues code units submits x.given x.rec.inputs.items inputs') same values')) in
        alone_is_one code s.rec inputs units a b (fits_code s has) alone
        (subst (λ i. IsAlone code s.rec i units b) read (subst (λ (x : Submit). IsAlone code x.rec inputs' units b) same alone'))

    pub one_value : {given : List (List ℕ)} {version : VersionName} {x y : List ℕ} → IsValue code units submits given version x → IsValue code units submits given version y → x ≡ y
    one_value (Given place is) (Given place' is') = cc
    one_value (Made task out outs ends is) (Made task' out' outs' ends' is') =
        let same = one_end ends ends' in
        let both : outs ≡ outs' = cc in cc

    pub one_values : {given : List (List ℕ)} {versions : List VersionName} {x y : List (List ℕ)} → AreValues code units submits given versions x → AreValues code units submits given versions y → x ≡ y
    one_values NoMore NoMore = refl
    one_values (More value values) (More value' values') = ap₂ (λ z zs. z ∷ zs) (one_value value value') (one_values values values')

  -- of two first stops neither is before the other
  pub one_stop_first : (number number' : ℕ) (stop stop' : Stop) (line line' : ℕ) → IsFirstStop code units submits number stop line → IsFirstStop code units submits number' stop' line'
      → (number ≡ number') × (stop ≡ stop') × (line ≡ line')
  one_stop_first number number' stop stop' line line' a b =
      let same : number ≡ number' = elim (cases_lt number number') [
        | inl below ↦ absurd (b.first number stop line below a.stops)
        | inr above ↦ elim (cases_lt number' number) [ inl below ↦ absurd (a.first number' stop' line' below b.stops) | inr under ↦ omega (arith, above, under) ]
      ] in
      let ends : Halted stop line ≡ Halted stop' line' = one_end a.stops (subst (λ n. Ends code units submits n (Halted stop' line')) (sym same) b.stops) in
      (same, cc, cc)
