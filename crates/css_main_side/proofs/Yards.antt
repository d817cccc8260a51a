-- One task on a yard that has no other.
use Rattle.std.proofs.Common.{◌≡◌, ◌≤◌, ℕ, zero, suc, List, [], ◌∷◌, ◌++◌, length, map, Some, Contains, slice_get, refl, sym, ap, ◌∙◌, subst, arith}
use Rattle.css_base.specs.declared.direction.Direction.TheVariants.{InOut}
use Rattle.css_base.specs.declared.limits.Limits.{Limits}
use Rattle.css_record.specs.declared.task_record.TaskRecord.{TaskRecord}
use Rattle.css_record.specs.declared.version.VersionName.{VersionName}
use Rattle.css_record.specs.declared.version.VersionName.TheVariants as names
use Rattle.css_record.specs.Records.{FitsCode}
use Rattle.css_record.specs.Records as records
use Rattle.css_record.specs.Windows.{window}
use Rattle.css_semantics.specs.Rules.{room_of}
use Rattle.css_semantics.specs.Tasks.{Use, plain}
use Rattle.css_task.specs.Alone.{End, Outs, Halted, IsAlone, TaskOf}
use Rattle.css_vm.specs.declared.machine.Submitted.{Submitted}
use Rattle.css_vm.specs.Code.{Routine, Shape, Code}
use Rattle.css_yard.specs.Values.{Submit, Ends, IsValue, AreValues, Alone, Given, Made, NoMore, More}
use Rattle.css_yard.specs.Yards.{State, MaySubmit, FitsInput, AgreeAsInputs, DifferAsInputs, IfNotSettled, reading, written}
use Rattle.css_yard.specs.declared.answer.YardAnswer.{YardAnswer}
use Rattle.css_yard.specs.declared.answer.YardAnswer.TheVariants as answers
use Rattle.css_main_side.specs.Alone.{MayRun, ComesAlone, StopsAlone}
use Rattle.css_main_side.specs.Calls.{IsRecordOf}
use Rattle.css_main_side.specs.Plain.{IsPlainShape, HasPlainTasks}

-- the one element of a list
one_contained : {X : Type 0} (x y : X) → Contains (x ∷ []) y → y ≡ x
one_contained x y (zero, below, is) = sym is
one_contained x y (suc k, below, is) = absurd (omega arith)

-- what stands last in a list of one
only : {X : Type 0} (front : List X) (x y : X) → front ++ x ∷ [] ≡ y ∷ [] → x ≡ y
only [] x y is = cc
only (z ∷ []) x y is = absurd (cc)
only (z ∷ z' ∷ front) x y is = absurd (cc)

module _ (code : Code) (units : ℕ) (submits : List Submit) where
  -- a value that is given first
  given_value : {given : List (List ℕ)} {version : VersionName} {x : List ℕ} (bytes : List ℕ) → IsValue code units submits given version x → version ≡ names.Given 0 → given ≡ bytes ∷ [] → x ≡ bytes
  given_value bytes (Given {given = given} {bytes = x} place is) first one =
      let at : place ≡ 0 = cc in
      let e : slice_get (bytes ∷ []) 0 ≡ Some x = ap (λ g. slice_get g 0) (sym one) ∙ ap (slice_get given) (sym at) ∙ is in
      cc
  given_value bytes (Made task out outs ends is) first one = absurd (cc)

  no_values : {given : List (List ℕ)} {versions : List VersionName} {xs : List (List ℕ)} → AreValues code units submits given versions xs → versions ≡ [] → xs ≡ []
  no_values NoMore none = refl
  no_values (More value values) none = absurd (cc)

  given_values : {given : List (List ℕ)} {versions : List VersionName} {xs : List (List ℕ)} (bytes : List ℕ) → AreValues code units submits given versions xs → versions ≡ names.Given 0 ∷ [] → given ≡ bytes ∷ [] → xs ≡ bytes ∷ []
  given_values bytes NoMore first one = absurd (cc)
  given_values bytes (More {given = given} {version = version} {bytes = x} {versions = versions} {values = xs} value values) first one =
      let is : version ≡ names.Given 0 = cc in
      let none : versions ≡ [] = cc in
      let same = given_value bytes value is one in
      let rest = no_values values none in
      cc

  -- the value of what a task makes first
  made_value : {given : List (List ℕ)} {version : VersionName} {x : List ℕ} (number : ℕ) → IsValue code units submits given version x → version ≡ names.Made number 0
      → (outs : List (List ℕ)) × Ends code units submits number (Outs outs) × (slice_get outs 0 ≡ Some x)
  made_value number (Given place is) made = absurd (cc)
  made_value number (Made {given = given} {bytes = x} task out outs ends is) made =
      let n : task ≡ number = cc in
      let o : out ≡ 0 = cc in
      (outs, subst (λ t. Ends code units submits t (Outs outs)) n ends, subst (λ k. slice_get outs k ≡ Some x) o is)

  made_values : {given : List (List ℕ)} {versions : List VersionName} {xs : List (List ℕ)} (number : ℕ) → AreValues code units submits given versions xs → versions ≡ names.Made number 0 ∷ []
      → (x : List ℕ) × (xs ≡ x ∷ []) × ((outs : List (List ℕ)) × Ends code units submits number (Outs outs) × (slice_get outs 0 ≡ Some x))
  made_values number NoMore made = absurd (cc)
  made_values number (More {given = given} {version = version} {bytes = x} {versions = versions} {values = xs} value values) made =
      let is : version ≡ names.Made number 0 = cc in
      let none : versions ≡ [] = cc in
      (x, ap (λ rest. x ∷ rest) (no_values values none), made_value number value is)

module _ (code : Code) (limits : Limits) (r : TaskRecord) (bytes : List ℕ) (may : MayRun code limits r bytes) where
  abbrev units : ℕ
  units = limits.task_units

  abbrev submit : Submit
  submit = record { rec = r; given = bytes ∷ [] }

  -- its end is what it comes to by itself
  ends_alone : {number : ℕ} {end : End} → Ends code units (submit ∷ []) number end → (number ≡ r.number) × IsAlone code r (bytes ∷ []) units end
  ends_alone {number = number} {end = end} (Alone s inputs has is values alone) =
      let same : s ≡ submit = one_contained submit s has in
      let read : inputs ≡ bytes ∷ [] =
      given_values code units (submit ∷ []) bytes (subst (λ (x : Submit). AreValues code units (submit ∷ []) x.given x.rec.inputs.items inputs) same values) may.inputs refl in (
        sym is ∙ ap (λ (x : Submit). x.rec.number) same,
        subst (λ i. IsAlone code r i units end) read (subst (λ (x : Submit). IsAlone code x.rec inputs units end) same alone),
      )

  pub comes_alone : (value : List ℕ) (values front : List (List ℕ)) → AreValues code units (submit ∷ []) [] (names.Made r.number 0 ∷ []) values → values ≡ front ++ value ∷ [] → ComesAlone code r bytes units value
  comes_alone value values front are last =
      let made = made_values code units (submit ∷ []) r.number are refl in
      let one : front ++ value ∷ [] ≡ made.0 ∷ [] = sym last ∙ made.1 in
      let same : made.0 ≡ value = sym (only front value made.0 one) in
      record { outs = made.2.0; alone = (ends_alone made.2.1).1; out = made.2.2 ∙ ap (λ y. Some y) same }

  -- one value is there
  pub one_value_there : (values : List (List ℕ)) → AreValues code units (submit ∷ []) [] (names.Made r.number 0 ∷ []) values → length values ≡ 1
  one_value_there values are = ap length (made_values code units (submit ∷ []) r.number are refl).1

  pub stops_alone : (old new : State) (answer : YardAnswer) → old.submits ≡ submit ∷ [] → IfNotSettled code units old new answer → StopsAlone code r bytes units answer
  stops_alone old new (answers.Stopped task stop line) submits (first, left) =
      ends_alone (subst (λ s. Ends code units s task (Halted stop line)) submits first.stops)
  stops_alone old new answers.NoMemory submits left = tt

-- ---- the record of a call

-- what the task does with its window
abbrev pub its_use : (base : ℕ) → Use
its_use base = record { window = plain base 4; direction = InOut }

use_by : (r : TaskRecord) (f : Routine) (s : Shape) (base : ℕ) → IsPlainShape f s → map window r.windows.items ≡ plain base 4 ∷ [] → records.uses s r ≡ its_use base ∷ []
use_by r f s base p windows = rw (p.arguments, windows) refl

-- what is at a place of a list of one
first_at : {X : Type 0} (x y : X) (k : ℕ) → slice_get (x ∷ []) k ≡ Some y → y ≡ x
first_at x y zero is = cc
first_at x y (suc k) is = absurd (cc)

none_last : (last : Submit) (before : List Submit) → [] ≡ before ++ last ∷ [] → ⊥
none_last last [] is = cc
none_last last (x ∷ before) is = cc

module _ (code : Code) (tasks : HasPlainTasks code) (r : TaskRecord) (s : Submitted) (number place base : ℕ) (of : IsRecordOf r code s number place base)
    (fits : FitsCode code r) (bytes : List ℕ) (four : length bytes ≡ 4) (limits : Limits) (room : room_of (plain base 4 ∷ []) ≤ limits.local_store) where
  uses_of : (f : Routine) (shape : Shape) → TaskOf code r f shape → records.uses shape r ≡ its_use base ∷ []
  uses_of f shape of_task = use_by r f shape base (tasks r.function f shape of_task.function of_task.task) of.windows

  input_at : (k : ℕ) (version : VersionName) → slice_get r.inputs.items k ≡ Some version → version ≡ names.Given 0
  input_at k version is = first_at (names.Given 0) version k (ap (λ xs. slice_get xs k) (sym of.inputs) ∙ is)

  read_at : (shape : Shape) (f : Routine) → TaskOf code r f shape → (k : ℕ) (u : Use) → slice_get (reading (records.uses shape r)) k ≡ Some u → u ≡ its_use base
  read_at shape f of_task k u is = first_at (its_use base) u k (ap (λ us. slice_get (reading us) k) (sym (uses_of f shape of_task)) ∙ is)

  fits_input : (version : VersionName) (u : Use) → version ≡ names.Given 0 → u ≡ its_use base → FitsInput code [] (bytes ∷ []) version u
  fits_input version u is used =
      subst (λ x. FitsInput code [] (bytes ∷ []) x u) (sym is) (subst (λ x. FitsInput code [] (bytes ∷ []) (names.Given 0) x) (sym used) (bytes, refl, four))

  agree : (a b : VersionName) → a ≡ names.Given 0 → b ≡ names.Given 0 → AgreeAsInputs (bytes ∷ []) a b
  agree a b is is' = subst (λ x. AgreeAsInputs (bytes ∷ []) x b) (sym is) (subst (λ x. AgreeAsInputs (bytes ∷ []) (names.Given 0) x) (sym is') refl)

  differ : (a b : VersionName) → a ≡ names.Given 0 → DifferAsInputs a b
  differ a b is = subst (λ x. DifferAsInputs x b) (sym is) tt

  may_submit : MaySubmit code limits [] r (bytes ∷ [])
  may_submit = record {
    fits = fits;
    room = subst (λ ws. room_of ws ≤ limits.local_store) (sym of.windows) room;
    few = omega arith;
    next = λ last before is. absurd (none_last last before is);
    inputs = λ shape f of_task k version u is used. fits_input version u (input_at k version is) (read_at shape f of_task k u used);
    equal = λ shape f of_task a b u v are same. agree a b (input_at are.j a are.first) (input_at are.k b are.second);
    different = λ shape f of_task a b u v are other. differ a b (input_at are.j a are.first);
  }

  pub may_run : MayRun code limits r bytes
  may_run = record {
    may = may_submit;
    inputs = of.inputs;
    made = (
      its_use base,
      record {
        submit = record { rec = r; given = bytes ∷ [] };
        is_there = (0, omega arith, refl);
        number = refl;
        routine = fits.routine;
        shape = fits.shape;
        task_of = record { function = fits.function; task = fits.task };
        parameter = ap (λ us. slice_get (written us) 0) (uses_of fits.routine fits.shape (record { function = fits.function; task = fits.task }));
      },
    );
  }
