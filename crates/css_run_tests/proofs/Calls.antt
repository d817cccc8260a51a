-- The tests' calls fit their code, and may be submitted.
use Rattle.std.proofs.Common.{◌≡◌, ◌<◌, ◌≤◌, ◌+◌, ℕ, zero, suc, List, [], ◌∷◌, ◌++◌, length, map, Some, All, Contains, lit≤, refl, sym, ◌∙◌, ap, subst, arith}
use Rattle.std.specs.List.{slice_get}
use Rattle.std.proofs.lemmas.List.Elements.{All-nil, All-cons}
use Rattle.css_base.specs.declared.direction.Direction.TheVariants.{InOut}
use Rattle.css_base.specs.declared.limits.Limits.{Limits}
use Rattle.css_record.specs.declared.task_record.TaskRecord.{TaskRecord}
use Rattle.css_record.specs.declared.version.VersionName.{VersionName}
use Rattle.css_record.specs.declared.version.VersionName.TheVariants as names
use Rattle.css_record.specs.Windows.{window, IsWindow}
use Rattle.css_record.specs.Records.{FitsCode, InputsFit, uses, uses_by, AllAgree, AgreeInBytes, IsClearOfStack}
use Rattle.css_semantics.specs.Rules.{room_of}
use Rattle.css_semantics.specs.Tasks.{Window, Use}
use Rattle.css_vm.specs.declared.code.Instr.{Instr}
use Rattle.css_vm.specs.Code.{Routine, Shape, Code}
use Rattle.css_task.specs.Alone.{TaskOf, InputsOf}
use Rattle.css_yard.specs.Values.{Submit}
use Rattle.css_yard.specs.Yards.{IsMade, FitsInput, AgreeAsInputs, MaySubmit, reading, written}
use Rattle.css_task.proofs.OneTask.{one_shape}
use Rattle.css_run_tests.specs.Tasks.{one_window, task_of, with_task, IsCall}

abbrev the_window : Window
the_window = record { base = 8192; rows = 1; width = 4; stride = 4 }

abbrev pub the_use : Use
the_use = record { window = the_window; direction = InOut }

-- the one place of a list of one
first : {X : Type 0} (x y : X) (j : ℕ) → slice_get (x ∷ []) j ≡ Some y → j ≡ 0
first x y zero at = refl
first x y (suc j) at = absurd (cc)

module _ (body : List Instr) (r : TaskRecord) (number : ℕ) (input : VersionName) (call : IsCall r number input) where
  abbrev code : Code
  code = with_task body

  abbrev task_routine : Routine
  task_routine = task_of body

  the_task : TaskOf code r task_routine one_window
  the_task = record { function = rw call.function; task = refl }

  use_is : uses one_window r ≡ the_use ∷ []
  use_is = ap (λ ws. uses_by one_window.arguments (map window ws)) call.windows

  use_of : (f : Routine) (s : Shape) → TaskOf code r f s → uses s r ≡ the_use ∷ []
  use_of f s of = ap (λ z. uses z r) (one_shape code r f task_routine s one_window of the_task) ∙ use_is

  reads_is : (f : Routine) (s : Shape) → TaskOf code r f s → reading (uses s r) ≡ the_use ∷ []
  reads_is f s of = ap reading (use_of f s of)

  is_window : IsWindow the_window
  is_window = record { rows = lit≤ tt; width = lit≤ tt; apart = lit≤ tt; form = λ same. refl; one_row = λ same. refl; small = lit≤ tt }

  pub fits_code : FitsCode code r
  fits_code = record {
    routine = task_routine;
    shape = one_window;
    function = the_task.function;
    task = refl;
    high = call.high;
    given = rw (call.scalars, call.windows) (is_window, tt);
    agree = subst AllAgree (sym use_is) (All-nil (AgreeInBytes the_use), tt);
    place = rw call.place (lit≤ tt);
    clear = subst (All (IsClearOfStack r.stack_place)) (sym use_is) (rw call.place (All-cons (IsClearOfStack 65536) the_use [] refl (All-nil (IsClearOfStack 65536))));
    inputs = ap length call.inputs ∙ ap length (sym (reads_is task_routine one_window the_task));
  }

  one_input : (bytes : List ℕ) → length bytes ≡ 4 → InputsFit (the_use ∷ []) (bytes ∷ [])
  one_input bytes long = record {
    lengths = ap (λ n. n ∷ []) long;
    equal = λ j k w at at'. ap (slice_get (bytes ∷ [])) (first the_window w j at ∙ sym (first the_window w k at'));
  }

  pub inputs_of_call : (inputs : List (List ℕ)) (bytes : List ℕ) → inputs ≡ bytes ∷ [] → length bytes ≡ 4 → InputsOf code r inputs
  inputs_of_call inputs bytes same long f s named =
      subst (λ us. InputsFit us inputs) (sym (use_of f s named)) (subst (InputsFit (the_use ∷ [])) (sym same) (one_input bytes long))

  only : {A : Type 0} (x y : A) (k : ℕ) → slice_get (x ∷ []) k ≡ Some y → x ≡ y
  only x y zero is = cc
  only x y (suc k) is = absurd (cc)

  only_input : (version : VersionName) (k : ℕ) → slice_get r.inputs.items k ≡ Some version → input ≡ version
  only_input version k is = only input version k (ap (λ xs. slice_get xs k) (sym call.inputs) ∙ is)

  only_use : (f : Routine) (s : Shape) (u : Use) (k : ℕ) → TaskOf code r f s → slice_get (reading (uses s r)) k ≡ Some u → the_use ≡ u
  only_use f s u k of is = only the_use u k (ap (λ xs. slice_get xs k) (sym (reads_is f s of)) ∙ is)

  agree_self : (given : List (List ℕ)) (a : VersionName) → AgreeAsInputs given a a
  agree_self given (names.Given place) = refl
  agree_self given (names.Made task out) = refl

  pub call_may : (limits : Limits) (submits : List Submit) (given : List (List ℕ)) → 32768 ≤ limits.local_store → length submits < 4096
      → ((last : Submit) (before : List Submit) → submits ≡ before ++ last ∷ [] → number ≡ last.rec.number + 1)
      → FitsInput code submits given input the_use → MaySubmit code limits submits r given
  call_may limits submits given store few next fits = record {
    fits = fits_code;
    room =
        let one : room_of (map window r.windows.items) ≡ 16512 = ap (λ ws. room_of (map window ws)) call.windows in
        omega (arith, one, store);
    few = few;
    next = λ last before is. call.is_number ∙ next last before is;
    inputs = λ s f of place version u at of_place.
        subst (λ v. FitsInput code submits given v u) (only_input version place at) (subst (FitsInput code submits given input) (only_use f s u place of of_place) fits);
    equal = λ s f of a b u v inputs same.
        subst (AgreeAsInputs given a) (sym (only_input a inputs.j inputs.first) ∙ only_input b inputs.k inputs.second) (agree_self given a);
    different = λ s f of a b u v inputs differ.
        absurd (differ (ap (λ (x : Use). x.window) (sym (only_use f s u inputs.j of inputs.of_first) ∙ only_use f s v inputs.k of inputs.of_second)));
  }

  -- what it makes can be fetched
  pub call_made : (submits : List Submit) (s : Submit) → s.rec ≡ r → Contains submits s → IsMade code submits number 0 the_use
  call_made submits s is has = record {
    submit = s;
    is_there = has;
    number = ap (λ (x : TaskRecord). x.number) is ∙ call.is_number;
    routine = task_routine;
    shape = one_window;
    task_of = subst (λ (x : TaskRecord). TaskOf code x task_routine one_window) (sym is) the_task;
    parameter = ap (λ (x : TaskRecord). slice_get (written (uses one_window x)) 0) is ∙ ap (λ us. slice_get (written us) 0) use_is;
  }
