-- A task that is submitted: its inputs fit, and its end is kept behind the others.
use Rattle.std.proofs.Common.{◌≡◌, ◌<◌, ℕ, zero, suc, List, [], ◌∷◌, ◌++◌, length, map, Option, Some, None, Contains, ◌⊎◌, inl, inr, refl, sym, ◌∙◌, ap, ap₂, subst, arith}
use Rattle.std.specs.List.{slice_get}
use Rattle.std.proofs.lemmas.List.{map-append}
use Rattle.std.proofs.lemmas.List.Elements.{Contains-append_left, Contains-append_right}
use Rattle.std.proofs.lemmas.Option.{slice_get_within}
use Rattle.css_base.specs.declared.limits.Limits.{Limits}
use Rattle.css_record.specs.declared.task_record.TaskRecord.{TaskRecord}
use Rattle.css_record.specs.declared.version.VersionName.{VersionName}
use Rattle.css_record.specs.declared.version.VersionName.TheVariants as names
use Rattle.css_record.specs.Records.{uses}
use Rattle.css_semantics.specs.Tasks.{Use, window_length}
use Rattle.css_vm.specs.Code.{Routine, Shape, Code}
use Rattle.css_task.specs.Alone.{TaskOf, InputsOf, IsAlone, end_of}
use Rattle.css_task.specs.declared.shared.SharedEnd.{SharedEnd}
use Rattle.css_yard.specs.declared.done.Done.{Done}
use Rattle.css_yard.specs.Values.{Submit, Ends, AreValues, Alone, Given}
use Rattle.css_task.proofs.OneTask.{one_shape}
use Rattle.css_yard.specs.Yards.{FitsInput, AgreeAsInputs, AreInputs, MaySubmit, reading}
use Rattle.css_yard.specs.Submits.{AreSubmitted}
use Rattle.css_yard.specs.Kept.{submit_of, submits_of, value_at, values_at, with_value, HasStopped, AnyStopped, CameTo, AreDone}
use Rattle.css_yard.proofs.Lists.{has_place, is_within, at_mapped, last_or_before, before_last}
use Rattle.css_yard.proofs.Generations.{one_more_submitted}
use Rattle.css_yard.proofs.OneEnd.{task_of}
use Rattle.css_yard.proofs.Later.{ends_later, values_later}
use Rattle.css_yard.proofs.Kept.{Comes, AllCome, made_comes, all_come, all_values, one_missing}

-- ---- values that are there

both_there : (o : Option (List ℕ)) (os : Option (List (List ℕ))) (values : List (List ℕ)) → with_value o os ≡ Some values
    → (b : List ℕ) × (bs : List (List ℕ)) × (o ≡ Some b) × (os ≡ Some bs) × (values ≡ b ∷ bs)
both_there (Some b) (Some bs) values is = (b, bs, refl, refl, cc)
both_there (Some b) None values is = cc
both_there None os values is = cc

as_many : (tasks : List Done) (given : List (List ℕ)) (versions : List VersionName) (values : List (List ℕ)) → values_at tasks given versions ≡ Some values → length values ≡ length versions
as_many tasks given [] values is = let none : [] ≡ values = cc in ap length (sym none)
as_many tasks given (version ∷ versions) values is =
    let (b, bs, one, others, same) = both_there (value_at tasks given version) (values_at tasks given versions) values is in
    ap length same ∙ ap (λ n. suc n) (as_many tasks given versions bs others)

-- at each place stands the version's value
value_in : (tasks : List Done) (given : List (List ℕ)) (versions : List VersionName) (values : List (List ℕ)) → values_at tasks given versions ≡ Some values
    → (k : ℕ) (version : VersionName) → slice_get versions k ≡ Some version → slice_get values k ≡ value_at tasks given version
value_in tasks given [] values is k version at = cc
value_in tasks given (v ∷ versions) values is zero version at =
    let (b, bs, one, others, same) = both_there (value_at tasks given v) (values_at tasks given versions) values is in
    let it : v ≡ version = cc in
    ap (λ xs. slice_get xs 0) same ∙ sym one ∙ ap (value_at tasks given) it
value_in tasks given (v ∷ versions) values is (suc k) version at =
    let (b, bs, one, others, same) = both_there (value_at tasks given v) (values_at tasks given versions) values is in
    ap (λ xs. slice_get xs (suc k)) same ∙ value_in tasks given versions bs others k version at

-- ---- inputs

module _ (code : Code) (limits : Limits) (tasks : List Done) (done : AreDone code limits tasks) (r : TaskRecord) (given : List (List ℕ)) (may : MaySubmit code limits (submits_of tasks) r given) where
  abbrev units : ℕ
  units = limits.task_units

  -- there is an input for each window that is read
  as_many_inputs : (f : Routine) (s : Shape) → TaskOf code r f s → length r.inputs.items ≡ length (reading (uses s r))
  as_many_inputs f s of =
      let same = one_shape code r may.fits.routine f may.fits.shape s (task_of code r may.fits) of in
      may.fits.inputs ∙ ap (λ z. length (reading (uses z r))) same

  comes_as : (version : VersionName) (u : Use) → FitsInput code (submits_of tasks) given version u → Comes code limits tasks done given version (window_length u.window)
  comes_as (names.Given place) u (bytes, is, long) = inl (bytes, is, Given place is, long)
  comes_as (names.Made task out) u (v, made, long) =
      subst (λ n. Comes code limits tasks done given (names.Made task out) n) long (made_comes code limits tasks done given task out v made)

  input_comes : (k : ℕ) (version : VersionName) → slice_get r.inputs.items k ≡ Some version → (width : ℕ) × Comes code limits tasks done given version width
  input_comes k version is =
      let f = may.fits.routine in
      let s = may.fits.shape in
      let of = task_of code r may.fits in
      let u = is_within (reading (uses s r)) k (omega (arith, slice_get_within r.inputs.items k version is, may.fits.inputs)) in
      (window_length u.0.window, comes_as version u.0 (may.inputs s f of k version u.0 is u.1))

  -- the values of the inputs are there, or a task has stopped
  inputs_come : AllCome code limits tasks done given r.inputs.items
  inputs_come = all_come code limits tasks done given r.inputs.items input_comes

  width_of : (bytes : List ℕ) (version : VersionName) (width : ℕ) → value_at tasks given version ≡ Some bytes → Comes code limits tasks done given version width → length bytes ≡ width
  width_of bytes version width is (inl (other, there, value, long)) = let same : bytes ≡ other = cc in ap length same ∙ long
  width_of bytes version width is (inr (none, stopped)) = cc

  lengths_by : (values : List (List ℕ)) (us : List Use) → length values ≡ length us
      → ((k : ℕ) (b : List ℕ) (u : Use) → slice_get values k ≡ Some b → slice_get us k ≡ Some u → length b ≡ window_length u.window)
      → map length values ≡ map window_length (map (λ (u : Use). u.window) us)
  lengths_by [] [] same each = refl
  lengths_by [] (u ∷ us) same each = absurd (omega (arith, same))
  lengths_by (b ∷ values) [] same each = absurd (omega (arith, same))
  lengths_by (b ∷ values) (u ∷ us) same each =
      ap₂ (λ x xs. x ∷ xs) (each 0 b u refl refl) (lengths_by values us (omega (arith, same)) (λ k c v. each (suc k) c v))

  agree_in_value : (a b : VersionName) → AgreeAsInputs given a b → value_at tasks given a ≡ value_at tasks given b
  agree_in_value (names.Given i) (names.Given j) same = same
  agree_in_value (names.Given i) (names.Made task out) same = ap (value_at tasks given) same
  agree_in_value (names.Made task out) b same = ap (value_at tasks given) same

  -- and they are inputs of the task
  pub inputs_fit : (values : List (List ℕ)) → values_at tasks given r.inputs.items ≡ Some values → InputsOf code r values
  inputs_fit values is f s of =
      let many = as_many_inputs f s of in
      let same = as_many tasks given r.inputs.items values is in
      record {
        lengths = lengths_by values (reading (uses s r)) (same ∙ many) (λ k b u at of_place.
            let version = is_within r.inputs.items k (omega (arith, slice_get_within values k b at, same)) in
            let value : value_at tasks given version.0 ≡ Some b = sym (value_in tasks given r.inputs.items values is k version.0 version.1) ∙ at in
            width_of b version.0 (window_length u.window) value (comes_as version.0 u (may.inputs s f of k version.0 u version.1 of_place)));
        equal = λ j k w at_j at_k.
            let (u, u_is, u_w) = at_mapped (λ (x : Use). x.window) (reading (uses s r)) j w at_j in
            let (v, v_is, v_w) = at_mapped (λ (x : Use). x.window) (reading (uses s r)) k w at_k in
            let a = is_within r.inputs.items j (omega (arith, slice_get_within (reading (uses s r)) j u u_is, many)) in
            let b = is_within r.inputs.items k (omega (arith, slice_get_within (reading (uses s r)) k v v_is, many)) in
            let inputs : AreInputs r (reading (uses s r)) a.0 b.0 u v = record { j = j; k = k; first = a.1; second = b.1; of_first = u_is; of_second = v_is } in
            value_in tasks given r.inputs.items values is j a.0 a.1
            ∙ agree_in_value a.0 b.0 (may.equal s f of a.0 b.0 u v inputs (u_w ∙ sym v_w))
            ∙ sym (value_in tasks given r.inputs.items values is k b.0 b.1);
      }

  -- their values are those of the definitions
  pub inputs_are : (values : List (List ℕ)) → values_at tasks given r.inputs.items ≡ Some values → AreValues code units (submits_of tasks) given r.inputs.items values
  inputs_are values is = all_values code limits tasks done given r.inputs.items values inputs_come is

  -- where one isn't there, a task has stopped
  pub missing_input : values_at tasks given r.inputs.items ≡ None → AnyStopped tasks
  missing_input is = one_missing code limits tasks done given r.inputs.items inputs_come is

  -- ---- behind the others

  module _ (d : Done) (same : submit_of d ≡ record { rec = r; given = given }) (number : d.number ≡ r.number) (came : CameTo code units tasks r given d.end) where
    with_it : submits_of (tasks ++ d ∷ []) ≡ submits_of tasks ++ submit_of d ∷ []
    with_it = map-append submit_of tasks (d ∷ [])

    all_there : (s : Submit) → Contains (submits_of tasks) s → Contains (submits_of (tasks ++ d ∷ [])) s
    all_there s has = subst (λ xs. Contains xs s) (sym with_it) (Contains-append_left (submits_of tasks) (submit_of d ∷ []) s has)

    it_is_there : Contains (submits_of (tasks ++ d ∷ [])) (submit_of d)
    it_is_there = subst (λ xs. Contains xs (submit_of d)) (sym with_it) (Contains-append_right (submits_of tasks) (submit_of d ∷ []) (submit_of d) (has_place (submit_of d ∷ []) 0 (submit_of d) refl))

    are_submitted : AreSubmitted code limits (submits_of (tasks ++ d ∷ []))
    are_submitted =
        subst (AreSubmitted code limits) (sym with_it) (one_more_submitted code limits (submits_of tasks) (submit_of d) done.submitted
        (subst (λ (x : Submit). MaySubmit code limits (submits_of tasks) x.rec x.given) (sym same) may))

    end_came : (end : SharedEnd) (e : Option SharedEnd) → e ≡ Some end → CameTo code units tasks r given e → Ends code units (submits_of (tasks ++ d ∷ [])) d.number (end_of end)
    end_came end (Some other) is (inputs, values, alone) =
        let one : other ≡ end = cc in
        let it : Submit = record { rec = r; given = given } in
        Alone it inputs (subst (λ (x : Submit). Contains (submits_of (tasks ++ d ∷ [])) x) same it_is_there) (sym number)
        (values_later code units (submits_of tasks) (submits_of (tasks ++ d ∷ [])) all_there values) (subst (λ z. IsAlone code r inputs units (end_of z)) one alone)
    end_came end None is stopped = cc

    held_came : (e : Option SharedEnd) → e ≡ None → CameTo code units tasks r given e → AnyStopped tasks
    held_came (Some end) is came = cc
    held_came None is came = came

    ends_by : (k : ℕ) (x : Done) (end : SharedEnd) → x.end ≡ Some end → ((slice_get tasks k ≡ Some x) ⊎ ((k ≡ length tasks) × (d ≡ x))) → Ends code units (submits_of (tasks ++ d ∷ [])) x.number (end_of end)
    ends_by k x end is (inl before) = ends_later code units (submits_of tasks) (submits_of (tasks ++ d ∷ [])) all_there (done.ends k x end before is)
    ends_by k x end is (inr (last, it)) =
        subst (λ (y : Done). Ends code units (submits_of (tasks ++ d ∷ [])) y.number (end_of end)) it (end_came end d.end (ap (λ (y : Done). y.end) it ∙ is) came)

    held_by : (k : ℕ) (x : Done) → x.end ≡ None → ((slice_get tasks k ≡ Some x) ⊎ ((k ≡ length tasks) × (d ≡ x)))
        → (j : ℕ) × (other : Done) × (j < k) × (slice_get (tasks ++ d ∷ []) j ≡ Some other) × HasStopped other
    held_by k x is (inl before) =
        let (j, other, below, at, stopped) = done.held k x before is in
        (j, other, below, before_last tasks d j other at, stopped)
    held_by k x is (inr (last, it)) =
        let (j, other, at, stopped) = held_came d.end (ap (λ (y : Done). y.end) it ∙ is) came in
        (j, other, omega (arith, slice_get_within tasks j other at, last), before_last tasks d j other at, stopped)

    numbers_by : (k : ℕ) (x : Done) → ((slice_get tasks k ≡ Some x) ⊎ ((k ≡ length tasks) × (d ≡ x))) → x.number ≡ x.rec.value.number
    numbers_by k x (inl before) = done.numbers k x before
    numbers_by k x (inr (last, it)) = subst (λ (y : Done). y.number ≡ y.rec.value.number) it (number ∙ ap (λ (s : Submit). s.rec.number) (sym same))

    -- the tasks with it are a generation's
    pub done_with : AreDone code limits (tasks ++ d ∷ [])
    done_with = record {
      submitted = are_submitted;
      numbers = λ k x at. numbers_by k x (last_or_before tasks d k x at);
      ends = λ k x end at is. ends_by k x end is (last_or_before tasks d k x at);
      held = λ k x at is. held_by k x is (last_or_before tasks d k x at);
    }
