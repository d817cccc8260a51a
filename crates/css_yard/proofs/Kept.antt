-- The values and the first stop that the kept ends give are those of the definitions.
use Rattle.std.proofs.Common.{◌≡◌, ◌+◌, ◌-◌, ℕ, suc, List, [], ◌∷◌, length, Option, Some, None, All, ◌⊎◌, inl, inr, refl, sym, ◌∙◌, ap, ap₂, subst, arith}
use Rattle.std.specs.List.{slice_get}
use Rattle.std.proofs.lemmas.Option.{slice_get_within}
use Rattle.css_base.specs.declared.limits.Limits.{Limits}
use Rattle.css_record.specs.declared.version.VersionName.{VersionName}
use Rattle.css_record.specs.declared.version.VersionName.TheVariants as names
use Rattle.css_semantics.specs.Tasks.{Use, window_length}
use Rattle.css_vm.specs.Code.{Code}
use Rattle.css_task.specs.Alone.{Outs, IsAlone}
use Rattle.css_task.specs.declared.shared.SharedEnd.{SharedEnd}
use Rattle.css_task.specs.declared.shared.SharedEnd.TheVariants as ends
use Rattle.css_yard.specs.declared.done.Done.{Done}
use Rattle.css_yard.specs.Values.{Submit, Ends, IsValue, AreValues, Alone, Made, NoMore, More}
use Rattle.css_yard.specs.Yards.{IsMade, CanFetch}
use Rattle.css_yard.specs.Kept.{submit_of, submits_of, first_number, out_of, out_at, value_at, values_at, with_value, AnyStopped, AreDone}
use Rattle.css_yard.proofs.Lists.{place_of, is_within, all_at, at_mapped, mapped_at}
use Rattle.css_yard.proofs.Numbers.{numbers_follow, one_submit}
use Rattle.css_yard.proofs.Lengths.{out_is_there}

first_of : (tasks : List Done) (d : Done) → slice_get tasks 0 ≡ Some d → first_number tasks ≡ d.number
first_of [] d is = cc
first_of (e ∷ tasks) d is = let same : e ≡ d = cc in ap (λ (x : Done). x.number) same

module _ (code : Code) (limits : Limits) (tasks : List Done) (done : AreDone code limits tasks) where
  abbrev units : ℕ
  units = limits.task_units

  -- each task's place says its number
  pub number_at : (k : ℕ) (d : Done) → slice_get tasks k ≡ Some d → d.number ≡ first_number tasks + k
  number_at k d is =
      let first = is_within tasks 0 (omega (arith, slice_get_within tasks k d is)) in
      let follow = numbers_follow code limits (submits_of tasks) done.submitted k (submit_of first.0) (submit_of d) (mapped_at submit_of tasks 0 first.0 first.1) (mapped_at submit_of tasks k d is) in
      omega (arith, follow, done.numbers 0 first.0 first.1, done.numbers k d is, first_of tasks first.0 first.1)

  -- the task of a version that can be fetched
  made_by : (task out : ℕ) (u : Use) (made : IsMade code (submits_of tasks) task out u)
      → (d : Done) × (k : ℕ) × (slice_get tasks k ≡ Some d) × (k ≡ task - first_number tasks) × (d.number ≡ task)
  made_by task out u made =
      let place = place_of (submits_of tasks) made.submit made.is_there in
      let there = at_mapped submit_of tasks place.0 made.submit place.1 in
      let number : there.0.number ≡ task = done.numbers place.0 there.0 there.1 ∙ ap (λ (s : Submit). s.rec.number) there.2 ∙ made.number in
      (there.0, place.0, there.1, omega (arith, number_at place.0 there.0 there.1, number), number)

  -- the value is there, with this length; or it isn't, and a task has stopped
  abbrev pub Comes : (given : List (List ℕ)) (version : VersionName) (width : ℕ) → Type 0
  Comes given version width =
      ((bytes : List ℕ) × (value_at tasks given version ≡ Some bytes) × IsValue code units (submits_of tasks) given version bytes × (length bytes ≡ width))
      ⊎ ((value_at tasks given version ≡ None) × AnyStopped tasks)

  -- a task that came to an end with outs has one for each window that it writes
  outs_there : (task out : ℕ) (u : Use) (made : IsMade code (submits_of tasks) task out u) (outs : List (List ℕ)) → Ends code units (submits_of tasks) task (Outs outs)
      → (bytes : List ℕ) × (slice_get outs out ≡ Some bytes) × (length bytes ≡ window_length u.window)
  outs_there task out u made outs (Alone s inputs has is values alone) =
      let one : s ≡ made.submit = one_submit code limits (submits_of tasks) done.submitted s made.submit has made.is_there (is ∙ sym made.number) in
      out_is_there code made.submit.rec made.routine made.shape inputs units outs out u made.task_of (subst (λ (x : Submit). IsAlone code x.rec inputs units (Outs outs)) one alone) made.parameter

  -- by how the task came out
  comes_by : (given : List (List ℕ)) (d : Done) (k task out : ℕ) (u : Use) (made : IsMade code (submits_of tasks) task out u) → slice_get tasks k ≡ Some d → k ≡ task - first_number tasks → d.number ≡ task
      → (end : Option SharedEnd) → d.end ≡ end → Comes given (names.Made task out) (window_length u.window)
  comes_by given d k task out u made is at number (Some (ends.Outs outs)) ended =
      let ends : Ends code units (submits_of tasks) task (Outs outs.items) = subst (λ n. Ends code units (submits_of tasks) n (Outs outs.items)) number (done.ends k d (ends.Outs outs) is ended) in
      let there = outs_there task out u made outs.items ends in
      let value : value_at tasks given (names.Made task out) ≡ Some there.0 =
      ap (λ n. out_at (slice_get tasks n) out) (sym at) ∙ ap (λ o. out_at o out) is ∙ ap (λ e. out_of e out) ended ∙ there.1 in
      inl (there.0, value, Made task out outs.items ends there.1, there.2)
  comes_by given d k task out u made is at number (Some (ends.Stopped stop line)) ended =
      inr (ap (λ n. out_at (slice_get tasks n) out) (sym at) ∙ ap (λ o. out_at o out) is ∙ ap (λ e. out_of e out) ended, (k, d, is, (stop, line, ended)))
  comes_by given d k task out u made is at number None ended =
      let held = done.held k d is ended in
      inr (ap (λ n. out_at (slice_get tasks n) out) (sym at) ∙ ap (λ o. out_at o out) is ∙ ap (λ e. out_of e out) ended, (held.0, held.1, held.3, held.4))

  pub made_comes : (given : List (List ℕ)) (task out : ℕ) (u : Use) → IsMade code (submits_of tasks) task out u → Comes given (names.Made task out) (window_length u.window)
  made_comes given task out u made =
      let (d, k, is, at, number) = made_by task out u made in
      comes_by given d k task out u made is at number d.end refl

  -- ---- several versions

  abbrev pub AllCome : (given : List (List ℕ)) (versions : List VersionName) → Type 0
  AllCome given versions =
      ((values : List (List ℕ)) × (values_at tasks given versions ≡ Some values) × AreValues code units (submits_of tasks) given versions values)
      ⊎ ((values_at tasks given versions ≡ None) × AnyStopped tasks)

  one_more_comes : (given : List (List ℕ)) (version : VersionName) (versions : List VersionName) (width : ℕ) → Comes given version width → AllCome given versions → AllCome given (version ∷ versions)
  one_more_comes given version versions width (inl (bytes, is, value, long)) (inl (values, are, all)) = inl (bytes ∷ values, ap₂ with_value is are, More value all)
  one_more_comes given version versions width (inl (bytes, is, value, long)) (inr (none, stopped)) = inr (ap₂ with_value is none, stopped)
  one_more_comes given version versions width (inr (none, stopped)) others = inr (ap (λ o. with_value o (values_at tasks given versions)) none, stopped)

  pub all_come : (given : List (List ℕ)) (versions : List VersionName) → ((k : ℕ) (version : VersionName) → slice_get versions k ≡ Some version → (width : ℕ) × Comes given version width) → AllCome given versions
  all_come given [] each = inl ([], refl, NoMore)
  all_come given (version ∷ versions) each =
      let first = each 0 version refl in
      one_more_comes given version versions first.0 first.1 (all_come given versions (λ k v is. each (suc k) v is))

  -- versions that can be fetched
  fetched_comes : (version : VersionName) → CanFetch code (submits_of tasks) version → (width : ℕ) × Comes [] version width
  fetched_comes (names.Given place) can = absurd can
  fetched_comes (names.Made task out) (u, made) = (window_length u.window, made_comes [] task out u made)

  pub all_fetched_come : (versions : List VersionName) → All (CanFetch code (submits_of tasks)) versions → AllCome [] versions
  all_fetched_come versions can = all_come [] versions (λ k version is. fetched_comes version (all_at (CanFetch code (submits_of tasks)) versions k version is can))

  -- ---- values that are there, and values that aren't

  value_by : (given : List (List ℕ)) (version : VersionName) (width : ℕ) (bytes : List ℕ) → Comes given version width → value_at tasks given version ≡ Some bytes → IsValue code units (submits_of tasks) given version bytes
  value_by given version width bytes (inl (other, there, value, long)) is =
      let both : Some other ≡ Some bytes = sym there ∙ is in
      let same : other ≡ bytes = cc in
      subst (IsValue code units (submits_of tasks) given version) same value
  value_by given version width bytes (inr (none, stopped)) is = let wrong : None ≡ Some bytes = sym none ∙ is in cc

  missing_by : (given : List (List ℕ)) (version : VersionName) (width : ℕ) → Comes given version width → value_at tasks given version ≡ None → AnyStopped tasks
  missing_by given version width (inl (bytes, there, value, long)) is = let wrong : Some bytes ≡ None = sym there ∙ is in cc
  missing_by given version width (inr (none, stopped)) is = stopped

  pub fetched_value : (version : VersionName) (bytes : List ℕ) → CanFetch code (submits_of tasks) version → value_at tasks [] version ≡ Some bytes → IsValue code units (submits_of tasks) [] version bytes
  fetched_value version bytes can is = let comes = fetched_comes version can in value_by [] version comes.0 bytes comes.1 is

  pub missing_fetched : (version : VersionName) → CanFetch code (submits_of tasks) version → value_at tasks [] version ≡ None → AnyStopped tasks
  missing_fetched version can is = let comes = fetched_comes version can in missing_by [] version comes.0 comes.1 is

  pub all_values : (given : List (List ℕ)) (versions : List VersionName) (values : List (List ℕ)) → AllCome given versions → values_at tasks given versions ≡ Some values → AreValues code units (submits_of tasks) given versions values
  all_values given versions values (inl (others, there, are)) is =
      let both : Some others ≡ Some values = sym there ∙ is in
      let same : others ≡ values = cc in
      subst (AreValues code units (submits_of tasks) given versions) same are
  all_values given versions values (inr (none, stopped)) is = let wrong : None ≡ Some values = sym none ∙ is in cc

  pub one_missing : (given : List (List ℕ)) (versions : List VersionName) → AllCome given versions → values_at tasks given versions ≡ None → AnyStopped tasks
  one_missing given versions (inl (values, there, are)) is = let wrong : Some values ≡ None = sym there ∙ is in cc
  one_missing given versions (inr (none, stopped)) is = stopped
