-- The jobs of tasks that are taken together.
use Rattle.std.proofs.Common.{◌≡◌, ◌≢◌, ℕ, suc, ◌+◌, ◌-◌, true, List, [], ◌∷◌, ◌++◌, length, take, All, Some, slice_get, Contains, refl, ap, ap₂, sym, ◌∙◌, subst, inl, inr, arith}
use Rattle.std.proofs.lemmas.List.Elements.{All-nil, All-cons, All-head, All-tail, All-push, Contains-append_left}
use Rattle.std.proofs.lemmas.List.{take-append-drop, take_more}
use Rattle.std.proofs.lemmas.Option.{slice_get_within, get_or_from_slice_get}
use Rattle.css_record.specs.declared.task_record.TaskRecord.{TaskRecord}
use Rattle.css_record.specs.declared.version.VersionName.{VersionName}
use Rattle.css_record.specs.declared.version.VersionName.TheVariants as names
use Rattle.css_record.specs.Records.{uses}
use Rattle.css_semantics.specs.Tasks.{Use, window_length}
use Rattle.css_task.specs.Alone.{Outs, IsAlone}
use Rattle.css_yard.specs.Values.{Submit, Ends, Alone}
use Rattle.css_yard.specs.Yards.{IsMade, FitsInput, MaySubmit, reading}
use Rattle.css_yard.proofs.Lists.{place_of, has_place, is_within, all_at}
use Rattle.css_yard.proofs.Numbers.{one_submit}
use Rattle.css_yard.proofs.OneEnd.{task_of}
use Rattle.css_yard.proofs.Lengths.{out_is_there}
use Rattle.css_graph.specs.Tasks.{is_among}
use Rattle.css_seen.proofs.Lasting.{legal_more}
use Rattle.css_history.specs.declared.entry.Entry.{Entry}
use Rattle.css_history.specs.declared.entry.Entry.TheVariants as entries
use Rattle.css_history.specs.Terms.{Terms}
use Rattle.css_history.specs.Histories.{maker, submits, Ended, standing, IsFinished}
use Rattle.css_history.specs.Rules.{IsSubmit, IsReady, MayStand, MayTake}
use Rattle.css_history.specs.Bodies.{IsFound}
use Rattle.css_history.specs.Legal.{MayFollow, Legal}
use Rattle.css_history.proofs.Histories.{still_submit}
use Rattle.css_history.proofs.Facts.{found_lasts}
use Rattle.css_history.proofs.Numbers.{index_of}
use Rattle.css_history.proofs.Values.{are_submitted, ends_are_own, values_are_own}
use Rattle.css_board.specs.declared.job.Job.{Job}
use Rattle.css_board.specs.declared.job.JobInput.{JobInput}
use Rattle.css_board.specs.declared.job.JobInput.TheVariants as inputs
use Rattle.css_board.specs.Jobs as jobs
use Rattle.css_board.specs.declared.cell.Cell.{Cell}
use Rattle.css_board.specs.Cells.{IsFoundMade, AreKept}
use Rattle.css_board.specs.Drafts.{IsThere, HasPlace, IsInputDraft, AreInputDrafts, IsDraft, AreDrafts}

-- ---- drafts, one more at a time

pub more_inputs : (log : List Entry) (given : List (List ℕ)) (versions : List VersionName) (all : List JobInput) (version : VersionName) (input : JobInput)
    → AreInputDrafts log given versions all → IsInputDraft log given version input → AreInputDrafts log given (versions ++ version ∷ []) (all ++ input ∷ [])
more_inputs log given [] [] version input are is = (is, tt)
more_inputs log given [] (i ∷ all) version input are is = absurd are
more_inputs log given (v ∷ versions) [] version input are is = absurd are
more_inputs log given (v ∷ versions) (i ∷ all) version input are is = (are.0, more_inputs log given versions all version input are.1 is)

pub more_drafts : (log : List Entry) (numbers : List ℕ) (all : List Job) (n : ℕ) (job : Job) → AreDrafts log numbers all → IsDraft log n job → AreDrafts log (numbers ++ n ∷ []) (all ++ job ∷ [])
more_drafts log [] [] n job are is = (is, tt)
more_drafts log [] (j ∷ all) n job are is = absurd are
more_drafts log (m ∷ numbers) [] n job are is = absurd are
more_drafts log (m ∷ numbers) (j ∷ all) n job are is = (are.0, more_drafts log numbers all n job are.1 is)

next_front : {X : Type 0} (xs : List X) (k : ℕ) (x : X) → slice_get xs k ≡ Some x → take (k + 1) xs ≡ take k xs ++ x ∷ []
next_front xs k x at = take_more xs k x (slice_get_within xs k x at) ∙ ap (λ y. take k xs ++ y ∷ []) (get_or_from_slice_get xs k x x at)

pub next_input : (log : List Entry) (given : List (List ℕ)) (versions : List VersionName) (all : List JobInput) (k : ℕ) (version : VersionName) (input : JobInput) → slice_get versions k ≡ Some version
    → AreInputDrafts log given (take k versions) all → IsInputDraft log given version input → AreInputDrafts log given (take (k + 1) versions) (all ++ input ∷ [])
next_input log given versions all k version input at are is =
    subst (λ vs. AreInputDrafts log given vs (all ++ input ∷ [])) (sym (next_front versions k version at)) (more_inputs log given (take k versions) all version input are is)

pub next_draft : (log : List Entry) (numbers : List ℕ) (all : List Job) (k n : ℕ) (job : Job) → slice_get numbers k ≡ Some n → AreDrafts log (take k numbers) all → IsDraft log n job
    → AreDrafts log (take (k + 1) numbers) (all ++ job ∷ [])
next_draft log numbers all k n job at are is =
    subst (λ ns. AreDrafts log ns (all ++ job ∷ [])) (sym (next_front numbers k n at)) (more_drafts log (take k numbers) all n job are is)

module _ (b : Terms) (log : List Entry) (legal : Legal b log) where
  abbrev units : ℕ
  units = b.limits.task_units

  before_all : (k : ℕ) (s : Submit) → Contains (take k (submits log)) s → Contains (submits log) s
  before_all k s has = subst (λ l. Contains l s) (take-append-drop k (submits log)) (Contains-append_left (take k (submits log)) _ s has)

  -- What a finished task makes is there, as long as its window.
  pub made_found : (task out : ℕ) (u : Use) → IsMade b.code (submits log) task out u → (outs : List (List ℕ)) → standing task log ≡ Ended (Outs outs)
      → (bytes : List ℕ) × (slice_get outs out ≡ Some bytes) × (length bytes ≡ window_length u.window)
  made_found task out u made outs ended = found (ends_are_own b log legal task (Outs outs) ended)
    where
      found : Ends b.code units (submits log) task (Outs outs) → (bytes : List ℕ) × (slice_get outs out ≡ Some bytes) × (length bytes ≡ window_length u.window)
      found (Alone s inputs has is values alone) =
          let same : s ≡ made.submit = one_submit b.code b.limits (submits log) (are_submitted b log legal) s made.submit has made.is_there (is ∙ sym made.number) in
          let its : IsAlone b.code made.submit.rec inputs units (Outs outs) = subst (λ (x : Submit). IsAlone b.code x.rec inputs units (Outs outs)) same alone in
          out_is_there b.code made.submit.rec made.routine made.shape inputs units outs out u made.task_of its made.parameter

  -- a submitted task, with what it may be submitted behind
  pub may_be : (s : Submit) → Contains (submits log) s → (k : ℕ) × MaySubmit b.code b.limits (take k (submits log)) s.rec s.given
  may_be s has = let at = place_of (submits log) s has in (at.0, are_submitted b log legal at.0 s at.1)

  fits_of : (s : Submit) → Contains (submits log) s → (k : ℕ) (version : VersionName) → slice_get s.rec.inputs.items k ≡ Some version
      → (place : ℕ) × (u : Use) × FitsInput b.code (take place (submits log)) s.given version u
  fits_of s has k version at =
      let (place, may) = may_be s has in
      let u = is_within (reading (uses may.fits.shape s.rec)) k (omega (arith, slice_get_within s.rec.inputs.items k version at, may.fits.inputs)) in
      (place, u.0, may.inputs may.fits.shape may.fits.routine (task_of b.code s.rec may.fits) k version u.0 at u.1)

  pub made_before : (place task out : ℕ) (v : Use) → IsMade b.code (take place (submits log)) task out v → IsMade b.code (submits log) task out v
  made_before place task out v made = record {
    submit = made.submit;
    is_there = before_all place made.submit made.is_there;
    number = made.number;
    routine = made.routine;
    shape = made.shape;
    task_of = made.task_of;
    parameter = made.parameter;
  }

  -- the value of an input of a finished task is there
  input_found : (s : Submit) → Contains (submits log) s → (k task out : ℕ) → slice_get s.rec.inputs.items k ≡ Some (names.Made task out) → IsFinished task log → (bytes : List ℕ) × IsFound log s.given (names.Made task out) bytes
  input_found s has k task out at (outs, ended) =
      let fits = fits_of s has k (names.Made task out) at in
      let made = fits.2 in
      let there = made_found task out made.0 (made_before fits.0 task out made.0 made.1) outs ended in
      (there.0, (outs, ended, there.1))

  there_by : (submits' : List Submit) (given : List (List ℕ)) (version : VersionName) (u : Use) → FitsInput b.code submits' given version u → IsThere given version
  there_by submits' given (names.Given place) u (bytes, is, long) = slice_get_within given place bytes is
  there_by submits' given (names.Made task out) u fits = tt

  input_there : (s : Submit) → Contains (submits log) s → (k : ℕ) (version : VersionName) → slice_get s.rec.inputs.items k ≡ Some version → IsThere s.given version
  input_there s has k version at =
      let fits = fits_of s has k version at in
      there_by (take fits.0 (submits log)) s.given version fits.1 fits.2

  all_by_place : (given : List (List ℕ)) (versions : List VersionName) → ((k : ℕ) (version : VersionName) → slice_get versions k ≡ Some version → IsThere given version) → All (IsThere given) versions
  all_by_place given [] each = All-nil (IsThere given)
  all_by_place given (v ∷ versions) each = All-cons (IsThere given) v versions (each 0 v refl) (all_by_place given versions (λ k. each (suc k)))

  pub has_place_of : (n : ℕ) (s : Submit) → IsSubmit log n s → HasPlace b.first log n
  has_place_of n s is =
      let at = index_of b log legal n s is in
      record {
        place = at.0;
        number = at.2;
        submit = s;
        is_there = at.1;
        is_number = is.number;
        given = all_by_place s.given s.rec.inputs.items (input_there s is.is_there);
      }

  -- what may be taken has jobs
  pub have_places : (before numbers : List ℕ) → MayTake log before numbers → All (HasPlace b.first log) numbers
  have_places before [] may = All-nil (HasPlace b.first log)
  have_places before (n ∷ numbers) may = All-cons (HasPlace b.first log) n numbers (has_place_of n may.0.submit may.0.is_submit) (have_places (before ++ n ∷ []) numbers may.1)

  -- ---- in the history that has the take

  module _ (e : Entry) (may : MayFollow b log e) where
    abbrev longer : List Entry
    longer = log ++ e ∷ []

    longer_legal : Legal b longer
    longer_legal = legal_more maker (MayFollow b) log e legal may

    input_is : (s : Submit) → Contains (submits log) s → (before : List ℕ) (k : ℕ) (version : VersionName) (input : JobInput) → slice_get s.rec.inputs.items k ≡ Some version → IsReady log before version
        → IsInputDraft log s.given version input → jobs.IsInput b longer before s.given version input
    input_is s has before k version (inputs.Ready bytes) at ready found =
        let now = found_lasts b s.given version bytes log e legal may found in
        record { found = now; value = values_are_own b longer longer_legal s.given version bytes now }
    input_is s has before k version (inputs.Chained task out) at ready (is, none) =
        (is, chained (subst (λ (v : VersionName). IsReady log before v) is ready))
      where
        chained : IsReady log before (names.Made task out) → is_among before task ≡ true
        chained (inr among) = among
        chained (inl finished) =
            let there = input_found s has k task out (at ∙ ap Some is) finished in
            absurd (none there.0 (subst (λ (v : VersionName). IsFound log s.given v there.0) (sym is) there.1))

    inputs_are : (s : Submit) → Contains (submits log) s → (before : List ℕ) (versions : List VersionName) (all : List JobInput)
        → ((k : ℕ) (version : VersionName) → slice_get versions k ≡ Some version → (j : ℕ) × (slice_get s.rec.inputs.items j ≡ Some version))
        → All (IsReady log before) versions → AreInputDrafts log s.given versions all → jobs.AreInputs b longer before s.given versions all
    inputs_are s has before [] [] each ready are = tt
    inputs_are s has before [] (input ∷ all) each ready are = absurd are
    inputs_are s has before (version ∷ versions) [] each ready are = absurd are
    inputs_are s has before (version ∷ versions) (input ∷ all) each ready are =
        let at = each 0 version refl in (
          input_is s has before at.0 version input at.1 (All-head (IsReady log before) version versions ready) are.0,
          inputs_are s has before versions all (λ k. each (suc k)) (All-tail (IsReady log before) version versions ready) are.1,
        )

    one_of : (n : ℕ) (s t : Submit) → IsSubmit log n s → IsSubmit log n t → s ≡ t
    one_of n s t is other = one_submit b.code b.limits (submits log) (are_submitted b log legal) s t is.is_there other.is_there (is.number ∙ sym other.number)

    job_is : (before : List ℕ) (n : ℕ) (job : Job) → MayStand log before n → IsDraft log n job → jobs.IsJob b longer before n job
    job_is before n job stands draft =
        let s = draft.submit in
        let same : stands.submit ≡ s = one_of n stands.submit s stands.is_submit draft.is_submit in
        let ready : All (IsReady log before) s.rec.inputs.items = subst (λ (x : Submit). All (IsReady log before) x.rec.inputs.items) same stands.ready in
        record {
          submit = s;
          is_submit = still_submit log e n s draft.is_submit;
          rec = draft.rec;
          inputs = inputs_are s draft.is_submit.is_there before s.rec.inputs.items job.inputs.items (λ k version at. (k, at)) ready draft.inputs;
        }

    pub jobs_are : (before numbers : List ℕ) (all : List Job) → MayTake log before numbers → AreDrafts log numbers all → jobs.AreJobs b longer before numbers all
    jobs_are before [] [] take are = tt
    jobs_are before [] (job ∷ all) take are = absurd are
    jobs_are before (n ∷ numbers) [] take are = absurd are
    jobs_are before (n ∷ numbers) (job ∷ all) take are = (job_is before n job take.0 are.0, jobs_are (before ++ n ∷ []) numbers all take.1 are.1)

-- an input that isn't found is chained
pub not_found : (log : List Entry) (given : List (List ℕ)) (version : VersionName) (task out : ℕ) → version ≡ names.Made task out → ((bytes : List ℕ) → ¬ IsFoundMade log (names.Made task out) bytes)
    → IsInputDraft log given version (inputs.Chained task out)
not_found log given version task out is none = (is, λ bytes found. none bytes (subst (λ (v : VersionName). IsFound log given v bytes) is found))

-- ---- a task's cell

module _ (first : ℕ) (log : List Entry) (cells : List Cell) (n : ℕ) (c : Cell) (kept : AreKept first log cells) (place : HasPlace first log n) (at : slice_get cells (n - first) ≡ Some c) where
  submit_at : slice_get log c.submit ≡ Some (entries.Submit place.submit.rec place.submit.given)
  submit_at =
      let cell = kept.cells_are.each (n - first) c at in
      let same : place.place ≡ n - first = omega (arith, place.number) in
      let both : Some place.submit ≡ Some cell.task = sym place.is_there ∙ (ap (slice_get (submits log)) same ∙ cell.task_is) in
      let one : cell.task ≡ place.submit = cc in
      cell.submit_is ∙ ap (λ (s : Submit). Some (entries.Submit s.rec s.given)) one

  pub has_submit : ((rec : TaskRecord) (given : List (List ℕ)) → slice_get log c.submit ≢ Some (entries.Submit rec given)) → ⊥
  has_submit none = none place.submit.rec place.submit.given submit_at

  one_task : (rec : TaskRecord) (given : List (List ℕ)) → slice_get log c.submit ≡ Some (entries.Submit rec given) → (place.submit.rec ≡ rec) × (place.submit.given ≡ given)
  one_task rec given is =
      let both : Some (entries.Submit place.submit.rec place.submit.given) ≡ Some (entries.Submit rec given) = sym submit_at ∙ is in
      (cc, cc)

  pub is_submit_at : (rec : TaskRecord) (given : List (List ℕ)) → slice_get log c.submit ≡ Some (entries.Submit rec given) → IsSubmit log n (record { rec = rec; given = given })
  is_submit_at rec given is =
      let one = one_task rec given is in
      let same : place.submit ≡ record { rec = rec; given = given } = ap₂ (λ (r : TaskRecord) (g : List (List ℕ)). let s : Submit = record { rec = r; given = g } in s) one.0 one.1 in
      subst (λ (s : Submit). IsSubmit log n s) same (record { is_there = has_place (submits log) place.place place.submit place.is_there; number = place.is_number })

  pub are_there_at : (rec : TaskRecord) (given : List (List ℕ)) → slice_get log c.submit ≡ Some (entries.Submit rec given) → All (IsThere given) rec.inputs.items
  are_there_at rec given is =
      let one = one_task rec given is in
      subst (λ (r : TaskRecord). All (IsThere given) r.inputs.items) one.0 (subst (λ (g : List (List ℕ)). All (IsThere g) place.submit.rec.inputs.items) one.1 place.given)

-- ---- whether inputs are ready

pub more_ready : {X : Type 0} (P : X → Type 0) (xs : List X) (k : ℕ) (x : X) → slice_get xs k ≡ Some x → All P (take k xs) → P x → All P (take (k + 1) xs)
more_ready P xs k x at all is = subst (All P) (sym (next_front xs k x at)) (All-push P (take k xs) x all is)

pub not_all_ready : {X : Type 0} (P : X → Type 0) (xs : List X) (k : ℕ) (x : X) → slice_get xs k ≡ Some x → ¬ P x → ¬ All P xs
not_all_ready P xs k x at none all = none (all_at P xs k x at all)
