-- The graph of a history's tasks, once it has one entry more.
use Rattle.std.proofs.Common.{◌≡◌, ◌≢◌, ℕ, zero, suc, ◌<◌, ◌==◌, ◌&&◌, Bool, true, false, cond, nat_lt, List, [], ◌∷◌, ◌++◌, map, Some, slice_get, Contains, refl, ap, ap₂, sym, ◌∙◌, subst, inl, inr, arith}
use Rattle.std.specs.List.{list_all}
use Rattle.std.proofs.lemmas.Bool.{cases_Bool, and_from, eq-eqb, lt-ltb}
use Rattle.std.proofs.lemmas.List.{map-append}
use Rattle.std.proofs.lemmas.Option.{slice_get_within}
use Rattle.css_record.specs.declared.task_record.TaskRecord.{TaskRecord}
use Rattle.css_record.specs.declared.version.VersionName.{VersionName}
use Rattle.css_record.specs.declared.version.VersionName.TheVariants as names
use Rattle.css_record.specs.Records.{uses}
use Rattle.css_semantics.specs.Tasks.{Use}
use Rattle.css_yard.specs.Values.{Submit}
use Rattle.css_yard.specs.Yards.{MaySubmit, FitsInput, reading}
use Rattle.css_yard.proofs.Lists.{place_of, is_within}
use Rattle.css_yard.proofs.OneEnd.{task_of as of_code}
use Rattle.css_graph.specs.declared.state.TaskState.{TaskState}
use Rattle.css_graph.specs.Tasks.{Task, is_among, is_out, some_task, is_number_added, is_number_out, come_to, with_task, where_come}
use Rattle.css_graph.specs.Bundle.{AreDifferent}
use Rattle.css_graph.proofs.Following.{fresh_differs}
use Rattle.css_graph.proofs.Numbers.{list_all_append}
use Rattle.css_history.specs.declared.entry.Entry.{Entry}
use Rattle.css_history.specs.declared.entry.Entry.TheVariants as entries
use Rattle.css_history.specs.Terms.{Terms}
use Rattle.css_history.specs.Histories.{submitted, submits, Standing, Waiting, Held, named, comes, standing, held}
use Rattle.css_history.specs.Rules.{IsSubmit, IsNext}
use Rattle.css_history.specs.Legal.{Legal}
use Rattle.css_history.proofs.Bools.{or_left, or_right}
use Rattle.css_history.proofs.Histories.{submits_more, submits_same, standing_more}
use Rattle.css_history.proofs.Standings.{held_are}
use Rattle.css_history.proofs.Numbers.{numbered, submit_of, next_waits}
use Rattle.css_board.specs.Graphs.{state_of, with_number, producers_after, producers_of, task_of, tasks_of, graph_of}
use Rattle.css_board.proofs.Lists.{all_among}

state_cond : (b : Bool) (x y : Standing) → state_of (cond b x y) ≡ cond b (state_of x) (state_of y)
state_cond true x y = refl
state_cond false x y = refl

abbrev in_state : Submit → TaskState → Task
in_state s st = record { number = s.rec.number; producers = producers_of s.rec.inputs.items; high = s.rec.high; state = st }

task_more : (log : List Entry) (e : Entry) (s : Submit) → task_of (log ++ e ∷ []) s ≡ in_state s (cond (is_among (named e) s.rec.number) (state_of (comes e)) (state_of (standing s.rec.number log)))
task_more log e s = ap (in_state s) (ap state_of (standing_more s.rec.number Waiting log e) ∙ state_cond (is_among (named e) s.rec.number) (comes e) (standing s.rec.number log))

come_map : (log : List Entry) (e : Entry) (ss : List Submit) → map (task_of (log ++ e ∷ [])) ss ≡ come_to (state_of (comes e)) (named e) (map (task_of log) ss)
unfolding come_to
come_map log e [] = refl
come_map log e (s ∷ ss) = ap₂ (λ x xs. x ∷ xs) (task_more log e s) (come_map log e ss)

-- an entry that submits nothing brings the tasks that it names to a state
pub graph_named : (workers : ℕ) (log : List Entry) (e : Entry) → submitted e ≡ [] → graph_of workers (log ++ e ∷ []) ≡ where_come (graph_of workers log) (state_of (comes e)) (named e)
graph_named workers log e none =
    ap (λ (ts : List Task). record { workers = workers; tasks = ts }) (ap (map (task_of (log ++ e ∷ []))) (submits_same log e none) ∙ come_map log e (submits log))

same_tasks : (log : List Entry) (e : Entry) → named e ≡ [] → (ss : List Submit) → map (task_of (log ++ e ∷ [])) ss ≡ map (task_of log) ss
same_tasks log e none [] = refl
same_tasks log e none (s ∷ ss) =
    ap₂ (λ x xs. x ∷ xs) (task_more log e s ∙ ap (λ ns. in_state s (cond (is_among ns s.rec.number) (state_of (comes e)) (state_of (standing s.rec.number log)))) none) (same_tasks log e none ss)

-- an entry that names and submits nothing leaves the graph
pub graph_same : (workers : ℕ) (log : List Entry) (e : Entry) → submitted e ≡ [] → named e ≡ [] → graph_of workers (log ++ e ∷ []) ≡ graph_of workers log
graph_same workers log e none unnamed =
    ap (λ (ts : List Task). record { workers = workers; tasks = ts }) (ap (map (task_of (log ++ e ∷ []))) (submits_same log e none) ∙ same_tasks log e unnamed (submits log))

-- some task among these submits passes a test of its state
some_at : (test : TaskState → Bool) (log : List Entry) (ss : List Submit) (k : ℕ) (s : Submit) (n : ℕ) → slice_get ss k ≡ Some s → s.rec.number ≡ n → test (state_of (standing n log)) ≡ true
    → some_task test (map (task_of log) ss) n ≡ true
some_at test log [] k s n at is passes = absurd (cc)
some_at test log (t ∷ ss) zero s n at is passes =
    let same : t ≡ s = cc in
    let number : t.rec.number ≡ n = ap (λ (x : Submit). x.rec.number) same ∙ is in
    or_left ((t.rec.number == n) && test (state_of (standing t.rec.number log))) (some_task test (map (task_of log) ss) n)
    (and_from (t.rec.number == n) (test (state_of (standing t.rec.number log))) (eq-eqb t.rec.number n number) (subst (λ (m : ℕ). test (state_of (standing m log)) ≡ true) (sym number) passes))
some_at test log (t ∷ ss) (suc k) s n at is passes =
    or_right ((t.rec.number == n) && test (state_of (standing t.rec.number log))) (some_task test (map (task_of log) ss) n) (some_at test log ss k s n at is passes)

some_submit : (test : TaskState → Bool) (log : List Entry) (s : Submit) (n : ℕ) → IsSubmit log n s → test (state_of (standing n log)) ≡ true → some_task test (tasks_of log) n ≡ true
some_submit test log s n is passes = let at = place_of (submits log) s is.is_there in some_at test log (submits log) at.0 s n at.1 is.number passes

-- ---- producers

all_with : (p : ℕ → Bool) (numbers : List ℕ) (n : ℕ) → list_all p numbers ≡ true → p n ≡ true → list_all p (with_number numbers n) ≡ true
all_with p numbers n all one = elim (cases_Bool (is_among numbers n)) [
  | inl among ↦ rw among all
  | inr apart ↦ rw apart (list_all_append p numbers (n ∷ []) all (and_from (p n) true one refl))
]

all_producers : (p : ℕ → Bool) (numbers : List ℕ) (versions : List VersionName) → list_all p numbers ≡ true → ((k task out : ℕ) → slice_get versions k ≡ Some (names.Made task out) → p task ≡ true)
    → list_all p (producers_after numbers versions) ≡ true
all_producers p numbers [] all each = all
all_producers p numbers (names.Given place ∷ versions) all each = all_producers p numbers versions all (λ k task out is. each (suc k) task out is)
all_producers p numbers (names.Made task out ∷ versions) all each =
    all_producers p (with_number numbers task) versions (all_with p numbers task all (each 0 task out refl)) (λ k t o is. each (suc k) t o is)

differ_with : (numbers : List ℕ) (n : ℕ) → AreDifferent numbers → AreDifferent (with_number numbers n)
differ_with numbers n differ = elim (cases_Bool (is_among numbers n)) [
  | inl among ↦ rw among differ
  | inr apart ↦ rw apart (fresh_differs numbers n differ apart)
]

differ_after : (numbers : List ℕ) (versions : List VersionName) → AreDifferent numbers → AreDifferent (producers_after numbers versions)
differ_after numbers [] differ = differ
differ_after numbers (names.Given place ∷ versions) differ = differ_after numbers versions differ
differ_after numbers (names.Made task out ∷ versions) differ = differ_after (with_number numbers task) versions (differ_with numbers task differ)

pub producers_differ : (versions : List VersionName) → AreDifferent (producers_of versions)
producers_differ versions = differ_after [] versions tt

below_all : (log : List Entry) (ss : List Submit) (n : ℕ) → ((k : ℕ) (s : Submit) → slice_get ss k ≡ Some s → s.rec.number < n) → list_all (λ (t : Task). nat_lt t.number n) (map (task_of log) ss) ≡ true
below_all log [] n each = refl
below_all log (s ∷ ss) n each =
    and_from (nat_lt s.rec.number n) (list_all (λ (t : Task). nat_lt t.number n) (map (task_of log) ss)) (lt-ltb s.rec.number n (each 0 s refl)) (below_all log ss n (λ k t is. each (suc k) t is))

module _ (b : Terms) where
  -- the new task's number is above all
  pub above_all : (log : List Entry) (r : TaskRecord) → Legal b log → IsNext b.first log r → list_all (λ (t : Task). nat_lt t.number r.number) (tasks_of log) ≡ true
  above_all log r legal next = below_all log (submits log) r.number (λ k s is. omega (arith, numbered b log legal k s is, next.number, slice_get_within (submits log) k s is))

  made_input : (submits : List Submit) (given : List (List ℕ)) (task out : ℕ) (u : Use) → FitsInput b.code submits given (names.Made task out) u → (s : Submit) × Contains submits s × (s.rec.number ≡ task)
  made_input submits given task out u (v, made, long) = (made.submit, made.is_there, made.number)

  -- its producers are added
  pub producers_added : (log : List Entry) (r : TaskRecord) (given : List (List ℕ)) → MaySubmit b.code b.limits (submits log) r given → list_all (is_number_added (tasks_of log)) (producers_of r.inputs.items) ≡ true
  unfolding is_number_added
  producers_added log r given may = all_producers (some_task (λ _. true) (tasks_of log)) [] r.inputs.items refl (λ k task out is.
      let u = is_within (reading (uses may.fits.shape r)) k (omega (arith, slice_get_within r.inputs.items k (names.Made task out) is, may.fits.inputs)) in
      let it = made_input (submits log) given task out u.0 (may.inputs may.fits.shape may.fits.routine (of_code b.code r may.fits) k (names.Made task out) u.0 is u.1) in
      some_submit (λ _. true) log it.0 task (record { is_there = it.1; number = it.2 }) refl)

  pub graph_submit : (workers : ℕ) (log : List Entry) (r : TaskRecord) (given : List (List ℕ)) → Legal b log → IsNext b.first log r
      → graph_of workers (log ++ entries.Submit r given ∷ []) ≡ with_task (graph_of workers log) r.number (producers_of r.inputs.items) r.high
  graph_submit workers log r given legal next =
      let e : Entry = entries.Submit r given in
      let it : Submit = record { rec = r; given = given } in
      let waits : standing r.number log ≡ Waiting = subst (λ (n : ℕ). standing n log ≡ Waiting) (sym next.number) (next_waits b log legal) in
      ap (λ (ts : List Task). record { workers = workers; tasks = ts })
      (ap (map (task_of (log ++ e ∷ []))) (submits_more log e)
      ∙ (map-append (task_of (log ++ e ∷ [])) (submits log) (it ∷ [])
      ∙ ap₂ (λ xs ys. xs ++ ys) (same_tasks log e refl (submits log)) (ap (λ (t : Task). t ∷ []) (task_more log e it ∙ ap (λ st. in_state it (state_of st)) waits))))

  -- what a worker holds is out
  pub out_number : (log : List Entry) (w n : ℕ) → Legal b log → is_among (held w log) n ≡ true → is_number_out (tasks_of log) n ≡ true
  unfolding is_number_out
  out_number log w n legal mine =
      let is : standing n log ≡ Held w = held_are b log legal w n mine in
      let out : standing n log ≢ Waiting = λ waits. absurd (cc) in
      let it = submit_of b log legal n out in
      some_submit is_out log it.0 n it.1 (ap (λ st. is_out (state_of st)) is)

  pub all_out : (log : List Entry) (w : ℕ) → Legal b log → list_all (is_number_out (tasks_of log)) (held w log) ≡ true
  all_out log w legal = all_among (is_number_out (tasks_of log)) (held w log) (λ n mine. out_number log w n legal mine)
