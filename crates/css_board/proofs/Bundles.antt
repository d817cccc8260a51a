-- The bundle of a history's graph may be taken.
use Rattle.std.proofs.Common.{◌≡◌, ◌≢◌, ℕ, zero, suc, ◌-◌, ◌<◌, ◌==◌, ◌&&◌, ◌||◌, not, Bool, true, false, true≢false, nat_lt, List, [], ◌∷◌, ◌++◌, length, map, take, get_or, Some, slice_get, All, refl, ap, sym, ◌∙◌, subst, inl, inr, arith, append_assoc}
use Rattle.std.specs.List.{filter, list_any, list_all}
use Rattle.std.proofs.lemmas.Bool.{cases_Bool, and_parts, eqb-true, eq-eqb, ltb-true}
use Rattle.std.proofs.lemmas.List.{append-nil}
use Rattle.std.proofs.lemmas.Option.{slice_get-get_or}
use Rattle.css_base.specs.declared.ending.Stop.{Stop}
use Rattle.css_record.specs.declared.version.VersionName.{VersionName}
use Rattle.css_record.specs.declared.version.VersionName.TheVariants as names
use Rattle.css_task.specs.Alone.{Outs, Halted}
use Rattle.css_yard.proofs.Lists.{place_of, has_place, at_mapped, mapped_at}
use Rattle.css_graph.specs.Tasks.{Task, is_waiting, is_finished, is_stopped, is_among, is_number_finished, is_below_stops}
use Rattle.css_graph.specs.Bundle.{AreDifferent, may_be_taken, takeable, in_turn, beginning, goes_on, following, next_number, continued, bundle}
use Rattle.css_graph.proofs.Takeable.{among_append}
use Rattle.css_history.specs.declared.entry.Entry.{Entry}
use Rattle.css_history.specs.Terms.{Terms}
use Rattle.css_history.specs.Histories.{submits, Standing, Waiting, Held, Ended, standing, IsFinished}
use Rattle.css_history.specs.Rules.{IsReady, MayStand, MayTake}
use Rattle.css_history.specs.Legal.{Legal}
use Rattle.css_history.proofs.Bools.{or_either, or_left, or_right, or_neither, both_false}
use Rattle.css_history.proofs.Numbers.{submit_of}
use Rattle.css_board.specs.Graphs.{state_of, with_number, producers_after, producers_of, task_of, tasks_of, graph_of}

-- ---- tasks by their numbers

-- a task at some place has this number and passes a test
abbrev IsSome : (Task → Bool) → List Task → ℕ → Type 0
IsSome q ts n = (k : ℕ) × (t : Task) × (slice_get ts k ≡ Some t) × (q t ≡ true) × (t.number ≡ n)

later : (q : Task → Bool) (u : Task) (ts : List Task) (n : ℕ) → IsSome q ts n → IsSome q (u ∷ ts) n
later q u ts n (k, t, at, passes, number) = (suc k, t, at, passes, number)

some_of : (q h : Task → Bool) (ts : List Task) (n : ℕ) → is_among (map (λ t. t.number) (filter h (filter q ts))) n ≡ true → IsSome q ts n
some_of q h [] n e = absurd (true≢false (sym e))
some_of q h (u ∷ ts) n e = elim (cases_Bool (q u)) [
  | inr fails ↦ later q u ts n (some_of q h ts n (rw fails at e))
  | inl passes ↦
      let whole : is_among (map (λ t. t.number) (filter h (u ∷ filter q ts))) n ≡ true = rw passes at e in
      elim (cases_Bool (h u)) [
        | inr low ↦ later q u ts n (some_of q h ts n (rw low at whole))
        | inl high ↦
            let both : ((u.number == n) || is_among (map (λ t. t.number) (filter h (filter q ts))) n) ≡ true = rw high at whole in
            elim (or_either (u.number == n) (is_among (map (λ t. t.number) (filter h (filter q ts))) n) both) [
              | inl here ↦ (zero, u, refl, passes, eqb-true u.number n here)
              | inr there ↦ later q u ts n (some_of q h ts n there)
            ]
      ]
]

any_of : (q : Task → Bool) (ts : List Task) (n : ℕ) → list_any (λ t. (t.number == n) && q t) ts ≡ true → IsSome q ts n
any_of q [] n e = absurd (true≢false (sym e))
any_of q (u ∷ ts) n e = elim (or_either ((u.number == n) && q u) (list_any (λ t. (t.number == n) && q t) ts) e) [
  | inl here ↦ let parts = and_parts (u.number == n) (q u) here in (zero, u, refl, parts.1, eqb-true u.number n parts.0)
  | inr there ↦ later q u ts n (any_of q ts n there)
]

in_turn_some : (ts : List Task) (n : ℕ) → is_among (in_turn ts) n ≡ true → IsSome (may_be_taken ts) ts n
unfolding in_turn takeable
in_turn_some ts n e =
    let high = map (λ t. t.number) (filter (λ t. t.high) (filter (may_be_taken ts) ts)) in
    let low = map (λ t. t.number) (filter (λ t. not t.high) (filter (may_be_taken ts) ts)) in
    elim (or_either (is_among high n) (is_among low n) (sym (among_append high low n) ∙ e)) [
      | inl h ↦ some_of (may_be_taken ts) (λ t. t.high) ts n h
      | inr l ↦ some_of (may_be_taken ts) (λ t. not t.high) ts n l
    ]

among_take : (k : ℕ) (ns : List ℕ) (n : ℕ) → is_among (take k ns) n ≡ true → is_among ns n ≡ true
among_take zero ns n e = absurd (true≢false (sym e))
among_take (suc k) [] n e = e
among_take (suc k) (m ∷ ns) n e = elim (or_either (m == n) (is_among (take k ns) n) e) [
  | inl here ↦ or_left (m == n) (is_among ns n) here
  | inr there ↦ or_right (m == n) (is_among ns n) (among_take k ns n there)
]

all_get : {X : Type 0} (p : X → Bool) (xs : List X) (k : ℕ) (x : X) → list_all p xs ≡ true → slice_get xs k ≡ Some x → p x ≡ true
all_get p [] k x all at = absurd (cc)
all_get p (y ∷ xs) zero x all at = let same : y ≡ x = cc in subst (λ z. p z ≡ true) same (and_parts (p y) (list_all p xs) all).0
all_get p (y ∷ xs) (suc k) x all at = all_get p xs k x (and_parts (p y) (list_all p xs) all).1 at

all_member : (p : ℕ → Bool) (ns : List ℕ) (n : ℕ) → list_all p ns ≡ true → is_among ns n ≡ true → p n ≡ true
all_member p [] n all e = absurd (true≢false (sym e))
all_member p (m ∷ ns) n all e =
    let parts = and_parts (p m) (list_all p ns) all in
    elim (or_either (m == n) (is_among ns n) e) [
      | inl here ↦ subst (λ (k : ℕ). p k ≡ true) (eqb-true m n here) parts.0
      | inr there ↦ all_member p ns n parts.1 there
    ]

weaker_all : (p r : ℕ → Bool) (ns : List ℕ) → ((n : ℕ) → p n ≡ true → r n ≡ true) → list_all p ns ≡ true → list_all r ns ≡ true
weaker_all p r [] weak all = refl
weaker_all p r (n ∷ ns) weak all =
    let parts = and_parts (p n) (list_all p ns) all in rw (weak n parts.0) (weaker_all p r ns weak parts.1)

-- ---- producers

among_kept : (ns : List ℕ) (n m : ℕ) → is_among ns m ≡ true → is_among (with_number ns n) m ≡ true
among_kept ns n m e = elim (cases_Bool (is_among ns n)) [
  | inl there ↦ rw there e
  | inr new ↦ rw new (among_append ns (n ∷ []) m ∙ or_left (is_among ns m) (is_among (n ∷ []) m) e)
]

among_new : (ns : List ℕ) (n : ℕ) → is_among (with_number ns n) n ≡ true
among_new ns n = elim (cases_Bool (is_among ns n)) [
  | inl there ↦ rw there there
  | inr new ↦ rw new (among_append ns (n ∷ []) n ∙ or_right (is_among ns n) (is_among (n ∷ []) n) (or_left (n == n) false (eq-eqb n n refl)))
]

among_after : (ns : List ℕ) (versions : List VersionName) (m : ℕ) → is_among ns m ≡ true → is_among (producers_after ns versions) m ≡ true
among_after ns [] m e = e
among_after ns (names.Given place ∷ versions) m e = among_after ns versions m e
among_after ns (names.Made task out ∷ versions) m e = among_after (with_number ns task) versions m (among_kept ns task m e)

made_among : (ns : List ℕ) (versions : List VersionName) (k task out : ℕ) → slice_get versions k ≡ Some (names.Made task out) → is_among (producers_after ns versions) task ≡ true
made_among ns [] k task out at = absurd (cc)
made_among ns (names.Given place ∷ versions) zero task out at = absurd (cc)
made_among ns (names.Given place ∷ versions) (suc k) task out at = made_among ns versions k task out at
made_among ns (names.Made t o ∷ versions) zero task out at =
    let same : t ≡ task = cc in among_after (with_number ns t) versions task (subst (λ (m : ℕ). is_among (with_number ns t) m ≡ true) same (among_new ns t))
made_among ns (names.Made t o ∷ versions) (suc k) task out at = made_among (with_number ns t) versions k task out at

-- ---- standings by states

is_waiting_of : (s : Standing) → is_waiting (state_of s) ≡ true → s ≡ Waiting
is_waiting_of Waiting e = refl
is_waiting_of (Held w) e = absurd (true≢false (sym e))
is_waiting_of (Ended (Outs outs)) e = absurd (true≢false (sym e))
is_waiting_of (Ended (Halted stop line)) e = absurd (true≢false (sym e))

is_finished_of : (s : Standing) → is_finished (state_of s) ≡ true → (outs : List (List ℕ)) × (s ≡ Ended (Outs outs))
is_finished_of Waiting e = absurd (true≢false (sym e))
is_finished_of (Held w) e = absurd (true≢false (sym e))
is_finished_of (Ended (Outs outs)) e = (outs, refl)
is_finished_of (Ended (Halted stop line)) e = absurd (true≢false (sym e))

module _ (b : Terms) (log : List Entry) (legal : Legal b log) where
  abbrev ts : List Task
  ts = tasks_of log

  finished_is : (n : ℕ) → is_number_finished ts n ≡ true → IsFinished n log
  unfolding is_number_finished
  finished_is n e =
      let (k, t, at, passes, number) = any_of (λ t. is_finished t.state) ts n e in
      let (s, is, same) = at_mapped (task_of log) (submits log) k t at in
      let it : is_finished (state_of (standing s.rec.number log)) ≡ true = subst (λ (x : Task). is_finished x.state ≡ true) (sym same) passes in
      let n_is : s.rec.number ≡ n = ap (λ (x : Task). x.number) same ∙ number in
      subst (λ (m : ℕ). IsFinished m log) n_is (is_finished_of (standing s.rec.number log) it)

  below_is : (n : ℕ) → is_below_stops ts n ≡ true → (other : ℕ) (stop : Stop) (line : ℕ) → standing other log ≡ Ended (Halted stop line) → n < other
  unfolding is_below_stops
  below_is n e other stop line stopped =
      let out : standing other log ≢ Waiting = λ waits. absurd (cc) in
      let it = submit_of b log legal other out in
      let at = place_of (submits log) it.0 it.1.is_there in
      let passes = all_get (λ (t : Task). not (is_stopped t.state) || nat_lt n t.number) ts at.0 (task_of log it.0) e (mapped_at (task_of log) (submits log) at.0 it.0 at.1) in
      let stands : is_stopped (state_of (standing it.0.rec.number log)) ≡ true = ap (λ (m : ℕ). is_stopped (state_of (standing m log))) it.1.number ∙ ap (λ s. is_stopped (state_of s)) stopped in
      let less : nat_lt n it.0.rec.number ≡ true = rw stands at passes in
      omega (arith, ltb-true n it.0.rec.number less, it.1.number)

  ready_is : (before : List ℕ) (versions : List VersionName) → list_all (λ p. is_number_finished ts p || is_among before p) (producers_of versions) ≡ true → All (IsReady log before) versions
  ready_is before versions all k d below = of_version (get_or versions k d) k (slice_get-get_or versions k d below)
    where
      of_version : (v : VersionName) (k : ℕ) → slice_get versions k ≡ Some v → IsReady log before v
      of_version (names.Given place) k at = tt
      of_version (names.Made task out) k at =
          let passes = all_member (λ p. is_number_finished ts p || is_among before p) (producers_of versions) task all (made_among [] versions k task out at) in
          elim (or_either (is_number_finished ts task) (is_among before task) passes) [
            | inl finished ↦ inl (finished_is task finished)
            | inr among ↦ inr among
          ]

  -- a task that waits, below all stops, with ready producers
  stands : (before : List ℕ) (n k : ℕ) (t : Task) → slice_get ts k ≡ Some t → t.number ≡ n → is_waiting t.state ≡ true → is_below_stops ts t.number ≡ true
      → list_all (λ p. is_number_finished ts p || is_among before p) t.producers ≡ true → is_among before n ≡ false → MayStand log before n
  stands before n k t at number waits below ready apart =
      let (s, is, same) = at_mapped (task_of log) (submits log) k t at in
      let n_is : s.rec.number ≡ n = ap (λ (x : Task). x.number) same ∙ number in
      let it : is_waiting (state_of (standing s.rec.number log)) ≡ true = subst (λ (x : Task). is_waiting x.state ≡ true) (sym same) waits in
      record {
        submit = s;
        is_submit = record { is_there = has_place (submits log) k s is; number = n_is };
        waits = subst (λ (m : ℕ). standing m log ≡ Waiting) n_is (is_waiting_of (standing s.rec.number log) it);
        apart = apart;
        below = below_is n (subst (λ (m : ℕ). is_below_stops ts m ≡ true) number below);
        ready = ready_is before s.rec.inputs.items (subst (λ (x : Task). list_all (λ p. is_number_finished ts p || is_among before p) x.producers ≡ true) (sym same) ready);
      }

  first_stands : (before : List ℕ) (n : ℕ) → IsSome (may_be_taken ts) ts n → is_among before n ≡ false → MayStand log before n
  unfolding may_be_taken
  first_stands before n (k, t, at, passes, number) apart =
      let one = and_parts (is_waiting t.state) (list_all (is_number_finished ts) t.producers && is_below_stops ts t.number) passes in
      let two = and_parts (list_all (is_number_finished ts) t.producers) (is_below_stops ts t.number) one.1 in
      stands before n k t at number one.0 two.1 (weaker_all (is_number_finished ts) (λ p. is_number_finished ts p || is_among before p) t.producers (λ p e. or_left (is_number_finished ts p) (is_among before p) e) two.0) apart

  next_stands : (before : List ℕ) (n : ℕ) → IsSome (goes_on ts before) ts n → MayStand log before n
  unfolding goes_on
  next_stands before n (k, t, at, passes, number) =
      let ready = list_all (λ p. is_number_finished ts p || is_among before p) t.producers in
      let some = list_any (is_among before) t.producers in
      let one = and_parts (is_waiting t.state) (not (is_among before t.number) && (is_below_stops ts t.number && (ready && some))) passes in
      let two = and_parts (not (is_among before t.number)) (is_below_stops ts t.number && (ready && some)) one.1 in
      let three = and_parts (is_below_stops ts t.number) (ready && some) two.1 in
      let four = and_parts ready some three.1 in
      stands before n k t at number one.0 three.0 four.0 (subst (λ (m : ℕ). is_among before m ≡ false) number (not_true (is_among before t.number) two.0))
    where
      not_true : (x : Bool) → not x ≡ true → x ≡ false
      not_true true h = sym h
      not_true false h = refl

  -- ---- bundles

  apart_of : (before : List ℕ) (n : ℕ) (rest : List ℕ) → AreDifferent (before ++ n ∷ rest) → is_among before n ≡ false
  apart_of [] n rest differ = refl
  apart_of (m ∷ before) n rest differ =
      let none = sym (among_append before (n ∷ rest) m) ∙ differ.0 in
      let other = (or_neither (n == m) (is_among rest m) (or_neither (is_among before m) (is_among (n ∷ rest) m) none).1).0 in
      both_false (m == n) (is_among before n) (flipped m n other) (apart_of before n rest differ.1)
    where
      flipped : (m n : ℕ) → (n == m) ≡ false → (m == n) ≡ false
      flipped m n e = elim (cases_Bool (m == n)) [
        | inl same ↦ absurd (true≢false (sym (eq-eqb n m (sym (eqb-true m n same))) ∙ e))
        | inr apart ↦ apart
      ]

  all_take : (before numbers : List ℕ) → ((n : ℕ) → is_among numbers n ≡ true → IsSome (may_be_taken ts) ts n) → AreDifferent (before ++ numbers) → MayTake log before numbers
  all_take before [] each differ = tt
  all_take before (n ∷ numbers) each differ = (
    first_stands before n (each n (or_left (n == n) (is_among numbers n) (eq-eqb n n refl))) (apart_of before n numbers differ),
    all_take (before ++ n ∷ []) numbers (λ m e. each m (or_right (n == m) (is_among numbers m) e)) (subst AreDifferent (sym (append_assoc before (n ∷ []) numbers)) differ),
  )

  take_end : (before numbers : List ℕ) (n : ℕ) → MayTake log before numbers → MayStand log (before ++ numbers) n → MayTake log before (numbers ++ n ∷ [])
  take_end before [] n may one = (subst (λ l. MayStand log l n) (append-nil before) one, tt)
  take_end before (m ∷ numbers) n may one = (may.0, take_end (before ++ m ∷ []) numbers n may.1 (subst (λ l. MayStand log l n) (sym (append_assoc before (m ∷ []) numbers)) one))

  with_next : (numbers : List ℕ) (us : List Task) → ((n : ℕ) → is_among (map (λ (t : Task). t.number) us) n ≡ true → IsSome (goes_on ts numbers) ts n) → MayTake log [] numbers → MayTake log [] (numbers ++ take 1 (map (λ (t : Task). t.number) us))
  with_next numbers [] each may = subst (MayTake log []) (sym (append-nil numbers)) may
  with_next numbers (u ∷ us) each may = take_end [] numbers u.number may (next_stands numbers u.number (each u.number (or_left (u.number == u.number) (is_among (map (λ (t : Task). t.number) us) u.number) (eq-eqb u.number u.number refl))))

  follow : (numbers : List ℕ) → MayTake log [] numbers → MayTake log [] (numbers ++ next_number ts numbers)
  unfolding next_number following
  follow numbers may = with_next numbers (filter (goes_on ts numbers) ts) (λ n e. one_test n ts e) may
    where
      one_test : (n : ℕ) (us : List Task) → is_among (map (λ (t : Task). t.number) (filter (goes_on ts numbers) us)) n ≡ true → IsSome (goes_on ts numbers) us n
      one_test n [] e = absurd (true≢false (sym e))
      one_test n (u ∷ us) e = elim (cases_Bool (goes_on ts numbers u)) [
        | inr fails ↦ later (goes_on ts numbers) u us n (one_test n us (rw fails at e))
        | inl passes ↦
            let both : ((u.number == n) || is_among (map (λ (t : Task). t.number) (filter (goes_on ts numbers) us)) n) ≡ true = rw passes at e in
            elim (or_either (u.number == n) (is_among (map (λ (t : Task). t.number) (filter (goes_on ts numbers) us)) n) both) [
              | inl here ↦ (zero, u, refl, passes, eqb-true u.number n here)
              | inr there ↦ later (goes_on ts numbers) u us n (one_test n us there)
            ]
      ]

  go_on : (room : ℕ) (numbers : List ℕ) → MayTake log [] numbers → MayTake log [] (continued ts room numbers)
  unfolding continued
  go_on zero numbers may = may
  go_on (suc room) numbers may = go_on room (numbers ++ next_number ts numbers) (follow numbers may)

  begins : (room : ℕ) (numbers : List ℕ) → (more : List ℕ) × (continued ts room numbers ≡ numbers ++ more)
  unfolding continued
  begins zero numbers = ([], sym (append-nil numbers))
  begins (suc room) numbers =
      let rest = begins room (numbers ++ next_number ts numbers) in
      (next_number ts numbers ++ rest.0, rest.1 ∙ append_assoc numbers (next_number ts numbers) rest.0)

  differ_front : (ns ms : List ℕ) → AreDifferent (ns ++ ms) → AreDifferent ns
  differ_front [] ms differ = tt
  differ_front (n ∷ ns) ms differ = ((or_neither (is_among ns n) (is_among ms n) (sym (among_append ns ms n) ∙ differ.0)).0, differ_front ns ms differ.1)

  -- the graph's bundle may be taken
  pub bundle_may : (workers most : ℕ) → AreDifferent (bundle (graph_of workers log) most) → MayTake log [] (bundle (graph_of workers log) most)
  unfolding bundle beginning
  bundle_may workers most differ =
      let first = beginning (graph_of workers log) most in
      let more = begins (most - length first) first in
      go_on (most - length first) first (all_take [] first (λ n e. in_turn_some ts n (among_take _ (in_turn ts) n e)) (differ_front first more.0 (subst AreDifferent more.1 differ)))
