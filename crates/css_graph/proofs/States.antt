-- What is known of the tasks once some of them have come to a state.
use Rattle.std.proofs.Common.{◌≡◌, ℕ, zero, suc, ◌+◌, ◌<◌, ◌≤◌, Bool, true, false, cond, ◌&&◌, ◌||◌, not, eqb, ltb, List, [], ◌∷◌, ◌++◌, map, refl, sym, ap, ◌∙◌, subst, inl, inr, arith}
use Rattle.std.specs.List.{filter, list_any, list_all}
use Rattle.std.proofs.lemmas.Bool.{ltb-true, lt-ltb, eq-eqb, ne_eqb, eqb-true, cases_Bool, and_parts, and_from, or_parts, or_cases, or_left, or_right, false≢true}
use Rattle.css_graph.specs.declared.state.TaskState.{TaskState}
use Rattle.css_graph.specs.declared.state.TaskState.TheVariants.{Waiting, Out, Finished, Stopped}
use Rattle.css_graph.specs.Tasks.{Task, is_waiting, is_out, is_finished, is_stopped, is_among, some_task, is_number_added, is_number_waiting, is_number_out, is_number_finished, is_below_stops, come_to}
use Rattle.css_graph.specs.Nodes.{IsAscending}
use Rattle.css_graph.specs.Consumers.{consumers_of, lines_of}
use Rattle.css_graph.proofs.Counts.{eqb_sym}
use Rattle.css_graph.proofs.Keyed.{none_above}

abbrev number_of : Task → ℕ
number_of t = t.number

or_false : (b : Bool) → (b || false) ≡ b
or_false true = refl
or_false false = refl

-- each task whose number is in the list passes the test
abbrev pub are_all : (TaskState → Bool) → List ℕ → List Task → Bool
are_all test ns ts = list_all (λ t. not (is_among ns t.number) || test t.state) ts

all_true : {X : Type 0} (xs : List X) → list_all (λ x. true) xs ≡ true
all_true [] = refl
all_true (x ∷ xs) = all_true xs

all_both : {X : Type 0} (p q r : X → Bool) (w : (x : X) → p x ≡ true → q x ≡ true → r x ≡ true) (xs : List X) → list_all p xs ≡ true → list_all q xs ≡ true → list_all r xs ≡ true
all_both p q r w [] h k = refl
all_both p q r w (x ∷ xs) h k =
    let a = and_parts (p x) (list_all p xs) h in
    let b = and_parts (q x) (list_all q xs) k in
    and_from (r x) (list_all r xs) (w x a.0 b.0) (all_both p q r w xs a.1 b.1)

-- where a number is that of one task only, its task passes what some task of the number passes
one_passes : (test : TaskState → Bool) (n : ℕ) (ts : List Task) → IsAscending (map number_of ts) → some_task test ts n ≡ true → list_all (λ t. not (eqb t.number n) || test t.state) ts ≡ true
one_passes test n [] up h = refl
one_passes test n (t ∷ ts) up h = elim (cases_Bool (eqb t.number n)) [
  | inl e ↦
      let at : t.number ≡ n = eqb-true t.number n e in
      let rest_up : list_all (ltb n) (map number_of ts) ≡ true = subst (λ m. list_all (ltb m) (map number_of ts) ≡ true) at up.0 in
      let none : list_any (λ x. eqb x.number n && test x.state) ts ≡ false = none_above number_of (λ x. test x.state) n ts rest_up in
      let whole : (test t.state || false) ≡ true = rw (e, none) at h in
      and_from (not (eqb t.number n) || test t.state) (list_all (λ t. not (eqb t.number n) || test t.state) ts)
      (or_right (not (eqb t.number n)) (test t.state) (sym (or_false (test t.state)) ∙ whole)) (others n ts rest_up)
  | inr e ↦
      let rest : some_task test ts n ≡ true = rw e at h in
      and_from (not (eqb t.number n) || test t.state) (list_all (λ t. not (eqb t.number n) || test t.state) ts)
      (or_left (not (eqb t.number n)) (test t.state) (ap not e)) (one_passes test n ts up.1 rest)
]
  where
    others : (n : ℕ) (ts : List Task) → list_all (ltb n) (map number_of ts) ≡ true → list_all (λ t. not (eqb t.number n) || test t.state) ts ≡ true
    others n [] h = refl
    others n (t ∷ ts) h =
        let parts = and_parts (ltb n t.number) (list_all (ltb n) (map number_of ts)) h in
        let e : eqb t.number n ≡ false = ne_eqb t.number n (λ same. omega (arith, ltb-true n t.number parts.0)) in
        rw e (others n ts parts.1)

pub all_pass : (test : TaskState → Bool) (ns : List ℕ) (ts : List Task) → IsAscending (map number_of ts) → list_all (some_task test ts) ns ≡ true → are_all test ns ts ≡ true
all_pass test [] ts up h = all_true ts
all_pass test (n ∷ ns) ts up h =
    let parts = and_parts (some_task test ts n) (list_all (some_task test ts) ns) h in
    all_both (λ t. not (eqb t.number n) || test t.state) (λ t. not (is_among ns t.number) || test t.state) (λ t. not (is_among (n ∷ ns) t.number) || test t.state)
    (λ t a b. joined (eqb t.number n) (eqb n t.number) (is_among ns t.number) (test t.state) (eqb_sym n t.number) a b) ts
    (one_passes test n ts up parts.0) (all_pass test ns ts up parts.1)
  where
    joined : (a b c d : Bool) → b ≡ a → (not a || d) ≡ true → (not c || d) ≡ true → (not (b || c) || d) ≡ true
    joined true b c d e h k = rw e h
    joined false b c d e h k = rw e k

module _ (s : TaskState) (test : TaskState → Bool) where
  -- what no task of the list is, before and after, stays
  pub same_finished : is_finished s ≡ false → ((s : TaskState) → test s ≡ true → is_finished s ≡ false)
      → (ns : List ℕ) (ts : List Task) → are_all test ns ts ≡ true → (p : ℕ) → is_number_finished (come_to s ns ts) p ≡ is_number_finished ts p
  unfolding is_number_finished come_to
  same_finished now was ns [] h p = refl
  same_finished now was ns (t ∷ ts) h p =
      let parts = and_parts (not (is_among ns t.number) || test t.state) (are_all test ns ts) h in
      let rest = same_finished now was ns ts parts.1 p in
      elim (cases_Bool (is_among ns t.number)) [
        | inl e ↦
            let passes : test t.state ≡ true = needed (is_among ns t.number) (test t.state) e parts.0 in
            let old : is_finished t.state ≡ false = was t.state passes in
            rw (e, now, old) (ap (λ b. (eqb t.number p && false) || b) rest)
        | inr e ↦ rw e (ap (λ b. (eqb t.number p && is_finished t.state) || b) rest)
      ]
    where
      needed : (a d : Bool) → a ≡ true → (not a || d) ≡ true → d ≡ true
      needed true d e h = h
      needed false d e h = absurd (false≢true e)

  pub same_stops : is_stopped s ≡ false → ((s : TaskState) → test s ≡ true → is_stopped s ≡ false)
      → (ns : List ℕ) (ts : List Task) → are_all test ns ts ≡ true → (k : ℕ) → is_below_stops (come_to s ns ts) k ≡ is_below_stops ts k
  unfolding is_below_stops come_to
  same_stops now was ns [] h k = refl
  same_stops now was ns (t ∷ ts) h k =
      let parts = and_parts (not (is_among ns t.number) || test t.state) (are_all test ns ts) h in
      let rest = same_stops now was ns ts parts.1 k in
      elim (cases_Bool (is_among ns t.number)) [
        | inl e ↦
            let passes : test t.state ≡ true = needed (is_among ns t.number) (test t.state) e parts.0 in
            let old : is_stopped t.state ≡ false = was t.state passes in
            rw (e, now, old) rest
        | inr e ↦ rw e (ap (λ b. (not (is_stopped t.state) || ltb k t.number) && b) rest)
      ]
    where
      needed : (a d : Bool) → a ≡ true → (not a || d) ≡ true → d ≡ true
      needed true d e h = h
      needed false d e h = absurd (false≢true e)

-- one number is finished, and no other
pub finished_other : (n : ℕ) (ts : List Task) (p : ℕ) → eqb p n ≡ false → is_number_finished (come_to Finished (n ∷ []) ts) p ≡ is_number_finished ts p
unfolding is_number_finished come_to
finished_other n [] p other = refl
finished_other n (t ∷ ts) p other =
    let rest = finished_other n ts p other in
    elim (cases_Bool (eqb n t.number)) [
      | inl e ↦
          let apart : eqb t.number p ≡ false = ap (λ m. eqb m p) (sym (eqb-true n t.number e)) ∙ eqb_sym n p ∙ other in
          rw (e, apart) rest
      | inr e ↦ rw e (ap (λ b. (eqb t.number p && is_finished t.state) || b) rest)
    ]

pub finished_self : (n : ℕ) (ts : List Task) → is_number_added ts n ≡ true → is_number_finished (come_to Finished (n ∷ []) ts) n ≡ true
unfolding is_number_finished is_number_added come_to
finished_self n [] h = absurd (false≢true h)
finished_self n (t ∷ ts) h = elim (cases_Bool (eqb t.number n)) [
  | inl e ↦
      let f : eqb n t.number ≡ true = eqb_sym n t.number ∙ e in
      rw (f, e) refl
  | inr e ↦
      let f : eqb n t.number ≡ false = eqb_sym n t.number ∙ e in
      let rest : list_any (λ t. eqb t.number n && true) ts ≡ true = rw e at h in
      rw (f, e) (finished_self n ts rest)
]

-- one number is stopped
pub stops_with : (n : ℕ) (ts : List Task) → are_all is_out (n ∷ []) ts ≡ true → (k : ℕ) → is_below_stops (come_to Stopped (n ∷ []) ts) k ≡ (is_below_stops ts k && (not (is_number_added ts n) || ltb k n))
unfolding is_below_stops is_number_added come_to
stops_with n [] h k = refl
stops_with n (t ∷ ts) h k =
    let parts = and_parts (not (is_among (n ∷ []) t.number) || is_out t.state) (are_all is_out (n ∷ []) ts) h in
    let rest : is_below_stops (come_to Stopped (n ∷ []) ts) k ≡ (is_below_stops ts k && (not (is_number_added ts n) || ltb k n)) = stops_with n ts parts.1 k in
    elim (cases_Bool (eqb n t.number)) [
      | inl e ↦
          let at : t.number ≡ n = sym (eqb-true n t.number e) in
          let f : eqb t.number n ≡ true = eqb_sym t.number n ∙ e in
          let was : is_out t.state ≡ true = needed (eqb n t.number) (is_out t.state) e parts.0 in
          let old : is_stopped t.state ≡ false = out_not_stopped t.state was in
          rw (e, f, old) (ap (λ b. ltb k t.number && b) rest ∙ ap (λ m. ltb k m && (is_below_stops ts k && (not (is_number_added ts n) || ltb k n))) at ∙ absorbed (is_number_added ts n) (is_below_stops ts k) (ltb k n))
      | inr e ↦
          let f : eqb t.number n ≡ false = eqb_sym t.number n ∙ e in
          rw (e, f) (ap (λ b. (not (is_stopped t.state) || ltb k t.number) && b) rest ∙ and_assoc (not (is_stopped t.state) || ltb k t.number) (is_below_stops ts k) (not (is_number_added ts n) || ltb k n))
    ]
  where
    needed : (a d : Bool) → a ≡ true → (not (a || false) || d) ≡ true → d ≡ true
    needed true d e h = h
    needed false d e h = absurd (false≢true e)

    out_not_stopped : (s : TaskState) → is_out s ≡ true → is_stopped s ≡ false
    out_not_stopped Waiting h = refl
    out_not_stopped Out h = refl
    out_not_stopped Finished h = refl
    out_not_stopped Stopped h = absurd (false≢true h)

    absorbed : (a l x : Bool) → (x && (l && (not a || x))) ≡ (l && x)
    absorbed true true true = refl
    absorbed true true false = refl
    absorbed true false true = refl
    absorbed true false false = refl
    absorbed false true true = refl
    absorbed false true false = refl
    absorbed false false true = refl
    absorbed false false false = refl

    and_assoc : (a b c : Bool) → (a && (b && c)) ≡ ((a && b) && c)
    and_assoc true b c = refl
    and_assoc false b c = refl

-- a number that some task of passes a test is added
pub added_from : (test : TaskState → Bool) (ts : List Task) (n : ℕ) → some_task test ts n ≡ true → is_number_added ts n ≡ true
unfolding is_number_added
added_from test [] n h = absurd (false≢true h)
added_from test (t ∷ ts) n h = elim (cases_Bool (eqb t.number n)) [
  | inl e ↦ rw e refl
  | inr e ↦
      let rest : some_task test ts n ≡ true = rw e at h in
      rw e (added_from test ts n rest)
]

-- who needs whom stays
pub same_consumers : (s : TaskState) (ns : List ℕ) (ts : List Task) (n : ℕ) → consumers_of (come_to s ns ts) n ≡ consumers_of ts n
unfolding consumers_of come_to
same_consumers s ns [] n = refl
same_consumers s ns (t ∷ ts) n = elim (cases_Bool (is_among t.producers n)) [
  | inl e ↦ rw e (ap (λ l. t.number ∷ l) (same_consumers s ns ts n))
  | inr e ↦ rw e (same_consumers s ns ts n)
]

pub same_lines : (s : TaskState) (ns : List ℕ) (ts : List Task) → lines_of (come_to s ns ts) ≡ lines_of ts
unfolding come_to
same_lines s ns ts = along ts
  where
    along : (xs : List Task) → map {B = ℕ × List ℕ} (λ t. (t.number, consumers_of (come_to s ns ts) t.number)) (come_to s ns xs) ≡ map {B = ℕ × List ℕ} (λ t. (t.number, consumers_of ts t.number)) xs
    along [] = refl
    along (x ∷ xs) =
        ap (λ (c : List ℕ). let line : ℕ × List ℕ = (x.number, c) in line ∷ map {B = ℕ × List ℕ} (λ t. (t.number, consumers_of (come_to s ns ts) t.number)) (come_to s ns xs)) (same_consumers s ns ts x.number)
        ∙ ap (λ (l : List (ℕ × List ℕ)). (x.number, consumers_of ts x.number) ∷ l) (along xs)

-- what waits or is out is neither finished nor stopped
pub out_unfinished : (s : TaskState) → is_out s ≡ true → is_finished s ≡ false
out_unfinished Waiting h = refl
out_unfinished Out h = refl
out_unfinished Finished h = absurd (false≢true h)
out_unfinished Stopped h = refl

pub out_unstopped : (s : TaskState) → is_out s ≡ true → is_stopped s ≡ false
out_unstopped Waiting h = refl
out_unstopped Out h = refl
out_unstopped Finished h = refl
out_unstopped Stopped h = absurd (false≢true h)

pub waiting_unfinished : (s : TaskState) → is_waiting s ≡ true → is_finished s ≡ false
waiting_unfinished Waiting h = refl
waiting_unfinished Out h = refl
waiting_unfinished Finished h = absurd (false≢true h)
waiting_unfinished Stopped h = refl

pub waiting_unstopped : (s : TaskState) → is_waiting s ≡ true → is_stopped s ≡ false
waiting_unstopped Waiting h = refl
waiting_unstopped Out h = refl
waiting_unstopped Finished h = refl
waiting_unstopped Stopped h = absurd (false≢true h)

-- a number whose task passes a test that no finished one passes isn't finished
pub number_unfinished : (test : TaskState → Bool) → ((s : TaskState) → test s ≡ true → is_finished s ≡ false) → (ts : List Task) → IsAscending (map number_of ts) → (n : ℕ) → some_task test ts n ≡ true → is_number_finished ts n ≡ false
unfolding is_number_finished
number_unfinished test w ts up n h = none ts (one_passes test n ts up h)
  where
    needed : (a d : Bool) → a ≡ true → (not a || d) ≡ true → d ≡ true
    needed true d e h = h
    needed false d e h = absurd (false≢true e)

    none : (xs : List Task) → list_all (λ t. not (eqb t.number n) || test t.state) xs ≡ true → list_any (λ t. eqb t.number n && is_finished t.state) xs ≡ false
    none [] h = refl
    none (x ∷ xs) h =
        let parts = and_parts (not (eqb x.number n) || test x.state) (list_all (λ t. not (eqb t.number n) || test t.state) xs) h in
        elim (cases_Bool (eqb x.number n)) [
          | inl e ↦
              let f : is_finished x.state ≡ false = w x.state (needed (eqb x.number n) (test x.state) e parts.0) in
              rw (e, f) (none xs parts.1)
          | inr e ↦ rw e (none xs parts.1)
        ]
