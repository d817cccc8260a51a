-- The ready nodes are those of the tasks that may be taken.
use Rattle.std.proofs.Common.{◌≡◌, ℕ, zero, suc, ◌+◌, ◌<◌, ◌≤◌, Bool, true, false, cond, ◌&&◌, ◌||◌, not, eqb, ltb, List, [], ◌∷◌, ◌++◌, length, get_or, take, map, Option, refl, sym, ap, ◌∙◌, subst, inl, inr, arith}
use Rattle.std.specs.List.{filter, list_any, list_all, All}
use Rattle.std.proofs.lemmas.Bool.{cases_Bool, and_parts, and_from, false≢true, eqb-true, ne_eqb, eq-eqb, ltb-true, lt-ltb, eqb-false}
use Rattle.std.proofs.lemmas.List.Elements.{All-head, All-tail}
use Rattle.css_graph.specs.declared.node.Node.{Node}
use Rattle.css_graph.specs.Tasks.{Task, TaskGraph, is_waiting, is_among, some_task, is_number_waiting, is_number_finished, is_below_stops}
use Rattle.css_graph.specs.Bundle.{may_be_taken, takeable, in_turn, AreDifferent, beginning, goes_on, following}
use Rattle.css_graph.specs.Nodes.{IsAscending, task_of, is_below, is_ready, ready_high, ready_low, numbers_where, count_where}
use Rattle.css_graph.specs.Graph.{IsCounted}
use Rattle.css_graph.proofs.Counts.{none_missing, none_left, some_member, different_ascending}
use Rattle.css_graph.proofs.Keyed.{ascending_where, keys_where}

-- a node is ready exactly where its task may be taken
pub ready_is : (ts : List Task) (bound : Option ℕ) (x : Node) → ((n : ℕ) → is_below bound n ≡ is_below_stops ts n) → IsCounted ts x → is_ready bound x ≡ may_be_taken ts (task_of x)
unfolding may_be_taken
ready_is ts bound x below counted =
    let none : eqb x.missing 0 ≡ list_all (is_number_finished ts) x.producers.items = ap (λ k. eqb k 0) counted.missing ∙ none_missing (is_number_finished ts) x.producers.items in
    ap (λ b. is_waiting x.state && (b && is_below bound x.number)) none
    ∙ ap (λ b. is_waiting x.state && (list_all (is_number_finished ts) x.producers.items && b)) (below x.number)

-- two tests in a row
both_tests : (r : Node → Bool) (m : Task → Bool) (q : Node → Bool) (h : Task → Bool) (same : (x : Node) → q x ≡ h (task_of x)) (xs : List Node) → All (λ x. r x ≡ m (task_of x)) xs
    → numbers_where (λ x. r x && q x) xs ≡ map (λ t. t.number) (filter h (filter m (map task_of xs)))
both_tests r m q h same [] all = refl
both_tests r m q h same (x ∷ xs) all =
    let here : r x ≡ m (task_of x) = All-head (λ x. r x ≡ m (task_of x)) x xs all in
    let rest = both_tests r m q h same xs (All-tail (λ x. r x ≡ m (task_of x)) x xs all) in
    elim (cases_Bool (m (task_of x))) [
      | inl t ↦
          let t' : r x ≡ true = here ∙ t in
          elim (cases_Bool (h (task_of x))) [
            | inl u ↦
                let u' : q x ≡ true = same x ∙ u in
                rw (t', t, u', u) (ap (λ l. x.number ∷ l) rest)
            | inr u ↦
                let u' : q x ≡ false = same x ∙ u in
                rw (t', t, u', u) rest
          ]
      | inr f ↦
          let f' : r x ≡ false = here ∙ f in
          rw (f', f) rest
    ]

-- what is ready in a list of counted nodes
pub all_ready : (ts : List Task) (bound : Option ℕ) (xs : List Node) → ((n : ℕ) → is_below bound n ≡ is_below_stops ts n) → All (IsCounted ts) xs → All (λ x. is_ready bound x ≡ may_be_taken ts (task_of x)) xs
all_ready ts bound xs below counted k d l = ready_is ts bound (get_or xs k d) below (counted k d l)

module _ (bound : Option ℕ) (xs : List Node) (below : (n : ℕ) → is_below bound n ≡ is_below_stops (map task_of xs) n) (counted : All (IsCounted (map task_of xs)) xs) where
  -- the queues, one after the other, have the numbers of what may be taken, in turn
  pub turn_is : numbers_where (ready_high bound) xs ++ numbers_where (ready_low bound) xs ≡ in_turn (map task_of xs)
  unfolding in_turn takeable
  turn_is =
      let ts = map task_of xs in
      let ready = all_ready ts bound xs below counted in
      ap (λ l. l ++ numbers_where (ready_low bound) xs) (both_tests (is_ready bound) (may_be_taken ts) (λ x. x.high) (λ t. t.high) (λ x. refl) xs ready)
      ∙ ap (λ l. map (λ t. t.number) (filter (λ t. t.high) (filter (may_be_taken ts) ts)) ++ l) (both_tests (is_ready bound) (may_be_taken ts) (λ x. not x.high) (λ t. not t.high) (λ x. refl) xs ready)

  -- together they have as many
  pub count_is : length (numbers_where (ready_high bound) xs) + length (numbers_where (ready_low bound) xs) ≡ length (takeable (map task_of xs))
  unfolding takeable
  count_is =
      let ts = map task_of xs in
      let ready = all_ready ts bound xs below counted in
      let high : numbers_where (ready_high bound) xs ≡ map (λ t. t.number) (filter (λ t. t.high) (filter (may_be_taken ts) ts)) = both_tests (is_ready bound) (may_be_taken ts) (λ x. x.high) (λ t. t.high) (λ x. refl) xs ready in
      let low : numbers_where (ready_low bound) xs ≡ map (λ t. t.number) (filter (λ t. not t.high) (filter (may_be_taken ts) ts)) = both_tests (is_ready bound) (may_be_taken ts) (λ x. not x.high) (λ t. not t.high) (λ x. refl) xs ready in
      ap (λ l. length l + length (numbers_where (ready_low bound) xs)) high
      ∙ ap (λ l. length (map (λ (t : Task). t.number) (filter (λ t. t.high) (filter (may_be_taken ts) ts))) + length l) low
      ∙ parts (filter (may_be_taken ts) ts)
    where
      parts : (us : List Task) → length (map (λ (t : Task). t.number) (filter (λ t. t.high) us)) + length (map (λ (t : Task). t.number) (filter (λ t. not t.high) us)) ≡ length us
      parts [] = refl
      parts (u ∷ us) =
          let rest = parts us in
          elim (cases_Bool u.high) [
            | inl t ↦ rw t (omega (arith, rest))
            | inr f ↦ rw f (omega (arith, rest))
          ]

-- what passes a stronger test
passing : (p : ℕ → Bool) (ms ns : List ℕ) → list_all p ms ≡ true → list_all p ns ≡ true → list_all p (ms ++ ns) ≡ true
passing p [] ns h k = k
passing p (m ∷ ms) ns h k =
    let parts = and_parts (p m) (list_all p ms) h in
    and_from (p m) (list_all p (ms ++ ns)) parts.0 (passing p ms ns parts.1 k)

pub passing_take : (p : ℕ → Bool) (k : ℕ) (ns : List ℕ) → list_all p ns ≡ true → list_all p (take k ns) ≡ true
passing_take p zero ns h = refl
passing_take p (suc k) [] h = refl
passing_take p (suc k) (n ∷ ns) h =
    let parts = and_parts (p n) (list_all p ns) h in
    and_from (p n) (list_all p (take k ns)) parts.0 (passing_take p k ns parts.1)

-- each number of some waiting tasks is that of a waiting task
waiting_here : (ts : List Task) (q h : Task → Bool) → ((t : Task) → q t ≡ true → is_waiting t.state ≡ true) → list_all (is_number_waiting ts) (map (λ t. t.number) (filter h (filter q ts))) ≡ true
unfolding is_number_waiting
waiting_here ts q h w = along ts ts (λ n e. e)
  where
    here : (t : Task) (xs : List Task) → is_waiting t.state ≡ true → some_task is_waiting (t ∷ xs) t.number ≡ true
    here t xs e =
        let f : eqb t.number t.number ≡ true = eq-eqb t.number t.number refl in
        rw (f, e) refl

    along : (ts xs : List Task) → ((n : ℕ) → some_task is_waiting xs n ≡ true → some_task is_waiting ts n ≡ true) → list_all (some_task is_waiting ts) (map (λ t. t.number) (filter h (filter q xs))) ≡ true
    along ts [] within = refl
    along ts (x ∷ xs) within =
        let rest = along ts xs (λ n e. within n (later x xs n e)) in
        elim (cases_Bool (q x)) [
          | inl t ↦ elim (cases_Bool (h x)) [
            | inl u ↦ rw (t, u) (and_from (some_task is_waiting ts x.number) (list_all (some_task is_waiting ts) (map (λ t. t.number) (filter h (filter q xs)))) (within x.number (here x xs (w x t))) rest)
            | inr u ↦ rw (t, u) rest
          ]
          | inr f ↦ rw f rest
        ]
      where
        later : (x : Task) (xs : List Task) (n : ℕ) → some_task is_waiting xs n ≡ true → some_task is_waiting (x ∷ xs) n ≡ true
        later x xs n e = rw e (or_true (eqb x.number n && is_waiting x.state))
          where
            or_true : (b : Bool) → (b || true) ≡ true
            or_true true = refl
            or_true false = refl

pub turn_waits : (ts : List Task) → list_all (is_number_waiting ts) (in_turn ts) ≡ true
unfolding in_turn takeable may_be_taken
turn_waits ts =
    let w : (t : Task) → may_be_taken ts t ≡ true → is_waiting t.state ≡ true = λ t e. (and_parts (is_waiting t.state) (list_all (is_number_finished ts) t.producers && is_below_stops ts t.number) e).0 in
    passing (is_number_waiting ts) (map (λ t. t.number) (filter (λ t. t.high) (filter (may_be_taken ts) ts))) (map (λ t. t.number) (filter (λ t. not t.high) (filter (may_be_taken ts) ts)))
    (waiting_here ts (may_be_taken ts) (λ t. t.high) w) (waiting_here ts (may_be_taken ts) (λ t. not t.high) w)

-- different numbers
apart : List ℕ → List ℕ → Type 0
apart ms ns = list_all (λ m. not (is_among ns m)) ms ≡ true

pub among_append : (ms ns : List ℕ) (k : ℕ) → is_among (ms ++ ns) k ≡ (is_among ms k || is_among ns k)
among_append [] ns k = refl
among_append (m ∷ ms) ns k = ap (λ b. eqb m k || b) (among_append ms ns k) ∙ or_assoc (eqb m k) (is_among ms k) (is_among ns k)
  where
    or_assoc : (a b c : Bool) → (a || (b || c)) ≡ ((a || b) || c)
    or_assoc true b c = refl
    or_assoc false b c = refl

pub different_append : (ms ns : List ℕ) → AreDifferent ms → AreDifferent ns → list_all (λ m. not (is_among ns m)) ms ≡ true → AreDifferent (ms ++ ns)
different_append [] ns h k between = k
different_append (m ∷ ms) ns h k between =
    let parts = and_parts (not (is_among ns m)) (list_all (λ m. not (is_among ns m)) ms) between in
    (among_append ms ns m ∙ neither (is_among ms m) (is_among ns m) h.0 parts.0, different_append ms ns h.1 k parts.1)
  where
    neither : (a b : Bool) → a ≡ false → not b ≡ true → (a || b) ≡ false
    neither a true e f = absurd (false≢true f)
    neither a false e f = rw e refl

among_take : (k : ℕ) (ns : List ℕ) (n : ℕ) → is_among ns n ≡ false → is_among (take k ns) n ≡ false
among_take zero ns n h = refl
among_take (suc k) [] n h = refl
among_take (suc k) (m ∷ ns) n h = first (eqb m n) (is_among ns n) (is_among (take k ns) n) h (among_take k ns n)
  where
    first : (a b c : Bool) → (a || b) ≡ false → (b ≡ false → c ≡ false) → (a || c) ≡ false
    first true b c h w = absurd (false≢true (sym h))
    first false b c h w = w h

pub different_take : (k : ℕ) (ns : List ℕ) → AreDifferent ns → AreDifferent (take k ns)
different_take zero ns h = tt
different_take (suc k) [] h = tt
different_take (suc k) (n ∷ ns) h = (among_take k ns n h.0, different_take k ns h.1)

-- the numbers of high and of other tasks are apart
high_apart : (xs : List Node) (r : Node → Bool) → IsAscending (map (λ x. x.number) xs) → list_all (λ m. not (is_among (numbers_where (λ x. r x && not x.high) xs) m)) (numbers_where (λ x. r x && x.high) xs) ≡ true
high_apart [] r up = refl
high_apart (x ∷ xs) r up =
    let rest = high_apart xs r up.1 in
    elim (cases_Bool (r x)) [
      | inl t ↦ elim (cases_Bool x.high) [
        | inl u ↦ rw (t, u) (and_from (not (is_among (numbers_where (λ x. r x && not x.high) xs) x.number)) (list_all (λ m. not (is_among (numbers_where (λ x. r x && not x.high) xs) m)) (numbers_where (λ x. r x && x.high) xs))
            (ap not (absent (λ x. r x && not x.high) x.number xs up.0)) rest)
        | inr u ↦ rw (t, u) (more x.number (numbers_where (λ x. r x && not x.high) xs) (numbers_where (λ x. r x && x.high) xs) (above (λ x. r x && x.high) x.number xs up.0) rest)
      ]
      | inr f ↦ rw f rest
    ]
  where
    absent : (p : Node → Bool) (n : ℕ) (xs : List Node) → list_all (ltb n) (map (λ x. x.number) xs) ≡ true → is_among (numbers_where p xs) n ≡ false
    absent p n [] h = refl
    absent p n (x ∷ xs) h =
        let parts = and_parts (ltb n x.number) (list_all (ltb n) (map (λ x. x.number) xs)) h in
        let e : eqb x.number n ≡ false = ne_eqb x.number n (λ same. omega (arith, ltb-true n x.number parts.0)) in
        elim (cases_Bool (p x)) [
          | inl t ↦ rw (t, e) (absent p n xs parts.1)
          | inr f ↦ rw f (absent p n xs parts.1)
        ]

    above : (p : Node → Bool) (n : ℕ) (xs : List Node) → list_all (ltb n) (map (λ x. x.number) xs) ≡ true → list_all (ltb n) (numbers_where p xs) ≡ true
    above p n [] h = refl
    above p n (x ∷ xs) h =
        let parts = and_parts (ltb n x.number) (list_all (ltb n) (map (λ x. x.number) xs)) h in
        elim (cases_Bool (p x)) [
          | inl t ↦ rw t (and_from (ltb n x.number) (list_all (ltb n) (numbers_where p xs)) parts.0 (above p n xs parts.1))
          | inr f ↦ rw f (above p n xs parts.1)
        ]

    more : (n : ℕ) (ns ms : List ℕ) → list_all (ltb n) ms ≡ true → list_all (λ m. not (is_among ns m)) ms ≡ true → list_all (λ m. not (eqb n m || is_among ns m)) ms ≡ true
    more n ns [] h k = refl
    more n ns (m ∷ ms) h k =
        let a = and_parts (ltb n m) (list_all (ltb n) ms) h in
        let b = and_parts (not (is_among ns m)) (list_all (λ m. not (is_among ns m)) ms) k in
        let e : eqb n m ≡ false = ne_eqb n m (λ same. omega (arith, ltb-true n m a.0)) in
        rw e (and_from (not (is_among ns m)) (list_all (λ m. not (eqb n m || is_among ns m)) ms) b.0 (more n ns ms a.1 b.1))

pub turn_differs : (bound : Option ℕ) (xs : List Node) → IsAscending (map (λ x. x.number) xs) → AreDifferent (numbers_where (ready_high bound) xs ++ numbers_where (ready_low bound) xs)
turn_differs bound xs up =
    different_append (numbers_where (ready_high bound) xs) (numbers_where (ready_low bound) xs)
    (different_ascending (numbers_where (ready_high bound) xs) (ascending_where (λ (x : Node). x.number) (ready_high bound) xs up))
    (different_ascending (numbers_where (ready_low bound) xs) (ascending_where (λ (x : Node). x.number) (ready_low bound) xs up))
    (high_apart xs (is_ready bound) up)
