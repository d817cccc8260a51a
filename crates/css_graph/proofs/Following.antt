-- The tasks that go on after a bundle, and what one more member changes.
use Rattle.std.proofs.Common.{◌≡◌, ℕ, zero, suc, ◌+◌, ◌-◌, ◌<◌, ◌≤◌, Bool, true, false, cond, ◌&&◌, ◌||◌, not, eqb, ltb, List, [], ◌∷◌, ◌++◌, length, get_or, take, map, Option, refl, sym, ap, ◌∙◌, subst, inl, inr, append-nil, length-append, arith}
use Rattle.std.specs.List.{filter, list_any, list_all, All}
use Rattle.std.proofs.lemmas.Bool.{cases_Bool, and_parts, and_from, false≢true, eqb-true, ne_eqb, eq-eqb, ltb-true, lt-ltb}
use Rattle.std.proofs.lemmas.List.Elements.{All-head, All-tail}
use Rattle.css_graph.specs.declared.node.Node.{Node}
use Rattle.css_graph.specs.Tasks.{Task, TaskGraph, is_waiting, is_among, some_task, is_number_added, is_number_waiting, is_number_finished, is_below_stops}
use Rattle.css_graph.specs.Bundle.{AreDifferent, goes_on, following, next_number, continued, beginning, bundle}
use Rattle.css_graph.specs.Nodes.{IsAscending, task_of, is_below, numbers_where, count_where}
use Rattle.css_graph.specs.Consumers.{consumers_of, lines_of, consumers_at}
use Rattle.css_graph.specs.Graph.{IsCounted}
use Rattle.css_graph.proofs.Counts.{none_left, some_member, different_ascending, count_once, one_member, among_push, eqb_sym}
use Rattle.css_graph.proofs.Keyed.{ascending_where, keys_where, among_keys, any_at}
use Rattle.css_graph.proofs.Takeable.{different_append}

abbrev number_of : Node → ℕ
number_of x = x.number

-- one test of nodes and tasks
pub one_test : (r : Node → Bool) (m : Task → Bool) (xs : List Node) → All (λ x. r x ≡ m (task_of x)) xs → numbers_where r xs ≡ map (λ t. t.number) (filter m (map task_of xs))
one_test r m [] all = refl
one_test r m (x ∷ xs) all =
    let here : r x ≡ m (task_of x) = All-head (λ x. r x ≡ m (task_of x)) x xs all in
    let rest = one_test r m xs (All-tail (λ x. r x ≡ m (task_of x)) x xs all) in
    elim (cases_Bool (m (task_of x))) [
      | inl t ↦
          let t' : r x ≡ true = here ∙ t in
          rw (t', t) (ap (λ l. x.number ∷ l) rest)
      | inr f ↦
          let f' : r x ≡ false = here ∙ f in
          rw (f', f) rest
    ]

shuffled : (w b a n : Bool) → ((w && (b && a)) && (n && true)) ≡ (w && (n && (b && (true && a))))
shuffled false b a n = refl
shuffled true false a true = refl
shuffled true false a false = refl
shuffled true true true true = refl
shuffled true true true false = refl
shuffled true true false true = refl
shuffled true true false false = refl

shuffled_out : (w b t n a : Bool) → ((w && (b && t)) && (n && false)) ≡ (w && (n && (b && (false && a))))
shuffled_out false b t n a = refl
shuffled_out true false t true a = refl
shuffled_out true false t false a = refl
shuffled_out true true true true a = refl
shuffled_out true true true false a = refl
shuffled_out true true false true a = refl
shuffled_out true true false false a = refl

in_order : (w b t n e n' b' l a : Bool) → b ≡ b' → n ≡ n' → e ≡ l → (l ≡ true → t ≡ a) → ((w && (b && t)) && (n && e)) ≡ (w && (n' && (b' && (l && a))))
in_order w b t n e n' b' true a p q r s = rw (p, q, r, s refl) (shuffled w b' a n')
in_order w b t n e n' b' false a p q r s = rw (p, q, r) (shuffled_out w b' t n' a)

module _ (bound : Option ℕ) (xs : List Node)
    (below : (n : ℕ) → is_below bound n ≡ is_below_stops (map task_of xs) n)
    (counted : All (IsCounted (map task_of xs)) xs)
    (members : List ℕ)
    (disjoint : (p : ℕ) → is_among members p ≡ true → is_number_finished (map task_of xs) p ≡ false) where
  -- a node is a candidate exactly where its task goes on
  follows_is : (left : ℕ → ℕ) (member : ℕ → Bool) (x : Node) → left x.number ≡ x.missing - count_where (is_among members) x.producers.items → member x.number ≡ is_among members x.number → IsCounted (map task_of xs) x
      → ((is_waiting x.state && (is_below bound x.number && ltb 0 x.missing)) && (not (member x.number) && eqb (left x.number) 0)) ≡ goes_on (map task_of xs) members (task_of x)
  unfolding goes_on
  follows_is left member x left_is member_is c =
      let finished = is_number_finished (map task_of xs) in
      let ps = x.producers.items in
      let none : eqb (left x.number) 0 ≡ list_all (λ p. finished p || is_among members p) ps =
      ap (λ k. eqb k 0) (left_is ∙ ap (λ m. m - count_where (is_among members) ps) c.missing) ∙ none_left finished (is_among members) disjoint ps in
      in_order (is_waiting x.state) (is_below bound x.number) (ltb 0 x.missing) (not (member x.number)) (eqb (left x.number) 0)
      (not (is_among members x.number)) (is_below_stops (map task_of xs) x.number) (list_all (λ p. finished p || is_among members p) ps) (list_any (is_among members) ps)
      (below x.number) (ap not member_is) none (λ e. ap (ltb 0) c.missing ∙ some_member finished (is_among members) disjoint ps e)

  pub following_is : (left : ℕ → ℕ) (member : ℕ → Bool)
      → All (λ (x : Node). left x.number ≡ x.missing - count_where (is_among members) x.producers.items) xs → ((n : ℕ) → member n ≡ is_among members n)
      → numbers_where (λ x. (is_waiting x.state && (is_below bound x.number && ltb 0 x.missing)) && (not (member x.number) && eqb (left x.number) 0)) xs ≡ map (λ t. t.number) (following (map task_of xs) members)
  unfolding following
  following_is left member left_is member_is =
      one_test (λ x. (is_waiting x.state && (is_below bound x.number && ltb 0 x.missing)) && (not (member x.number) && eqb (left x.number) 0)) (goes_on (map task_of xs) members) xs
      (λ k d l. follows_is left member (get_or xs k d) (left_is k d l) (member_is (get_or xs k d).number) (counted k d l))

-- a number of a filtered list is that of a task that passes
pub first_passes : (q : Task → Bool) (ts : List Task) (n : ℕ) (rest : List ℕ) → map (λ t. t.number) (filter q ts) ≡ n ∷ rest → (t : Task) × (q t ≡ true) × (t.number ≡ n) × (list_any (λ u. eqb u.number n && q u) ts ≡ true)
first_passes q [] n rest e = absurd cc
first_passes q (t ∷ ts) n rest e = elim (cases_Bool (q t)) [
  | inl y ↦
      let whole : t.number ∷ map (λ t. t.number) (filter q ts) ≡ n ∷ rest = rw y at e in
      let at : t.number ≡ n = cc in
      let same : eqb t.number n ≡ true = eq-eqb t.number n at in
      (t, y, at, rw (same, y) refl)
  | inr f ↦
      let whole : map (λ t. t.number) (filter q ts) ≡ n ∷ rest = rw f at e in
      let found = first_passes q ts n rest whole in
      (found.0, found.1, found.2, rw found.3 (or_true (eqb t.number n && q t)))
]
  where
    or_true : (b : Bool) → (b || true) ≡ true
    or_true true = refl
    or_true false = refl

any_weaker : (p q : Task → Bool) → ((t : Task) → p t ≡ true → q t ≡ true) → (ts : List Task) → list_any p ts ≡ true → list_any q ts ≡ true
any_weaker p q w [] h = absurd (false≢true h)
any_weaker p q w (t ∷ ts) h = elim (cases_Bool (p t)) [
  | inl e ↦ rw (w t e) refl
  | inr e ↦
      let rest : list_any p ts ≡ true = rw e at h in
      rw (any_weaker p q w ts rest) (or_true (q t))
]
  where
    or_true : (b : Bool) → (b || true) ≡ true
    or_true true = refl
    or_true false = refl

-- the next number waits, and isn't in the bundle
pub next_waits : (ts : List Task) (members : List ℕ) (n : ℕ) (rest : List ℕ) → map (λ t. t.number) (following ts members) ≡ n ∷ rest → is_number_waiting ts n ≡ true
unfolding following goes_on is_number_waiting
next_waits ts members n rest e =
    let found = first_passes (goes_on ts members) ts n rest e in
    any_weaker (λ u. eqb u.number n && goes_on ts members u) (λ u. eqb u.number n && is_waiting u.state)
    (λ t h. let parts = and_parts (eqb t.number n) (goes_on ts members t) h in
    and_from (eqb t.number n) (is_waiting t.state) parts.0 (and_parts (is_waiting t.state) (not (is_among members t.number) && (is_below_stops ts t.number && (list_all (λ p. is_number_finished ts p || is_among members p) t.producers && list_any (is_among members) t.producers))) parts.1).0) ts found.3

pub next_fresh : (ts : List Task) (members : List ℕ) (n : ℕ) (rest : List ℕ) → map (λ t. t.number) (following ts members) ≡ n ∷ rest → is_among members n ≡ false
unfolding following goes_on
next_fresh ts members n rest e =
    let found = first_passes (goes_on ts members) ts n rest e in
    let t = found.0 in
    let parts = and_parts (is_waiting t.state) (not (is_among members t.number) && (is_below_stops ts t.number && (list_all (λ p. is_number_finished ts p || is_among members p) t.producers && list_any (is_among members) t.producers))) found.1 in
    let fresh = and_parts (not (is_among members t.number)) (is_below_stops ts t.number && (list_all (λ p. is_number_finished ts p || is_among members p) t.producers && list_any (is_among members) t.producers)) parts.1 in
    subst (λ m. is_among members m ≡ false) found.2 (not_true (is_among members t.number) fresh.0)
  where
    not_true : (b : Bool) → not b ≡ true → b ≡ false
    not_true true h = sym h
    not_true false h = refl

pub next_is : (ts : List Task) (members : List ℕ) (n : ℕ) (rest : List ℕ) → map (λ t. t.number) (following ts members) ≡ n ∷ rest → next_number ts members ≡ n ∷ []
unfolding next_number
next_is ts members n rest e = ap (take 1) e

pub next_none : (ts : List Task) (members : List ℕ) → map (λ t. t.number) (following ts members) ≡ [] → next_number ts members ≡ []
unfolding next_number
next_none ts members e = ap (take 1) e

-- the tasks that need one are those that it is a producer of
pub consumer_is : (xs : List Node) (n : ℕ) (k : ℕ) (d : Node) → IsAscending (map number_of xs) → k < length xs
    → is_among (consumers_of (map task_of xs) n) (get_or xs k d).number ≡ is_among (get_or xs k d).producers.items n
unfolding consumers_of
consumer_is xs n k d up l =
    let needs : Node → Bool = λ x. is_among x.producers.items n in
    ap (λ ns. is_among ns (get_or xs k d).number) (sym (one_test needs (λ t. is_among t.producers n) xs (λ i e m. refl)))
    ∙ among_keys number_of needs (get_or xs k d).number xs
    ∙ any_at number_of needs (get_or xs k d).number xs k d up l refl

pub consumers_differ : (xs : List Node) (n : ℕ) → IsAscending (map number_of xs) → AreDifferent (consumers_of (map task_of xs) n)
unfolding consumers_of
consumers_differ xs n up =
    let needs : Node → Bool = λ x. is_among x.producers.items n in
    subst AreDifferent (one_test needs (λ t. is_among t.producers n) xs (λ i e m. refl))
    (different_ascending (numbers_where needs xs) (ascending_where number_of needs xs up))

-- how often a number stands among those that need a task
pub consumer_counts : (xs : List Node) (n : ℕ) (k : ℕ) (d : Node) → IsAscending (map number_of xs) → k < length xs
    → count_where (λ c. eqb c (get_or xs k d).number) (consumers_of (map task_of xs) n) ≡ cond (is_among (get_or xs k d).producers.items n) 1 0
consumer_counts xs n k d up l =
    count_once (get_or xs k d).number (consumers_of (map task_of xs) n) (consumers_differ xs n up)
    ∙ ap (λ b. cond b 1 0) (consumer_is xs n k d up l)

-- the line of an added task
pub lines_at : (g : ℕ → List ℕ) (ts : List Task) (n : ℕ) → is_number_added ts n ≡ true → consumers_at (map {B = ℕ × List ℕ} (λ t. (t.number, g t.number)) ts) n ≡ g n
unfolding is_number_added
lines_at g [] n h = absurd (false≢true h)
lines_at g (t ∷ ts) n h = elim (cases_Bool (eqb t.number n)) [
  | inl e ↦ rw e (ap g (eqb-true t.number n e))
  | inr e ↦
      let rest : list_any (λ u. eqb u.number n && true) ts ≡ true = rw e at h in
      rw e (lines_at g ts n rest)
]

-- what is left to a node once one more is a member
pub left_after : (xs : List Node) (members : List ℕ) (n : ℕ) → is_among members n ≡ false → (k : ℕ) (d : Node) → IsAscending (map number_of xs) → k < length xs → AreDifferent (get_or xs k d).producers.items
    → (left after : ℕ) → left ≡ (get_or xs k d).missing - count_where (is_among members) (get_or xs k d).producers.items
    → after ≡ left - count_where (λ c. eqb c (get_or xs k d).number) (consumers_of (map task_of xs) n)
    → after ≡ (get_or xs k d).missing - count_where (is_among (members ++ n ∷ [])) (get_or xs k d).producers.items
left_after xs members n fresh k d up l differ left after left_is after_is =
    let one = one_member members n fresh (get_or xs k d).producers.items differ in
    let here = consumer_counts xs n k d up l in
    omega (arith, one, here, left_is, after_is)

-- a continuation ends where none goes on
pub ended : (ts : List Task) (members : List ℕ) → next_number ts members ≡ [] → (k : ℕ) → continued ts k members ≡ members
unfolding continued
ended ts members none zero = refl
ended ts members none (suc k) = ap (λ l. continued ts k (members ++ l)) none ∙ ap (continued ts k) (append-nil members) ∙ ended ts members none k

pub continued_step : (ts : List Task) (members : List ℕ) (k j : ℕ) → k ≡ suc j → continued ts k members ≡ continued ts j (members ++ next_number ts members)
unfolding continued
continued_step ts members k j e = ap (λ m. continued ts m members) e

pub continued_zero : (ts : List Task) (members : List ℕ) (k : ℕ) → k ≡ 0 → continued ts k members ≡ members
unfolding continued
continued_zero ts members k e = ap (λ m. continued ts m members) e

-- a continuation is no longer than it may be
next_short : (ts : List Task) (members : List ℕ) → length (next_number ts members) ≤ 1
unfolding next_number
next_short ts members = short (map (λ t. t.number) (following ts members))
  where
    short : (ns : List ℕ) → length (take 1 ns) ≤ 1
    short [] = omega arith
    short (n ∷ ns) = omega arith

pub continued_short : (ts : List Task) (k : ℕ) (members : List ℕ) → length (continued ts k members) ≤ length members + k
unfolding continued
continued_short ts zero members = omega arith
continued_short ts (suc k) members =
    let rest = continued_short ts k (members ++ next_number ts members) in
    let more = length-append members (next_number ts members) in
    let one = next_short ts members in
    omega (arith, rest, more, one)

pub fresh_differs : (members : List ℕ) (n : ℕ) → AreDifferent members → is_among members n ≡ false → AreDifferent (members ++ n ∷ [])
fresh_differs members n h fresh = different_append members (n ∷ []) h (refl, tt) (apart members fresh)
  where
    apart : (ms : List ℕ) → is_among ms n ≡ false → list_all (λ m. not (is_among (n ∷ []) m)) ms ≡ true
    apart [] e = refl
    apart (m ∷ ms) e = elim (cases_Bool (eqb m n)) [
      | inl y ↦ absurd (false≢true (sym (rw y at e)))
      | inr f ↦
          let f' : eqb n m ≡ false = eqb_sym n m ∙ f in
          let rest : is_among ms n ≡ false = rw f at e in
          rw f' (apart ms rest)
    ]
