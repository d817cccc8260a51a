-- The nodes and the queues.
use Rattle.std.proofs.Common.{◌≡◌, ℕ, zero, suc, ◌+◌, ◌-◌, ◌<◌, ◌≤◌, Bool, true, false, cond, ◌&&◌, ◌||◌, not, eqb, ltb, List, [], ◌∷◌, ◌++◌, length, get_or, take, set, map, Option, Some, None, min, slice_get, refl, sym, ap, ◌∙◌, subst, inl, inr, get_or-set_same, length-set, arith}
use Rattle.std.specs.List.{filter, list_any, list_all}
use Rattle.std.specs.Option.{option_to_list}
use Rattle.std.proofs.lemmas.Bool.{cases_Bool, eqb-true, or_parts, lt-ltb}
use Rattle.std.proofs.lemmas.Bool.Decides.{nat_tests}
use Rattle.css_graph.specs.declared.node.Node.{Node}
use Rattle.css_graph.specs.declared.state.TaskState.{TaskState}
use Rattle.css_graph.specs.Tasks.{Task, is_waiting, is_out, is_finished, some_task, is_number_added, is_number_out, is_number_finished}
use Rattle.css_graph.specs.Nodes.{IsAscending, task_of, is_below, lower_bound, is_ready, ready_high, ready_low, numbers_where, below, at_number, put}
use Rattle.css_graph.specs.Chain.{missing_at}
use Rattle.css_graph.proofs.Keyed.{any_at, none_absent, keys_where, where_below, set_changed, where_changed, ascending_changed}

abbrev number_of : Node → ℕ
number_of x = x.number

-- a node that was read at the place of its number
pub any_read : (h : Node → Bool) (n : ℕ) (xs : List Node) (i : ℕ) (x : Node) → IsAscending (map number_of xs) → i < length xs → (get_or xs i x).number ≡ n → x ≡ get_or xs i x → list_any (λ y. eqb y.number n && h y) xs ≡ h x
any_read h n xs i x up l at is = any_at number_of h n xs i x up l at ∙ ap h (sym is)

any_tasks : (test : TaskState → Bool) (xs : List Node) (n : ℕ) → some_task test (map task_of xs) n ≡ list_any (λ y. eqb y.number n && test y.state) xs
any_tasks test [] n = refl
any_tasks test (x ∷ xs) n = ap (λ b. (eqb x.number n && test x.state) || b) (any_tasks test xs n)

pub finished_read : (n : ℕ) (xs : List Node) (i : ℕ) (x : Node) → IsAscending (map number_of xs) → i < length xs → (get_or xs i x).number ≡ n → x ≡ get_or xs i x → is_number_finished (map task_of xs) n ≡ is_finished x.state
unfolding is_number_finished
finished_read n xs i x up l at is = any_tasks is_finished xs n ∙ any_read (λ y. is_finished y.state) n xs i x up l at is

pub finished_absent : (n : ℕ) (xs : List Node) → list_any (λ x. eqb x.number n) xs ≡ false → is_number_finished (map task_of xs) n ≡ false
unfolding is_number_finished
finished_absent n xs gone = any_tasks is_finished xs n ∙ none_absent number_of (λ y. is_finished y.state) n xs gone

pub out_read : (n : ℕ) (xs : List Node) (i : ℕ) (x : Node) → IsAscending (map number_of xs) → i < length xs → (get_or xs i x).number ≡ n → x ≡ get_or xs i x → is_number_out (map task_of xs) n ≡ is_out x.state
unfolding is_number_out
out_read n xs i x up l at is = any_tasks is_out xs n ∙ any_read (λ y. is_out y.state) n xs i x up l at is

pub out_absent : (n : ℕ) (xs : List Node) → list_any (λ x. eqb x.number n) xs ≡ false → is_number_out (map task_of xs) n ≡ false
unfolding is_number_out
out_absent n xs gone = any_tasks is_out xs n ∙ none_absent number_of (λ y. is_out y.state) n xs gone

pub added_read : (n : ℕ) (xs : List Node) (i : ℕ) (x : Node) → IsAscending (map number_of xs) → i < length xs → ((d : Node) → (get_or xs i d).number ≡ n) → is_number_added (map task_of xs) n ≡ true
unfolding is_number_added
added_read n xs i x up l at = any_tasks (λ _. true) xs n ∙ any_at number_of (λ _. true) n xs i x up l (at x)

pub added_found : (n : ℕ) (xs : List Node) (i : ℕ) → IsAscending (map number_of xs) → i < length xs → ((d : Node) → (get_or xs i d).number ≡ n) → is_number_added (map task_of xs) n ≡ true
added_found n [] i up l at = absurd (omega arith)
added_found n (y ∷ xs) i up l at = added_read n (y ∷ xs) i y up l at

pub added_absent : (n : ℕ) (xs : List Node) → list_any (λ x. eqb x.number n) xs ≡ false → is_number_added (map task_of xs) n ≡ false
unfolding is_number_added
added_absent n xs gone = any_tasks (λ _. true) xs n ∙ none_absent number_of (λ _. true) n xs gone

pub missing_read : (n : ℕ) (xs : List Node) (i : ℕ) (x : Node) → IsAscending (map number_of xs) → i < length xs → (get_or xs i x).number ≡ n → x ≡ get_or xs i x → missing_at xs n ≡ x.missing
missing_read n [] i x up l at is = absurd (omega arith)
missing_read n (y ∷ xs) zero x up l at is =
    let e : eqb y.number n ≡ true = here y.number n at in
    rw e (ap (λ (z : Node). z.missing) (sym is))
  where
    here : (a b : ℕ) → a ≡ b → eqb a b ≡ true
    here a b e = grind (arith, nat_tests)
missing_read n (y ∷ xs) (suc i) x up l at is =
    let e : eqb y.number n ≡ false = apart y.number n (subst (λ m. y.number < m) at (above y.number xs i x up.0 (omega arith))) in
    rw e (missing_read n xs i x up.1 (omega arith) at is)
  where
    apart : (a b : ℕ) → a < b → eqb a b ≡ false
    apart a b l = grind (arith, nat_tests)

    above : (m : ℕ) (xs : List Node) (i : ℕ) (d : Node) → list_all (ltb m) (map number_of xs) ≡ true → i < length xs → m < (get_or xs i d).number
    above m [] i d h l = absurd (omega arith)
    above m (x ∷ xs) zero d h l = grind (arith, nat_tests)
    above m (x ∷ xs) (suc i) d h l = above m xs i d (rest (ltb m x.number) (list_all (ltb m) (map number_of xs)) h) (omega arith)
      where
        rest : (a b : Bool) → (a && b) ≡ true → b ≡ true
        rest true b e = e
        rest false b e = absurd cc

pub missing_absent : (n : ℕ) (xs : List Node) → list_any (λ x. eqb x.number n) xs ≡ false → missing_at xs n ≡ 0
missing_absent n [] gone = refl
missing_absent n (x ∷ xs) gone =
    let parts = or_parts (eqb x.number n) (list_any (λ x. eqb x.number n) xs) gone in
    rw parts.0 (missing_absent n xs parts.1)

-- as many are ready as there are nodes, at most
pub length_where : (p : Node → Bool) (xs : List Node) → length (numbers_where p xs) ≤ length xs
length_where p [] = omega arith
length_where p (x ∷ xs) =
    let rest = length_where p xs in
    elim (cases_Bool (p x)) [
      | inl t ↦ rw t (omega (arith, rest))
      | inr f ↦ rw f (omega (arith, rest))
    ]

pub length_both : (bound : Option ℕ) (xs : List Node) → length (numbers_where (ready_high bound) xs) + length (numbers_where (ready_low bound) xs) ≤ length xs
length_both bound [] = omega arith
length_both bound (x ∷ xs) =
    let rest = length_both bound xs in
    elim (cases_Bool (is_ready bound x)) [
      | inl t ↦ elim (cases_Bool x.high) [
        | inl u ↦ rw (t, u) (omega (arith, rest))
        | inr u ↦ rw (t, u) (omega (arith, rest))
      ]
      | inr f ↦ rw f (omega (arith, rest))
    ]

-- a lower bound
lowered : (bound : Option ℕ) (n m : ℕ) → is_below (lower_bound bound n) m ≡ (is_below bound m && ltb m n)
lowered None n m = refl
lowered (Some b) n m = least m b n
  where
    least : (m b n : ℕ) → ltb m (min b n) ≡ (ltb m b && ltb m n)
    least m b n = grind (arith, nat_tests)

regrouped : (w z b h t : Bool) → (((w && (z && b)) && h) && t) ≡ ((w && (z && (b && t))) && h)
regrouped false z b h t = refl
regrouped true false b h t = refl
regrouped true true false h t = refl
regrouped true true true h t = and_comm h t
  where
    and_comm : (a b : Bool) → (a && b) ≡ (b && a)
    and_comm true true = refl
    and_comm true false = refl
    and_comm false true = refl
    and_comm false false = refl

same_filter : (p q : Node → Bool) → ((x : Node) → p x ≡ q x) → (xs : List Node) → numbers_where p xs ≡ numbers_where q xs
same_filter p q same [] = refl
same_filter p q same (x ∷ xs) =
    let e : p x ≡ q x = same x in
    let rest = same_filter p q same xs in
    elim (cases_Bool (q x)) [
      | inl t ↦
          let t' : p x ≡ true = e ∙ t in
          rw (t', t) (ap (λ l. x.number ∷ l) rest)
      | inr f ↦
          let f' : p x ≡ false = e ∙ f in
          rw (f', f) rest
    ]

pub high_lowered : (bound : Option ℕ) (n : ℕ) (xs : List Node) → below n (numbers_where (ready_high bound) xs) ≡ numbers_where (ready_high (lower_bound bound n)) xs
high_lowered bound n xs =
    where_below number_of (ready_high bound) n xs
    ∙ same_filter (λ x. ready_high bound x && ltb x.number n) (ready_high (lower_bound bound n))
    (λ x. regrouped (is_waiting x.state) (eqb x.missing 0) (is_below bound x.number) x.high (ltb x.number n)
    ∙ ap (λ b. (is_waiting x.state && (eqb x.missing 0 && b)) && x.high) (sym (lowered bound n x.number))) xs

pub low_lowered : (bound : Option ℕ) (n : ℕ) (xs : List Node) → below n (numbers_where (ready_low bound) xs) ≡ numbers_where (ready_low (lower_bound bound n)) xs
low_lowered bound n xs =
    where_below number_of (ready_low bound) n xs
    ∙ same_filter (λ x. ready_low bound x && ltb x.number n) (ready_low (lower_bound bound n))
    (λ x. regrouped (is_waiting x.state) (eqb x.missing 0) (is_below bound x.number) (not x.high) (ltb x.number n)
    ∙ ap (λ b. (is_waiting x.state && (eqb x.missing 0 && b)) && not x.high) (sym (lowered bound n x.number))) xs

-- one more at the front
pub front_more : (xs : List ℕ) (i : ℕ) (o : Option ℕ) → o ≡ slice_get xs i → take (i + 1) xs ≡ take i xs ++ option_to_list o
front_more xs i o e = rw (e, plus_one i) (at xs i)
  where
    plus_one : (k : ℕ) → k + 1 ≡ suc k
    plus_one k = omega arith

    at : (xs : List ℕ) (i : ℕ) → take (suc i) xs ≡ take i xs ++ option_to_list (slice_get xs i)
    at [] zero = refl
    at [] (suc i) = refl
    at (x ∷ xs) zero = refl
    at (x ∷ xs) (suc i) = ap (λ l. x ∷ l) (at xs i)

pub take_min : (most : ℕ) (xs : List ℕ) → take (min most (length xs)) xs ≡ take most xs
take_min zero xs = ap (λ k. take k xs) (least (length xs))
  where
    least : (k : ℕ) → min 0 k ≡ 0
    least k = omega arith
take_min (suc k) [] = ap (λ (j : ℕ). take j []) (least k)
  where
    least : (k : ℕ) → min (suc k) 0 ≡ 0
    least k = omega arith
take_min (suc k) (x ∷ xs) = ap (λ j. take j (x ∷ xs)) (both k (length xs)) ∙ ap (λ l. x ∷ l) (take_min k xs)
  where
    both : (a b : ℕ) → min (suc a) (suc b) ≡ suc (min a b)
    both a b = omega arith

pub take_append : (most : ℕ) (xs ys : List ℕ) → take most xs ++ take (most - length (take most xs)) ys ≡ take most (xs ++ ys)
take_append zero xs ys = ap (λ k. take k ys) (none)
  where
    none : 0 - 0 ≡ 0
    none = omega arith
take_append (suc k) [] ys = ap (λ j. take j ys) (all k)
  where
    all : (k : ℕ) → suc k - 0 ≡ suc k
    all k = omega arith
take_append (suc k) (x ∷ xs) ys =
    ap (λ j. x ∷ (take k xs ++ take j ys)) (less k (length (take k xs))) ∙ ap (λ l. x ∷ l) (take_append k xs ys)
  where
    less : (a b : ℕ) → suc a - suc b ≡ a - b
    less a b = omega arith

-- what a change of one node changes
pub record Changed (f : Node → Node) (n : ℕ) (xs ys : List Node) (y : Node) : Type 0 where
  pub nodes : ys ≡ at_number n f xs
  pub queue : (p : Node → Bool) (q : List ℕ) → q ≡ numbers_where p xs → put y.number (p y) q ≡ numbers_where p ys
  pub ordered : IsAscending (map number_of ys)
  pub long : length ys ≡ length xs

pub changes : (f : Node → Node) → ((x : Node) → (f x).number ≡ x.number) → (n : ℕ) (xs ys : List Node) (i : ℕ) (y : Node) → IsAscending (map number_of xs) → i < length xs → ((d : Node) → (get_or xs i d).number ≡ n)
    → ((d : Node) → ys ≡ set xs i (f (get_or xs i d))) → y ≡ get_or ys i y → Changed f n xs ys y
changes f same n xs ys i y up l found sets is =
    let x = get_or xs i y in
    let nodes : ys ≡ at_number n f xs = sets y ∙ set_changed number_of f n xs i y up l (found y) in
    let y_is : y ≡ f x = is ∙ ap (λ (zs : List Node). get_or zs i y) (sets y) ∙ get_or-set_same xs i (f x) y l in
    let number : y.number ≡ n = ap number_of y_is ∙ same x ∙ found y in
    record {
      nodes = nodes;
      queue = λ p q q_is.
          ap (λ (m : ℕ). put m (p y) q) number ∙ ap (λ (z : Node). put n (p z) q) y_is ∙ ap (put n (p (f x))) q_is
          ∙ where_changed number_of p f same n xs i y up l (found y) ∙ ap (numbers_where p) (sym nodes);
      ordered = subst (λ (zs : List Node). IsAscending (map number_of zs)) (sym nodes) (ascending_changed number_of f same n xs up);
      long = ap length (sets y) ∙ length-set xs i (f x);
    }
