-- Numbers in order, and lists filtered by tests.
use Rattle.std.proofs.Common.{◌≡◌, ◌⊎◌, ℕ, zero, suc, ◌+◌, ◌<◌, ◌≤◌, Bool, true, false, cond, ◌&&◌, ◌||◌, not, eqb, ltb, List, [], ◌∷◌, ◌++◌, length, get_or, take, drop, map, refl, sym, ap, ◌∙◌, subst, inl, inr, append_assoc, arith}
use Rattle.std.specs.List.{filter, list_any, list_all, AllWithin, insert, remove}
use Rattle.std.proofs.lemmas.Bool.{ltb-true, ltb-false, lt-ltb, le-ltb, eq-eqb, ne_eqb, eqb-true, cases_order, cases_Bool, and_parts, and_from, not_from_true, not_from_false, cond-true, cond-false, false≢true}
use Rattle.std.proofs.lemmas.List.{take-append-drop}
use Rattle.css_graph.specs.Tasks.{is_among}
use Rattle.css_graph.specs.Nodes.{IsAscending, below, above, put, begins_with}

module _ {X : Type 0} where
  -- a filter keeps all that pass, and none that fail
  pub filter_all : (p : X → Bool) (xs : List X) → list_all p xs ≡ true → filter p xs ≡ xs
  filter_all p [] h = refl
  filter_all p (x ∷ xs) h =
      let parts = and_parts (p x) (list_all p xs) h in
      cond-true (p x) (x ∷ filter p xs) (filter p xs) parts.0 ∙ ap (λ l. x ∷ l) (filter_all p xs parts.1)

  pub filter_none : (p : X → Bool) (xs : List X) → list_all (λ x. not (p x)) xs ≡ true → filter p xs ≡ []
  filter_none p [] h = refl
  filter_none p (x ∷ xs) h =
      let parts = and_parts (not (p x)) (list_all (λ x. not (p x)) xs) h in
      cond-false (p x) (x ∷ filter p xs) (filter p xs) (fails (p x) parts.0) ∙ filter_none p xs parts.1
    where
      fails : (b : Bool) → not b ≡ true → b ≡ false
      fails true h = sym h
      fails false h = refl

  pub list_all_weaker : (p q : X → Bool) (w : (x : X) → p x ≡ true → q x ≡ true) (xs : List X) → list_all p xs ≡ true → list_all q xs ≡ true
  list_all_weaker p q w [] h = refl
  list_all_weaker p q w (x ∷ xs) h =
      let parts = and_parts (p x) (list_all p xs) h in
      and_from (q x) (list_all q xs) (w x parts.0) (list_all_weaker p q w xs parts.1)

  pub list_all_filter : (p q : X → Bool) (xs : List X) → list_all p xs ≡ true → list_all p (filter q xs) ≡ true
  list_all_filter p q [] h = refl
  list_all_filter p q (x ∷ xs) h =
      let parts = and_parts (p x) (list_all p xs) h in
      elim (cases_Bool (q x)) [
        | inl e ↦ rw e (and_from (p x) (list_all p (filter q xs)) parts.0 (list_all_filter p q xs parts.1))
        | inr e ↦ rw e (list_all_filter p q xs parts.1)
      ]

  pub list_all_append : (p : X → Bool) (xs ys : List X) → list_all p xs ≡ true → list_all p ys ≡ true → list_all p (xs ++ ys) ≡ true
  list_all_append p [] ys h k = k
  list_all_append p (x ∷ xs) ys h k =
      let parts = and_parts (p x) (list_all p xs) h in
      and_from (p x) (list_all p (xs ++ ys)) parts.0 (list_all_append p xs ys parts.1 k)

  -- the places below one pass, and those from it on fail
  later : (P : X → Type 0) (x : X) (xs : List X) (low high : ℕ) → AllWithin P (x ∷ xs) (suc low) (suc high) → AllWithin P xs low high
  later P x xs low high h k d l m = h (suc k) d (omega arith) (omega arith)

  all_from_within : (p : X → Bool) (xs : List X) → AllWithin (λ x. p x ≡ true) xs 0 (length xs) → list_all p xs ≡ true
  all_from_within p [] h = refl
  all_from_within p (x ∷ xs) h =
      and_from (p x) (list_all p xs) (h 0 x (omega arith) (omega arith)) (all_from_within p xs (λ k d l m. h (suc k) d (omega arith) (omega arith)))

  pub parted : (p : X → Bool) (xs : List X) (i : ℕ) → i ≤ length xs → AllWithin (λ x. p x ≡ true) xs 0 i → AllWithin (λ x. p x ≡ false) xs i (length xs)
      → (take i xs ≡ filter p xs) × (drop i xs ≡ filter (λ x. not (p x)) xs)
  parted p xs zero within before after =
      let fails : list_all (λ x. not (p x)) xs ≡ true = all_from_within (λ x. not (p x)) xs (λ k d l m. ap not (after k d l m)) in
      (sym (filter_none p xs fails), sym (filter_all (λ x. not (p x)) xs fails))
  parted p [] (suc i) within before after = absurd (omega arith)
  parted p (x ∷ xs) (suc i) within before after =
      let e : p x ≡ true = before 0 x (omega arith) (omega arith) in
      let rest = parted p xs i (omega arith) (λ k d l m. before (suc k) d (omega arith) (omega arith)) (later (λ y. p y ≡ false) x xs i (length xs) after) in
      (rw e (ap (λ l. x ∷ l) rest.0), rw e rest.1)

-- ascending lists
pub ascending_filter : (q : ℕ → Bool) (ns : List ℕ) → IsAscending ns → IsAscending (filter q ns)
ascending_filter q [] h = tt
ascending_filter q (n ∷ ns) h = elim (cases_Bool (q n)) [
  | inl e ↦ rw e (list_all_filter (ltb n) q ns h.0, ascending_filter q ns h.1)
  | inr e ↦ rw e (ascending_filter q ns h.1)
]

pub ascending_append : (ms ns : List ℕ) → IsAscending ms → IsAscending ns → list_all (λ m. list_all (ltb m) ns) ms ≡ true → IsAscending (ms ++ ns)
ascending_append [] ns h k between = k
ascending_append (m ∷ ms) ns h k between =
    let parts = and_parts (list_all (ltb m) ns) (list_all (λ m. list_all (ltb m) ns) ms) between in
    (list_all_append (ltb m) ms ns h.0 parts.0, ascending_append ms ns h.1 k parts.1)

-- all stand above one that stands above this one
pub above_all : (m n : ℕ) (ns : List ℕ) → m ≤ n → list_all (ltb n) ns ≡ true → list_all (ltb m) ns ≡ true
above_all m n ns le h = list_all_weaker (ltb n) (ltb m) (λ x e. lt-ltb m x (omega (arith, ltb-true n x e))) ns h

none_below : (n : ℕ) (ns : List ℕ) → list_all (ltb n) ns ≡ true → below n ns ≡ []
none_below n ns h = filter_none (λ m. ltb m n) ns (list_all_weaker (ltb n) (λ m. not (ltb m n)) (λ x e. ap not (le-ltb x n (omega (arith, ltb-true n x e)))) ns h)

all_above : (n : ℕ) (ns : List ℕ) → list_all (ltb n) ns ≡ true → above n ns ≡ ns
all_above n ns h = filter_all (ltb n) ns h

pub none_among : (n : ℕ) (ns : List ℕ) → list_all (ltb n) ns ≡ true → is_among ns n ≡ false
none_among n [] h = refl
none_among n (x ∷ ns) h =
    let parts = and_parts (ltb n x) (list_all (ltb n) ns) h in
    let lt : n < x = ltb-true n x parts.0 in
    let e : eqb x n ≡ false = ne_eqb x n (λ same. omega arith) in
    rw e (none_among n ns parts.1)

-- a list in order is itself with or without each number
pub put_itself : (n : ℕ) (ns : List ℕ) → IsAscending ns → put n (is_among ns n) ns ≡ ns
put_itself n [] h = refl
put_itself n (x ∷ ns) h = elim (cases_order x n) [
  | inl same ↦
      let over : list_all (ltb n) ns ≡ true = above_all n x ns (omega arith) h.0 in
      let e1 : eqb x n ≡ true = eq-eqb x n same in
      let e2 : ltb x n ≡ false = le-ltb x n (omega arith) in
      let e3 : ltb n x ≡ false = le-ltb n x (omega arith) in
      rw (e1, e2, e3, none_below n ns over, all_above n ns over, same) refl
  | inr other ↦ elim other [
    | inl lt ↦
        let e1 : eqb x n ≡ false = ne_eqb x n (λ same. omega arith) in
        let e2 : ltb x n ≡ true = lt-ltb x n lt in
        let e3 : ltb n x ≡ false = le-ltb n x (omega arith) in
        rw (e1, e2, e3) (ap (λ l. x ∷ l) (put_itself n ns h.1))
    | inr gt ↦
        let over : list_all (ltb n) ns ≡ true = above_all n x ns (omega arith) h.0 in
        let e1 : eqb x n ≡ false = ne_eqb x n (λ same. omega arith) in
        let e2 : ltb x n ≡ false = le-ltb x n (omega arith) in
        let e3 : ltb n x ≡ true = lt-ltb n x gt in
        rw (e1, e2, e3, none_below n ns over, all_above n ns over, none_among n ns over) refl
  ]
]

-- what doesn't stand below a number is that number, if it is there, and what stands above it
pub from_number : (n : ℕ) (ns : List ℕ) → IsAscending ns
    → let rest = filter (λ m. not (ltb m n)) ns in (begins_with rest n ≡ true → rest ≡ n ∷ above n ns) × (begins_with rest n ≡ false → rest ≡ above n ns)
from_number n [] h = (λ e. absurd (false≢true e), λ e. refl)
from_number n (x ∷ ns) h = elim (cases_order x n) [
  | inl same ↦
      let over : list_all (ltb n) ns ≡ true = above_all n x ns (omega arith) h.0 in
      let e1 : eqb x n ≡ true = eq-eqb x n same in
      let e2 : ltb x n ≡ false = le-ltb x n (omega arith) in
      let e3 : ltb n x ≡ false = le-ltb n x (omega arith) in
      let whole : filter (λ m. not (ltb m n)) ns ≡ ns = filter_all (λ m. not (ltb m n)) ns (list_all_weaker (ltb n) (λ m. not (ltb m n)) (λ y e. ap not (le-ltb y n (omega (arith, ltb-true n y e)))) ns over) in
      rw (e2, e1, e3, whole, all_above n ns over) (λ e. ap (λ m. m ∷ ns) same, λ e. absurd (false≢true (sym e)))
  | inr other ↦ elim other [
    | inl lt ↦
        let e2 : ltb x n ≡ true = lt-ltb x n lt in
        let e3 : ltb n x ≡ false = le-ltb n x (omega arith) in
        rw (e2, e3) (from_number n ns h.1)
    | inr gt ↦
        let over : list_all (ltb n) ns ≡ true = above_all n x ns (omega arith) h.0 in
        let e1 : eqb x n ≡ false = ne_eqb x n (λ same. omega arith) in
        let e2 : ltb x n ≡ false = le-ltb x n (omega arith) in
        let e3 : ltb n x ≡ true = lt-ltb n x gt in
        let whole : filter (λ m. not (ltb m n)) ns ≡ ns = filter_all (λ m. not (ltb m n)) ns (list_all_weaker (ltb n) (λ m. not (ltb m n)) (λ y e. ap not (le-ltb y n (omega (arith, ltb-true n y e)))) ns over) in
        rw (e2, e1, e3, whole, all_above n ns over) (λ e. absurd (false≢true e), λ e. refl)
  ]
]

-- the numbers below one, it and those above it stand in order
pub ascending_put : (n : ℕ) (w : Bool) (ns : List ℕ) → IsAscending ns → IsAscending (put n w ns)
ascending_put n w ns h =
    let low : list_all (λ m. ltb m n) (below n ns) ≡ true = passes (λ m. ltb m n) ns in
    let high : list_all (ltb n) (above n ns) ≡ true = passes (ltb n) ns in
    let rest : IsAscending (cond w (n ∷ []) [] ++ above n ns) = middle w (ascending_filter (ltb n) ns h) high in
    ascending_append (below n ns) (cond w (n ∷ []) [] ++ above n ns) (ascending_filter (λ m. ltb m n) ns h) rest
    (list_all_weaker (λ m. ltb m n) (λ m. list_all (ltb m) (cond w (n ∷ []) [] ++ above n ns)) (λ m e. over m w e (above_all m n (above n ns) (lt_le m e) high)) (below n ns) low)
  where
    passes : (p : ℕ → Bool) (ms : List ℕ) → list_all p (filter p ms) ≡ true
    passes p [] = refl
    passes p (m ∷ ms) = elim (cases_Bool (p m)) [
      | inl e ↦ rw e (and_from (p m) (list_all p (filter p ms)) e (passes p ms))
      | inr e ↦ rw e (passes p ms)
    ]

    lt_le : (m : ℕ) → ltb m n ≡ true → m ≤ n
    lt_le m e = omega (arith, ltb-true m n e)

    middle : (w : Bool) → IsAscending (above n ns) → list_all (ltb n) (above n ns) ≡ true → IsAscending (cond w (n ∷ []) [] ++ above n ns)
    middle true up high = (high, up)
    middle false up high = up

    over : (m : ℕ) (w : Bool) → ltb m n ≡ true → list_all (ltb m) (above n ns) ≡ true → list_all (ltb m) (cond w (n ∷ []) [] ++ above n ns) ≡ true
    over m true e up = and_from (ltb m n) (list_all (ltb m) (above n ns)) e up
    over m false e up = up

-- a test that holds of what stands below a number divides a list in order
pub divided : (n : ℕ) (ns : List ℕ) → IsAscending ns → (i j : ℕ) (d : ℕ) → i ≤ j → j < length ns → ltb (get_or ns j d) n ≡ true → ltb (get_or ns i d) n ≡ true
divided n [] h i j d le lt e = absurd (omega arith)
divided n (x ∷ ns) h zero zero d le lt e = e
divided n (x ∷ ns) h zero (suc j) d le lt e =
    let up : x < get_or ns j d = ltb-true x (get_or ns j d) (each (ltb x) ns h.0 j (omega arith)) in
    lt-ltb x n (omega (arith, ltb-true (get_or ns j d) n e))
  where
    each : (p : ℕ → Bool) (ms : List ℕ) → list_all p ms ≡ true → (k : ℕ) → k < length ms → p (get_or ms k d) ≡ true
    each p [] h k l = absurd (omega arith)
    each p (m ∷ ms) h zero l = (and_parts (p m) (list_all p ms) h).0
    each p (m ∷ ms) h (suc k) l = each p ms (and_parts (p m) (list_all p ms) h).1 k (omega arith)
divided n (x ∷ ns) h (suc i) zero d le lt e = absurd (omega arith)
divided n (x ∷ ns) h (suc i) (suc j) d le lt e = divided n ns h.1 i j d (omega arith) (omega arith) e

-- what stands before a place below a number, and what comes from there on
module _ (n : ℕ) (ns : List ℕ) (up : IsAscending ns) (place : ℕ) (before : take place ns ≡ below n ns) (after : drop place ns ≡ filter (λ m. not (ltb m n)) ns) where
  whole : ns ≡ below n ns ++ drop place ns
  whole = sym (take-append-drop place ns) ∙ ap (λ l. l ++ drop place ns) before

  pub put_same : (w : Bool) → begins_with (drop place ns) n ≡ w → put n w ns ≡ ns
  put_same true e =
      let rest : drop place ns ≡ n ∷ above n ns = after ∙ (from_number n ns up).0 (ap (λ l. begins_with l n) (sym after) ∙ e) in
      sym (whole ∙ ap (λ l. below n ns ++ l) rest)
  put_same false e =
      let rest : drop place ns ≡ above n ns = after ∙ (from_number n ns up).1 (ap (λ l. begins_with l n) (sym after) ∙ e) in
      sym (whole ∙ ap (λ l. below n ns ++ l) rest)

  pub put_inserts : begins_with (drop place ns) n ≡ false → insert ns place n ≡ put n true ns
  put_inserts e =
      let rest : drop place ns ≡ above n ns = after ∙ (from_number n ns up).1 (ap (λ l. begins_with l n) (sym after) ∙ e) in
      ap (λ l. l ++ n ∷ drop place ns) before ∙ ap (λ l. below n ns ++ n ∷ l) rest

  pub put_removes : begins_with (drop place ns) n ≡ true → remove ns place ≡ put n false ns
  put_removes e =
      let rest : drop place ns ≡ n ∷ above n ns = after ∙ (from_number n ns up).0 (ap (λ l. begins_with l n) (sym after) ∙ e) in
      ap (λ l. l ++ drop (suc place) ns) before ∙ ap (λ l. below n ns ++ l) (next place ns ∙ ap (drop 1) rest)
    where
      next : (k : ℕ) (l : List ℕ) → drop (suc k) l ≡ drop 1 (drop k l)
      next zero [] = refl
      next zero (x ∷ l) = refl
      next (suc k) [] = refl
      next (suc k) (x ∷ l) = next k l

-- a number that begins what comes from a place stands at that place
pub begins_at : (place : ℕ) (ns : List ℕ) (n : ℕ) → begins_with (drop place ns) n ≡ true → place < length ns
begins_at zero [] n e = absurd (false≢true e)
begins_at zero (m ∷ ns) n e = omega arith
begins_at (suc k) [] n e = absurd (false≢true e)
begins_at (suc k) (m ∷ ns) n e =
    let rest = begins_at k ns n e in
    omega (arith, rest)
