-- Lists in order of a number that each element has, its key.
use Rattle.std.proofs.Common.{◌≡◌, ◌⊎◌, ℕ, zero, suc, ◌+◌, ◌<◌, ◌≤◌, Bool, true, false, cond, ◌&&◌, ◌||◌, not, eqb, ltb, List, [], ◌∷◌, ◌++◌, length, get_or, set, take, drop, map, Option, Some, None, IfSome, IfNone, Result, Ok, Err, Ordering, refl, sym, ap, ◌∙◌, subst, inl, inr, append-nil, arith}
use Rattle.std.specs.List.{filter, list_any, list_all, HoldsAt}
use Rattle.std.specs.List.Sorted.{IsSearchInRange, IsBinarySearchResult, IsNonDecreasingBy}
use Rattle.std.specs.Ordering.{nat_cmp, ordering_index}
use Rattle.std.specs.Result.{result_ok}
use Rattle.std.specs.declared.cmp.Ordering.TheVariants.{Less, Equal, Greater}
use Rattle.std.proofs.lemmas.Bool.{ltb-true, ltb-false, lt-ltb, le-ltb, eq-eqb, ne_eqb, eqb-true, eqb-false, cases_order, cases_Bool, cases_lt, and_parts, and_from, cond-true, cond-false, false≢true, or_parts, or_from}
use Rattle.std.proofs.lemmas.Bool.Decides.{nat_tests}
use Rattle.std.proofs.lemmas.List.Elements.{filter-append}
use Rattle.css_graph.specs.Tasks.{is_among}
use Rattle.css_graph.specs.Nodes.{IsAscending, below, above, put}
use Rattle.css_graph.proofs.Numbers.{filter_all, filter_none, list_all_weaker, list_all_append, ascending_append, put_itself}

module _ {X : Type 0} (key : X → ℕ) where
  -- the keys of the elements that pass
  abbrev pub keys_where : (X → Bool) → List X → List ℕ
  keys_where test xs = map key (filter test xs)

  -- the list, where what has one key has changed
  abbrev pub changed_at : ℕ → (X → X) → X → X
  changed_at c f x = cond (eqb (key x) c) (f x) x

  all_keys_filter : (q : ℕ → Bool) (p : X → Bool) (xs : List X) → list_all q (map key xs) ≡ true → list_all q (keys_where p xs) ≡ true
  all_keys_filter q p [] h = refl
  all_keys_filter q p (x ∷ xs) h =
      let parts = and_parts (q (key x)) (list_all q (map key xs)) h in
      elim (cases_Bool (p x)) [
        | inl e ↦ rw e (and_from (q (key x)) (list_all q (keys_where p xs)) parts.0 (all_keys_filter q p xs parts.1))
        | inr e ↦ rw e (all_keys_filter q p xs parts.1)
      ]

  pub ascending_where : (p : X → Bool) (xs : List X) → IsAscending (map key xs) → IsAscending (keys_where p xs)
  ascending_where p [] h = tt
  ascending_where p (x ∷ xs) h = elim (cases_Bool (p x)) [
    | inl e ↦ rw e (all_keys_filter (ltb (key x)) p xs h.0, ascending_where p xs h.1)
    | inr e ↦ rw e (ascending_where p xs h.1)
  ]

  pub among_keys : (h : X → Bool) (c : ℕ) (xs : List X) → is_among (keys_where h xs) c ≡ list_any (λ x. eqb (key x) c && h x) xs
  among_keys h c [] = refl
  among_keys h c (x ∷ xs) = elim (cases_Bool (h x)) [
    | inl e ↦ rw e (elim (cases_Bool (eqb (key x) c)) [
      | inl t ↦ rw t refl
      | inr f ↦ rw f (among_keys h c xs)
    ])
    | inr e ↦ rw e (elim (cases_Bool (eqb (key x) c)) [
      | inl t ↦ rw t (among_keys h c xs)
      | inr f ↦ rw f (among_keys h c xs)
    ])
  ]

  -- tests that agree at all other keys select the same keys, where this one is left out
  module _ (c : ℕ) (g h : X → Bool) (agree : (x : X) → eqb (key x) c ≡ false → g x ≡ h x) where
    kept_cons : (q : ℕ → Bool) (n : ℕ) (ms ns : List ℕ) → filter q ms ≡ filter q ns → filter q (n ∷ ms) ≡ filter q (n ∷ ns)
    kept_cons q n ms ns e = ap (λ l. cond (q n) (n ∷ l) l) e

    left_out : (q : ℕ → Bool) (p : X → Bool) (x : X) (xs : List X) → q (key x) ≡ false → filter q (keys_where p (x ∷ xs)) ≡ filter q (keys_where p xs)
    left_out q p x xs e = elim (cases_Bool (p x)) [
      | inl t ↦ rw t (cond-false (q (key x)) (key x ∷ filter q (keys_where p xs)) (filter q (keys_where p xs)) e)
      | inr f ↦ rw f refl
    ]

    same_but_one : (q : ℕ → Bool) → q c ≡ false → (xs : List X) → filter q (keys_where g xs) ≡ filter q (keys_where h xs)
    same_but_one q out [] = refl
    same_but_one q out (x ∷ xs) = elim (cases_Bool (eqb (key x) c)) [
      | inl same ↦
          let e : q (key x) ≡ false = ap q (eqb-true (key x) c same) ∙ out in
          left_out q g x xs e ∙ same_but_one q out xs ∙ sym (left_out q h x xs e)
      | inr other ↦
          let e : g x ≡ h x = agree x other in
          elim (cases_Bool (h x)) [
            | inl t ↦
                let t' : g x ≡ true = e ∙ t in
                rw (t', t) (kept_cons q (key x) (keys_where g xs) (keys_where h xs) (same_but_one q out xs))
            | inr f ↦
                let f' : g x ≡ false = e ∙ f in
                rw (f', f) (same_but_one q out xs)
          ]
    ]

    pub put_changed : (xs : List X) → IsAscending (map key xs) → (w : Bool) → w ≡ list_any (λ x. eqb (key x) c && h x) xs → put c w (keys_where g xs) ≡ keys_where h xs
    put_changed xs up w w_is =
        let low : below c (keys_where g xs) ≡ below c (keys_where h xs) = same_but_one (λ m. ltb m c) (le-ltb c c (omega arith)) xs in
        let high : above c (keys_where g xs) ≡ above c (keys_where h xs) = same_but_one (ltb c) (le-ltb c c (omega arith)) xs in
        let e : w ≡ is_among (keys_where h xs) c = w_is ∙ sym (among_keys h c xs) in
        ap (λ l. l ++ (cond w (c ∷ []) [] ++ above c (keys_where g xs))) low
        ∙ ap (λ l. below c (keys_where h xs) ++ (cond w (c ∷ []) [] ++ l)) high
        ∙ ap (λ b. put c b (keys_where h xs)) e
        ∙ put_itself c (keys_where h xs) (ascending_where h xs up)

  pub keys_kept : (f : X → X) (same : (x : X) → key (f x) ≡ key x) (xs : List X) → map key (map f xs) ≡ map key xs
  keys_kept f same [] = refl
  keys_kept f same (x ∷ xs) = ap (λ n. n ∷ map key (map f xs)) (same x) ∙ ap (λ l. key x ∷ l) (keys_kept f same xs)

  pub keys_mapped : (f : X → X) (same : (x : X) → key (f x) ≡ key x) (p : X → Bool) (xs : List X) → keys_where p (map f xs) ≡ keys_where (λ x. p (f x)) xs
  keys_mapped f same p [] = refl
  keys_mapped f same p (x ∷ xs) = elim (cases_Bool (p (f x))) [
    | inl e ↦ rw e (ap (λ n. n ∷ keys_where p (map f xs)) (same x) ∙ ap (λ l. key x ∷ l) (keys_mapped f same p xs))
    | inr e ↦ rw e (keys_mapped f same p xs)
  ]

  pub any_mapped : (f : X → X) (p : X → Bool) (xs : List X) → list_any p (map f xs) ≡ list_any (λ x. p (f x)) xs
  any_mapped f p [] = refl
  any_mapped f p (x ∷ xs) = ap (λ b. p (f x) || b) (any_mapped f p xs)

  -- no key here, as all are above
  pub none_above : (h : X → Bool) (c : ℕ) (xs : List X) → list_all (ltb c) (map key xs) ≡ true → list_any (λ x. eqb (key x) c && h x) xs ≡ false
  none_above h c [] up = refl
  none_above h c (x ∷ xs) up =
      let parts = and_parts (ltb c (key x)) (list_all (ltb c) (map key xs)) up in
      let e : eqb (key x) c ≡ false = ne_eqb (key x) c (λ same. omega (arith, ltb-true c (key x) parts.0)) in
      rw e (none_above h c xs parts.1)

  same_above : (f : X → X) (c : ℕ) (xs : List X) → list_all (ltb c) (map key xs) ≡ true → map (changed_at c f) xs ≡ xs
  same_above f c [] up = refl
  same_above f c (x ∷ xs) up =
      let parts = and_parts (ltb c (key x)) (list_all (ltb c) (map key xs)) up in
      let e : eqb (key x) c ≡ false = ne_eqb (key x) c (λ same. omega (arith, ltb-true c (key x) parts.0)) in
      rw e (ap (λ l. x ∷ l) (same_above f c xs parts.1))

  key_above : (n : ℕ) (xs : List X) (i : ℕ) (d : X) → list_all (ltb n) (map key xs) ≡ true → i < length xs → n < key (get_or xs i d)
  key_above n [] i d up l = absurd (omega arith)
  key_above n (x ∷ xs) zero d up l = ltb-true n (key x) (and_parts (ltb n (key x)) (list_all (ltb n) (map key xs)) up).0
  key_above n (x ∷ xs) (suc i) d up l = key_above n xs i d (and_parts (ltb n (key x)) (list_all (ltb n) (map key xs)) up).1 (omega arith)

  -- what has the key is the one element there
  pub any_at : (h : X → Bool) (c : ℕ) (xs : List X) (i : ℕ) (d : X) → IsAscending (map key xs) → i < length xs → key (get_or xs i d) ≡ c
      → list_any (λ x. eqb (key x) c && h x) xs ≡ h (get_or xs i d)
  any_at h c [] i d up l at = absurd (omega arith)
  any_at h c (x ∷ xs) zero d up l at =
      let e : eqb (key x) c ≡ true = eq-eqb (key x) c at in
      let rest : list_any (λ x. eqb (key x) c && h x) xs ≡ false = none_above h c xs (subst (λ n. list_all (ltb n) (map key xs) ≡ true) at up.0) in
      rw (e, rest) (or_none (h x))
    where
      or_none : (b : Bool) → (b || false) ≡ b
      or_none true = refl
      or_none false = refl
  any_at h c (x ∷ xs) (suc i) d up l at =
      let lt : key x < c = subst (λ n. key x < n) at (key_above (key x) xs i d up.0 (omega arith)) in
      let e : eqb (key x) c ≡ false = ne_eqb (key x) c (λ same. omega arith) in
      rw e (any_at h c xs i d up.1 (omega arith) at)

  pub set_changed : (f : X → X) (c : ℕ) (xs : List X) (i : ℕ) (d : X) → IsAscending (map key xs) → i < length xs → key (get_or xs i d) ≡ c
      → set xs i (f (get_or xs i d)) ≡ map (changed_at c f) xs
  set_changed f c [] i d up l at = absurd (omega arith)
  set_changed f c (x ∷ xs) zero d up l at =
      let e : eqb (key x) c ≡ true = eq-eqb (key x) c at in
      rw e (ap (λ l. f x ∷ l) (sym (same_above f c xs (subst (λ n. list_all (ltb n) (map key xs) ≡ true) at up.0))))
  set_changed f c (x ∷ xs) (suc i) d up l at =
      let lt : key x < c = subst (λ n. key x < n) at (key_above (key x) xs i d up.0 (omega arith)) in
      let e : eqb (key x) c ≡ false = ne_eqb (key x) c (λ same. omega arith) in
      rw e (ap (λ l. x ∷ l) (set_changed f c xs i d up.1 (omega arith) at))

  -- where no element has the key
  pub none_absent : (h : X → Bool) (c : ℕ) (xs : List X) → list_any (λ x. eqb (key x) c) xs ≡ false → list_any (λ x. eqb (key x) c && h x) xs ≡ false
  none_absent h c [] gone = refl
  none_absent h c (x ∷ xs) gone =
      let parts = or_parts (eqb (key x) c) (list_any (λ x. eqb (key x) c) xs) gone in
      rw parts.0 (none_absent h c xs parts.1)

  pub same_absent : (f : X → X) (c : ℕ) (xs : List X) → list_any (λ x. eqb (key x) c) xs ≡ false → map (changed_at c f) xs ≡ xs
  same_absent f c [] gone = refl
  same_absent f c (x ∷ xs) gone =
      let parts = or_parts (eqb (key x) c) (list_any (λ x. eqb (key x) c) xs) gone in
      rw parts.0 (ap (λ l. x ∷ l) (same_absent f c xs parts.1))

  same_key : (f : X → X) (same : (x : X) → key (f x) ≡ key x) (c : ℕ) (x : X) → key (changed_at c f x) ≡ key x
  same_key f same c x = elim (cases_Bool (eqb (key x) c)) [
    | inl t ↦ rw t (same x)
    | inr e ↦ rw e refl
  ]

  pub ascending_changed : (f : X → X) (same : (x : X) → key (f x) ≡ key x) (c : ℕ) (xs : List X) → IsAscending (map key xs) → IsAscending (map key (map (changed_at c f) xs))
  ascending_changed f same c xs up = subst IsAscending (sym (keys_kept (changed_at c f) (same_key f same c) xs)) up

  -- one element changes, and its key goes in or out
  pub where_changed : (p : X → Bool) (f : X → X) (same : (x : X) → key (f x) ≡ key x) (c : ℕ) (xs : List X) (i : ℕ) (d : X)
      → IsAscending (map key xs) → i < length xs → key (get_or xs i d) ≡ c
      → put c (p (f (get_or xs i d))) (keys_where p xs) ≡ keys_where p (map (changed_at c f) xs)
  where_changed p f same c xs i d up l at =
      let h : X → Bool = λ x. p (changed_at c f x) in
      let here : eqb (key (get_or xs i d)) c ≡ true = eq-eqb (key (get_or xs i d)) c at in
      let w : p (f (get_or xs i d)) ≡ list_any (λ x. eqb (key x) c && h x) xs =
      ap p (sym (cond-true (eqb (key (get_or xs i d)) c) (f (get_or xs i d)) (get_or xs i d) here)) ∙ sym (any_at h c xs i d up l at) in
      put_changed c p h (λ x e. ap p (sym (cond-false (eqb (key x) c) (f x) x e))) xs up (p (f (get_or xs i d))) w
      ∙ sym (keys_mapped (changed_at c f) (same_key f same c) p xs)

  -- one element comes, above all others
  keys_below : (p : X → Bool) (n : ℕ) (xs : List X) → list_all (λ x. ltb (key x) n) xs ≡ true → list_all (λ m. ltb m n) (keys_where p xs) ≡ true
  keys_below p n [] h = refl
  keys_below p n (x ∷ xs) h =
      let parts = and_parts (ltb (key x) n) (list_all (λ x. ltb (key x) n) xs) h in
      elim (cases_Bool (p x)) [
        | inl e ↦ rw e (and_from (ltb (key x) n) (list_all (λ m. ltb m n) (keys_where p xs)) parts.0 (keys_below p n xs parts.1))
        | inr e ↦ rw e (keys_below p n xs parts.1)
      ]

  where_append : (p : X → Bool) (xs : List X) (v : X) → keys_where p (xs ++ v ∷ []) ≡ keys_where p xs ++ cond (p v) (key v ∷ []) []
  where_append p [] v = elim (cases_Bool (p v)) [
    | inl e ↦ rw e refl
    | inr e ↦ rw e refl
  ]
  where_append p (x ∷ xs) v = elim (cases_Bool (p x)) [
    | inl e ↦ rw e (ap (λ l. key x ∷ l) (where_append p xs v))
    | inr e ↦ rw e (where_append p xs v)
  ]

  pub where_pushed : (p : X → Bool) (xs : List X) (v : X) → list_all (λ x. ltb (key x) (key v)) xs ≡ true → put (key v) (p v) (keys_where p xs) ≡ keys_where p (xs ++ v ∷ [])
  where_pushed p xs v under =
      let all = keys_below p (key v) xs under in
      let low : below (key v) (keys_where p xs) ≡ keys_where p xs = filter_all (λ m. ltb m (key v)) (keys_where p xs) all in
      let high : above (key v) (keys_where p xs) ≡ [] = filter_none (ltb (key v)) (keys_where p xs) (list_all_weaker (λ m. ltb m (key v)) (λ m. not (ltb (key v) m)) (λ m e. ap not (le-ltb (key v) m (omega (arith, ltb-true m (key v) e)))) (keys_where p xs) all) in
      ap (λ l. l ++ (cond (p v) (key v ∷ []) [] ++ above (key v) (keys_where p xs))) low
      ∙ ap (λ l. keys_where p xs ++ (cond (p v) (key v ∷ []) [] ++ l)) high
      ∙ ap (λ l. keys_where p xs ++ l) (append-nil (cond (p v) (key v ∷ []) []))
      ∙ sym (where_append p xs v)

  pub ascending_pushed : (xs : List X) (v : X) → IsAscending (map key xs) → list_all (λ x. ltb (key x) (key v)) xs ≡ true → IsAscending (map key (xs ++ v ∷ []))
  ascending_pushed [] v up under = (refl, tt)
  ascending_pushed (x ∷ xs) v up under =
      let parts = and_parts (ltb (key x) (key v)) (list_all (λ x. ltb (key x) (key v)) xs) under in
      (more (ltb (key x)) xs v up.0 parts.0, ascending_pushed xs v up.1 parts.1)
    where
      more : (q : ℕ → Bool) (xs : List X) (v : X) → list_all q (map key xs) ≡ true → q (key v) ≡ true → list_all q (map key (xs ++ v ∷ [])) ≡ true
      more q [] v h k = and_from (q (key v)) true k refl
      more q (x ∷ xs) v h k =
          let parts = and_parts (q (key x)) (list_all q (map key xs)) h in
          and_from (q (key x)) (list_all q (map key (xs ++ v ∷ []))) parts.0 (more q xs v parts.1 k)

  -- only what stands below a number is kept
  pub where_below : (p : X → Bool) (n : ℕ) (xs : List X) → below n (keys_where p xs) ≡ keys_where (λ x. p x && ltb (key x) n) xs
  where_below p n [] = refl
  where_below p n (x ∷ xs) = elim (cases_Bool (p x)) [
    | inl e ↦ rw e (elim (cases_Bool (ltb (key x) n)) [
      | inl t ↦ rw t (ap (λ l. key x ∷ l) (where_below p n xs))
      | inr f ↦ rw f (where_below p n xs)
    ])
    | inr e ↦ rw e (where_below p n xs)
  ]

  -- a search for a key
  keys_rise : (xs : List X) → IsAscending (map key xs) → (i j : ℕ) (d : X) → i ≤ j → j < length xs → key (get_or xs i d) ≤ key (get_or xs j d)
  keys_rise [] up i j d le l = absurd (omega arith)
  keys_rise (x ∷ xs) up zero zero d le l = omega arith
  keys_rise (x ∷ xs) up zero (suc j) d le l =
      let lt = key_above (key x) xs j d up.0 (omega arith) in
      omega (arith, lt)
  keys_rise (x ∷ xs) up (suc i) zero d le l = absurd (omega arith)
  keys_rise (x ∷ xs) up (suc i) (suc j) d le l = keys_rise xs up.1 i j d (omega arith) (omega arith)

  ranks_rise : (a b n : ℕ) → a ≤ b → ordering_index (nat_cmp a n) ≤ ordering_index (nat_cmp b n)
  ranks_rise a b n le = grind (arith, nat_tests)

  equal_ranks : (a n : ℕ) → nat_cmp a n ≡ Equal → a ≡ n
  equal_ranks a n e = grind (arith, nat_tests)

  less_ranks : (a n : ℕ) → nat_cmp a n ≡ Less → eqb a n ≡ false
  less_ranks a n e = grind (arith, nat_tests)

  greater_ranks : (a n : ℕ) → nat_cmp a n ≡ Greater → eqb a n ≡ false
  greater_ranks a n e = grind (arith, nat_tests)

  none_from_places : (n : ℕ) (xs : List X) → ((k : ℕ) (d : X) → k < length xs → eqb (key (get_or xs k d)) n ≡ false) → list_any (λ x. eqb (key x) n) xs ≡ false
  none_from_places n [] h = refl
  none_from_places n (x ∷ xs) h = rw (h 0 x (omega arith)) (none_from_places n xs (λ k d l. h (suc k) d (omega arith)))

  -- what a search answers: a place of the key, or that there is none
  pub record Finds (xs : List X) (n : ℕ) (o : Option ℕ) : Type 0 where
    pub within : IfSome o (λ at. at < length xs)
    pub found : IfSome o (λ at. HoldsAt (λ x. key x ≡ n) xs at)
    pub absent : IfNone o (list_any (λ x. eqb (key x) n) xs ≡ false)

  pub finds : (xs : List X) (n : ℕ) → IsAscending (map key xs) → (r : Result ℕ ℕ) → IsSearchInRange r (length xs) → IsBinarySearchResult (λ x. nat_cmp (key x) n) xs r → Finds xs n (result_ok r)
  finds xs n up (Ok at) in_range equal = record { within = in_range; found = λ d. equal_ranks (key (get_or xs at d)) n (equal d); absent = tt }
  finds xs n up (Err at) in_range parts =
      let rise : IsNonDecreasingBy (λ x. ordering_index (nat_cmp (key x) n)) xs = λ i j d le l. ranks_rise (key (get_or xs i d)) (key (get_or xs j d)) n (keys_rise xs up i j d le l) in
      let split = parts rise in
      record {
        within = tt;
        found = tt;
        absent = none_from_places n xs (λ k d l. elim (cases_lt k at) [
          | inl lt ↦ less_ranks (key (get_or xs k d)) n (split.0 k d (omega arith) lt)
          | inr le ↦ greater_ranks (key (get_or xs k d)) n (split.1 k d le l)
        ]);
      }
