-- Depths of tasks, one after the other.
use Rattle.std.proofs.Common.{◌≡◌, ℕ, zero, suc, ◌+◌, ◌<◌, ◌≤◌, max, ◌⊎◌, inl, inr, List, [], ◌∷◌, ◌++◌, length, map, take, get_or, Contains, All, refl, sym, ap, ◌∙◌, subst, arith}
use Rattle.std.proofs.lemmas.Bool.{cases_lt}
use Rattle.std.proofs.lemmas.Grind.{get_or_default_zero, take_at_read}
use Rattle.std.proofs.lemmas.List.Elements.{Contains-get_or}
use Rattle.std.proofs.lemmas.List.{get_or_past, get_or_append_left, get_or-map, length-append, length-map, map-append}
use Rattle.std.proofs.Math.Seq.{get_or-append_seam}
use Rattle.css_report.specs.Depth.{IsChain, IsDepth, IsDepthAt, AreDepths, IsMost, depths_at}

-- ---- one more at the end of a list

cases_more : (k n : ℕ) → k < n + 1 → (k < n) ⊎ (k ≡ n)
cases_more k n h = elim (cases_lt k n) [
  | inl lt ↦ inl lt
  | inr ge ↦ inr (omega arith)
]

pub length_more : (xs : List ℕ) (x : ℕ) → length (xs ++ x ∷ []) ≡ length xs + 1
length_more xs x = length-append xs (x ∷ [])

at_old : (xs : List ℕ) (x k : ℕ) → k < length xs → get_or (xs ++ x ∷ []) k 0 ≡ get_or xs k 0
at_old xs x k w = get_or_append_left xs (x ∷ []) 0 k w

at_new : (xs : List ℕ) (x k : ℕ) → k ≡ length xs → get_or (xs ++ x ∷ []) k 0 ≡ x
at_new xs x k e = subst (λ (j : ℕ). get_or (xs ++ x ∷ []) j 0 ≡ x) (sym e) (get_or-append_seam xs x [] 0)

-- ---- the greatest

pub most_more : (xs : List ℕ) (x m : ℕ) → IsMost xs m → IsMost (xs ++ x ∷ []) (max m x)
most_more xs x m is = record { above = above; reached = reached (cases_lt m x) is.reached }
  where
    above : (k : ℕ) → k < length (xs ++ x ∷ []) → get_or (xs ++ x ∷ []) k 0 ≤ max m x
    above k w = elim (cases_more k (length xs) (omega (arith, length_more xs x))) [
      | inl lt ↦ omega (arith, at_old xs x k lt, is.above k lt)
      | inr e ↦ omega (arith, at_new xs x k e)
    ]

    reached : (m < x) ⊎ (x ≤ m) → (m ≡ 0) ⊎ ((k : ℕ) × (k < length xs) × (get_or xs k 0 ≡ m))
        → (max m x ≡ 0) ⊎ ((k : ℕ) × (k < length (xs ++ x ∷ [])) × (get_or (xs ++ x ∷ []) k 0 ≡ max m x))
    reached (inl lt) was = inr (length xs, omega (arith, length_more xs x), omega (arith, at_new xs x (length xs) refl))
    reached (inr le) (inl none) = inl (omega arith)
    reached (inr le) (inr at) = inr (at.0, omega (arith, length_more xs x, at.1), omega (arith, at_old xs x at.0 at.1, at.2))

-- with one place more
pub most_of_places : (depths places : List ℕ) (i m depth : ℕ) → i < length places → depth ≡ get_or depths (get_or places i 0) 0
    → IsMost (depths_at depths (take i places)) m → IsMost (depths_at depths (take (i + 1) places)) (max m depth)
most_of_places depths places i m depth w e is =
    let known : ℕ → ℕ = λ (p : ℕ). get_or depths p 0 in
    let more : map known (take (i + 1) places) ≡ map known (take i places) ++ known (get_or places i 0) ∷ [] =
    ap (map known) (take_at_read places i 0 w).1 ∙ map-append known (take i places) (get_or places i 0 ∷ []) in
    subst (λ (xs : List ℕ). IsMost xs (max m depth)) (sym more) (subst (λ (d : ℕ). IsMost (map known (take i places) ++ d ∷ []) (max m depth)) e (most_more (map known (take i places)) depth m is))

-- depths that are no more than there are
pub known_bounded : (depths : List ℕ) (p : ℕ) → All (λ d. d ≤ length depths) depths → get_or depths p 0 ≤ length depths
known_bounded depths p all = elim (cases_lt p (length depths)) [
  | inl lt ↦ all p 0 lt
  | inr past ↦ omega (arith, get_or_past depths p 0 past)
]

pub none_bounded : All (λ (d : ℕ). d ≤ 0) []
none_bounded k d w = absurd (omega arith)

pub bounded_more : (depths new : List ℕ) (m : ℕ) → new ≡ depths ++ (m + 1) ∷ [] → All (λ d. d ≤ length depths) depths → m ≤ length depths
    → All (λ d. d ≤ length new) new
bounded_more depths new m e all w =
    subst (λ (xs : List ℕ). All (λ (d : ℕ). d ≤ length xs) xs) (sym e) (λ k d h. elim (cases_more k (length depths) (omega (arith, length_more depths (m + 1)))) [
      | inl lt ↦ omega (arith, all k d lt, get_or_append_left depths ((m + 1) ∷ []) d k lt, length_more depths (m + 1))
      | inr e ↦ omega (arith, last k d e, length_more depths (m + 1))
    ])
  where
    last : (k d : ℕ) → k ≡ length depths → get_or (depths ++ (m + 1) ∷ []) k d ≡ m + 1
    last k d e = subst (λ (j : ℕ). get_or (depths ++ (m + 1) ∷ []) j d ≡ m + 1) (sym e) (get_or-append_seam depths (m + 1) [] d)

pub most_none : IsMost [] 0
most_none = record { above = λ k w. absurd (omega arith); reached = inl refl }

-- with one more in front
most_before : (x : ℕ) (xs : List ℕ) (m : ℕ) → IsMost xs m → IsMost (x ∷ xs) (max x m)
most_before x xs m is = record { above = above; reached = reached (cases_lt x m) is.reached }
  where
    above : (k : ℕ) → k < length (x ∷ xs) → get_or (x ∷ xs) k 0 ≤ max x m
    above zero w = omega arith
    above (suc k) w = omega (arith, is.above k (omega arith))

    reached : (x < m) ⊎ (m ≤ x) → (m ≡ 0) ⊎ ((k : ℕ) × (k < length xs) × (get_or xs k 0 ≡ m))
        → (max x m ≡ 0) ⊎ ((k : ℕ) × (k < length (x ∷ xs)) × (get_or (x ∷ xs) k 0 ≡ max x m))
    reached (inr le) was = inr (0, omega arith, omega arith)
    reached (inl lt) (inl none) = absurd (omega arith)
    reached (inl lt) (inr at) = inr (suc at.0, omega (arith, at.1), omega (arith, at.2))

pub most_exists : (xs : List ℕ) → (m : ℕ) × IsMost xs m
most_exists [] = (0, most_none)
most_exists (x ∷ xs) = let rest = most_exists xs in (max x rest.0, most_before x xs rest.0 rest.1)

-- ---- chains

-- the last task of a chain is there
pub chain_within : (needs : List (List ℕ)) (n : ℕ) (ps : List ℕ) → IsChain needs (n ∷ ps) → n < length needs
chain_within needs n [] chain = chain
chain_within needs n (p ∷ ps) chain = elim (cases_lt n (length needs)) [
  | inl lt ↦ lt
  | inr past ↦ let none = get_or_past needs n [] past in absurd (omega (arith, ap (λ (xs : List ℕ). length xs) none, chain.1.1))
]

-- a number that is among some, by its place
place_of : (xs : List ℕ) (p : ℕ) → Contains xs p → (k : ℕ) × (k < length xs) × (get_or xs k 0 ≡ p)
place_of xs p has = (has.0, has.1, sym (get_or_default_zero xs has.0 p has.1) ∙ has.2)

module _ (needs : List (List ℕ)) (depths : List ℕ) (are : AreDepths needs depths) where
  -- the next task, behind those whose depths are known
  abbrev n : ℕ
  n = length depths

  abbrev made : List ℕ
  made = get_or needs n []

  abbrev known : ℕ → ℕ
  known p = get_or depths p 0

  -- a chain through this producer
  through : (p m : ℕ) → n < length needs → Contains made p → known p ≡ m → (p < n) ⊎ (n ≤ p)
      → (ps : List ℕ) × IsChain needs (n ∷ ps) × (length (n ∷ ps) ≡ m + 1)
  through p m within has is (inl lt) =
      let at = are p lt in
      (p ∷ at.others, (lt, has, at.is_chain), omega (arith, at.reached, is))
  through p m within has is (inr past) = ([], within, omega (arith, get_or_past depths p 0 past, is))

  longest : (m : ℕ) → n < length needs → (m ≡ 0) ⊎ ((k : ℕ) × (k < length (depths_at depths made)) × (get_or (depths_at depths made) k 0 ≡ m))
      → (ps : List ℕ) × IsChain needs (n ∷ ps) × (length (n ∷ ps) ≡ m + 1)
  longest m within (inl none) = ([], within, omega arith)
  longest m within (inr at) =
      let w : at.0 < length made = omega (arith, length-map made known, at.1) in
      let p = get_or made at.0 0 in
      through p m within (Contains-get_or made at.0 0 w) (sym (get_or-map known made at.0 0 0 w) ∙ at.2) (cases_lt p n)

  no_longer : (m : ℕ) → IsMost (depths_at depths made) m → (ps : List ℕ) → IsChain needs (n ∷ ps) → length (n ∷ ps) ≤ m + 1
  no_longer m is [] chain = omega arith
  no_longer m is (p ∷ ps) chain =
      let at = place_of made p chain.1 in
      let w : at.0 < length (depths_at depths made) = omega (arith, length-map made known, at.1) in
      let e : get_or (depths_at depths made) at.0 0 ≡ known p = get_or-map known made at.0 0 0 at.1 ∙ ap known at.2 in
      omega (arith, (are p chain.0).most ps chain.2, is.above at.0 w, e)

  pub next_depth : (m : ℕ) → n < length needs → IsMost (depths_at depths made) m → IsDepthAt needs n (m + 1)
  next_depth m within is =
      let found = longest m within is.reached in
      record { others = found.0; is_chain = found.1; reached = found.2; most = no_longer m is }

  pub with_depth : (d : ℕ) → IsDepthAt needs n d → AreDepths needs (depths ++ d ∷ [])
  with_depth d at k w = elim (cases_more k n (omega (arith, length_more depths d))) [
    | inl lt ↦ subst (IsDepthAt needs k) (sym (at_old depths d k lt)) (are k lt)
    | inr e ↦ subst (IsDepthAt needs k) (sym (at_new depths d k e)) (subst (λ (j : ℕ). IsDepthAt needs j d) (sym e) at)
  ]

-- the depth of a task behind the others
pub depths_more : (needs : List (List ℕ)) (depths new places : List ℕ) (i m : ℕ) → new ≡ depths ++ (m + 1) ∷ [] → length depths ≡ i → i < length needs
    → get_or needs i [] ≡ places → IsMost (depths_at depths places) m → AreDepths needs depths → AreDepths needs new
depths_more needs depths new places i m e counted within made is are =
    let here : get_or needs (length depths) [] ≡ places = ap (λ (j : ℕ). get_or needs j []) counted ∙ made in
    let next = next_depth needs depths are m (omega arith) (subst (λ (ps : List ℕ). IsMost (depths_at depths ps) m) (sym here) is) in
    subst (AreDepths needs) (sym e) (with_depth needs depths are (m + 1) next)

-- ---- all tasks

pub none_are : (needs : List (List ℕ)) → AreDepths needs []
none_are needs k w = absurd (omega arith)

module _ (needs : List (List ℕ)) (depths : List ℕ) (are : AreDepths needs depths) (all : length depths ≡ length needs) where
  a_chain : (m : ℕ) → (m ≡ 0) ⊎ ((k : ℕ) × (k < length depths) × (get_or depths k 0 ≡ m)) → (ns : List ℕ) × IsChain needs ns × (length ns ≡ m)
  a_chain m (inl none) = ([], tt, sym none)
  a_chain m (inr at) = let it = are at.0 at.1 in (at.0 ∷ it.others, it.is_chain, it.reached ∙ at.2)

  none_longer : (m : ℕ) → IsMost depths m → (ns : List ℕ) → IsChain needs ns → length ns ≤ m
  none_longer m is [] chain = omega arith
  none_longer m is (n ∷ ps) chain =
      let w : n < length depths = omega (arith, chain_within needs n ps chain, all) in
      omega (arith, (are n w).most ps chain, is.above n w)

  pub whole_depth : (m : ℕ) → IsMost depths m → IsDepth needs m
  whole_depth m is =
      let found = a_chain m is.reached in
      record { chain = found.0; is_chain = found.1; reached = found.2; most = none_longer m is }

-- ---- there is one depth

pub one_depth : (needs : List (List ℕ)) (a b : ℕ) → IsDepth needs a → IsDepth needs b → a ≡ b
one_depth needs a b is other =
    omega (arith, is.most other.chain other.is_chain, other.most is.chain is.is_chain, is.reached, other.reached)

depths_to : (needs : List (List ℕ)) (n : ℕ) → n ≤ length needs → (depths : List ℕ) × (length depths ≡ n) × AreDepths needs depths
depths_to needs zero w = ([], refl, none_are needs)
depths_to needs (suc n) w =
    let before = depths_to needs n (omega arith) in
    let depths = before.0 in
    let most = most_exists (depths_at depths (get_or needs (length depths) [])) in
    let next = next_depth needs depths before.2 most.0 (omega (arith, before.1)) most.1 in
    (depths ++ (most.0 + 1) ∷ [], omega (arith, length_more depths (most.0 + 1), before.1), with_depth needs depths before.2 (most.0 + 1) next)

pub depth_exists : (needs : List (List ℕ)) → (d : ℕ) × IsDepth needs d
depth_exists needs =
    let all = depths_to needs (length needs) (omega arith) in
    let most = most_exists all.0 in
    (most.0, whole_depth needs all.0 all.2 all.1 most.0 most.1)
