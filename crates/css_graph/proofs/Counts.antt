-- How many producers are missing.
use Rattle.std.proofs.Common.{◌≡◌, ℕ, zero, suc, ◌+◌, ◌-◌, ◌<◌, ◌≤◌, Bool, true, false, cond, ◌&&◌, ◌||◌, not, eqb, ltb, List, [], ◌∷◌, ◌++◌, map, refl, sym, ap, ◌∙◌, subst, inl, inr, arith}
use Rattle.std.specs.List.{list_any, list_all, count_by}
use Rattle.std.proofs.lemmas.Bool.{ltb-true, lt-ltb, le-ltb, eq-eqb, ne_eqb, eqb-true, eqb-false, cases_Bool, and_parts, and_from, or_parts, true≢false, false≢true}
use Rattle.std.proofs.lemmas.List.Sums.{sum_by-cons}
use Rattle.css_graph.specs.Tasks.{is_among}
use Rattle.css_graph.specs.Bundle.{AreDifferent}
use Rattle.css_graph.specs.Nodes.{IsAscending, count_where}
use Rattle.css_graph.proofs.Numbers.{none_among}

-- the same count, in std's words
pub counted : (test : ℕ → Bool) (ns : List ℕ) → count_where test ns ≡ count_by test ns
counted test [] = refl
counted test (n ∷ ns) = ap (λ k. cond (test n) 1 0 + k) (counted test ns) ∙ sym (sum_by-cons (λ x. cond (test x) 1 0) n ns)

pub count_push : (test : ℕ → Bool) (ns : List ℕ) (n : ℕ) → count_where test (ns ++ n ∷ []) ≡ count_where test ns + cond (test n) 1 0
count_push test [] n = omega arith
count_push test (m ∷ ns) n = ap (λ k. cond (test m) 1 0 + k) (count_push test ns n) ∙ omega arith

-- the tests of equal numbers are equal
pub eqb_sym : (m n : ℕ) → eqb m n ≡ eqb n m
eqb_sym m n = elim (cases_Bool (eqb m n)) [
  | inl e ↦ e ∙ sym (eq-eqb n m (sym (eqb-true m n e)))
  | inr e ↦ e ∙ sym (ne_eqb n m (λ same. eqb-false m n e (sym same)))
]

-- membership in a longer list
pub among_push : (ns : List ℕ) (n k : ℕ) → is_among (ns ++ n ∷ []) k ≡ (is_among ns k || eqb n k)
among_push [] n k = or_false (eqb n k)
  where
    or_false : (b : Bool) → (b || false) ≡ b
    or_false true = refl
    or_false false = refl
among_push (m ∷ ns) n k = ap (λ b. eqb m k || b) (among_push ns n k) ∙ or_assoc (eqb m k) (is_among ns k) (eqb n k)
  where
    or_assoc : (a b c : Bool) → (a || (b || c)) ≡ ((a || b) || c)
    or_assoc true b c = refl
    or_assoc false b c = refl

pub different_ascending : (ns : List ℕ) → IsAscending ns → AreDifferent ns
different_ascending [] h = tt
different_ascending (n ∷ ns) h = (none_among n ns h.0, different_ascending ns h.1)

count_none : (k : ℕ) (ns : List ℕ) → is_among ns k ≡ false → count_where (λ c. eqb c k) ns ≡ 0
count_none k [] h = refl
count_none k (n ∷ ns) h =
    let parts = or_parts (eqb n k) (is_among ns k) h in
    let rest = count_none k ns parts.1 in
    let e : eqb n k ≡ false = parts.0 in
    rw e (omega (arith, rest))

-- a number stands at most once among different ones
pub count_once : (k : ℕ) (ns : List ℕ) → AreDifferent ns → count_where (λ c. eqb c k) ns ≡ cond (is_among ns k) 1 0
count_once k [] h = refl
count_once k (n ∷ ns) h = elim (cases_Bool (eqb n k)) [
  | inl e ↦
      let rest = count_none k ns (subst (λ m. is_among ns m ≡ false) (eqb-true n k e) h.0) in
      rw e (omega (arith, rest))
  | inr e ↦
      let rest = count_once k ns h.1 in
      rw e (omega (arith, rest))
]

module _ (finished : ℕ → Bool) where
  -- how many aren't finished
  abbrev pub unfinished : List ℕ → ℕ
  unfinished ps = count_where (λ p. not (finished p)) ps

  -- one more is finished
  pub one_finished : (after : ℕ → Bool) (n : ℕ) → finished n ≡ false → after n ≡ true → ((p : ℕ) → eqb p n ≡ false → after p ≡ finished p)
      → (ps : List ℕ) → AreDifferent ps → count_where (λ p. not (after p)) ps + cond (is_among ps n) 1 0 ≡ unfinished ps
  one_finished after n was is others [] h = refl
  one_finished after n was is others (p ∷ ps) h = elim (cases_Bool (eqb p n)) [
    | inl e ↦
        let same : p ≡ n = eqb-true p n e in
        let out : is_among ps n ≡ false = subst (λ m. is_among ps m ≡ false) same h.0 in
        let a : after p ≡ true = ap after same ∙ is in
        let f : finished p ≡ false = ap finished same ∙ was in
        let rest : count_where (λ p. not (after p)) ps + cond (is_among ps n) 1 0 ≡ unfinished ps = one_finished after n was is others ps h.1 in
        let rest' : count_where (λ p. not (after p)) ps + 0 ≡ unfinished ps = rw out at rest in
        rw (e, a, f) (omega (arith, rest'))
    | inr e ↦
        let a : after p ≡ finished p = others p e in
        let rest : count_where (λ p. not (after p)) ps + cond (is_among ps n) 1 0 ≡ unfinished ps = one_finished after n was is others ps h.1 in
        rw (e, a) (omega (arith, rest))
  ]

  -- none is missing exactly where all are finished
  pub none_missing : (ps : List ℕ) → eqb (unfinished ps) 0 ≡ list_all finished ps
  none_missing [] = refl
  none_missing (p ∷ ps) = elim (cases_Bool (finished p)) [
    | inl e ↦ rw e (ap (λ k. eqb k 0) (zero_plus (unfinished ps)) ∙ none_missing ps)
    | inr e ↦ rw e (ne_eqb (1 + unfinished ps) 0 (λ same. omega arith))
  ]
    where
      zero_plus : (k : ℕ) → 0 + k ≡ k
      zero_plus k = omega arith

  module _ (member : ℕ → Bool) (disjoint : (p : ℕ) → member p ≡ true → finished p ≡ false) where
    -- members are unfinished
    pub members_within : (ps : List ℕ) → count_where member ps ≤ unfinished ps
    members_within [] = omega arith
    members_within (p ∷ ps) =
        let rest = members_within ps in
        elim (cases_Bool (member p)) [
          | inl e ↦
              let f : finished p ≡ false = disjoint p e in
              rw (e, f) (omega (arith, rest))
          | inr e ↦ elim (cases_Bool (finished p)) [
            | inl t ↦ rw (e, t) (omega (arith, rest))
            | inr f ↦ rw (e, f) (omega (arith, rest))
          ]
        ]

    -- nothing is missing besides the members exactly where each is finished or a member
    pub none_left : (ps : List ℕ) → eqb (unfinished ps - count_where member ps) 0 ≡ list_all (λ p. finished p || member p) ps
    none_left [] = refl
    none_left (p ∷ ps) =
        let within = members_within ps in
        let rest = none_left ps in
        elim (cases_Bool (member p)) [
          | inl e ↦
              let f : finished p ≡ false = disjoint p e in
              let less : (1 + unfinished ps) - (1 + count_where member ps) ≡ unfinished ps - count_where member ps = omega arith in
              rw (e, f) (ap (λ k. eqb k 0) less ∙ rest)
          | inr e ↦ elim (cases_Bool (finished p)) [
            | inl t ↦
                let same : (0 + unfinished ps) - (0 + count_where member ps) ≡ unfinished ps - count_where member ps = omega arith in
                rw (e, t) (ap (λ k. eqb k 0) same ∙ rest)
            | inr f ↦ rw (e, f) (ne_eqb ((1 + unfinished ps) - (0 + count_where member ps)) 0 (λ same. omega arith))
          ]
        ]

    -- then one is missing exactly where one is a member
    pub some_member : (ps : List ℕ) → list_all (λ p. finished p || member p) ps ≡ true → ltb 0 (unfinished ps) ≡ list_any member ps
    some_member [] h = refl
    some_member (p ∷ ps) h =
        let parts = and_parts (finished p || member p) (list_all (λ p. finished p || member p) ps) h in
        let rest = some_member ps parts.1 in
        elim (cases_Bool (member p)) [
          | inl e ↦
              let f : finished p ≡ false = disjoint p e in
              rw (e, f) (lt-ltb 0 (1 + unfinished ps) (omega arith))
          | inr e ↦ elim (cases_Bool (finished p)) [
            | inl t ↦ rw (e, t) (ap (λ k. ltb 0 k) (zero_plus (unfinished ps)) ∙ rest)
            | inr f ↦ absurd (neither (finished p) (member p) f e parts.0)
          ]
        ]
      where
        zero_plus : (k : ℕ) → 0 + k ≡ k
        zero_plus k = omega arith

        neither : (a b : Bool) → a ≡ false → b ≡ false → (a || b) ≡ true → ⊥
        neither a b e f h = false≢true (sym (rw (e, f) refl) ∙ h)

-- one more member
pub one_member : (bundle : List ℕ) (n : ℕ) → is_among bundle n ≡ false → (ps : List ℕ) → AreDifferent ps
    → count_where (is_among (bundle ++ n ∷ [])) ps ≡ count_where (is_among bundle) ps + cond (is_among ps n) 1 0
one_member bundle n fresh [] h = refl
one_member bundle n fresh (p ∷ ps) h =
    let rest : count_where (is_among (bundle ++ n ∷ [])) ps ≡ count_where (is_among bundle) ps + cond (is_among ps n) 1 0 = one_member bundle n fresh ps h.1 in
    let pushed : is_among (bundle ++ n ∷ []) p ≡ (is_among bundle p || eqb n p) = among_push bundle n p in
    elim (cases_Bool (eqb p n)) [
      | inl e ↦
          let same : p ≡ n = eqb-true p n e in
          let out : is_among ps n ≡ false = subst (λ m. is_among ps m ≡ false) same h.0 in
          let was : is_among bundle p ≡ false = ap (is_among bundle) same ∙ fresh in
          let here : eqb n p ≡ true = eqb_sym n p ∙ e in
          let now : is_among (bundle ++ n ∷ []) p ≡ true = pushed ∙ ap (λ b. b || eqb n p) was ∙ here in
          let rest' : count_where (is_among (bundle ++ n ∷ [])) ps ≡ count_where (is_among bundle) ps + 0 = rw out at rest in
          step_true (is_among (bundle ++ n ∷ []) p) (is_among bundle p) (eqb p n) (is_among ps n) _ _ now was e rest'
      | inr e ↦
          let here : eqb n p ≡ false = eqb_sym n p ∙ e in
          let now : is_among (bundle ++ n ∷ []) p ≡ is_among bundle p = pushed ∙ ap (λ b. is_among bundle p || b) here ∙ or_false (is_among bundle p) in
          step_false (is_among (bundle ++ n ∷ []) p) (is_among bundle p) (eqb p n) (is_among ps n) _ _ now e rest
    ]
  where
    or_false : (b : Bool) → (b || false) ≡ b
    or_false true = refl
    or_false false = refl

    step_true : (now was here there : Bool) (a b : ℕ) → now ≡ true → was ≡ false → here ≡ true → a ≡ b + 0 → cond now 1 0 + a ≡ (cond was 1 0 + b) + cond (here || there) 1 0
    step_true now was here there a b e f g h = rw (e, f, g) (omega arith)

    step_false : (now was here there : Bool) (a b : ℕ) → now ≡ was → here ≡ false → a ≡ b + cond there 1 0 → cond now 1 0 + a ≡ (cond was 1 0 + b) + cond (here || there) 1 0
    step_false now was here there a b e f h = rw (e, f) (omega arith)
