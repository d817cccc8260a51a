-- What is out beside one place.
use Rattle.std.proofs.Common.{zero, suc, ◌≡◌, ◌≢◌, ◌<◌, ◌≤◌, List, ◌∷◌, refl, arith, All, AllPairs, Contains, subst, sym, ap, ◌⊎◌, inl, inr}
use Rattle.std.proofs.lemmas.List.Elements.{All-contains, Contains-append_left, Contains-append_right, Contains-append_cases}
use Rattle.css_place.specs.declared.stretch.Stretch.{Stretch}
use Rattle.css_place.specs.Places.{Store, IsAligned, IsPlaced, end_of}
use Rattle.css_place.specs.Changes.{Adds}
use Rattle.css_place.proofs.Insertions.{All-middle, AllPairs-before, AllPairs-after}

-- an element of a list is its head or in its tail
contains_cases : (y x : Stretch) (xs : List Stretch) → Contains (y ∷ xs) x → (y ≡ x) ⊎ Contains xs x
contains_cases y x xs (zero, below, is) = inl is
contains_cases y x xs (suc k, below, is) = inr (k, omega arith, is)

head_contained : (x : Stretch) (xs : List Stretch) → Contains (x ∷ xs) x
head_contained x xs = (0, omega arith, refl)

tail_contained : (y x : Stretch) (xs : List Stretch) → Contains xs x → Contains (y ∷ xs) x
tail_contained y x xs (k, below, is) = (suc k, omega arith, is)

-- a place that was out still is after another is added
pub still_out : (old new : Store) (s t : Stretch) → Adds old new s → Contains old.out t → Contains new.out t
still_out old new s t adds was =
    let before = adds.out.0 in
    let after = adds.out.1 in
    let At : List Stretch → Type 0 = λ out. Contains out t in
    subst At (sym adds.out.3) (elim (Contains-append_cases before after t (subst At adds.out.2 was)) [
      | inl lower ↦ Contains-append_left before (s ∷ after) t lower
      | inr higher ↦ Contains-append_right before (s ∷ after) t (tail_contained s t after higher)
    ])

-- a place that is added is out
pub added_out : (old new : Store) (s : Stretch) → Adds old new s → Contains new.out s
added_out old new s adds =
    let At : List Stretch → Type 0 = λ out. Contains out s in
    subst At (sym adds.out.3)
    (Contains-append_right adds.out.0 (s ∷ adds.out.1) s (head_contained s adds.out.1))

-- no other place comes with it
pub out_or_added : (old new : Store) (s t : Stretch) → Adds old new s → Contains new.out t
    → Contains old.out t ⊎ (t ≡ s)
out_or_added old new s t adds is =
    let before = adds.out.0 in
    let after = adds.out.1 in
    let At : List Stretch → Type 0 = λ out. Contains out t in
    elim (Contains-append_cases before (s ∷ after) t (subst At adds.out.3 is)) [
      | inl lower ↦ inl (subst At (sym adds.out.2) (Contains-append_left before after t lower))
      | inr from ↦ elim (contains_cases s t after from) [
        | inl same ↦ inr (sym same)
        | inr higher ↦ inl (subst At (sym adds.out.2) (Contains-append_right before after t higher))
      ]
    ]

-- a place that is added wasn't out
pub not_out_before : (old new : Store) (s t : Stretch) → IsPlaced new → Adds old new s → Contains old.out t → t ≢ s
not_out_before old new s t placed adds was same =
    let EndsBefore : Stretch → Stretch → Type 0 = λ s t. end_of s ≤ t.start in
    let before = adds.out.0 in
    let after = adds.out.1 in
    let pairs = subst (AllPairs EndsBefore) adds.out.3 placed.disjoint in
    let aligned = All-middle IsAligned before after s (subst (All IsAligned) adds.out.3 placed.aligned) in
    let some : 0 < s.length = aligned.positive in
    let start : t.start ≡ s.start = ap (λ x. x.start) same in
    let bytes : t.length ≡ s.length = ap (λ x. x.length) same in
    elim (Contains-append_cases before after t (subst (λ out. Contains out t) adds.out.2 was)) [
      | inl lower ↦
          let ends : end_of t ≤ s.start =
          All-contains (λ t. EndsBefore t s) before t (AllPairs-before EndsBefore before after s pairs) lower in
          omega arith
      | inr higher ↦
          let ends : end_of s ≤ t.start =
          All-contains (EndsBefore s) after t (AllPairs-after EndsBefore before after s pairs) higher in
          omega arith
    ]

-- a place that is out stays out when another is released
pub left_out : (old new : Store) (s t : Stretch) → Adds new old s → Contains old.out t → t ≢ s → Contains new.out t
left_out old new s t adds is other =
    elim (out_or_added new old s t adds is) [ inl was ↦ was | inr same ↦ absurd (other same) ]

pub joined : (old new : Store) (s t : Stretch) → Adds old new s → Contains old.out t ⊎ (t ≡ s) → Contains new.out t
joined old new s t adds (inl was) = still_out old new s t adds was
joined old new s t adds (inr same) = subst (λ x. Contains new.out x) (sym same) (added_out old new s adds)
