-- Free addresses, fronts of holes and changes.
use Rattle.std.proofs.Common.{zero, suc, ◌≡◌, ◌<◌, ◌≤◌, ℕ, List, [], ◌∷◌, ◌++◌, length, arith, All, AllPairs, Contains, subst, sym, ap, ◌∙◌, ◌⊎◌, inl, inr, length-append, get_or}
use Rattle.std.proofs.lemmas.Bool.{cases_lt}
use Rattle.std.proofs.lemmas.List.{get_or_default}
use Rattle.std.proofs.lemmas.List.Elements.{All-nil, All-cons, All-head, All-tail, All-append, All-weaker}
use Rattle.css_place.specs.declared.stretch.Stretch.{Stretch}
use Rattle.css_place.specs.Places.{Store, IsPlaced, end_of}
use Rattle.css_place.specs.Holes.{IsIn, IsFree, HasRoom, HoleHolds, IsFirstFit, IsFull}
use Rattle.css_place.specs.Changes.{Adds}
use Rattle.css_place.proofs.Insertions.{All-inserted, All-removed, All-middle, AllPairs-before, AllPairs-after}

-- whether an address is in a stretch
pub in_or_not : (address : ℕ) (s : Stretch) → IsIn address s ⊎ ¬ IsIn address s
in_or_not address s =
    elim (cases_lt address s.start) [
      | inl low ↦ inr (λ within. let from : s.start ≤ address = within.from in omega arith)
      | inr from ↦ elim (cases_lt address (end_of s)) [
        | inl below ↦ inl (record { from = from; below = below })
        | inr high ↦ inr (λ within. let below : address < end_of s = within.below in omega arith)
      ]
    ]

-- whether an address is in none of some stretches
pub in_none_or_not : (address : ℕ) (out : List Stretch)
    → All (λ s. ¬ IsIn address s) out ⊎ ¬ All (λ s. ¬ IsIn address s) out
in_none_or_not address [] = inl (All-nil (λ s. ¬ IsIn address s))
in_none_or_not address (s ∷ out) =
    let Outside : Stretch → Type 0 = λ s. ¬ IsIn address s in
    elim (in_or_not address s) [
      | inl within ↦ inr (λ each. All-head Outside s out each within)
      | inr outside ↦ elim (in_none_or_not address out) [
        | inl rest ↦ inl (All-cons Outside s out outside rest)
        | inr rest ↦ inr (λ each. rest (All-tail Outside s out each))
      ]
    ]

-- whether an address is free
pub free_or_not : (store : Store) (address : ℕ) → IsFree store address ⊎ ¬ IsFree store address
free_or_not store address =
    elim (cases_lt address store.size) [
      | inl inside ↦ elim (in_none_or_not address store.out) [
        | inl unplaced ↦ inl (record { inside = inside; unplaced = unplaced })
        | inr placed ↦ inr (λ free. placed free.unplaced)
      ]
      | inr high ↦ inr (λ free. let inside : address < store.size = free.inside in omega arith)
    ]

-- where so many addresses in a row are free, a hole that begins there or below holds as many
pub hole_below : (store : Store) (bytes start : ℕ) → HasRoom store start bytes
    → (front : ℕ) × HoleHolds store front bytes × (front ≤ start)
hole_below store bytes zero room =
    (0, record { front = λ before next. absurd (omega arith); room = room }, omega arith)
hole_below store bytes (suc start) room =
    elim (free_or_not store start) [
      | inl free ↦
          let wider : HasRoom store start bytes = λ address from below.
          elim (cases_lt start address) [
            | inl later ↦ room address (omega arith) (omega arith)
            | inr same ↦ subst (IsFree store) (omega arith) free
          ] in
          let hole = hole_below store bytes start wider in
          (hole.0, hole.1, omega arith)
      | inr taken ↦ (
        suc start,
        record {
          front = λ before next free. taken (subst (IsFree store) (omega arith) free);
          room = room;
        },
        omega arith,
      )
    ]

pub first_fit_lowest : (store : Store) (bytes start other : ℕ)
    → IsFirstFit store bytes start → HasRoom store other bytes → start ≤ other
first_fit_lowest store bytes start other fit room =
    let hole = hole_below store bytes other room in
    let first = fit.first hole.0 hole.1 in
    omega arith

pub full_no_room : (store : Store) (bytes start : ℕ)
    → IsFull store bytes → length store.out < 96 → HasRoom store start bytes → ⊥
full_no_room store bytes start full few room =
    elim full [
      | inl many ↦ omega arith
      | inr none ↦ let hole = hole_below store bytes start room in none hole.0 hole.1
    ]

-- an address is free after a place is added exactly where it was and the place hasn't got it
pub free_before : (old new : Store) (s : Stretch) → Adds old new s
    → (address : ℕ) → IsFree new address → IsFree old address × ¬ IsIn address s
free_before old new s adds address free =
    let Outside : Stretch → Type 0 = λ s. ¬ IsIn address s in
    let before = adds.out.0 in
    let after = adds.out.1 in
    let each = subst (All Outside) adds.out.3 free.unplaced in (
      record {
        inside = subst (λ size. address < size) adds.size free.inside;
        unplaced = subst (All Outside) (sym adds.out.2) (All-removed Outside before after s each);
      },
      All-middle Outside before after s each,
    )

pub free_after : (old new : Store) (s : Stretch) → Adds old new s
    → (address : ℕ) → IsFree old address × ¬ IsIn address s → IsFree new address
free_after old new s adds address (free, outside) =
    let Outside : Stretch → Type 0 = λ s. ¬ IsIn address s in
    let before = adds.out.0 in
    let after = adds.out.1 in
    let each = subst (All Outside) adds.out.2 free.unplaced in
    record {
      inside = subst (λ size. address < size) (sym adds.size) free.inside;
      unplaced = subst (All Outside) (sym adds.out.3) (All-inserted Outside before after s each outside);
    }

-- an address of a place out is in no other place out, so it is free without that place
pub free_without : (old new : Store) (s : Stretch) → IsPlaced old → Adds new old s
    → (address : ℕ) → IsIn address s → IsFree new address
free_without old new s placed adds address within =
    let Outside : Stretch → Type 0 = λ s. ¬ IsIn address s in
    let EndsBefore : Stretch → Stretch → Type 0 = λ s t. end_of s ≤ t.start in
    let before = adds.out.0 in
    let after = adds.out.1 in
    let pairs = subst (AllPairs EndsBefore) adds.out.3 placed.disjoint in
    let lower = All-weaker (λ t. EndsBefore t s) Outside
    (λ t ends inside. let below : address < end_of t = inside.below in
    let from : s.start ≤ address = within.from in omega arith)
    before (AllPairs-before EndsBefore before after s pairs) in
    let higher = All-weaker (EndsBefore s) Outside
    (λ t starts inside. let from : t.start ≤ address = inside.from in
    let below : address < end_of s = within.below in omega arith)
    after (AllPairs-after EndsBefore before after s pairs) in
    let Inside : Stretch → Type 0 = λ s. end_of s ≤ old.size in
    let ends = All-middle Inside before after s (subst (All Inside) adds.out.3 placed.inside) in
    let below : address < end_of s = within.below in
    let same : old.size ≡ new.size = adds.size in
    record {
      inside = omega arith;
      unplaced = subst (All Outside) (sym adds.out.2) (All-append Outside before after lower higher);
    }

-- after a release an address is free exactly where it was, or the place had it
pub free_released : (old new : Store) (s : Stretch) → IsPlaced old → Adds new old s
    → (address : ℕ) → IsFree new address → IsFree old address ⊎ IsIn address s
free_released old new s placed adds address free =
    elim (in_or_not address s) [
      | inl within ↦ inr within
      | inr outside ↦ inl (free_after new old s adds address (free, outside))
    ]

pub released_free : (old new : Store) (s : Stretch) → IsPlaced old → Adds new old s
    → (address : ℕ) → IsFree old address ⊎ IsIn address s → IsFree new address
released_free old new s placed adds address (inl free) = (free_before new old s adds address free).0
released_free old new s placed adds address (inr within) = free_without old new s placed adds address within

-- after a release fewer places are out
pub fewer : (old new : Store) (s : Stretch) → IsPlaced old → Adds new old s → length new.out < 96
fewer old new s placed adds =
    let many : length old.out ≡ length (adds.out.0 ++ s ∷ adds.out.1) = ap length adds.out.3 in
    let few : length new.out ≡ length (adds.out.0 ++ adds.out.1) = ap length adds.out.2 in
    let most : length old.out ≤ 96 = placed.few in
    omega (arith, length-append adds.out.0 (s ∷ adds.out.1), length-append adds.out.0 adds.out.1)

pub room_released : (old new : Store) (s : Stretch) (bytes : ℕ) → IsPlaced old → Adds new old s
    → bytes ≤ s.length → IsFull new bytes → ⊥
room_released old new s bytes placed adds holds full =
    full_no_room new bytes s.start full (fewer old new s placed adds)
    (λ address from below. free_without old new s placed adds address
    (record { from = from; below = omega arith }))

-- an earlier place out ends before a later one starts
in_order : (out : List Stretch) (s t : Stretch) (i j : ℕ) → AllPairs (λ s t. end_of s ≤ t.start) out
    → i < j → j < length out → get_or out i s ≡ s → get_or out j t ≡ t → end_of s ≤ t.start
in_order out s t i j pairs earlier below s_is t_is =
    let ends : end_of (get_or out i s) ≤ (get_or out j s).start = pairs i j s earlier below in
    let later : get_or out j s ≡ t = get_or_default out j s t below ∙ t_is in
    subst (λ x. end_of x ≤ t.start) s_is (subst (λ y. end_of (get_or out i s) ≤ y.start) later ends)

-- two places out with an address in common are one
pub one_place : (store : Store) (s t : Stretch) (address : ℕ) → IsPlaced store
    → Contains store.out s → Contains store.out t → IsIn address s → IsIn address t → s ≡ t
one_place store s t address placed (i, s_out, s_is) (j, t_out, t_is) in_s in_t =
    let s_from : s.start ≤ address = in_s.from in
    let s_below : address < end_of s = in_s.below in
    let t_from : t.start ≤ address = in_t.from in
    let t_below : address < end_of t = in_t.below in
    elim (cases_lt i j) [
      | inl earlier ↦ let ends = in_order store.out s t i j placed.disjoint earlier t_out s_is t_is in absurd (omega arith)
      | inr above ↦ elim (cases_lt j i) [
        | inl earlier ↦ let ends = in_order store.out t s j i placed.disjoint earlier s_out t_is s_is in absurd (omega arith)
        | inr below ↦
            let same : i ≡ j = omega arith in
            sym s_is ∙ ap (λ k. get_or store.out k s) same ∙ get_or_default store.out j s t t_out ∙ t_is
      ]
    ]

-- where a hole holds a length and fewer than 96 places are out, there is room
pub fit_not_full : (store : Store) (bytes start : ℕ) → IsFirstFit store bytes start → length store.out < 96
    → IsFull store bytes → ⊥
fit_not_full store bytes start fit few (inl many) = omega arith
fit_not_full store bytes start fit few (inr none) = none start fit.holds
