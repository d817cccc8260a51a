-- Places that are held while they are out.
use Rattle.std.proofs.Common.{suc, ◌≡◌, ◌≢◌, ◌<◌, ℕ, List, ◌∷◌, ◌++◌, [], length, take, drop, get_or, remove, All, AllPairs, Contains, subst, sym}
use Rattle.std.proofs.lemmas.List.Elements.{All-push, All-append, All-weaker, All-take, All-drop}
use Rattle.std.proofs.lemmas.List.Quantifiers.{all_pairs_push, all_pairs_remove}
use Rattle.css_place.specs.declared.stretch.Stretch.{Stretch}
use Rattle.css_place.specs.Places.{Store, IsPlaced}
use Rattle.css_place.specs.Changes.{Adds}
use Rattle.css_place.proofs.Insertions.{AllPairs-before, AllPairs-after}
use Rattle.css_place.proofs.Others.{added_out, still_out, not_out_before, left_out}
use Rattle.css_place.proofs.Passing.{round}

abbrev Differ : Stretch → Stretch → Type 0
Differ s t = s ≢ t

-- a new place is held beside the others
pub held_more : (old new : Store) (s : Stretch) (held : List Stretch) → IsPlaced new → Adds old new s
    → All (Contains old.out) held × AllPairs Differ held
    → All (Contains new.out) (held ++ s ∷ []) × AllPairs Differ (held ++ s ∷ [])
held_more old new s held placed adds (out, differ) =
    let Out : Stretch → Type 0 = Contains new.out in (
      All-push Out held s
          (All-weaker (Contains old.out) Out (λ t was. still_out old new s t adds was) held out)
          (added_out old new s adds),
      all_pairs_push Differ held s differ
          (λ k d below. not_out_before old new s (get_or held k d) placed adds (out k d below)),
    )

-- the others are still held when a place is released
pub held_less : (old new : Store) (s : Stretch) (held : List Stretch) (index : ℕ) → Adds new old s
    → index < length held → get_or held index s ≡ s
    → All (Contains old.out) held × AllPairs Differ held
    → All (Contains new.out) (remove held index) × AllPairs Differ (remove held index)
held_less old new s held index adds below is (out, differ) =
    let Was : Stretch → Type 0 = Contains old.out in
    let Out : Stretch → Type 0 = Contains new.out in
    let front = take index held in
    let back = drop (suc index) held in
    let pairs = subst (AllPairs Differ) (round held index s below is) differ in (
      All-append Out front back
          (λ k d within. left_out old new s (get_or front k d) adds (All-take Was index held out k d within)
          (AllPairs-before Differ front back s pairs k d within))
          (λ k d within. left_out old new s (get_or back k d) adds (All-drop Was (suc index) held out k d within)
          (λ same. AllPairs-after Differ front back s pairs k d within (sym same))),
      all_pairs_remove Differ held index below differ,
    )
