-- The places out after one is placed or released.
use Rattle.std.proofs.Common.{suc, ◌≡◌, ◌<◌, ◌≤◌, ◌+◌, ◌%◌, ℕ, List, length, take, drop, arith, All, AllPairs, insert, remove, refl, subst, sym, get_or}
use Rattle.std.proofs.lemmas.List.{take-append-drop}
use Rattle.std.proofs.lemmas.List.Elements.{All-append, All-take, All-drop, All-weaker}
use Rattle.std.proofs.lemmas.List.Edits.{length-insert, length-remove}
use Rattle.std.proofs.lemmas.List.Quantifiers.{all_pairs_remove}
use Rattle.css_place.specs.declared.stretch.Stretch.{Stretch}
use Rattle.css_place.specs.declared.gaps.Gap.{Gap}
use Rattle.css_place.specs.Places.{Store, IsAligned, IsPlaced, end_of}
use Rattle.css_place.specs.Changes.{Adds}
use Rattle.css_place.specs.Gaps.{IsFirstGap}
use Rattle.css_place.proofs.Insertions.{All-inserted, AllPairs-inserted}
use Rattle.css_place.proofs.Passing.{EndsBefore, round}

-- a place in the first gap keeps the store in order
pub placed_more : (store : Store) (s : Stretch) (gap : Gap) → IsPlaced store → IsFirstGap store s.length gap
    → s.start ≡ gap.start → s.length % 128 ≡ 0 → 0 < s.length → length store.out < 96
    → IsPlaced (record { size = store.size; out = insert store.out gap.index s })
placed_more store s gap placed first at whole positive few =
    let whole_list = sym (take-append-drop gap.index store.out) in
    let before = take gap.index store.out in
    let after = drop gap.index store.out in
    let Inside : Stretch → Type 0 = λ t. end_of t ≤ store.size in
    let room : gap.start + s.length ≤ store.size = first.inside in
    let own : end_of s ≤ store.size = omega arith in
    record {
      size = placed.size;
      aligned = All-inserted IsAligned before after s (subst (All IsAligned) whole_list placed.aligned)
          (record { start = rw at first.aligned; length = whole; positive = positive });
      disjoint = AllPairs-inserted EndsBefore before after s (subst (AllPairs EndsBefore) whole_list placed.disjoint)
          (All-weaker (λ t. end_of t ≤ gap.start) (λ t. end_of t ≤ s.start) (λ t ends. omega arith) before first.before)
          (All-weaker (λ t. gap.start + s.length ≤ t.start) (EndsBefore s) (λ t starts. omega arith) after first.after);
      inside = All-inserted Inside before after s (subst (All Inside) whole_list placed.inside) own;
      few = let number : gap.index ≤ length store.out = first.number in
          omega (arith, length-insert store.out gap.index s number);
    }

-- an insertion adds the place
pub insert_adds : (store : Store) (index : ℕ) (s : Stretch)
    → Adds store (record { size = store.size; out = insert store.out index s }) s
insert_adds store index s = record {
  size = refl;
  out = (take index store.out, drop index store.out, sym (take-append-drop index store.out), refl);
}

-- what holds of each element holds of each that is left
All-remove : {X : Type 0} (P : X → Type 0) (xs : List X) (i : ℕ) → All P xs → All P (remove xs i)
All-remove P xs i each =
    All-append P (take i xs) (drop (suc i) xs) (All-take P i xs each) (All-drop P (suc i) xs each)

-- a store without one of its places is in order
pub placed_less : (store : Store) (index : ℕ) → IsPlaced store → index < length store.out
    → IsPlaced (record { size = store.size; out = remove store.out index })
placed_less store index placed below = record {
  size = placed.size;
  aligned = All-remove IsAligned store.out index placed.aligned;
  disjoint = all_pairs_remove EndsBefore store.out index below placed.disjoint;
  inside = All-remove (λ t. end_of t ≤ store.size) store.out index placed.inside;
  few = let most : length store.out ≤ 96 = placed.few in
      omega (arith, length-remove store.out index below);
}

-- a removal takes the place out
pub remove_removes : (store : Store) (index : ℕ) (s : Stretch) → index < length store.out
    → get_or store.out index s ≡ s
    → Adds (record { size = store.size; out = remove store.out index }) store s
remove_removes store index s below is = record {
  size = refl;
  out = (take index store.out, drop (suc index) store.out, refl, round store.out index s below is);
}
