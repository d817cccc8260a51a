-- The walk over the gaps between the places out.
use Rattle.std.proofs.Common.{suc, ◌≡◌, ◌<◌, ◌≤◌, ◌+◌, ◌-◌, ◌%◌, ℕ, List, [], ◌∷◌, ◌++◌, length, take, drop, arith, All, AllPairs, subst, sym, ap, ◌∙◌, inl, inr, get_or}
use Rattle.std.proofs.lemmas.Bool.{cases_lt}
use Rattle.std.proofs.lemmas.List.{get_or_default, take-append-drop, drop_all, take_more}
use Rattle.std.proofs.lemmas.List.Elements.{All-nil, All-cons, All-head, All-append, All-weaker, All-get_or}
use Rattle.std.proofs.Math.Seq.{drop-cons}
use Rattle.css_place.specs.declared.stretch.Stretch.{Stretch}
use Rattle.css_place.specs.declared.gaps.Gap.{Gap}
use Rattle.css_place.specs.Places.{Store, IsAligned, IsPlaced, end_of}
use Rattle.css_place.specs.Holes.{IsIn, HasRoom, IsFront}
use Rattle.css_place.specs.Gaps.{IsFirstGap}
use Rattle.css_place.proofs.Insertions.{AllPairs-before, AllPairs-after}

abbrev pub EndsBefore : Stretch → Stretch → Type 0
EndsBefore s t = end_of s ≤ t.start

-- the gaps before that place are too small, and the next one begins there
pub record IsPassed (store : Store) (bytes index start : ℕ) : Type 0 where
  pub number : index ≤ length store.out
  pub before : All (λ s. end_of s ≤ start) (take index store.out)
  pub after : All (λ s. start ≤ s.start) (drop index store.out)
  pub inside : start ≤ store.size
  pub aligned : start % 128 ≡ 0
  pub front : IsFront store start
  pub lowest : (other : ℕ) → HasRoom store other bytes → start ≤ other

-- no gap is passed yet
pub passed_none : (store : Store) (bytes : ℕ) → IsPassed store bytes 0 0
passed_none store bytes = record {
  number = omega arith;
  before = All-nil (λ s. end_of s ≤ 0);
  after = λ k d below. omega arith;
  inside = omega arith;
  aligned = omega arith;
  front = λ before next. absurd (omega arith);
  lowest = λ other room. omega arith;
}

-- the list round a place out
pub round : (out : List Stretch) (index : ℕ) (s : Stretch) → index < length out → get_or out index s ≡ s
    → out ≡ take index out ++ s ∷ drop (suc index) out
round out index s below is =
    sym (take-append-drop index out)
    ∙ ap (λ rest. take index out ++ rest) (drop-cons out index s below ∙ ap (λ x. x ∷ drop (suc index) out) is)

-- a gap ends where its place starts, at its own start or above
pub gap_ends : (store : Store) (bytes index start : ℕ) (s : Stretch) → IsPassed store bytes index start
    → index < length store.out → get_or store.out index s ≡ s → start ≤ s.start
gap_ends store bytes index start s passed below is =
    let Reached : Stretch → Type 0 = λ s. start ≤ s.start in
    let rest : drop index store.out ≡ s ∷ drop (suc index) store.out =
    drop-cons store.out index s below ∙ ap (λ x. x ∷ drop (suc index) store.out) is in
    All-head Reached s (drop (suc index) store.out) (subst (All Reached) rest passed.after)

-- what holds of each place out holds of that one
of_place : (P : Stretch → Type 0) (out : List Stretch) (index : ℕ) (s : Stretch) → index < length out
    → get_or out index s ≡ s → All P out → P s
of_place P out index s below is each = subst P is (All-get_or P out index s below each)

-- where the gap before a place is too small, none with room begins before that place ends
past : (store : Store) (bytes index start : ℕ) (s : Stretch) → 0 < bytes → IsPlaced store
    → IsPassed store bytes index start → index < length store.out → get_or store.out index s ≡ s
    → s.start < start + bytes → (other : ℕ) → HasRoom store other bytes → end_of s ≤ other
past store bytes index start s positive placed passed below is small other room =
    let low : start ≤ other = passed.lowest other room in
    let some : 0 < s.length = (of_place IsAligned store.out index s below is placed.aligned).positive in
    elim (cases_lt other (end_of s)) [
      | inr later ↦ later
      | inl earlier ↦ elim (cases_lt other s.start) [
        | inl lower ↦
            let free = room s.start (omega arith) (omega arith) in
            absurd (of_place (λ t. ¬ IsIn s.start t) store.out index s below is free.unplaced
            (record { from = omega arith; below = omega arith }))
        | inr from ↦
            let free = room other (omega arith) (omega arith) in
            absurd (of_place (λ t. ¬ IsIn other t) store.out index s below is free.unplaced
            (record { from = from; below = earlier }))
      ]
    ]

-- a sum of two multiples of 128 is one
sum_aligned : (a b : ℕ) → a % 128 ≡ 0 → b % 128 ≡ 0 → (a + b) % 128 ≡ 0
sum_aligned a b h k = omega arith

-- one more gap is too small
pub passed_more : (store : Store) (bytes index start : ℕ) (s : Stretch) → 0 < bytes → IsPlaced store
    → IsPassed store bytes index start → index < length store.out → get_or store.out index s ≡ s
    → s.start < start + bytes → IsPassed store bytes (index + 1) (end_of s)
passed_more store bytes index start s positive placed passed below is small =
    let aligned = of_place IsAligned store.out index s below is placed.aligned in
    let some : 0 < s.length = aligned.positive in
    let pairs = subst (AllPairs EndsBefore) (round store.out index s below is) placed.disjoint in
    let Passed : Stretch → Type 0 = λ t. end_of t ≤ end_of s in
    let lower = All-weaker (λ t. EndsBefore t s) Passed (λ t ends. omega arith) (take index store.out)
    (AllPairs-before EndsBefore (take index store.out) (drop (suc index) store.out) s pairs) in
    let own : end_of s ≤ end_of s = omega arith in
    let one = All-append Passed (take index store.out) (s ∷ []) lower (All-cons Passed s [] own (All-nil Passed)) in
    let front : take (index + 1) store.out ≡ take index store.out ++ s ∷ [] =
    take_more store.out index s below ∙ ap (λ x. take index store.out ++ x ∷ []) is in
    let back : suc index ≡ index + 1 = omega arith in
    record {
      number = omega arith;
      before = subst (All Passed) (sym front) one;
      after = subst (λ n. All (EndsBefore s) (drop n store.out)) back
          (AllPairs-after EndsBefore (take index store.out) (drop (suc index) store.out) s pairs);
      inside = of_place (λ t. end_of t ≤ store.size) store.out index s below is placed.inside;
      aligned = sum_aligned s.start s.length aligned.start aligned.length;
      front = λ before next free. of_place (λ t. ¬ IsIn before t) store.out index s below is free.unplaced
          (record { from = omega arith; below = omega arith });
      lowest = past store bytes index start s positive placed passed below is small;
    }

-- the addresses of a gap are free
gap_room : (store : Store) (bytes index start : ℕ) → IsPassed store bytes index start
    → All (λ s. start + bytes ≤ s.start) (drop index store.out) → start + bytes ≤ store.size
    → HasRoom store start bytes
gap_room store bytes index start passed after inside address from below =
    let Outside : Stretch → Type 0 = λ s. ¬ IsIn address s in
    let lower = All-weaker (λ s. end_of s ≤ start) Outside
    (λ s ends within. let under : address < end_of s = within.below in omega arith)
    (take index store.out) passed.before in
    let higher = All-weaker (λ s. start + bytes ≤ s.start) Outside
    (λ s starts within. let above : s.start ≤ address = within.from in omega arith)
    (drop index store.out) after in
    record {
      inside = omega arith;
      unplaced = subst (All Outside) (take-append-drop index store.out)
          (All-append Outside (take index store.out) (drop index store.out) lower higher);
    }

-- the gap that ends with a place is the first that has so many bytes
pub gap_fits : (store : Store) (bytes : ℕ) (gap : Gap) → IsPassed store bytes gap.index gap.start
    → All (λ s. gap.start + bytes ≤ s.start) (drop gap.index store.out) → gap.start + bytes ≤ store.size
    → IsFirstGap store bytes gap
gap_fits store bytes gap passed after inside = record {
  number = passed.number;
  before = passed.before;
  after = after;
  inside = inside;
  aligned = passed.aligned;
  first = record {
    holds = record {
      front = passed.front;
      room = gap_room store bytes gap.index gap.start passed after inside;
    };
    first = λ other holds. passed.lowest other holds.room;
  };
}

-- the first gap with room ends with a place
pub fits_before : (store : Store) (bytes : ℕ) (gap : Gap) (s : Stretch) → IsPlaced store
    → IsPassed store bytes gap.index gap.start → gap.index < length store.out → get_or store.out gap.index s ≡ s
    → gap.start + bytes ≤ s.start → IsFirstGap store bytes gap
fits_before store bytes gap s placed passed below is room =
    let Beyond : Stretch → Type 0 = λ t. gap.start + bytes ≤ t.start in
    let pairs = subst (AllPairs EndsBefore) (round store.out gap.index s below is) placed.disjoint in
    let later = AllPairs-after EndsBefore (take gap.index store.out) (drop (suc gap.index) store.out) s pairs in
    let all = All-cons Beyond s (drop (suc gap.index) store.out) room
    (All-weaker (EndsBefore s) Beyond (λ t starts. omega arith) (drop (suc gap.index) store.out) later) in
    let rest : drop gap.index store.out ≡ s ∷ drop (suc gap.index) store.out =
    drop-cons store.out gap.index s below ∙ ap (λ x. x ∷ drop (suc gap.index) store.out) is in
    let end : end_of s ≤ store.size = of_place (λ t. end_of t ≤ store.size) store.out gap.index s below is placed.inside in
    gap_fits store bytes gap passed (subst (All Beyond) (sym rest) all) (omega arith)

-- the first gap with room ends with the store
pub fits_last : (store : Store) (bytes : ℕ) (gap : Gap) → IsPassed store bytes gap.index gap.start
    → gap.index ≡ length store.out → gap.start + bytes ≤ store.size → IsFirstGap store bytes gap
fits_last store bytes gap passed last inside =
    let Beyond : Stretch → Type 0 = λ t. gap.start + bytes ≤ t.start in
    let none : drop gap.index store.out ≡ [] = drop_all gap.index store.out (omega arith) in
    gap_fits store bytes gap passed (subst (All Beyond) (sym none) (All-nil Beyond)) inside

-- where the last gap is too small too, no hole has room
pub fits_nowhere : (store : Store) (bytes index start : ℕ) → 0 < bytes → IsPassed store bytes index start
    → store.size < start + bytes → (other : ℕ) → ¬ HasRoom store other bytes
fits_nowhere store bytes index start positive passed small other room =
    let low : start ≤ other = passed.lowest other room in
    let last = room (other + (bytes - 1)) (omega arith) (omega arith) in
    let inside : other + (bytes - 1) < store.size = last.inside in
    omega arith

-- a read of the place with that number
pub read : (out : List Stretch) (index : ℕ) (d : Stretch) → index < length out
    → get_or out index (get_or out index d) ≡ get_or out index d
read out index d below = get_or_default out index (get_or out index d) d below
