-- Groups: their items' pieces, one after another.
use Rattle.std.proofs.Common.{◌≡◌, ◌+◌, ◌-◌, ◌<◌, ◌≤◌, ℕ, suc, Bool, true, false, cond, List, [], ◌∷◌, ◌++◌, length, map, take, drop, set, get_or, arith, refl, sym, ap, ◌∙◌, subst, All, Some, slice_get, slice_range, replicate, Vec, Global}
use Rattle.std.specs.List.{flat_map, sum_by, zip}
use Rattle.std.proofs.lemmas.List.{map-set, set-get_or, set_split, get_or-map, length-set, take-append-drop, take-set}
use Rattle.std.proofs.lemmas.List.Elements.{All-nil, All-cons, All-head, All-tail, All-set, All-get_or}
use Rattle.std.proofs.lemmas.List.Concat.{flat_map-append}
use Rattle.std.proofs.lemmas.List.Sums.{sum_by-cons}
use Rattle.std.proofs.lemmas.Option.{slice_get_within, get_or_from_slice_get}
use Rattle.std.proofs.Math.Seq.{drop-cons, take-add}
use Rattle.css_tags.proofs.Pieces.{sum_pieces}
use Rattle.css_tags.specs.declared.piece.Piece.{Piece}
use Rattle.css_tags.specs.declared.item.Item.{Item}
use Rattle.css_tags.specs.Blocks.{Contents}
use Rattle.css_tags.specs.Plans.{Planned, bytes_of}
use Rattle.css_tags.specs.Groups.{Moving, Underway, IsMoving, IsGroup, IsPutItem, StepsAt, MovesNext, begun_get, begun_put, planned_get, planned_put, left, left_of, with_moved, block_of, blocks_of, block_after, copy_of, plan_of}

abbrev head_or : List ℕ → List (List ℕ) → List ℕ
head_or d [] = d
head_or d (x ∷ xs) = x

abbrev tail : List (List ℕ) → List (List ℕ)
tail [] = []
tail (x ∷ xs) = xs

abbrev planned_of : Moving → Planned
planned_of m = m.planned

-- the parts of an empty list are empty
nil_left : (xs ys : List Piece) → xs ++ ys ≡ [] → xs ≡ []
nil_left [] ys none = refl
nil_left (x ∷ xs) ys none = absurd cc

nil_right : (xs ys : List Piece) → xs ++ ys ≡ [] → ys ≡ []
nil_right [] ys none = none
nil_right (x ∷ xs) ys none = absurd cc

-- once no piece of an item is left, its block has the planned bytes
whole_block : (m : Moving) → m.target ≡ m.planned.bytes → block_of m ≡ block_after m.planned
whole_block m same =
    let planned : Planned = m.planned in
    let at : List ℕ → Contents = λ bytes. record { place = planned.place; bytes = bytes } in
    let chosen : (b : Bool) → cond b planned.bytes m.target ≡ planned.bytes =
    λ b. elim b as (λ v. cond v planned.bytes m.target ≡ planned.bytes) [ true ↦ refl | false ↦ same ] in
    ap at (chosen m.put)

whole_list : (ms : List Moving) → All IsMoving ms → flat_map left_of ms ≡ []
    → map block_of ms ≡ map block_after (map planned_of ms)
whole_list [] each none = refl
whole_list (m ∷ ms) each none =
    let first = (All-head IsMoving m ms each).whole (nil_left (left_of m) (flat_map left_of ms) none) in
    let rest = whole_list ms (All-tail IsMoving m ms each) (nil_right (left_of m) (flat_map left_of ms) none) in
    ap (λ b. b ∷ map block_of ms) (whole_block m first) ∙ ap (λ bs. block_after m.planned ∷ bs) rest

pub whole_blocks : (group : Underway) (next : ℕ) → IsGroup group next → left group ≡ []
    → blocks_of group ≡ map block_after (plan_of group).items
whole_blocks group next is none = whole_list group.items is.moving none

-- the list round an element
round : (ms : List Moving) (i : ℕ) (m : Moving) → slice_get ms i ≡ Some m → ms ≡ take i ms ++ m ∷ drop (suc i) ms
round ms i m is =
    sym (take-append-drop i ms)
    ∙ ap (λ rest. take i ms ++ rest) (drop-cons ms i m (slice_get_within ms i m is)
    ∙ ap (λ x. x ∷ drop (suc i) ms) (get_or_from_slice_get ms i m m is))

-- the elements before an index are those before a lower one, and those between
parts : (ms : List Moving) (a b : ℕ) → a ≤ b → take b ms ≡ take a ms ++ slice_range ms a b
parts ms a b low = (let whole : a + (b - a) ≡ b = omega arith in ap (λ n. take n ms) (sym whole)) ∙ take-add a (b - a) ms

passed_before : (ms : List Moving) (next index : ℕ) → next ≤ index → flat_map left_of (take next ms) ≡ []
    → flat_map left_of (slice_range ms next index) ≡ [] → flat_map left_of (take index ms) ≡ []
passed_before ms next index low first then =
    ap (flat_map left_of) (parts ms next index low)
    ∙ flat_map-append left_of (take next ms) (slice_range ms next index)
    ∙ ap (λ ps. ps ++ flat_map left_of (slice_range ms next index)) first ∙ then

-- the plan stays where an item's next piece is moved
pub same_plan : (old new : List Moving) (next index : ℕ) → StepsAt old new next index
    → map planned_of new ≡ map planned_of old
same_plan old new next index steps =
    let m = steps.item.0 in
    let p = steps.item.1 in
    let is = steps.item.2 in
    let there : get_or (map planned_of old) index m.planned ≡ m.planned =
    get_or-map planned_of old index m m.planned steps.below ∙ ap planned_of (get_or_from_slice_get old index m m is) in
    ap (map planned_of) steps.item.4 ∙ map-set planned_of old index (with_moved p m)
    ∙ ap (set (map planned_of old) index) (sym there) ∙ set-get_or (map planned_of old) index m.planned

pub stepped_group : (put : Bool) (old new : List Moving) (next index : ℕ)
    → IsGroup (record { put = put; items = old }) next → StepsAt old new next index → All IsMoving new
    → IsGroup (record { put = put; items = new }) index
stepped_group put old new next index is steps moving =
    let m = steps.item.0 in
    let p = steps.item.1 in
    let Side : Moving → Type 0 = λ m. m.put ≡ put in
    let side : Side m =
    subst Side (get_or_from_slice_get old index m m steps.item.2) (All-get_or Side old index m steps.below is.sides) in
    let front : take index new ≡ take index old = ap (take index) steps.item.4 ∙ take-set old index (with_moved p m) in
    record {
      moving = moving;
      sides = subst (All Side) (sym steps.item.4) (All-set Side old index (with_moved p m) side is.sides);
      number = (let below : index < length old = steps.below in
          let same : length new ≡ length old = ap length steps.item.4 ∙ length-set old index (with_moved p m) in
          omega (arith, below, same));
      passed = ap (flat_map left_of) front ∙ passed_before old next index steps.from is.passed steps.passed;
    }

pub moves_next : (put : Bool) (old new : List Moving) (next index : ℕ)
    → IsGroup (record { put = put; items = old }) next → StepsAt old new next index
    → (p : Piece) × MovesNext (record { put = put; items = old }) (record { put = put; items = new }) p
moves_next put old new next index is steps =
    let m = steps.item.0 in
    let p = steps.item.1 in
    let first : left_of m ≡ p ∷ left_of (with_moved p m) = steps.item.3 in
    let before = take index old in
    let after = drop (suc index) old in
    let none : flat_map left_of before ≡ [] = passed_before old next index steps.from is.passed steps.passed in
    let whole : old ≡ before ++ m ∷ after = round old index m steps.item.2 in
    let now : new ≡ before ++ with_moved p m ∷ after =
    steps.item.4 ∙ set_split old index (with_moved p m) steps.below in
    let left_at : (x : Moving) → flat_map left_of (before ++ x ∷ after) ≡ left_of x ++ flat_map left_of after =
    λ x. flat_map-append left_of before (x ∷ after)
    ∙ ap (λ ps. ps ++ (left_of x ++ flat_map left_of after)) none in (
      p,
      record {
        same_side = refl;
        first = ap (flat_map left_of) whole ∙ left_at m ∙ ap (λ ps. ps ++ flat_map left_of after) first
            ∙ ap (λ ps. p ∷ ps) (sym (ap (flat_map left_of) now ∙ left_at (with_moved p m)));
        item = (before, after, m, none, first, whole, now);
      },
    )

pub nothing_left : (ms : List Moving) (next : ℕ) → flat_map left_of (take next ms) ≡ []
    → flat_map left_of (drop next ms) ≡ [] → flat_map left_of ms ≡ []
nothing_left ms next first then =
    ap (flat_map left_of) (sym (take-append-drop next ms)) ∙ flat_map-append left_of (take next ms) (drop next ms)
    ∙ ap (λ ps. ps ++ flat_map left_of (drop next ms)) first ∙ then

-- the bytes of a group that is begun
pub bytes_got : (items : List Item)
    → sum_by (λ item. bytes_of (planned_get item)) items ≡ sum_by bytes_of (map planned_of (map begun_get items))
bytes_got [] = refl
bytes_got (x ∷ xs) =
    sum_by-cons (λ item. bytes_of (planned_get item)) x xs
    ∙ ap (λ n. bytes_of (planned_get x) + n) (bytes_got xs)
    ∙ sym (sum_by-cons bytes_of (planned_get x) (map planned_of (map begun_get xs)))

pub bytes_put : (items : List (Contents × ℕ))
    → sum_by (λ item. bytes_of (planned_put item)) items ≡ sum_by bytes_of (map planned_of (map begun_put items))
bytes_put [] = refl
bytes_put (x ∷ xs) =
    sum_by-cons (λ item. bytes_of (planned_put item)) x xs
    ∙ ap (λ n. bytes_of (planned_put x) + n) (bytes_put xs)
    ∙ sym (sum_by-cons bytes_of (planned_put x) (map planned_of (map begun_put xs)))

-- all items of a get group, or of a put group, are on its side
pub sides_got : (items : List Item) → All (λ (m : Moving). m.put ≡ false) (map begun_get items)
sides_got [] = All-nil (λ (m : Moving). m.put ≡ false)
sides_got (x ∷ xs) = All-cons (λ (m : Moving). m.put ≡ false) (begun_get x) (map begun_get xs) refl (sides_got xs)

pub sides_put : (items : List (Contents × ℕ)) → All (λ (m : Moving). m.put ≡ true) (map begun_put items)
sides_put [] = All-nil (λ (m : Moving). m.put ≡ true)
sides_put (x ∷ xs) = All-cons (λ (m : Moving). m.put ≡ true) (begun_put x) (map begun_put xs) refl (sides_put xs)

abbrev pub Target : Type 0
Target = Vec ℕ Global

abbrev pub zeros_of : Contents × ℕ → List ℕ
zeros_of item = replicate (length item.0.bytes) 0

-- an item of a put group, beside its zeros
pub record IsPair (x : (Contents × ℕ) × Target) : Type 0 where
  pub width : IsPutItem x.0
  pub zeros : x.1.items ≡ zeros_of x.0

pub each_pair : (items : List (Contents × ℕ)) (targets : List Target)
    → map (λ (z : Target). z.items) targets ≡ map zeros_of items → All IsPutItem items → All IsPair (zip items targets)
each_pair [] targets same each = All-nil IsPair
each_pair (x ∷ xs) [] same each = All-nil IsPair
each_pair (x ∷ xs) (t ∷ ts) same each =
    All-cons IsPair (x, t) (zip xs ts)
    (record { width = All-head IsPutItem x xs each; zeros = ap (head_or t.items) same })
    (each_pair xs ts (ap tail same) (All-tail IsPutItem x xs each))

-- each item has its zeros
pub first_of_zip : (items : List (Contents × ℕ)) (targets : List Target)
    → map (λ (z : Target). z.items) targets ≡ map zeros_of items
    → map (λ (x : (Contents × ℕ) × Target). begun_put x.0) (zip items targets) ≡ map begun_put items
first_of_zip [] targets same = refl
first_of_zip (x ∷ xs) [] same = absurd cc
first_of_zip (x ∷ xs) (t ∷ ts) same = ap (λ ms. begun_put x ∷ ms) (first_of_zip xs ts (ap tail same))

-- the sum of the pieces of a put item
pub bytes_of_put : (x : Contents × ℕ) → IsPutItem x → bytes_of (planned_put x) ≡ length x.0.bytes
bytes_of_put x is = sum_pieces (length x.0.bytes) x.1 is

-- a group of which nothing is moved
pub group_begun : (put : Bool) (items : List Moving) → All IsMoving items → All (λ (m : Moving). m.put ≡ put) items
    → IsGroup (record { put = put; items = items }) 0
group_begun put items moving sides = record { moving = moving; sides = sides; number = omega arith; passed = refl }

abbrev bytes_at : Planned → List ℕ
bytes_at item = item.bytes

-- once no piece is left, the copies of a put group are the planned bytes, and a get group has none
copies_put : (ms : List Moving) → All IsMoving ms → All (λ (m : Moving). m.put ≡ true) ms → flat_map left_of ms ≡ []
    → flat_map copy_of ms ≡ map bytes_at (map planned_of ms)
copies_put [] each sides none = refl
copies_put (m ∷ ms) each sides none =
    let Side : Moving → Type 0 = λ m. m.put ≡ true in
    let first = (All-head IsMoving m ms each).whole (nil_left (left_of m) (flat_map left_of ms) none) in
    let rest = copies_put ms (All-tail IsMoving m ms each) (All-tail Side m ms sides)
    (nil_right (left_of m) (flat_map left_of ms) none) in
    ap (λ b. cond b (m.target ∷ []) [] ++ flat_map copy_of ms) (All-head Side m ms sides)
    ∙ ap (λ bs. bs ∷ flat_map copy_of ms) first ∙ ap (λ bss. bytes_at m.planned ∷ bss) rest

copies_get : (ms : List Moving) → All (λ (m : Moving). m.put ≡ false) ms → flat_map copy_of ms ≡ []
copies_get [] sides = refl
copies_get (m ∷ ms) sides =
    let Side : Moving → Type 0 = λ m. m.put ≡ false in
    ap (λ b. cond b (m.target ∷ []) [] ++ flat_map copy_of ms) (All-head Side m ms sides)
    ∙ copies_get ms (All-tail Side m ms sides)

copies_by : (put : Bool) (ms : List Moving) → All IsMoving ms → All (λ (m : Moving). m.put ≡ put) ms
    → flat_map left_of ms ≡ [] → flat_map copy_of ms ≡ cond put (map bytes_at (map planned_of ms)) []
copies_by true ms each sides none = copies_put ms each sides none
copies_by false ms each sides none = copies_get ms sides

pub whole_copies : (group : Underway) (next : ℕ) → IsGroup group next → left group ≡ []
    → flat_map copy_of group.items ≡ cond group.put (map (λ (item : Planned). item.bytes) (plan_of group).items) []
whole_copies group next is none = copies_by group.put group.items is.moving is.sides none
