-- Loads and stores in a task's memory as code keeps it: in one of its windows, and in its stack.
use Rattle.std.proofs.Common.{◌≡◌, ℕ, zero, suc, ◌+◌, ◌-◌, ◌<◌, ◌≤◌, Bool, true, false, not, ◌&&◌, List, [], ◌∷◌, length, take, drop, slice_get, slice_index, nat_le, nat_lt, Option, Some, None, option_map, unwrap_or, inl, inr, refl, ap, ap₂, sym, ◌∙◌, arith, if◌then◌else◌}
use Rattle.std.specs.List.{list_any}
use Rattle.std.proofs.Math.Seq.{drop-cons}
use Rattle.std.proofs.lemmas.Bool.{and_parts, leb-true, ltb-true, cases_lt}
use Rattle.std.proofs.lemmas.Bool.Decides.{nat_tests}
use Rattle.css_semantics.specs.Memory.{is_between, all_from, overlaid}
use Rattle.css_semantics.specs.Tasks.{Use, writes, has_byte}
use Rattle.css_semantics.specs.Pending.{some_from}
use Rattle.css_semantics.specs.Rules.{is_given_for}
use Rattle.css_task.specs.OffsetSets.{has_bit}
use Rattle.css_task.specs.Rooms.{byte_of, bytes_from, body_of, new_byte}
use Rattle.css_task.specs.Cells.{addresses, flags, cell, is_set, stored_at, unset_at, Kept, room}
use Rattle.css_task.specs.Keeping.{is_fixed, IsFixed, Agree, AreKept, listed, kept}
use Rattle.css_task.proofs.KeptRooms.{cell_at, stored_byte}
use Rattle.css_task.proofs.Found.{cell_found, kind_found, listed_at}

none_by : (b : Bool) → (b ≡ true → ⊥) → b ≡ false
none_by true never = absurd (never refl)
none_by false never = refl

between_parts : (from to a : ℕ) → is_between from to a ≡ true → (from ≤ a) × (a < to)
between_parts from to a h =
    let parts = and_parts (nat_le from a) (nat_lt a to) h in
    (leb-true from a parts.0, ltb-true a to parts.1)

between_by : (from to a : ℕ) → from ≤ a → a < to → is_between from to a ≡ true
between_by from to a above below = grind (arith, nat_tests)

-- ---- a test of some bytes

all_same : (f g : ℕ → Bool) (address index count : ℕ) → ((t : ℕ) → t < count → f (address + t) ≡ g (index + t)) → all_from f address count ≡ all_from g index count
all_same f g address index zero each = refl
all_same f g address index (suc count) each =
    let first : address + 0 ≡ address = omega arith in
    let first' : index + 0 ≡ index = omega arith in
    let next : (t : ℕ) → address + 1 + t ≡ address + suc t = λ t. omega arith in
    let next' : (t : ℕ) → index + 1 + t ≡ index + suc t = λ t. omega arith in
    ap₂ (λ a b. a && b) (ap f (sym first) ∙ each 0 (omega arith) ∙ ap g first')
    (all_same f g (address + 1) (index + 1) count (λ t below. ap f (next t) ∙ each (suc t) (omega (arith, below)) ∙ ap g (sym (next' t))))

pub some_same : (f g : ℕ → Bool) (address index count : ℕ) → ((t : ℕ) → t < count → f (address + t) ≡ g (index + t)) → some_from f address count ≡ some_from g index count
some_same f g address index count each = ap not (all_same (λ a. not (f a)) (λ a. not (g a)) address index count (λ t below. ap not (each t below)))

none_all : (f : ℕ → Bool) (address count : ℕ) → ((t : ℕ) → t < count → f (address + t) ≡ false) → all_from (λ a. not (f a)) address count ≡ true
none_all f address zero each = refl
none_all f address (suc count) each =
    let first : address ≡ address + 0 = omega arith in
    let next : (t : ℕ) → address + 1 + t ≡ address + suc t = λ t. omega arith in
    let here : f address ≡ false = ap f first ∙ each 0 (omega arith) in
    rw (here, none_all f (address + 1) count (λ t below. ap f (next t) ∙ each (suc t) (omega (arith, below))))

pub none_of : (f : ℕ → Bool) (address count : ℕ) → ((t : ℕ) → t < count → f (address + t) ≡ false) → some_from f address count ≡ false
none_of f address count each = ap not (none_all f address count each)

pub first_of : (f : ℕ → Bool) (address count : ℕ) → 1 ≤ count → f address ≡ true → some_from f address count ≡ true
first_of f address zero some held = absurd (omega (arith, some))
first_of f address (suc count) some held = rw held

all_gives : (f : ℕ → Bool) (address count : ℕ) → all_from (λ a. not (f a)) address count ≡ true → (t : ℕ) → t < count → not (f (address + t)) ≡ true
all_gives f address zero all t below = absurd (omega (arith, below))
all_gives f address (suc count) all zero below =
    let first : address ≡ address + 0 = omega arith in
    ap (λ n. not (f n)) (sym first) ∙ (and_parts (not (f address)) (all_from (λ a. not (f a)) (address + 1) count) all).0
all_gives f address (suc count) all (suc t) below =
    let next : address + suc t ≡ address + 1 + t = omega arith in
    ap (λ n. not (f n)) next ∙ all_gives f (address + 1) count (and_parts (not (f address)) (all_from (λ a. not (f a)) (address + 1) count) all).1 t (omega (arith, below))

some_by : (f : ℕ → Bool) (address count t : ℕ) → t < count → f (address + t) ≡ true → (b : Bool) → all_from (λ a. not (f a)) address count ≡ b → not b ≡ true
some_by f address count t below held true all = absurd (cc (ap not held, all_gives f address count all t below))
some_by f address count t below held false all = refl

-- one of them passes
pub one_passes : (f : ℕ → Bool) (address count t : ℕ) → t < count → f (address + t) ≡ true → some_from f address count ≡ true
one_passes f address count t below held = some_by f address count t below held (all_from (λ a. not (f a)) address count) refl

not_not : (b : Bool) → not b ≡ false → b ≡ true
not_not true is = refl
not_not false is = absurd (cc)

not_true : (b : Bool) → not b ≡ true → b ≡ false
not_true true is = absurd (cc)
not_true false is = refl

-- one more that doesn't pass
pub none_more : (f : ℕ → Bool) (address count : ℕ) → some_from f address count ≡ false → f (address + count) ≡ false → some_from f address (count + 1) ≡ false
none_more f address count none out =
    none_of f address (count + 1) (λ t below. elim (cases_lt t count) [
      | inl before ↦ not_true (f (address + t)) (all_gives f address count (not_not (all_from (λ a. not (f a)) address count) none) t before)
      | inr behind ↦
          let same : t ≡ count = omega (arith, below, behind) in
          ap (λ n. f (address + n)) same ∙ out
    ])

-- ---- the bytes of a task

module _ (uses : List Use) (end : ℕ) (stack frames bytes words : List ℕ) (are : AreKept uses end bytes words) (short : length stack ≤ 16384) (high : 16384 ≤ end) where
  abbrev m : Kept
  m = kept uses end stack frames bytes words

  -- what an offset has, its address has
  byte_by : (k at i : ℕ) → slice_get (addresses uses) k ≡ Some at → slice_get (addresses uses) i ≡ Some at → Agree uses bytes i k → slice_index bytes i ≡ slice_index bytes k
  byte_by k at i is is' (inl same) = ap (slice_index bytes) same
  byte_by k at i is is' (inr fixed) = fixed.2

  byte_at : (k at : ℕ) → slice_get (addresses uses) k ≡ Some at → (room m).bytes at ≡ Some (slice_index bytes k)
  byte_at k at is =
      let found = cell_found (addresses uses) k at is in
      let there = cell_at (addresses uses) at found.0 found.1 in
      ap (option_map (slice_index bytes)) found.1 ∙ ap Some (byte_by k at found.0 is there (are.agree found.0 k at there is))

  flag_by : (k i : ℕ) → Agree uses bytes i k → has_bit words i ≡ has_bit words k
  flag_by k i (inl same) = ap (has_bit words) same
  flag_by k i (inr fixed) = are.known i fixed.0 ∙ sym (are.known k fixed.1)

  pub flag_at : (k at : ℕ) → slice_get (addresses uses) k ≡ Some at → (room m).unwritten at ≡ has_bit words k
  flag_at k at is =
      let found = cell_found (addresses uses) k at is in
      let there = cell_at (addresses uses) at found.0 found.1 in
      let from : 0 + found.0 ≡ found.0 = omega arith in
      ap (is_set m.unwritten) found.1 ∙ listed_at (has_bit words) 0 (addresses uses) found.0 at there ∙ ap (has_bit words) from
      ∙ flag_by k found.0 (are.agree found.0 k at there is)

  out_of_stack : (k at : ℕ) → slice_get (addresses uses) k ≡ Some at → is_between (end - length stack) end at ≡ false
  out_of_stack k at is = none_by (is_between (end - length stack) end at) (λ inside.
      let parts = between_parts (end - length stack) end at inside in
      elim (are.clear k at is) [
        | inl below ↦ absurd (omega (arith, below, parts.0, short, high))
        | inr above ↦ absurd (omega (arith, above, parts.1))
      ])

  -- ---- in a window

  module _ (address index count : ℕ) (stand : (t : ℕ) → t < count → slice_get (addresses uses) (index + t) ≡ Some (address + t)) where
    pub flags_same : some_from (room m).unwritten address count ≡ some_from (has_bit words) index count
    flags_same = some_same (room m).unwritten (has_bit words) address index count (λ t below. flag_at (index + t) (address + t) (stand t below))

  room_byte : (k at : ℕ) → slice_get (addresses uses) k ≡ Some at → byte_of (room m) at ≡ slice_index bytes k
  room_byte k at is =
      ap (λ b. if b then slice_index stack (at - (end - length stack)) else unwrap_or ((room m).bytes at) 0) (out_of_stack k at is)
      ∙ ap (λ o. unwrap_or o 0) (byte_at k at is)

  pub window_bytes : (address index count : ℕ) → index + count ≤ length bytes → ((t : ℕ) → t < count → slice_get (addresses uses) (index + t) ≡ Some (address + t))
      → bytes_from (room m) address count ≡ take count (drop index bytes)
  window_bytes address index zero within stand = refl
  window_bytes address index (suc count) within stand =
      let first : index + 0 ≡ index = omega arith in
      let first' : address + 0 ≡ address = omega arith in
      let next : (t : ℕ) → index + 1 + t ≡ index + suc t = λ t. omega arith in
      let next' : (t : ℕ) → address + suc t ≡ address + 1 + t = λ t. omega arith in
      let on : suc index ≡ index + 1 = omega arith in
      let here = room_byte index address (ap (slice_get (addresses uses)) (sym first) ∙ stand 0 (omega arith) ∙ ap Some first') in
      let rest = window_bytes (address + 1) (index + 1) count (omega (arith, within)) (λ t below. ap (slice_get (addresses uses)) (next t) ∙ stand (suc t) (omega (arith, below)) ∙ ap Some (next' t)) in
      rw (drop-cons bytes index 0 (omega (arith, within)), on) (ap₂ (λ b bs. b ∷ bs) here rest)

  -- ---- in the stack

  -- bytes that are no window's
  abbrev IsClear : ℕ → ℕ → Type 0
  IsClear address count = (t : ℕ) → t < count → (end - 16384 ≤ address + t) × (address + t < end)

  no_window : (k at : ℕ) → end - 16384 ≤ at → at < end → slice_get (addresses uses) k ≡ Some at → ⊥
  no_window k at above below is = elim (are.clear k at is) [
    | inl under ↦ absurd (omega (arith, under, above))
    | inr behind ↦ absurd (omega (arith, behind, below))
  ]

  no_cell : (at : ℕ) (o : Option ℕ) → cell (addresses uses) at ≡ o → end - 16384 ≤ at → at < end → is_set m.unwritten o ≡ false
  no_cell at None is above below = refl
  no_cell at (Some k) is above below = absurd (no_window k at above below (cell_at (addresses uses) at k is))

  pub stack_known : (address count : ℕ) → IsClear address count → some_from (room m).unwritten address count ≡ false
  stack_known address count clear = none_of (room m).unwritten address count (λ t below.
      no_cell (address + t) (cell (addresses uses) (address + t)) refl (clear t below).0 (clear t below).1)

  pub stack_writable : (address count : ℕ) → IsClear address count → some_from (is_given_for (λ d. not (writes d)) (body_of (room m))) address count ≡ false
  stack_writable address count clear = none_of (is_given_for (λ d. not (writes d)) (body_of (room m))) address count (λ t below.
      none_by (list_any (λ u. is_fixed u && has_byte u.window (address + t)) uses) (λ any.
      let found = kind_found is_fixed uses (address + t) any in
      no_window found.0 (address + t) (clear t below).0 (clear t below).1 found.1))

-- ---- stores

never : (f : Bool) → false ≡ (f && false)
never true = refl
never false = refl

always : (f : Bool) → f ≡ (f && true)
always true = refl
always false = refl

new_same : (address index : ℕ) (new : List ℕ) (at k old : ℕ) (b : Bool) → is_between index (index + length new) k ≡ b
    → (b ≡ true → at + index ≡ address + k) → (b ≡ false → is_between address (address + length new) at ≡ false)
    → new_byte index new k old ≡ new_byte address new at old
new_same address index new at k old true is there out =
    let parts = between_parts index (index + length new) k is in
    let same = there refl in
    let inside : is_between address (address + length new) at ≡ true = between_by address (address + length new) at (omega (arith, parts.0, same)) (omega (arith, parts.1, same)) in
    let offset : k - index ≡ at - address = omega (arith, parts.0, same) in
    rw (is, inside, offset)
new_same address index new at k old false is there out = rw (is, out refl)

flag_same : (address index count at k : ℕ) (f : Bool) (b : Bool) → is_between index (index + count) k ≡ b
    → (b ≡ true → at + index ≡ address + k) → (b ≡ false → is_between address (address + count) at ≡ false)
    → (not (is_between index (index + count) k) && f) ≡ (f && not (is_between address (address + count) at))
flag_same address index count at k f true is there out =
    let parts = between_parts index (index + count) k is in
    let same = there refl in
    let inside : is_between address (address + count) at ≡ true = between_by address (address + count) at (omega (arith, parts.0, same)) (omega (arith, parts.1, same)) in
    rw (is, inside) (never f)
flag_same address index count at k f false is there out = rw (is, out refl) (always f)

-- where a store among the bytes is one among the addresses
abbrev pub IsSameStore : (all : List ℕ) (from address index count : ℕ) → Type 0
IsSameStore all from address index count = (k at : ℕ) → slice_get all k ≡ Some at
    → (is_between index (index + count) (from + k) ≡ true → at + index ≡ address + (from + k))
    × (is_between index (index + count) (from + k) ≡ false → is_between address (address + count) at ≡ false)

same_behind : (a : ℕ) (all : List ℕ) (from address index count : ℕ) → IsSameStore (a ∷ all) from address index count → IsSameStore all (from + 1) address index count
same_behind a all from address index count same = λ k at is.
    let on : from + suc k ≡ from + 1 + k = omega arith in
    let found = same (suc k) at is in
    ((λ h. found.0 (ap (is_between index (index + count)) on ∙ h) ∙ ap (λ n. address + n) on), (λ h. found.1 (ap (is_between index (index + count)) on ∙ h)))

pub stores_same : (all bytes : List ℕ) (from address index : ℕ) (new : List ℕ) → length bytes ≡ length all → IsSameStore all from address index (length new)
    → overlaid from bytes index new ≡ stored_at all bytes address new
stores_same [] [] from address index new long same = refl
stores_same [] (b ∷ bytes) from address index new long same = absurd (cc)
stores_same (a ∷ all) [] from address index new long same = absurd (cc)
stores_same (a ∷ all) (b ∷ bytes) from address index new long same =
    let here : from + 0 ≡ from = omega arith in
    let found = same 0 a refl in
    let first = new_same address index new a from b (is_between index (index + length new) from) refl
    (λ h. found.0 (ap (is_between index (index + length new)) here ∙ h) ∙ ap (λ n. address + n) here)
    (λ h. found.1 (ap (is_between index (index + length new)) here ∙ h)) in
    ap₂ (λ b bs. b ∷ bs) first (stores_same all bytes (from + 1) address index new (omega (arith, long)) (same_behind a all from address index (length new) same))

pub flags_stored : (all : List ℕ) (has has' : ℕ → Bool) (from address index count : ℕ) → ((k : ℕ) → has' k ≡ (not (is_between index (index + count) k) && has k)) → IsSameStore all from address index count
    → listed has' from all ≡ unset_at all (listed has from all) address count
flags_stored [] has has' from address index count each same = refl
flags_stored (a ∷ all) has has' from address index count each same =
    let here : from + 0 ≡ from = omega arith in
    let found = same 0 a refl in
    let first = each from ∙ flag_same address index count a from (has from) (is_between index (index + count) from) refl
    (λ h. found.0 (ap (is_between index (index + count)) here ∙ h) ∙ ap (λ n. address + n) here)
    (λ h. found.1 (ap (is_between index (index + count)) here ∙ h)) in
    ap₂ (λ b bs. b ∷ bs) first (flags_stored all has has' (from + 1) address index count each (same_behind a all from address index count same))

-- what isn't stored into stays
pub kept_bytes : (all bytes : List ℕ) (address : ℕ) (new : List ℕ) → length bytes ≡ length all → ((k at : ℕ) → slice_get all k ≡ Some at → is_between address (address + length new) at ≡ false)
    → bytes ≡ stored_at all bytes address new
kept_bytes [] [] address new long out = refl
kept_bytes [] (b ∷ bytes) address new long out = absurd (cc)
kept_bytes (a ∷ all) [] address new long out = absurd (cc)
kept_bytes (a ∷ all) (b ∷ bytes) address new long out =
    let here = out 0 a refl in
    rw here (ap (λ bs. b ∷ bs) (kept_bytes all bytes address new (omega (arith, long)) (λ k at is. out (suc k) at is)))

pub kept_flags : (all : List ℕ) (has : ℕ → Bool) (from address count : ℕ) → ((k at : ℕ) → slice_get all k ≡ Some at → is_between address (address + count) at ≡ false)
    → listed has from all ≡ unset_at all (listed has from all) address count
kept_flags [] has from address count out = refl
kept_flags (a ∷ all) has from address count out =
    let here = out 0 a refl in
    rw here (ap₂ (λ b bs. b ∷ bs) (always (has from)) (kept_flags all has (from + 1) address count (λ k at is. out (suc k) at is)))

module _ (uses : List Use) (end : ℕ) (bytes words : List ℕ) (are : AreKept uses end bytes words) (address index count : ℕ)
    (stand : (t : ℕ) → t < count → slice_get (addresses uses) (index + t) ≡ Some (address + t)) (written : (t : ℕ) → t < count → IsFixed uses (index + t) → ⊥) where
  one_place : (t k : ℕ) → t < count → Agree uses bytes k (index + t) → k ≡ index + t
  one_place t k below (inl same) = same
  one_place t k below (inr fixed) = absurd (written t below fixed.1)

  -- a store in a window that may be written is one among the addresses
  pub same_store : IsSameStore (addresses uses) 0 address index count
  same_store = λ k at is. (
    (λ inside.
        let parts = between_parts index (index + count) (0 + k) inside in
        let below : k - index < count = omega (arith, parts.0, parts.1) in
        let there : index + (k - index) ≡ k = omega (arith, parts.0) in
        let same : Some at ≡ Some (address + (k - index)) = sym is ∙ ap (slice_get (addresses uses)) (sym there) ∙ stand (k - index) below in
        let is_at : at ≡ address + (k - index) = cc same in
        omega (arith, is_at, there)),
    (λ outside. none_by (is_between address (address + count) at) (λ inside.
        let parts = between_parts address (address + count) at inside in
        let below : at - address < count = omega (arith, parts.0, parts.1) in
        let there : address + (at - address) ≡ at = omega (arith, parts.0) in
        let placed = one_place (at - address) k below (are.agree k (index + (at - address)) at is (stand (at - address) below ∙ ap Some there)) in
        let within = between_by index (index + count) (0 + k) (omega (arith, placed)) (omega (arith, placed, below)) in
        absurd (cc (within, outside)))),
  )

  -- no byte of it is one that may not be written
  pub writable : some_from (λ at. list_any (λ u. is_fixed u && has_byte u.window at) uses) address count ≡ false
  writable = none_of (λ at. list_any (λ u. is_fixed u && has_byte u.window at) uses) address count (λ t below.
      none_by (list_any (λ u. is_fixed u && has_byte u.window (address + t)) uses) (λ any.
      let found = kind_found is_fixed uses (address + t) any in
      let placed = one_place t found.0 below (are.agree found.0 (index + t) (address + t) found.1 (stand t below)) in
      written t below (ap (slice_get (flags is_fixed uses)) (sym placed) ∙ found.2)))

-- what is kept behind a store
module _ (uses : List Use) (end : ℕ) (bytes words words' : List ℕ) (are : AreKept uses end bytes words) (address : ℕ) (new : List ℕ)
    (as_many : length words' ≡ length words) (fewer : (k : ℕ) → has_bit words k ≡ false → has_bit words' k ≡ false) where
  long_stored : (all old : List ℕ) → length old ≡ length all → length (stored_at all old address new) ≡ length all
  long_stored [] old long = refl
  long_stored (a ∷ all) [] long = absurd (cc)
  long_stored (a ∷ all) (b ∷ old) long = ap suc (long_stored all old (omega (arith, long)))

  still_agree : (i k at : ℕ) → slice_get (addresses uses) i ≡ Some at → slice_get (addresses uses) k ≡ Some at → Agree uses bytes i k → Agree uses (stored_at (addresses uses) bytes address new) i k
  still_agree i k at is is' (inl same) = inl same
  still_agree i k at is is' (inr fixed) = inr (
    fixed.0,
    fixed.1,
    stored_byte (addresses uses) bytes address new i at is ∙ ap (new_byte address new at) fixed.2 ∙ sym (stored_byte (addresses uses) bytes address new k at is'),
  )

  pub are_kept : AreKept uses end (stored_at (addresses uses) bytes address new) words'
  are_kept = record {
    long = long_stored (addresses uses) bytes are.long;
    room = omega (arith, are.room, as_many);
    clear = are.clear;
    agree = λ i k at is is'. still_agree i k at is is' (are.agree i k at is is');
    known = λ k fixed. fewer k (are.known k fixed);
    none = λ k above. fewer k (are.none k above);
  }
