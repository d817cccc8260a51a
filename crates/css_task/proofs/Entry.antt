-- Before its entry a task's memory is the room of the task by itself.
use Rattle.std.proofs.Common.{◌≡◌, ℕ, zero, suc, ◌+◌, ◌-◌, ◌*◌, ◌<◌, ◌≤◌, Bool, true, false, not, ◌&&◌, ◌||◌, List, [], ◌∷◌, length, replicate, get_or, slice_get, All, Option, Some, None, inl, inr, refl, ap, ap₂, sym, subst, ◌∙◌, arith}
use Rattle.std.specs.List.{list_any}
use Rattle.std.proofs.lemmas.Bool.{cases_lt, and_from}
use Rattle.std.proofs.lemmas.List.{length-append, length-replicate}
use Rattle.std.proofs.lemmas.Option.{slice_get_within}
use Rattle.css_base.specs.declared.direction.Direction.{Direction}
use Rattle.css_base.specs.declared.direction.Direction.TheVariants as directions
use Rattle.css_semantics.specs.Tasks.{Use, window_length, has_byte, reads, writes}
use Rattle.css_semantics.specs.Alone.{at_entry}
use Rattle.css_record.specs.Windows.{IsWindow}
use Rattle.css_record.specs.Records.{AllAgree, IsClearOfStack, InputsFit}
use Rattle.css_task.specs.OffsetSets.{has_bit}
use Rattle.css_task.specs.Rooms.{Room}
use Rattle.css_task.specs.Cells.{window_addresses, addresses, flags, cell, is_set, Kept, room}
use Rattle.css_semantics.specs.TaskSpaces.{TaskState}
use Rattle.css_task.specs.declared.placed.Placed.{Placed}
use Rattle.css_task.specs.Placing.{uses_of, ArePlaced}
use Rattle.css_task.specs.IsRoom.{kept_with, IsRoom}
use Rattle.css_task.specs.Keeping.{is_fixed, IsFixed, Agree, AreKept, listed, kept}
use Rattle.css_task.specs.GivenBytes.{given_bytes, is_new, entry_with}
use Rattle.css_task.proofs.Rows.{get-left, get-behind, has_found}
use Rattle.css_task.proofs.Found.{length-window, length-flags, replicate_at, cell_found, kind_found}
use Rattle.css_task.proofs.KeptRooms.{cell_at}
use Rattle.css_task.proofs.RoomWorlds.{same_everywhere, room_of}
use Rattle.css_task.proofs.Entering.{given_agree, given_long, given_clear}
use Rattle.css_task.proofs.EntryBytes.{given_look}

-- ---- the window of an offset

-- a window that has an offset, by its flags
pub record OfOffset (uses : List Use) (k : ℕ) : Type 0 where
  pub one : Use
  pub flagged : (flag : Use → Bool) → slice_get (flags flag uses) k ≡ Some (flag one)
  pub there : (at : ℕ) → slice_get (addresses uses) k ≡ Some at → (flag : Use → Bool) → flag one ≡ true → list_any (λ u. flag u && has_byte u.window at) uses ≡ true

or_first : (a b : Bool) → a ≡ true → (a || b) ≡ true
or_first a b is = ap (λ a. a || b) is

or_second : (a b : Bool) → b ≡ true → (a || b) ≡ true
or_second true b is = refl
or_second false b is = is

pub use_of_offset : (uses : List Use) (k : ℕ) → k < length (addresses uses) → OfOffset uses k
use_of_offset [] k below = absurd (omega (arith, below))
use_of_offset (u ∷ uses) k below =
    let n = window_length u.window in
    elim (cases_lt k n) [
      | inl here ↦ record {
        one = u;
        flagged = λ flag.
            get-left (replicate n (flag u)) (flags flag uses) k (omega (arith, here, length-replicate {A = Bool} n (flag u))) ∙ replicate_at (flag u) n k here;
        there = λ at is flag of.
            let first = sym (get-left (window_addresses u.window) (addresses uses) k (omega (arith, here, length-window u.window))) ∙ is in
            or_first (flag u && has_byte u.window at) (list_any (λ u. flag u && has_byte u.window at) uses) (and_from (flag u) (has_byte u.window at) of (has_found u.window k at first));
      }
      | inr above ↦
          let within : k - n < length (addresses uses) = omega (arith, below, above, length-append (window_addresses u.window) (addresses uses), length-window u.window) in
          let later = use_of_offset uses (k - n) within in
          record {
            one = later.one;
            flagged = λ flag. get-behind (replicate n (flag u)) (flags flag uses) n k (length-replicate {A = Bool} n (flag u)) above ∙ later.flagged flag;
            there = λ at is flag of.
                let rest = sym (get-behind (window_addresses u.window) (addresses uses) n k (length-window u.window) above) ∙ is in
                or_second (flag u && has_byte u.window at) (list_any (λ u. flag u && has_byte u.window at) uses) (later.there at rest flag of);
          }
    ]

-- ---- flags

get_or_none : (fs : List Bool) (k : ℕ) → length fs ≤ k → get_or fs k false ≡ false
get_or_none [] k above = refl
get_or_none (f ∷ fs) zero above = absurd (omega (arith, above))
get_or_none (f ∷ fs) (suc k) above = get_or_none fs k (omega (arith, above))

get_or_at : (fs : List Bool) (k : ℕ) (f : Bool) → slice_get fs k ≡ Some f → get_or fs k false ≡ f
get_or_at [] k f is = absurd (cc)
get_or_at (g ∷ fs) zero f is = cc is
get_or_at (g ∷ fs) (suc k) f is = get_or_at fs k f is

-- a window that may not be written isn't one whose bytes are yet to be written
not_new : (d : Direction) → not (writes d) ≡ true → not (reads d) ≡ false
not_new directions.In fixed = refl
not_new directions.Out fixed = absurd (cc)
not_new directions.InOut fixed = refl

some_is : (a b : Bool) → Some a ≡ Some b → a ≡ b
some_is a b is = cc is

not_both : (b : Bool) → b ≡ true → b ≡ false → ⊥
not_both true is is' = absurd (cc)
not_both false is is' = absurd (cc)

both_ways : (a b : Bool) → (a ≡ true → b ≡ true) → (b ≡ true → a ≡ true) → a ≡ b
both_ways true b to from = sym (to refl)
both_ways false true to from = from refl
both_ways false false to from = refl

and_not_false : (b : Bool) → b ≡ (b && true)
and_not_false true = refl
and_not_false false = refl

module _ (uses : List Use) where
  fixed_is : (k : ℕ) → k < length (addresses uses) → IsFixed uses k → get_or (flags is_new uses) k false ≡ false
  fixed_is k below fixed =
      let of = use_of_offset uses k below in
      get_or_at (flags is_new uses) k (is_new of.one) (of.flagged is_new)
      ∙ not_new of.one.direction (sym (some_is true (is_fixed of.one) (sym fixed ∙ of.flagged is_fixed)))

  pub fixed_known : (k : ℕ) → IsFixed uses k → get_or (flags is_new uses) k false ≡ false
  fixed_known k fixed = fixed_is k (omega (arith, slice_get_within (flags is_fixed uses) k true fixed, length-flags is_fixed uses)) fixed

  pub none_beyond : (k : ℕ) → length (addresses uses) ≤ k → get_or (flags is_new uses) k false ≡ false
  none_beyond k above = get_or_none (flags is_new uses) k (omega (arith, above, length-flags is_new uses))

  module _ (inputs : List (List ℕ)) (windows : All (λ u. IsWindow u.window) uses) (agree : AllAgree uses) (fit : InputsFit uses inputs) (at : ℕ) where
    -- a byte that is flagged as new is in a window that is only written
    set_gives : (o : Option ℕ) → cell (addresses uses) at ≡ o → is_set (flags is_new uses) o ≡ true → list_any (λ u. is_new u && has_byte u.window at) uses ≡ true
    set_gives None is set = absurd (cc)
    set_gives (Some k) is set =
        let there = cell_at (addresses uses) at k is in
        let of = use_of_offset uses k (slice_get_within (addresses uses) k at there) in
        of.there at there is_new (sym (get_or_at (flags is_new uses) k (is_new of.one) (of.flagged is_new)) ∙ set)

    new_at : (i k : ℕ) → slice_get (addresses uses) k ≡ Some at → slice_get (flags is_new uses) k ≡ Some true → Agree uses (given_bytes uses inputs) i k → get_or (flags is_new uses) i false ≡ true
    new_at i k there new (inl same) = ap (λ i. get_or (flags is_new uses) i false) same ∙ get_or_at (flags is_new uses) k true new
    new_at i k there new (inr fixed) = absurd (not_both (get_or (flags is_new uses) k false) (get_or_at (flags is_new uses) k true new) (fixed_known k fixed.1))

    -- and a byte of such a window is flagged so
    gives_set : list_any (λ u. is_new u && has_byte u.window at) uses ≡ true → is_set (flags is_new uses) (cell (addresses uses) at) ≡ true
    gives_set any =
        let found = kind_found is_new uses at any in
        let first = cell_found (addresses uses) found.0 at found.1 in
        let there = cell_at (addresses uses) at first.0 first.1 in
        ap (is_set (flags is_new uses)) first.1
        ∙ new_at first.0 found.0 found.1 found.2 (given_agree uses inputs windows agree fit first.0 found.0 at there found.1)

    pub entry_flag : is_set (flags is_new uses) (cell (addresses uses) at) ≡ (list_any (λ u. is_new u && has_byte u.window at) uses && true)
    entry_flag =
        both_ways (is_set (flags is_new uses) (cell (addresses uses) at)) (list_any (λ u. is_new u && has_byte u.window at) uses) (set_gives (cell (addresses uses) at) refl) gives_set
        ∙ and_not_false (list_any (λ u. is_new u && has_byte u.window at) uses)

pub entry_room : (uses : List Use) (inputs : List (List ℕ)) (place : ℕ) → All (λ u. IsWindow u.window) uses → AllAgree uses → InputsFit uses inputs
    → room (entry_with uses inputs place) ≡ room_of (at_entry uses inputs place)
entry_room uses inputs place windows agree fit =
    ap₂ (λ (bytes : ℕ → Option ℕ) (unwritten : ℕ → Bool). let r : Room = record {
      uses = uses;
      place = place;
      stack = [];
      frames = [];
      bytes = bytes;
      unwritten = unwritten;
    } in r)
    (same_everywhere _ _ (λ at. sym (given_look uses inputs at fit)))
    (same_everywhere _ _ (λ at. entry_flag uses inputs windows agree fit at))

-- ---- the set of offsets before the entry

listed_same : (has : ℕ → Bool) (from : ℕ) (all : List ℕ) (fs : List Bool) → length fs ≡ length all → ((k : ℕ) → has (from + k) ≡ get_or fs k false) → listed has from all ≡ fs
listed_same has from [] [] long same = refl
listed_same has from [] (f ∷ fs) long same = absurd (cc)
listed_same has from (a ∷ all) [] long same = absurd (cc)
listed_same has from (a ∷ all) (f ∷ fs) long same =
    let here : from ≡ from + 0 = omega arith in
    let next : (k : ℕ) → from + 1 + k ≡ from + suc k = λ k. omega arith in
    ap₂ (λ b bs. b ∷ bs) (ap has here ∙ same 0) (listed_same has (from + 1) all fs (omega (arith, long)) (λ k. ap has (next k) ∙ same (suc k)))

module _ (uses : List Use) (words : List ℕ) (are : (k : ℕ) → has_bit words k ≡ get_or (flags is_new uses) k false) where
  pub entry_listed : listed (has_bit words) 0 (addresses uses) ≡ flags is_new uses
  entry_listed =
      let none : (k : ℕ) → 0 + k ≡ k = λ k. omega arith in
      listed_same (has_bit words) 0 (addresses uses) (flags is_new uses) (length-flags is_new uses) (λ k. ap (has_bit words) (none k) ∙ are k)

  pub entry_kept : (inputs : List (List ℕ)) (place : ℕ) → All (λ u. IsWindow u.window) uses → AllAgree uses → InputsFit uses inputs → 16384 ≤ place → All (IsClearOfStack place) uses
      → length (addresses uses) ≤ 64 * length words → AreKept uses place (given_bytes uses inputs) words
  entry_kept inputs place windows agree fit high clear long = record {
    long = given_long uses inputs fit;
    room = long;
    clear = given_clear place uses high clear;
    agree = given_agree uses inputs windows agree fit;
    known = λ k fixed. are k ∙ fixed_known uses k fixed;
    none = λ k above. are k ∙ none_beyond uses k above;
  }

-- the memory that is built of these is a room, and the one before the entry
module _ (all : List Placed) (us : List Use) (inputs : List (List ℕ)) (place : ℕ) (s : TaskState) (bytes words : List ℕ) (uses_are : uses_of all ≡ us) (bytes_are : bytes ≡ given_bytes us inputs)
    (s_is : s ≡ record { memory = record { regions = []; place = place; stack = [] }; frames = [] }) (are : (k : ℕ) → has_bit words k ≡ get_or (flags is_new (uses_of all)) k false) where
  set_is : (k : ℕ) → has_bit words k ≡ get_or (flags is_new us) k false
  set_is k = are k ∙ ap (λ us. get_or (flags is_new us) k false) uses_are

  pub entry_is_room : ArePlaced all → All (λ u. IsWindow u.window) us → AllAgree us → InputsFit us inputs → 16384 ≤ place → All (IsClearOfStack place) us → length (addresses (uses_of all)) ≤ 64 * length words → IsRoom all s bytes words
  entry_is_room placed windows agree fit high clear long =
      let room : length (addresses us) ≤ 64 * length words = omega (arith, long, ap (λ us. length (addresses us)) uses_are) in
      let kept' : AreKept us place (given_bytes us inputs) words = entry_kept us words set_is inputs place windows agree fit high clear room in
      rw s_is (record {
        placed = placed;
        are = subst (λ us. AreKept us place bytes words) (sym uses_are) (subst (λ bs. AreKept us place bs words) (sym bytes_are) kept');
        none = refl;
        whole = refl;
        short = omega arith;
        high = high;
      })

  pub entry_is : kept_with all s bytes words ≡ entry_with us inputs place
  entry_is =
      ap (λ s. kept_with all s bytes words) s_is
      ∙ ap (λ us. kept us place [] [] bytes words) uses_are
      ∙ ap (λ bs. kept us place [] [] bs words) bytes_are
      ∙ ap (λ fs. let k : Kept = record { uses = us; place = place; stack = []; frames = []; bytes = given_bytes us inputs; unwritten = fs } in k) (entry_listed us words set_is)
