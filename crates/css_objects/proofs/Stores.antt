-- What main's stores take out of the table.
use Rattle.std.proofs.Common.{◌≡◌, ℕ, ◌+◌, ◌<◌, ◌≤◌, Bool, true, false, not, ◌&&◌, ◌||◌, List, ◌++◌, length, map, filter, slice_get, Option, Some, None, MatchOption, IfSome, ◌⊎◌, inl, inr, refl, sym, ap, ◌∙◌, subst, arith, ◌-◌}
use Rattle.std.specs.List.{list_any, remove}
use Rattle.std.proofs.lemmas.List.{length-map}
use Rattle.std.proofs.lemmas.List.Edits.{remove-append_left, remove-append_right}
use Rattle.std.proofs.lemmas.Option.{slice_get_within}
use Rattle.std.proofs.lemmas.Bool.{cases_order, false≢true, false_from_ne_true}
use Rattle.css_semantics.specs.Tasks.{has_byte}
use Rattle.css_semantics.specs.Pending.{Object, some_from, without_stored}
use Rattle.css_semantics.specs.Rules.{meets}
use Rattle.css_record.specs.declared.window.Window as coded
use Rattle.css_record.specs.Windows.{window}
use Rattle.css_objects.specs.declared.ordered.Found.{Found}
use Rattle.css_semantics.specs.WindowRanges.{window_meets}
use Rattle.css_objects.specs.Ordered.{IsAscending, Stands}
use Rattle.css_arguments.specs.Lists.{Each}
use Rattle.css_objects.specs.Found.{AreRows, NoneMeets, IsLastMeeting, IsGreatestMeeting}
use Rattle.css_objects.specs.Table.{Entry, Table, all_entries, windows, is_written, object, objects, IsTable}
use Rattle.css_objects.specs.declared.search.Place.TheVariants as places
use Rattle.css_objects.specs.Stored.{without_read, IsUntouched, IsTaken, IsLater}
use Rattle.css_objects.proofs.Tables.{none_of_nothing}
use Rattle.css_semantics.proofs.WindowRanges.{some_is_range}
use Rattle.css_objects.proofs.Searches.{base_at}
use Rattle.css_objects.proofs.OneRowSearches.{row_gives, same_place}
use Rattle.css_arguments.proofs.Lists.{any_none, any_one, map_place, place_map, place_left, place_right}
use Rattle.css_objects.proofs.Edits.{map-remove}
use Rattle.css_objects.proofs.Keeping.{filter-all}
use Rattle.css_objects.proofs.Probes.{place_split, entry_window}
use Rattle.css_objects.proofs.Taking.{filter-remove}

-- ---- windows that are looked at one after another, from the last

-- no window from a place on meets a range
pub NoneMeetsFrom : List coded.Window → (from to place : ℕ) → Type 0
NoneMeetsFrom ws from to place = (i : ℕ) (v : coded.Window) → place ≤ i → slice_get ws i ≡ Some v → window_meets (window v) from to ≡ false

pub meets_end : (ws : List coded.Window) (from to : ℕ) → NoneMeetsFrom ws from to (length ws)
unfolding NoneMeetsFrom
meets_end ws from to i v over at = absurd (omega (arith, slice_get_within ws i v at))

pub meets_more : (ws : List coded.Window) (from to : ℕ) (v : coded.Window) (place : ℕ) → slice_get ws place ≡ Some v → window_meets (window v) from to ≡ false
    → NoneMeetsFrom ws from to (place + 1) → NoneMeetsFrom ws from to place
unfolding NoneMeetsFrom
meets_more ws from to v place here none later i x over at =
    elim (cases_order place i) [
      | inl same ↦
          let e = same_place ws place x v (subst (λ (n : ℕ). slice_get ws n ≡ Some x) (sym same) at) here in
          subst (λ y. window_meets (window y) from to ≡ false) (sym e) none
      | inr (inl past) ↦ later i x (omega arith) at
      | inr (inr before) ↦ absurd (omega arith)
    ]

pub meets_all : (ws : List coded.Window) (from to : ℕ) → NoneMeetsFrom ws from to 0 → NoneMeets ws from to
unfolding NoneMeetsFrom
meets_all ws from to none i v at = none i v (omega arith) at

pub meets_last : (ws : List coded.Window) (from to : ℕ) (f : Found) → IsAscending ws → Stands ws f → window_meets (window f.window) from to ≡ true
    → NoneMeetsFrom ws from to (f.place + 1) → IsGreatestMeeting ws from to f
unfolding NoneMeetsFrom
meets_last ws from to f ascends stands meet later = record {
  stands = stands;
  meets = meet;
  greatest = λ i v at also. before i v at also (cases_order i f.place);
}
  where
    before : (i : ℕ) (v : coded.Window) → slice_get ws i ≡ Some v → window_meets (window v) from to ≡ true → (i ≡ f.place) ⊎ ((i < f.place) ⊎ (f.place < i)) → v.base ≤ f.window.base
    before i v at also (inl same) =
        let e = same_place ws f.place v f.window (subst (λ (n : ℕ). slice_get ws n ≡ Some v) same at) stands in
        omega (arith, ap (λ (x : coded.Window). x.base) e)
    before i v at also (inr (inl less)) =
        omega (
          arith,
          base_at ws i v at,
          base_at ws f.place f.window stands,
          ascends.rises i f.place less (omega (arith, length-map ws (λ x. x.base), slice_get_within ws f.place f.window stands)),
        )
    before i v at also (inr (inr more)) = absurd (false≢true (sym (later i v (omega arith) at) ∙ also))

-- the last of windows of one row that meets a range has the greatest base
pub last_is_greatest : (ws : List coded.Window) (from to : ℕ) (f : Found) → AreRows ws → IsLastMeeting ws from to f → IsGreatestMeeting ws from to f
last_is_greatest ws from to f rows last = record {
  stands = last.stands;
  meets = last.meets;
  greatest = λ i v at also.
      let one = row_gives v from to (rows.rows i v at).one also in
      before i v at (last.last i v at one.0) (cases_order i f.place);
}
  where
    before : (i : ℕ) (v : coded.Window) → slice_get ws i ≡ Some v → i ≤ f.place → (i ≡ f.place) ⊎ ((i < f.place) ⊎ (f.place < i)) → v.base ≤ f.window.base
    before i v at up_to (inl same) =
        let e = same_place ws f.place v f.window (subst (λ (n : ℕ). slice_get ws n ≡ Some v) same at) last.stands in
        omega (arith, ap (λ (x : coded.Window). x.base) e)
    before i v at up_to (inr (inl less)) = omega (arith, rows.parted i f.place v f.window less at last.stands)
    before i v at up_to (inr (inr more)) = absurd (omega arith)

-- ---- objects that main's store meets

pub none_any : {X : Type 0} (p : X → Bool) (xs : List X) (i : ℕ) (x : X) → list_any p xs ≡ false → slice_get xs i ≡ Some x → p x ≡ false
none_any p xs i x none at = false_from_ne_true (p x) (λ passes. false≢true (sym none ∙ any_one p xs i x at passes))

module _ (address count : ℕ) (some : 1 ≤ count) (rows blocks : List Entry) (written : List coded.Window) (is : IsTable rows blocks written) where
  abbrev t : Table
  t = record { rows = rows; blocks = blocks }

  -- bytes of an object by their range
  byte_range : (i : ℕ) (e : Entry) → slice_get (rows ++ blocks) i ≡ Some e
      → some_from (has_byte (window e.window)) address count ≡ window_meets (window e.window) address (address + count)
  byte_range i e at = some_is_range (window e.window) address count (entry_window rows blocks written is i e at).width some

  none_met : NoneMeets (windows rows) address (address + count) → NoneMeets (windows blocks) address (address + count) → (i : ℕ) (e : Entry)
      → slice_get (rows ++ blocks) i ≡ Some e → some_from (has_byte (window e.window)) address count ≡ false
  none_met of_rows of_blocks i e at =
      byte_range i e at
      ∙ (elim (place_split rows blocks i e at) [
        | inl here ↦ of_rows i e.window (place_map (λ (x : Entry). x.window) rows i e here)
        | inr later ↦ of_blocks later.0 e.window (place_map (λ (x : Entry). x.window) blocks later.0 e later.2)
      ])

  pub untouched : NoneMeets (windows rows) address (address + count) → NoneMeets (windows blocks) address (address + count) → IsUntouched t address count t
  untouched of_rows of_blocks = record {
    none =
        any_none (λ o. some_from (has_byte o.window) address count) (map object (rows ++ blocks))
        (λ i o of_o.
        let found = map_place object (rows ++ blocks) i o of_o in
        subst (λ (x : Object). some_from (has_byte x.window) address count ≡ false) found.2 (none_met of_rows of_blocks i found.0 found.1));
    all =
        filter-all (λ o. o.is_written || not (some_from (has_byte o.window) address count)) (map object (rows ++ blocks))
        (λ i o of_o.
        let found = map_place object (rows ++ blocks) i o of_o in
        subst (λ (x : Object). (x.is_written || not (some_from (has_byte x.window) address count)) ≡ true) found.2
        (by (is_written found.0) (some_from (has_byte (window found.0.window)) address count) (none_met of_rows of_blocks i found.0 found.1)));
    stays = refl;
  }
    where
      by : (w m : Bool) → m ≡ false → (w || not m) ≡ true
      by true m none = refl
      by false m none = ap not none

  module _ (allowed : meets (λ o. o.is_written) (map object (rows ++ blocks)) address count ≡ false) where
    -- an object with one of the bytes is only read
    pub unwritten : (i : ℕ) (e : Entry) → slice_get (rows ++ blocks) i ≡ Some e → window_meets (window e.window) address (address + count) ≡ true → is_written e ≡ false
    unwritten i e at met =
        by (is_written e) (some_from (has_byte (window e.window)) address count) (byte_range i e at ∙ met)
        (none_any (λ o. o.is_written && some_from (has_byte o.window) address count) (map object (rows ++ blocks)) i (object e) allowed (place_map object (rows ++ blocks) i e at))
      where
        by : (w m : Bool) → m ≡ true → (w && m) ≡ false → w ≡ false
        by true m met none = sym met ∙ none
        by false m met none = refl

    abbrev AllBelow : List Entry → ℕ → Type 0
    AllBelow es base = Each (windows es) (λ v. window_meets (window v) address (address + count) ≡ true → v.base ≤ base)

    pub taken : (place : ℕ) (e : Entry) (w : coded.Window) (new : Table) → slice_get (rows ++ blocks) place ≡ Some e → e.window ≡ w → window_meets (window w) address (address + count) ≡ true
        → AllBelow rows w.base → AllBelow blocks w.base → new.rows ++ new.blocks ≡ remove (rows ++ blocks) place → IsTaken t address count new w
    taken place e w new at same met of_rows of_blocks rest =
        let meet : window_meets (window e.window) address (address + count) ≡ true = subst (λ (x : coded.Window). window_meets (window x) address (address + count) ≡ true) (sym same) met in
        record {
          place = place;
          entry = e;
          at = at;
          is = same;
          read = unwritten place e at meet;
          meets = subst (λ (x : coded.Window). some_from (has_byte (window x)) address count ≡ true) same (byte_range place e at ∙ meet);
          greatest = λ i x of_x also. below i x of_x (sym (byte_range i x of_x) ∙ also);
          rest = rest;
        }
      where
        below : (i : ℕ) (x : Entry) → slice_get (rows ++ blocks) i ≡ Some x → window_meets (window x.window) address (address + count) ≡ true → x.window.base ≤ w.base
        below i x of_x also =
            elim (place_split rows blocks i x of_x) [
              | inl here ↦ of_rows i x.window (place_map (λ (y : Entry). y.window) rows i x here) also
              | inr later ↦ of_blocks later.0 x.window (place_map (λ (y : Entry). y.window) blocks later.0 x later.2) also
            ]

    pub none_below : (es : List Entry) (base : ℕ) → NoneMeets (windows es) address (address + count) → AllBelow es base
    none_below es base none i v at also = absurd (false≢true (sym (none i v at) ∙ also))

    pub greatest_below : (es : List Entry) (f : Found) (base : ℕ) → IsGreatestMeeting (windows es) address (address + count) f → f.window.base ≤ base → AllBelow es base
    greatest_below es f base greatest less i v at also = omega (arith, greatest.greatest i v at also, less)

    pub taken_row : (f : Found) (new : Table) → IsGreatestMeeting (windows rows) address (address + count) f → AllBelow blocks f.window.base
        → new.rows ≡ remove rows f.place → new.blocks ≡ blocks → IsTaken t address count new f.window
    taken_row f new greatest of_blocks of_new same_blocks =
        let found = map_place (λ (x : Entry). x.window) rows f.place f.window greatest.stands in
        taken f.place found.0 f.window new (place_left rows blocks f.place found.0 found.1) found.2 greatest.meets (λ i v at. greatest.greatest i v at) of_blocks
        (ap (λ es. es ++ new.blocks) of_new ∙ ap (λ es. remove rows f.place ++ es) same_blocks
        ∙ sym (remove-append_left rows blocks f.place (slice_get_within rows f.place found.0 found.1)))

    pub taken_block : (f : Found) (new : Table) → IsGreatestMeeting (windows blocks) address (address + count) f → AllBelow rows f.window.base
        → new.rows ≡ rows → new.blocks ≡ remove blocks f.place → IsTaken t address count new f.window
    taken_block f new greatest of_rows same_rows of_new =
        let found = map_place (λ (x : Entry). x.window) blocks f.place f.window greatest.stands in
        taken (length rows + f.place) found.0 f.window new (place_right rows blocks f.place found.0 found.1) found.2 greatest.meets of_rows (λ i v at. greatest.greatest i v at)
        (ap (λ es. es ++ new.blocks) same_rows ∙ ap (λ es. rows ++ es) of_new
        ∙ sym (remove-append_right rows blocks (length rows) (length rows + f.place) refl (omega arith) ∙ ap (λ n. rows ++ remove blocks n) (let e : length rows + f.place - length rows ≡ f.place = omega arith in e)))

    -- what was found
    module _ (row block : Option Found) (of_row : MatchOption row (NoneMeets (windows rows) address (address + count)) (IsLastMeeting (windows rows) address (address + count)))
        (of_block : MatchOption block (NoneMeets (windows blocks) address (address + count)) (IsGreatestMeeting (windows blocks) address (address + count))) where
      pub found_none : (row ≡ None) × (block ≡ None) → IsUntouched t address count t
      found_none none =
          untouched
          (subst (λ (r : Option Found). MatchOption r (NoneMeets (windows rows) address (address + count)) (IsLastMeeting (windows rows) address (address + count))) none.0 of_row)
          (subst (λ (b : Option Found). MatchOption b (NoneMeets (windows blocks) address (address + count)) (IsGreatestMeeting (windows blocks) address (address + count))) none.1 of_block)

      pub found_row : (f : Found) → IsLater row block (places.Row f) → IsGreatestMeeting (windows rows) address (address + count) f
      found_row f is_later =
          last_is_greatest (windows rows) address (address + count) f is.rows_are
          (subst (λ (r : Option Found). MatchOption r (NoneMeets (windows rows) address (address + count)) (IsLastMeeting (windows rows) address (address + count))) is_later.0 of_row)

      pub found_block : (f : Found) → IsLater row block (places.Block f) → IsGreatestMeeting (windows blocks) address (address + count) f
      found_block f is_later =
          subst (λ (b : Option Found). MatchOption b (NoneMeets (windows blocks) address (address + count)) (IsGreatestMeeting (windows blocks) address (address + count))) is_later.0 of_block

      blocks_below : (b : Option Found) (f : Found) → MatchOption b (NoneMeets (windows blocks) address (address + count)) (IsGreatestMeeting (windows blocks) address (address + count))
          → IfSome b (λ x. x.window.base ≤ f.window.base) → AllBelow blocks f.window.base
      blocks_below None f none less = none_below blocks f.window.base none
      blocks_below (Some x) f greatest less = greatest_below blocks x f.window.base greatest less

      rows_below : (r : Option Found) (f : Found) → MatchOption r (NoneMeets (windows rows) address (address + count)) (IsLastMeeting (windows rows) address (address + count))
          → IfSome r (λ x. x.window.base ≤ f.window.base) → AllBelow rows f.window.base
      rows_below None f none less = none_below rows f.window.base none
      rows_below (Some x) f last less = greatest_below rows x f.window.base (last_is_greatest (windows rows) address (address + count) x is.rows_are last) less

      pub found_row_taken : (f : Found) (new : Table) → IsLater row block (places.Row f) → new.rows ≡ remove rows f.place → new.blocks ≡ blocks → IsTaken t address count new f.window
      found_row_taken f new is_later of_new same = taken_row f new (found_row f is_later) (blocks_below block f of_block is_later.1) of_new same

      pub found_block_taken : (f : Found) (new : Table) → IsLater row block (places.Block f) → new.rows ≡ rows → new.blocks ≡ remove blocks f.place → IsTaken t address count new f.window
      found_block_taken f new is_later same of_new = taken_block f new (found_block f is_later) (rows_below row f of_row is_later.1) same of_new

      pub row_unwritten : (f : Found) → IsLater row block (places.Row f) → (e : Entry) → slice_get rows f.place ≡ Some e → is_written e ≡ false
      row_unwritten f is_later e at =
          let greatest = found_row f is_later in
          let whole : e.window ≡ f.window = some_same e.window f.window (sym (place_map (λ (x : Entry). x.window) rows f.place e at) ∙ greatest.stands) in
          unwritten f.place e (place_left rows blocks f.place e at)
          (subst (λ (x : coded.Window). window_meets (window x) address (address + count) ≡ true) (sym whole) greatest.meets)
        where
          some_same : (x y : coded.Window) → Some x ≡ Some y → x ≡ y
          some_same x y h = cc

-- no bytes are stored
pub untouched_nothing : (t : Table) (address : ℕ) → IsUntouched t address 0 t
untouched_nothing t address = record {
  none = none_of_nothing (λ o. true) (objects t) address;
  all = filter-all (λ o. o.is_written || not (some_from (has_byte o.window) address 0)) (objects t) (λ i o at. by o.is_written);
  stays = refl;
}
  where
    by : (w : Bool) → (w || not false) ≡ true
    by true = refl
    by false = refl

-- what is left once all that a store meets are taken is the same
pub taken_left : (old : Table) (address count : ℕ) (new : Table) (w : coded.Window) → IsTaken old address count new w
    → without_stored (objects new) address count ≡ without_stored (objects old) address count
taken_left old address count new w is =
    let p : Object → Bool = λ o. o.is_written || not (some_from (has_byte o.window) address count) in
    let met : some_from (has_byte (window is.entry.window)) address count ≡ true =
    subst (λ (x : coded.Window). some_from (has_byte (window x)) address count ≡ true) (sym is.is) is.meets in
    ap (λ es. filter p (map object es)) is.rest
    ∙ ap (filter p) (map-remove object (old.rows ++ old.blocks) is.place)
    ∙ filter-remove p (map object (old.rows ++ old.blocks)) is.place (object is.entry) (place_map object (old.rows ++ old.blocks) is.place is.entry is.at)
    (ap (λ b. b || not (some_from (has_byte (window is.entry.window)) address count)) is.read ∙ ap not met)

-- the same of the table's entries
pub taken_rest : (old : Table) (address count : ℕ) (new : Table) (w : coded.Window) → IsTaken old address count new w
    → without_read (all_entries new) address count ≡ without_read (all_entries old) address count
taken_rest old address count new w is =
    let p : Entry → Bool = λ e. is_written e || not (some_from (has_byte (window e.window)) address count) in
    let met : some_from (has_byte (window is.entry.window)) address count ≡ true =
    subst (λ (x : coded.Window). some_from (has_byte (window x)) address count ≡ true) (sym is.is) is.meets in
    ap (filter p) is.rest
    ∙ filter-remove p (old.rows ++ old.blocks) is.place is.entry is.at
    (ap (λ b. b || not (some_from (has_byte (window is.entry.window)) address count)) is.read ∙ ap not met)

pub untouched_rest : (old : Table) (address count : ℕ) (new : Table) → IsUntouched old address count new → all_entries new ≡ without_read (all_entries old) address count
untouched_rest old address count new is =
    ap all_entries is.stays
    ∙ sym
    (filter-all (λ e. is_written e || not (some_from (has_byte (window e.window)) address count)) (all_entries old)
    (λ i e at. by (is_written e) (some_from (has_byte (window e.window)) address count)
    (none_any (λ o. true && some_from (has_byte o.window) address count) (objects old) i (object e) is.none (place_map object (all_entries old) i e at))))
  where
    by : (b c : Bool) → (true && c) ≡ false → (b || not c) ≡ true
    by true c none = refl
    by false true none = absurd (cc)
    by false false none = refl
