-- The table with one object more, or with another version of one.
use Rattle.std.proofs.Common.{◌≡◌, ◌≢◌, ℕ, zero, suc, ◌+◌, ◌-◌, ◌<◌, ◌≤◌, Bool, true, false, not, ◌&&◌, List, [], ◌∷◌, ◌++◌, length, map, filter, slice_get, Some, None, Result, Ok, Err, OnOk, OnErr, ◌⊎◌, inl, inr, refl, sym, ap, ◌∙◌, subst, All, arith, if◌then◌else◌}
use Rattle.std.specs.List.{list_any, insert}
use Rattle.std.specs.List.Sorted.{IsPermutation}
use Rattle.std.proofs.lemmas.List.{length-map}
use Rattle.std.proofs.lemmas.List.Elements.{All-head, All-tail, All-nil, All-cons}
use Rattle.std.proofs.lemmas.List.Edits.{insert-append_left, insert-append_right}
use Rattle.std.proofs.lemmas.List.Sorted.{IsPermutation-refl, IsPermutation-sym, IsPermutation-trans, IsPermutation-insert, IsPermutation-to_front}
use Rattle.std.proofs.lemmas.Option.{slice_get_within}
use Rattle.std.proofs.lemmas.Bool.{cases_order, false≢true, false_from_ne_true}
use Rattle.css_semantics.specs.Tasks.{is_same_window}
use Rattle.css_semantics.specs.Pending.{Object}
use Rattle.css_semantics.specs.Rules.{share_byte, overlap}
use Rattle.css_semantics.specs.Clear.{AreApart}
use Rattle.css_record.specs.declared.window.Window as coded
use Rattle.css_record.specs.Windows.{window, IsWindow}
use Rattle.css_objects.specs.declared.version.Held.{Held}
use Rattle.css_objects.specs.declared.version.Held.TheVariants as held
use Rattle.css_objects.specs.declared.ordered.Found.{Found}
use Rattle.css_objects.specs.Ordered.{IsAscending, IsGap, HasNone, IsOfBase}
use Rattle.css_arguments.specs.Lists.{Each}
use Rattle.css_objects.specs.Found.{IsRow, AreRows}
use Rattle.css_objects.specs.Table.{Entry, windows, is_written, object, IsBlock, IsTable, IsInserted}
use Rattle.css_objects.specs.Naming.{with_version, with_read}
use Rattle.css_semantics.proofs.WindowRanges.{share-sym}
use Rattle.css_objects.proofs.Searches.{base_at}
use Rattle.css_arguments.proofs.Lists.{any_none, any_one, map_place, place_map, place_left, place_right}
use Rattle.css_objects.proofs.Inserts.{map-insert}
use Rattle.css_objects.proofs.Keeping.{rows_of, windows_apart}
use Rattle.css_objects.proofs.Probes.{place_split, same_window, same_base_shares, entry_window}
use Rattle.css_objects.proofs.Snapshots.{same_refl}
use Rattle.css_objects.proofs.Stores.{none_any}

-- ---- lists with one more

-- an element of a list with one more is that one, or one of the others
pub place_insert : {X : Type 0} (xs : List X) (i : ℕ) (y : X) (j : ℕ) (x : X) → slice_get (insert xs i y) j ≡ Some x → (x ≡ y) ⊎ ((k : ℕ) × (slice_get xs k ≡ Some x))
place_insert [] zero y zero x at = inl (let e : x ≡ y = cc in e)
place_insert [] zero y (suc j) x at = absurd (cc)
place_insert [] (suc i) y zero x at = inl (let e : x ≡ y = cc in e)
place_insert [] (suc i) y (suc j) x at = absurd (cc)
place_insert (z ∷ xs) zero y zero x at = inl (let e : x ≡ y = cc in e)
place_insert (z ∷ xs) zero y (suc j) x at = inr (j, at)
place_insert (z ∷ xs) (suc i) y zero x at = inr (0, at)
place_insert (z ∷ xs) (suc i) y (suc j) x at =
    elim (place_insert xs i y j x at) [
      | inl new ↦ inl new
      | inr old ↦ inr (suc old.0, old.1)
    ]

All-insert : {X : Type 0} (P : X → Type 0) (xs : List X) (i : ℕ) (y : X) → All P xs → P y → All P (insert xs i y)
All-insert P [] zero y all one = All-cons P y [] one all
All-insert P [] (suc i) y all one = All-cons P y [] one all
All-insert P (x ∷ xs) zero y all one = All-cons P y (x ∷ xs) one all
All-insert P (x ∷ xs) (suc i) y all one = All-cons P x (insert xs i y) (All-head P x xs all) (All-insert P xs i y (All-tail P x xs all) one)

apart-insert : (os : List Object) (i : ℕ) (o : Object) → AreApart os → All (λ p. share_byte o.window p.window ≡ false) os → AreApart (insert os i o)
apart-insert [] zero o apart all = (all, tt)
apart-insert [] (suc i) o apart all = (all, tt)
apart-insert (p ∷ os) zero o apart all = (all, apart)
apart-insert (p ∷ os) (suc i) o apart all = (
  All-insert (λ q. share_byte p.window q.window ≡ false) os i o apart.0
      (share-sym p.window o.window ∙ All-head (λ q. share_byte o.window q.window ≡ false) p os all),
  apart-insert os i o apart.1 (All-tail (λ q. share_byte o.window q.window ≡ false) p os all),
)

all_places : {X : Type 0} (P : X → Type 0) (xs : List X) → ((i : ℕ) (x : X) → slice_get xs i ≡ Some x → P x) → All P xs
all_places P [] each = All-nil P
all_places P (x ∷ xs) each = All-cons P x xs (each 0 x refl) (all_places P xs (λ i y at. each (suc i) y at))

pub filter-insert_false : {X : Type 0} (p : X → Bool) (xs : List X) (i : ℕ) (y : X) → p y ≡ false → filter p (insert xs i y) ≡ filter p xs
filter-insert_false p [] zero y fails = ap (λ b. if b then y ∷ [] else []) fails
filter-insert_false p [] (suc i) y fails = ap (λ b. if b then y ∷ [] else []) fails
filter-insert_false p (x ∷ xs) zero y fails = ap (λ b. if b then y ∷ filter p (x ∷ xs) else filter p (x ∷ xs)) fails
filter-insert_false p (x ∷ xs) (suc i) y fails = ap (λ ys. if p x then x ∷ ys else ys) (filter-insert_false p xs i y fails)

-- ---- what a result of an insertion says

pub on_ok : {E : Type 0} (r : Result (Unit {0}) E) (P Q : Type 0) → (P → Q) → OnOk r P → OnOk r Q
on_ok (Ok x) P Q to h = to h
on_ok (Err e) P Q to h = h

pub either : {E : Type 0} (r : Result (Unit {0}) E) (P Q : Type 0) → OnOk r P → OnErr r Q → P ⊎ Q
either (Ok x) P Q ok err = inl ok
either (Err e) P Q ok err = inr err

-- windows in order of base with one more, which is where the others leave a gap
pub with_gap : (ws : List coded.Window) (w : coded.Window) (g : ℕ) → IsGap ws g w.base → (us vs : List coded.Window) → ws ≡ us ++ vs
    → Each us (λ u. u.base < w.base) → Each vs (λ v. w.base < v.base) → insert ws g w ≡ us ++ w ∷ vs
with_gap ws w g gap us vs whole below above =
    let place : g ≡ length us = by (cases_order g (length us)) in
    ap (λ n. insert ws n w) place ∙ ap (λ xs. insert xs (length us) w) whole
    ∙ insert-append_right us vs (length us) (length us) w refl (omega arith)
    ∙ ap (λ n. us ++ insert vs n w) (let e : length us - length us ≡ 0 = omega arith in e)
  where
    there : {X : Type 0} (xs : List X) (i : ℕ) → i < length xs → (x : X) × (slice_get xs i ≡ Some x)
    there [] i inside = absurd (omega arith)
    there (x ∷ xs) zero inside = (x, refl)
    there (x ∷ xs) (suc i) inside = there xs i (omega arith)

    long : length ws ≡ length us + length vs
    long = ap length whole ∙ length-append us vs
      where
        length-append : (xs ys : List coded.Window) → length (xs ++ ys) ≡ length xs + length ys
        length-append [] ys = omega arith
        length-append (x ∷ xs) ys = omega (arith, length-append xs ys)

    by : (g ≡ length us) ⊎ ((g < length us) ⊎ (length us < g)) → g ≡ length us
    by (inl same) = same
    by (inr (inl less)) =
        let u = there us g less in
        let at : slice_get ws g ≡ Some u.0 = ap (λ xs. slice_get xs g) whole ∙ place_left us vs g u.0 u.1 in
        absurd (omega (arith, gap.above g (omega arith) (omega (arith, long, less)), base_at ws g u.0 at, below g u.0 u.1))
    by (inr (inr more)) =
        let v = there vs 0 (omega (arith, long, more, gap.within)) in
        let at : slice_get ws (length us) ≡ Some v.0 =
        ap (λ xs. slice_get xs (length us)) whole
        ∙ subst (λ (n : ℕ). slice_get (us ++ vs) n ≡ Some v.0) (let e : length us + 0 ≡ length us = omega arith in e) (place_right us vs 0 v.0 v.1) in
        absurd (omega (arith, gap.below (length us) more, base_at ws (length us) v.0 at, above 0 v.0 v.1))

-- ---- a window that overlaps no object

module _ (rows blocks : List Entry) (written : List coded.Window) (is : IsTable rows blocks written) (w : coded.Window) (is_window : IsWindow (window w))
    (clear : list_any (λ o. overlap (window w) o.window) (map object (rows ++ blocks)) ≡ false) where
  -- an object that shares a byte with it is equal to it
  sharing : (i : ℕ) (e : Entry) → slice_get (rows ++ blocks) i ≡ Some e → share_byte (window w) (window e.window) ≡ true → w ≡ e.window
  sharing i e at shares =
      same_window w e.window
      (by (share_byte (window w) (window e.window)) (is_same_window (window w) (window e.window)) shares
      (none_any (λ o. overlap (window w) o.window) (map object (rows ++ blocks)) i (object e) clear (place_map object (rows ++ blocks) i e at)))
    where
      by : (s m : Bool) → s ≡ true → (s && not m) ≡ false → m ≡ true
      by true true shares none = refl
      by true false shares none = absurd (false≢true (sym none))
      by false m shares none = absurd (false≢true shares)

  -- so is one of its base
  pub of_base : (i : ℕ) (e : Entry) → slice_get (rows ++ blocks) i ≡ Some e → e.window.base ≡ w.base → w ≡ e.window
  of_base i e at same = sharing i e at (same_base_shares w e.window is_window (entry_window rows blocks written is i e at) (sym same))

  -- no object is equal to it where none of the rows, or of the blocks, has its base
  pub none_in_rows : w.rows ≡ 1 → HasNone (windows rows) w.base → (i : ℕ) (e : Entry) → slice_get (rows ++ blocks) i ≡ Some e → w ≢ e.window
  none_in_rows one none i e at same =
      elim (place_split rows blocks i e at) [
        | inl here ↦
            let there = place_map (λ (x : Entry). x.window) rows i e here in
            none i (slice_get_within (windows rows) i e.window there) (base_at (windows rows) i e.window there ∙ ap (λ (x : coded.Window). x.base) (sym same))
        | inr later ↦
            omega (arith, one, ap (λ (x : coded.Window). x.rows) same, (is.blocks_are later.0 e.window (place_map (λ (x : Entry). x.window) blocks later.0 e later.2)).several)
      ]

  pub none_in_blocks : 1 < w.rows → HasNone (windows blocks) w.base → (i : ℕ) (e : Entry) → slice_get (rows ++ blocks) i ≡ Some e → w ≢ e.window
  none_in_blocks several none i e at same =
      elim (place_split rows blocks i e at) [
        | inl here ↦ omega (arith, several, ap (λ (x : coded.Window). x.rows) same, (is.rows_are.rows i e.window (place_map (λ (x : Entry). x.window) rows i e here)).one)
        | inr later ↦
            let there = place_map (λ (x : Entry). x.window) blocks later.0 e later.2 in
            none later.0 (slice_get_within (windows blocks) later.0 e.window there) (base_at (windows blocks) later.0 e.window there ∙ ap (λ (x : coded.Window). x.base) (sym same))
      ]

  -- a new object
  module _ (new : (i : ℕ) (e : Entry) → slice_get (rows ++ blocks) i ≡ Some e → w ≢ e.window) (version : Held) where
    abbrev entry : Entry
    entry = record { window = w; version = version }

    pub none_same : list_any (λ e. is_same_window (window w) (window e.window)) (rows ++ blocks) ≡ false
    none_same =
        any_none (λ e. is_same_window (window w) (window e.window)) (rows ++ blocks)
        (λ i e at. false_from_ne_true (is_same_window (window w) (window e.window)) (λ same. new i e at (same_window w e.window same)))

    shares_none : All (λ (p : Object). share_byte (window w) p.window ≡ false) (map object (rows ++ blocks))
    shares_none =
        all_places (λ (p : Object). share_byte (window w) p.window ≡ false) (map object (rows ++ blocks))
        (λ i o of_o.
        let found = map_place object (rows ++ blocks) i o of_o in
        subst (λ (x : Object). share_byte (window w) x.window ≡ false) found.2
        (false_from_ne_true (share_byte (window w) (window found.0.window)) (λ shares. new i found.0 found.1 (sharing i found.0 found.1 shares))))

    apart_with : (place : ℕ) → AreApart (map object (insert (rows ++ blocks) place entry))
    apart_with place = subst AreApart (sym (map-insert object (rows ++ blocks) place entry)) (apart-insert (map object (rows ++ blocks)) place (object entry) is.apart shares_none)

    pub each_insert : (P : coded.Window → Type 0) (es : List Entry) (place : ℕ) → Each (windows es) P → P w → Each (windows (insert es place entry)) P
    each_insert P es place all one i v at =
        let found = map_place (λ (x : Entry). x.window) (insert es place entry) i v at in
        elim (place_insert es place entry i found.0 found.1) [
          | inl here ↦ subst P (ap (λ (x : Entry). x.window) (sym here) ∙ found.2) one
          | inr old ↦ subst P found.2 (all old.0 found.0.window (place_map (λ (x : Entry). x.window) es old.0 found.0 old.1))
        ]

    pub apart_row : (place : ℕ) → place ≤ length rows → AreApart (map object (insert rows place entry ++ blocks))
    apart_row place within = subst (λ es. AreApart (map object es)) (insert-append_left rows blocks place entry within) (apart_with place)

    apart_block : (place : ℕ) → AreApart (map object (rows ++ insert blocks place entry))
    apart_block place =
        subst (λ es. AreApart (map object es))
        (insert-append_right rows blocks (length rows) (length rows + place) entry refl (omega arith)
        ∙ ap (λ n. rows ++ insert blocks n entry) (let e : length rows + place - length rows ≡ place = omega arith in e))
        (apart_with (length rows + place))

    -- the same objects, in another order
    pub row_permuted : (place : ℕ) → place ≤ length rows → IsPermutation (insert rows place entry ++ blocks) ((rows ++ blocks) ++ entry ∷ [])
    row_permuted place within =
        subst (λ es. IsPermutation es ((rows ++ blocks) ++ entry ∷ [])) (insert-append_left rows blocks place entry within) (permuted place)
      where
        permuted : (n : ℕ) → IsPermutation (insert (rows ++ blocks) n entry) ((rows ++ blocks) ++ entry ∷ [])
        permuted n =
            IsPermutation-trans (insert (rows ++ blocks) n entry) (entry ∷ (rows ++ blocks)) ((rows ++ blocks) ++ entry ∷ [])
            (IsPermutation-sym (entry ∷ (rows ++ blocks)) (insert (rows ++ blocks) n entry) (IsPermutation-insert (rows ++ blocks) n entry))
            (IsPermutation-sym ((rows ++ blocks) ++ entry ∷ []) (entry ∷ (rows ++ blocks)) (IsPermutation-to_front (rows ++ blocks) entry))

    pub block_permuted : (place : ℕ) → IsPermutation (rows ++ insert blocks place entry) ((rows ++ blocks) ++ entry ∷ [])
    block_permuted place =
        subst (λ es. IsPermutation es ((rows ++ blocks) ++ entry ∷ []))
        (insert-append_right rows blocks (length rows) (length rows + place) entry refl (omega arith)
        ∙ ap (λ n. rows ++ insert blocks n entry) (let e : length rows + place - length rows ≡ place = omega arith in e))
        (IsPermutation-trans (insert (rows ++ blocks) (length rows + place) entry) (entry ∷ (rows ++ blocks)) ((rows ++ blocks) ++ entry ∷ [])
        (IsPermutation-sym (entry ∷ (rows ++ blocks)) (insert (rows ++ blocks) (length rows + place) entry) (IsPermutation-insert (rows ++ blocks) (length rows + place) entry))
        (IsPermutation-sym ((rows ++ blocks) ++ entry ∷ []) (entry ∷ (rows ++ blocks)) (IsPermutation-to_front (rows ++ blocks) entry)))

    -- a block more
    pub table-with_block : 1 < w.rows → (place : ℕ) → IsTable rows (insert blocks place entry) written
    table-with_block several place = record {
      rows_are = is.rows_are;
      blocks_are = each_insert IsBlock blocks place is.blocks_are (record { is_window = is_window; several = several });
      written_rows = is.written_rows;
      written_are = is.written_are;
      apart = apart_block place;
    }

    pub rows_with : w.rows ≡ 1 → (place : ℕ) → place ≤ length rows → IsAscending (windows (insert rows place entry)) → AreRows (windows (insert rows place entry))
    rows_with one place within ascends =
        rows_of (windows (insert rows place entry)) (each_insert IsRow rows place is.rows_are.rows (record { is_window = is_window; one = one })) ascends
        (windows_apart (insert rows place entry) blocks (apart_row place within))

    -- a row more that is only read
    pub table-with_row : w.rows ≡ 1 → is_written entry ≡ false → (place : ℕ) → place ≤ length rows → IsAscending (windows (insert rows place entry)) → IsTable (insert rows place entry) blocks written
    table-with_row one unwritten place within ascends = record {
      rows_are = rows_with one place within ascends;
      blocks_are = is.blocks_are;
      written_rows = is.written_rows;
      written_are = is.written_are ∙ ap windows (sym (filter-insert_false is_written rows place entry unwritten));
      apart = apart_row place within;
    }

    pub with_new_version : with_version (rows ++ blocks) w version ≡ (rows ++ blocks) ++ entry ∷ []
    with_new_version = rw none_same refl

    -- ---- what an insertion leaves

    pub row_left : {E : Type 0} (r : Result (Unit {0}) E) (rows' : List Entry) → w.rows ≡ 1 → is_written entry ≡ false → OnOk r (IsInserted rows w version rows') → OnErr r (rows' ≡ rows) → IsTable rows' blocks written
    row_left r rows' one unwritten ok err =
        elim (either r (IsInserted rows w version rows') (rows' ≡ rows) ok err) [
          | inl added ↦
              let place = added.gap.within in
              let long = length-map rows (λ (e : Entry). e.window) in
              subst (λ es. IsTable es blocks written) (sym added.is)
              (table-with_row one unwritten added.place (omega (arith, place, long)) (subst (λ es. IsAscending (windows es)) added.is added.ascends))
          | inr same ↦ subst (λ es. IsTable es blocks written) (sym same) is
        ]

    pub block_left : {E : Type 0} (r : Result (Unit {0}) E) (blocks' : List Entry) → 1 < w.rows → OnOk r (IsInserted blocks w version blocks') → OnErr r (blocks' ≡ blocks) → IsTable rows blocks' written
    block_left r blocks' several ok err =
        elim (either r (IsInserted blocks w version blocks') (blocks' ≡ blocks) ok err) [
          | inl added ↦ subst (λ es. IsTable rows es written) (sym added.is) (table-with_block several added.place)
          | inr same ↦ subst (λ es. IsTable rows es written) (sym same) is
        ]

    pub row_added : (rows' : List Entry) → IsInserted rows w version rows' → IsPermutation (rows' ++ blocks) ((rows ++ blocks) ++ entry ∷ [])
    row_added rows' added =
        let long = length-map rows (λ (e : Entry). e.window) in
        subst (λ es. IsPermutation (es ++ blocks) ((rows ++ blocks) ++ entry ∷ [])) (sym added.is) (row_permuted added.place (omega (arith, added.gap.within, long)))

    block_added : (blocks' : List Entry) → IsInserted blocks w version blocks' → IsPermutation (rows ++ blocks') ((rows ++ blocks) ++ entry ∷ [])
    block_added blocks' added = subst (λ es. IsPermutation (rows ++ es) ((rows ++ blocks) ++ entry ∷ [])) (sym added.is) (block_permuted added.place)

    pub row_made : {E : Type 0} (r : Result (Unit {0}) E) (rows' : List Entry) → OnOk r (IsInserted rows w version rows') → OnOk r (IsPermutation (rows' ++ blocks) (with_version (rows ++ blocks) w version))
    row_made r rows' ok =
        on_ok r (IsInserted rows w version rows') (IsPermutation (rows' ++ blocks) (with_version (rows ++ blocks) w version))
        (λ added. subst (IsPermutation (rows' ++ blocks)) (sym with_new_version) (row_added rows' added)) ok

    pub block_made : {E : Type 0} (r : Result (Unit {0}) E) (blocks' : List Entry) → OnOk r (IsInserted blocks w version blocks') → OnOk r (IsPermutation (rows ++ blocks') (with_version (rows ++ blocks) w version))
    block_made r blocks' ok =
        on_ok r (IsInserted blocks w version blocks') (IsPermutation (rows ++ blocks') (with_version (rows ++ blocks) w version))
        (λ added. subst (IsPermutation (rows ++ blocks')) (sym with_new_version) (block_added blocks' added)) ok

  -- an object that is only read, if it is new
  module _ (new : (i : ℕ) (e : Entry) → slice_get (rows ++ blocks) i ≡ Some e → w ≢ e.window) (bytes : List ℕ) where
    with_new_read : with_read (rows ++ blocks) w bytes ≡ (rows ++ blocks) ++ record { window = w; version = held.Kept bytes None } ∷ []
    with_new_read = rw (none_same new (held.Kept bytes None)) refl

    pub row_read : {E : Type 0} (r : Result (Unit {0}) E) (rows' : List Entry) → OnOk r (IsInserted rows w (held.Kept bytes None) rows') → OnOk r (IsPermutation (rows' ++ blocks) (with_read (rows ++ blocks) w bytes))
    row_read r rows' ok =
        on_ok r (IsInserted rows w (held.Kept bytes None) rows') (IsPermutation (rows' ++ blocks) (with_read (rows ++ blocks) w bytes))
        (λ added. subst (IsPermutation (rows' ++ blocks)) (sym with_new_read) (row_added new (held.Kept bytes None) rows' added)) ok

    pub block_read : {E : Type 0} (r : Result (Unit {0}) E) (blocks' : List Entry) → OnOk r (IsInserted blocks w (held.Kept bytes None) blocks') → OnOk r (IsPermutation (rows ++ blocks') (with_read (rows ++ blocks) w bytes))
    block_read r blocks' ok =
        on_ok r (IsInserted blocks w (held.Kept bytes None) blocks') (IsPermutation (rows ++ blocks') (with_read (rows ++ blocks) w bytes))
        (λ added. subst (IsPermutation (rows ++ blocks')) (sym with_new_read) (block_added new (held.Kept bytes None) blocks' added)) ok

  -- an object that is there
  pub found_same : (i : ℕ) (e : Entry) → slice_get (rows ++ blocks) i ≡ Some e → e.window.base ≡ w.base → list_any (λ x. is_same_window (window w) (window x.window)) (rows ++ blocks) ≡ true
  found_same i e at base =
      any_one (λ (x : Entry). is_same_window (window w) (window x.window)) (rows ++ blocks) i e at
      (subst (λ (v : coded.Window). is_same_window (window w) (window v) ≡ true) (of_base i e at base) (same_refl w))

  pub read_row : (f : Found) (bytes : List ℕ) → IsOfBase (windows rows) w.base f → IsPermutation (rows ++ blocks) (with_read (rows ++ blocks) w bytes)
  read_row f bytes of =
      let found = map_place (λ (x : Entry). x.window) rows f.place f.window of.stands in
      rw (found_same f.place found.0 (place_left rows blocks f.place found.0 found.1) (ap (λ (x : coded.Window). x.base) found.2 ∙ of.same)) (IsPermutation-refl (rows ++ blocks))

  pub read_block : (f : Found) (bytes : List ℕ) → IsOfBase (windows blocks) w.base f → IsPermutation (rows ++ blocks) (with_read (rows ++ blocks) w bytes)
  read_block f bytes of =
      let found = map_place (λ (x : Entry). x.window) blocks f.place f.window of.stands in
      rw (found_same (length rows + f.place) found.0 (place_right rows blocks f.place found.0 found.1) (ap (λ (x : coded.Window). x.base) found.2 ∙ of.same)) (IsPermutation-refl (rows ++ blocks))
