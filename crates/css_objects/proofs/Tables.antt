-- What the table's searches say of its objects.
use Rattle.std.proofs.Common.{◌≡◌, ℕ, zero, suc, ◌+◌, ◌*◌, ◌^◌, ◌<◌, ◌≤◌, Bool, true, false, not, ◌&&◌, ◌||◌, List, [], ◌∷◌, ◌++◌, length, map, filter, slice_get, is_some, Option, Some, None, MatchOption, inl, inr, refl, sym, ap, ◌∙◌, subst, arith, if◌then◌else◌}
use Rattle.std.specs.List.{list_any}
use Rattle.std.proofs.lemmas.List.{length-map}
use Rattle.std.proofs.Common.{get_or}
use Rattle.std.proofs.lemmas.Option.{slice_get_read, slice_get_within}
use Rattle.std.proofs.lemmas.List.Folds.{list_any-append}
use Rattle.std.proofs.Math.Nat.{pow-succ'}
use Rattle.std.proofs.Common.{lit<}
use Rattle.std.proofs.lemmas.Bool.{cases_order, or_from}
use Rattle.std.proofs.Common.{is_none}
use Rattle.css_semantics.specs.Tasks.{has_byte}
use Rattle.css_semantics.specs.Pending.{Object, some_from}
use Rattle.css_semantics.specs.Rules.{share_byte, meets}
use Rattle.css_record.specs.declared.window.Window as coded
use Rattle.css_record.specs.Windows.{window, IsWindow}
use Rattle.css_objects.specs.declared.ordered.Found.{Found}
use Rattle.css_objects.specs.declared.version.Held.{Held}
use Rattle.css_semantics.specs.WindowRanges.{window_meets}
use Rattle.css_objects.specs.Ordered.{IsSearch}
use Rattle.css_arguments.specs.Lists.{Each}
use Rattle.css_objects.specs.Found.{NoneMeets, IsLastMeeting, NoneShares, IsLastSharing, TakesAtMost}
use Rattle.css_objects.specs.Table.{Entry, Table, entries, windows, maker, is_written, object, objects, IsTable}
use Rattle.css_semantics.proofs.WindowRanges.{some_is_range}
use Rattle.css_objects.proofs.OneRowSearches.{search_takes}
use Rattle.css_arguments.proofs.Lists.{any_none, any_one, any_same, any_map, any_filter, place_map}

-- ---- windows and versions side by side

pub windows-entries : (ws : List coded.Window) (vs : List Held) → length vs ≡ length ws → windows (entries ws vs) ≡ ws
windows-entries [] vs long = refl
windows-entries (w ∷ ws) [] long = absurd (omega arith)
windows-entries (w ∷ ws) (v ∷ vs) long = ap (λ rest. w ∷ rest) (windows-entries ws vs (omega arith))

pub length-entries : (ws : List coded.Window) (vs : List Held) → length vs ≡ length ws → length (entries ws vs) ≡ length ws
length-entries ws vs long = sym (length-map (entries ws vs) (λ e. e.window)) ∙ ap length (windows-entries ws vs long)

pub entry_at : (ws : List coded.Window) (vs : List Held) (i : ℕ) (w : coded.Window) (v : Held) → slice_get ws i ≡ Some w → slice_get vs i ≡ Some v
    → slice_get (entries ws vs) i ≡ Some (record { window = w; version = v })
entry_at [] vs i w v of_w of_v = absurd (cc)
entry_at (x ∷ ws) [] i w v of_w of_v = absurd (cc)
entry_at (x ∷ ws) (y ∷ vs) zero w v of_w of_v = cc
entry_at (x ∷ ws) (y ∷ vs) (suc i) w v of_w of_v = entry_at ws vs i w v of_w of_v

-- ---- what is found

pub meeting_any : (ws : List coded.Window) (from to : ℕ) (r : Option Found) → MatchOption r (NoneMeets ws from to) (IsLastMeeting ws from to)
    → list_any (λ w. window_meets (window w) from to) ws ≡ is_some r
meeting_any ws from to None none = any_none (λ w. window_meets (window w) from to) ws none
meeting_any ws from to (Some f) last = any_one (λ w. window_meets (window w) from to) ws f.place f.window last.stands last.meets

pub sharing_any : (ws : List coded.Window) (w : coded.Window) (r : Option Found) → MatchOption r (NoneShares ws w) (IsLastSharing ws w)
    → list_any (λ v. share_byte (window w) (window v)) ws ≡ is_some r
sharing_any ws w None none = any_none (λ v. share_byte (window w) (window v)) ws none
sharing_any ws w (Some f) last = any_one (λ v. share_byte (window w) (window v)) ws f.place f.window last.stands last.shares

-- ---- objects

-- an object of the rows or of the blocks
any_parts : (p : Object → Bool) (rows blocks : List Entry) → list_any p (map object (rows ++ blocks)) ≡ (list_any (λ e. p (object e)) rows || list_any (λ e. p (object e)) blocks)
any_parts p rows blocks = any_map object p (rows ++ blocks) ∙ list_any-append (λ e. p (object e)) rows blocks

of_windows : (p : coded.Window → Bool) (es : List Entry) → list_any (λ e. p e.window) es ≡ list_any p (windows es)
of_windows p es = sym (any_map (λ e. e.window) p es)

-- one shares a byte with a window
pub shares_any : (rows blocks : List Entry) (w : coded.Window) → list_any (λ o. share_byte (window w) o.window) (map object (rows ++ blocks))
    ≡ (list_any (λ v. share_byte (window w) (window v)) (windows rows) || list_any (λ v. share_byte (window w) (window v)) (windows blocks))
shares_any rows blocks w =
    any_parts (λ o. share_byte (window w) o.window) rows blocks
    ∙ ap (λ b. b || list_any (λ e. share_byte (window w) (window e.window)) blocks) (of_windows (λ v. share_byte (window w) (window v)) rows)
    ∙ ap (λ b. list_any (λ v. share_byte (window w) (window v)) (windows rows) || b) (of_windows (λ v. share_byte (window w) (window v)) blocks)

-- a task may write one that has a byte of a range
module _ (address count : ℕ) (some : 1 ≤ count) where
  in_range : (es : List Entry) → Each (windows es) (λ w. IsWindow (window w)) → list_any (λ e. is_written e && some_from (has_byte (window e.window)) address count) es
      ≡ list_any (λ e. is_written e && window_meets (window e.window) address (address + count)) es
  in_range es are =
      any_same (λ e. is_written e && some_from (has_byte (window e.window)) address count) (λ e. is_written e && window_meets (window e.window) address (address + count)) es
      (λ i e at. ap (λ b. is_written e && b)
      (some_is_range (window e.window) address count (are i e.window (place_map (λ (x : Entry). x.window) es i e at)).width some))

  pub written_any : (rows blocks : List Entry) (written : List coded.Window) → IsTable rows blocks written → meets (λ o. o.is_written) (map object (rows ++ blocks)) address count
      ≡ (list_any (λ w. window_meets (window w) address (address + count)) written || list_any (λ e. is_written e && window_meets (window e.window) address (address + count)) blocks)
  written_any rows blocks written is =
      any_parts (λ o. o.is_written && some_from (has_byte o.window) address count) rows blocks
      ∙ ap (λ b. b || list_any (λ e. is_written e && some_from (has_byte (window e.window)) address count) blocks) (of_rows)
      ∙ ap (λ b. list_any (λ w. window_meets (window w) address (address + count)) written || b) (in_range blocks (λ i w at. (is.blocks_are i w at).is_window))
    where
      of_rows : list_any (λ e. is_written e && some_from (has_byte (window e.window)) address count) rows ≡ list_any (λ w. window_meets (window w) address (address + count)) written
      of_rows =
          in_range rows (λ i w at. (is.rows_are.rows i w at).is_window)
          ∙ any_filter is_written (λ e. window_meets (window e.window) address (address + count)) rows
          ∙ of_windows (λ w. window_meets (window w) address (address + count)) (filter is_written rows)
          ∙ ap (list_any (λ w. window_meets (window w) address (address + count))) (sym is.written_are)

-- no bytes are none of an object's
pub none_of_nothing : (which : Object → Bool) (os : List Object) (address : ℕ) → meets which os address 0 ≡ false
none_of_nothing which os address = any_none (λ o. which o && some_from (has_byte o.window) address 0) os (λ i o at. by (which o))
  where
    by : (b : Bool) → (b && false) ≡ false
    by true = refl
    by false = refl

-- ---- steps

length-filter : {X : Type 0} (p : X → Bool) (xs : List X) → length (filter p xs) ≤ length xs
length-filter p [] = omega arith
length-filter p (x ∷ xs) = by (p x) (length-filter p xs)
  where
    by : (b : Bool) → length (filter p xs) ≤ length xs → length (if b then x ∷ filter p xs else filter p xs) ≤ suc (length xs)
    by true rest = omega arith
    by false rest = omega arith

pub written-few : (rows blocks : List Entry) (written : List coded.Window) → IsTable rows blocks written → length written ≤ length rows
written-few rows blocks written is =
    omega (arith, length-filter is_written rows, length-map (filter is_written rows) (λ e. e.window), ap length is.written_are)

-- a search, and what is scanned behind it
pub one_search : (count searched scanned old middle new : ℕ) → searched ≤ count → IsSearch searched old middle → new ≤ middle + scanned → TakesAtMost count scanned 1 old new
one_search count searched scanned old middle new fewer search scan depth enough =
    omega (arith, search_takes searched old middle depth search (omega (arith, enough)), scan)

-- no more than the searches
pub only_rows : (count scanned searches old new : ℕ) → TakesAtMost count 0 searches old new → TakesAtMost count scanned searches old new
only_rows count scanned searches old new takes depth enough = omega (arith, takes depth enough)

pub then_blocks : (count scanned searches old middle new : ℕ) → TakesAtMost count 0 searches old middle → new ≤ middle + scanned → TakesAtMost count scanned searches old new
then_blocks count scanned searches old middle new takes scan depth enough = omega (arith, takes depth enough)

-- a search in so few windows takes no more steps than there are
pub search_scans : (count old new : ℕ) → IsSearch count old new → new ≤ old + count
search_scans count old new search = search_takes count old new count search (by count)
  where
    by : (n : ℕ) → 2 * n + 1 < 2 ^ (n + 1)
    by zero = lit< tt
    by (suc n) =
        let next : suc n + 1 ≡ suc (n + 1) = omega arith in
        let double : 2 ^ (suc n + 1) ≡ 2 * 2 ^ (n + 1) = ap (λ k. 2 ^ k) next ∙ pow-succ' 2 (n + 1) in
        omega (arith, double, by n)

-- ---- a part of the table

module _ (ws : List coded.Window) (vs : List Held) (es : List Entry) (long : length vs ≡ length ws) (is : entries ws vs ≡ es) where
  pub part_windows : ws ≡ windows es
  part_windows = sym (windows-entries ws vs long) ∙ ap windows is

  pub part_length : length ws ≡ length es
  part_length = sym (length-entries ws vs long) ∙ ap length is

  pub part_at : (i : ℕ) (w : coded.Window) → slice_get ws i ≡ Some w → slice_get (windows es) i ≡ Some w
  part_at i w at = subst (λ (xs : List coded.Window). slice_get xs i ≡ Some w) part_windows at

  pub part_inside : (i : ℕ) (w : coded.Window) → slice_get (windows es) i ≡ Some w → slice_get ws i ≡ Some w
  part_inside i w at = subst (λ (xs : List coded.Window). slice_get xs i ≡ Some w) (sym part_windows) at

  pub part_entry : (i : ℕ) (w : coded.Window) (v : Held) → slice_get (windows es) i ≡ Some w → i < length vs → v ≡ get_or vs i v → slice_get es i ≡ Some (record { window = w; version = v })
  part_entry i w v at within read =
      subst (λ (xs : List Entry). slice_get xs i ≡ Some (record { window = w; version = v })) is
      (entry_at ws vs i w v (part_inside i w at) (slice_get_read vs (length vs) i v refl within read))

-- no object up to a place is met
pub NoneMet : List Entry → (from to place : ℕ) → Type 0
NoneMet es from to place = (i : ℕ) (e : Entry) → i < place → slice_get es i ≡ Some e → (is_written e && window_meets (window e.window) from to) ≡ false

pub met_begin : (es : List Entry) (from to : ℕ) → NoneMet es from to 0
unfolding NoneMet
met_begin es from to i e before at = absurd (omega arith)

pub met_more : (es : List Entry) (from to place : ℕ) → NoneMet es from to place
    → ((e : Entry) → slice_get es place ≡ Some e → (is_written e && window_meets (window e.window) from to) ≡ false) → NoneMet es from to (place + 1)
unfolding NoneMet
met_more es from to place before here i e below at =
    elim (cases_order i place) [
      | inl same ↦ here e (subst (λ (n : ℕ). slice_get es n ≡ Some e) same at)
      | inr (inl less) ↦ before i e less at
      | inr (inr more) ↦ absurd (omega arith)
    ]

pub met_end : (es : List Entry) (from to place : ℕ) → length es ≤ place → NoneMet es from to place → list_any (λ e. is_written e && window_meets (window e.window) from to) es ≡ false
unfolding NoneMet
met_end es from to place over none =
    any_none (λ e. is_written e && window_meets (window e.window) from to) es (λ i e at. none i e (omega (arith, over, slice_get_within es i e at)) at)

-- ---- what the table answers

pub written_answer : (rows blocks : List Entry) (written : List coded.Window) (t : Table) → IsTable rows blocks written → (let whole : Table = record { rows = rows; blocks = blocks } in whole ≡ t)
    → (address count : ℕ) (r b : Bool) → 1 ≤ count → r ≡ list_any (λ w. window_meets (window w) address (address + count)) written
    → b ≡ list_any (λ e. is_written e && window_meets (window e.window) address (address + count)) blocks → (r || b) ≡ meets (λ o. o.is_written) (objects t) address count
written_answer rows blocks written t is view address count r b some row block =
    ap (λ x. x || b) row ∙ ap (λ x. list_any (λ w. window_meets (window w) address (address + count)) written || x) block
    ∙ sym (written_any address count some rows blocks written is)
    ∙ ap (λ (x : Table). meets (λ o. o.is_written) (objects x) address count) view

neither : (r b : Option Found) → (is_none r && is_none b) ≡ not (is_some r || is_some b)
neither None None = refl
neither None (Some f) = refl
neither (Some f) b = refl

pub frame_answer : (rows blocks : List Entry) (t : Table) → (let whole : Table = record { rows = rows; blocks = blocks } in whole ≡ t)
    → (w : coded.Window) (r b : Option Found) → MatchOption r (NoneShares (windows rows) w) (IsLastSharing (windows rows) w)
    → MatchOption b (NoneShares (windows blocks) w) (IsLastSharing (windows blocks) w)
    → (is_none r && is_none b) ≡ not (list_any (λ o. share_byte (window w) o.window) (objects t))
frame_answer rows blocks t view w r b row block =
    neither r b
    ∙ ap (λ x. not (x || is_some b)) (sym (sharing_any (windows rows) w r row))
    ∙ ap (λ x. not (list_any (λ v. share_byte (window w) (window v)) (windows rows) || x)) (sym (sharing_any (windows blocks) w b block))
    ∙ ap not (sym (shares_any rows blocks w))
    ∙ ap (λ (x : Table). not (list_any (λ o. share_byte (window w) o.window) (objects x))) view

pub nothing_answer : (rows blocks : List Entry) (w : coded.Window) → NoneShares (windows rows) w → NoneShares (windows blocks) w
    → list_any (λ o. share_byte (window w) o.window) (map object (rows ++ blocks)) ≡ false
nothing_answer rows blocks w of_rows of_blocks =
    shares_any rows blocks w
    ∙ or_from (list_any (λ v. share_byte (window w) (window v)) (windows rows)) (list_any (λ v. share_byte (window w) (window v)) (windows blocks))
    (sharing_any (windows rows) w None of_rows) (sharing_any (windows blocks) w None of_blocks)

-- an object that is read at a place
pub met_entry : (es : List Entry) (i : ℕ) (w : coded.Window) (v : Held) (e : Entry) (from to : ℕ) (written met answer : Bool) → slice_get es i ≡ Some (record { window = w; version = v })
    → slice_get es i ≡ Some e → written ≡ is_some (maker v) → met ≡ window_meets (window w) from to → answer ≡ (written && met) → answer ≡ (is_written e && window_meets (window e.window) from to)
met_entry es i w v e from to written met answer here at is_w is_m is =
    subst (λ (x : Entry). answer ≡ (is_written x && window_meets (window x.window) from to)) (some_same (record { window = w; version = v }) e (sym here ∙ at))
    (is ∙ ap (λ b. b && met) is_w ∙ ap (λ b. is_some (maker v) && b) is_m)
  where
    some_same : (x y : Entry) → Some x ≡ Some y → x ≡ y
    some_same x y e = cc
