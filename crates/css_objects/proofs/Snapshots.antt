-- Windows that are equal to an object's, and windows that overlap one.
use Rattle.std.proofs.Common.{◌≡◌, ◌≢◌, ℕ, Bool, true, false, not, ◌&&◌, List, ◌++◌, ◌+◌, length, map, slice_get, Some, refl, sym, ap, ◌∙◌, subst, eqb, ◌≤◌, arith}
use Rattle.std.specs.List.{list_any}
use Rattle.std.proofs.lemmas.Bool.{false≢true, and_parts, and_from, eqb-true, eq-eqb, false_from_ne_true}
use Rattle.css_semantics.specs.Tasks.{is_same_window}
use Rattle.css_semantics.specs.Pending.{Object}
use Rattle.css_semantics.specs.Rules.{share_byte, overlap}
use Rattle.css_record.specs.declared.window.Window as coded
use Rattle.css_record.specs.Windows.{window, IsWindow}
use Rattle.css_objects.specs.declared.ordered.Found.{Found}
use Rattle.css_objects.specs.Ordered.{IsOfBase}
use Rattle.css_objects.specs.Found.{TakesAtMost}
use Rattle.std.proofs.lemmas.Nat.{mul-le}
use Rattle.css_objects.specs.declared.pending.Probe.{Probe}
use Rattle.css_objects.specs.declared.pending.Probe.TheVariants as probes
use Rattle.css_objects.specs.Table.{Entry, Table, windows, object, IsTable}
use Rattle.css_objects.specs.Seen.{IsProbe, crosses}
use Rattle.css_semantics.proofs.WindowRanges.{share-sym}
use Rattle.css_arguments.proofs.Lists.{any_none, any_one, map_place, place_map, place_left, place_right}
use Rattle.css_objects.proofs.Probes.{same_base_shares, entry_window, one_entry, none_equal}
use Rattle.css_objects.proofs.Stores.{none_any}

pub same_refl : (w : coded.Window) → is_same_window (window w) (window w) ≡ true
same_refl w =
    and_from (eqb w.base w.base) (eqb w.rows w.rows && (eqb w.width w.width && eqb w.stride w.stride)) (eq-eqb w.base w.base refl)
    (and_from (eqb w.rows w.rows) (eqb w.width w.width && eqb w.stride w.stride) (eq-eqb w.rows w.rows refl)
    (and_from (eqb w.width w.width) (eqb w.stride w.stride) (eq-eqb w.width w.width refl) (eq-eqb w.stride w.stride refl)))

-- no object of another base is equal
pub none_of_base : (os : List Object) (w : coded.Window) → list_any (λ o. eqb o.window.base w.base) os ≡ false → list_any (λ o. is_same_window (window w) o.window) os ≡ false
none_of_base os w none =
    any_none (λ o. is_same_window (window w) o.window) os
    (λ i o at.
    false_from_ne_true (is_same_window (window w) o.window)
    (λ same.
    let base = and_parts (eqb w.base o.window.base) (eqb w.rows o.window.rows && (eqb w.width o.window.width && eqb w.stride o.window.stride)) same in
    let equal : w.base ≡ o.window.base = eqb-true w.base o.window.base base.0 in
    false≢true (sym (none_any (λ x. eqb x.window.base w.base) os i o none at) ∙ eq-eqb o.window.base w.base (sym equal))))

module _ (rows blocks : List Entry) (written : List coded.Window) (is : IsTable rows blocks written) where
  abbrev t : Table
  t = record { rows = rows; blocks = blocks }

  -- whether the object of a window's base is equal to it
  pub same_there : (w : coded.Window) (place : ℕ) (e : Entry) (same : Bool) → IsWindow (window w) → slice_get (rows ++ blocks) place ≡ Some e → e.window.base ≡ w.base
      → (same ≡ true → e.window ≡ w) → (same ≡ false → e.window ≢ w) → list_any (λ o. is_same_window (window w) o.window) (map object (rows ++ blocks)) ≡ same
  same_there w place e true is_window at of_base equal other =
      any_one (λ o. is_same_window (window w) o.window) (map object (rows ++ blocks)) place (object e) (place_map object (rows ++ blocks) place e at)
      (subst (λ (x : coded.Window). is_same_window (window w) (window x) ≡ true) (sym (equal refl)) (same_refl w))
  same_there w place e false is_window at of_base equal other =
      none_equal rows blocks written is w place e at
      (same_base_shares w e.window is_window (entry_window rows blocks written is place e at) (sym of_base)) (other refl)

  -- the window that was found is an object's of one row, or of several
  pub same_row : (w : coded.Window) (f : Found) (same : Bool) → IsWindow (window w) → IsOfBase (windows rows) w.base f → (same ≡ true → f.window ≡ w) → (same ≡ false → f.window ≢ w)
      → list_any (λ o. is_same_window (window w) o.window) (map object (rows ++ blocks)) ≡ same
  same_row w f same is_window of equal other =
      let found = map_place (λ (x : Entry). x.window) rows f.place f.window of.stands in
      same_there w f.place found.0 same is_window (place_left rows blocks f.place found.0 found.1) (ap (λ (x : coded.Window). x.base) found.2 ∙ of.same)
      (λ h. found.2 ∙ equal h) (λ h e. other h (sym found.2 ∙ e))

  pub same_block : (w : coded.Window) (f : Found) (same : Bool) → IsWindow (window w) → IsOfBase (windows blocks) w.base f → (same ≡ true → f.window ≡ w) → (same ≡ false → f.window ≢ w)
      → list_any (λ o. is_same_window (window w) o.window) (map object (rows ++ blocks)) ≡ same
  same_block w f same is_window of equal other =
      let found = map_place (λ (x : Entry). x.window) blocks f.place f.window of.stands in
      same_there w (length rows + f.place) found.0 same is_window (place_right rows blocks f.place found.0 found.1) (ap (λ (x : coded.Window). x.base) found.2 ∙ of.same)
      (λ h. found.2 ∙ equal h) (λ h e. other h (sym found.2 ∙ e))

  -- a window overlaps no object where it is equal to one
  same_overlap : (w : coded.Window) (place : ℕ) (e : Entry) → slice_get (rows ++ blocks) place ≡ Some e → e.window ≡ w → list_any (λ o. overlap (window w) o.window) (map object (rows ++ blocks)) ≡ false
  same_overlap w place e at whole =
      any_none (λ o. overlap (window w) o.window) (map object (rows ++ blocks))
      (λ i o of_o.
      let found = map_place object (rows ++ blocks) i o of_o in
      subst (λ (x : Object). overlap (window w) x.window ≡ false) found.2 (here i found.0 found.1))
    where
      here : (i : ℕ) (f : Entry) → slice_get (rows ++ blocks) i ≡ Some f → overlap (window w) (window f.window) ≡ false
      here i f of_f = by (share_byte (window w) (window f.window)) refl
        where
          same_at : (n : ℕ) → n ≡ place → slice_get (rows ++ blocks) n ≡ Some f → f ≡ e
          same_at n one of_n = some_inside f e (sym of_n ∙ ap (slice_get (rows ++ blocks)) one ∙ at)
            where
              some_inside : (x y : Entry) → Some x ≡ Some y → x ≡ y
              some_inside x y h = cc

          by : (b : Bool) → share_byte (window w) (window f.window) ≡ b → overlap (window w) (window f.window) ≡ false
          by false none = ap (λ b. b && not (is_same_window (window w) (window f.window))) none
          by true shares =
              let also : share_byte (window f.window) (window e.window) ≡ true =
              share-sym (window f.window) (window e.window) ∙ ap (λ (x : coded.Window). share_byte (window x) (window f.window)) whole ∙ shares in
              let one = one_entry rows blocks written is i place f e of_f at also in
              let equal : f.window ≡ w = ap (λ (x : Entry). x.window) (same_at i one of_f) ∙ whole in
              ap (λ b. b && not (is_same_window (window w) (window f.window))) shares
              ∙ ap not (subst (λ (x : coded.Window). is_same_window (window w) (window x) ≡ true) (sym equal) (same_refl w))

  -- what a probe says of overlaps
  pub probe_overlap : (w : coded.Window) (p : Probe) → IsProbe t w p → list_any (λ o. overlap (window w) o.window) (map object (rows ++ blocks)) ≡ crosses p
  probe_overlap w probes.Nothing none =
      any_none (λ o. overlap (window w) o.window) (map object (rows ++ blocks))
      (λ i o at. ap (λ b. b && not (is_same_window (window w) o.window)) (none_any (λ x. share_byte (window w) x.window) (map object (rows ++ blocks)) i o none at))
  probe_overlap w (probes.Same q) same =
      same_overlap w same.1.place same.1.shown.entry same.1.shown.at (sym same.1.shown.shows.window ∙ same.0)
  probe_overlap w (probes.Crosses v) met =
      any_one (λ o. overlap (window w) o.window) (map object (rows ++ blocks)) met.place (object met.entry) (place_map object (rows ++ blocks) met.place met.entry met.at)
      (and_from (share_byte (window w) (window met.entry.window)) (not (is_same_window (window w) (window met.entry.window)))
      (subst (λ (x : coded.Window). share_byte (window w) (window x) ≡ true) (sym met.is) met.shares)
      (ap not (none_any (λ o. is_same_window (window w) o.window) (map object (rows ++ blocks)) met.place (object met.entry) met.none_equal (place_map object (rows ++ blocks) met.place met.entry met.at))))

-- a search is no more than one for each row
pub more_rows : (count scanned rows old new : ℕ) → 1 ≤ rows → TakesAtMost count scanned 1 old new → TakesAtMost count scanned rows old new
more_rows count scanned rows old new some takes depth enough =
    let less = mul-le 1 depth rows depth some (omega arith) in
    omega (arith, takes depth enough, less)
