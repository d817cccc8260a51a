-- What a probe says of the table.
use Rattle.std.proofs.Common.{◌≡◌, ◌≢◌, ℕ, zero, suc, ◌+◌, ◌*◌, ◌<◌, ◌≤◌, true, false, ◌&&◌, List, [], ◌∷◌, ◌++◌, length, map, slice_get, Some, ◌⊎◌, inl, inr, sym, ap, ◌∙◌, subst, arith, eqb}
use Rattle.std.specs.List.{list_any}
use Rattle.std.proofs.lemmas.Bool.{cases_order, false≢true, and_parts, eqb-true, ne_eqb, false_from_ne_true}
use Rattle.std.proofs.lemmas.Option.{slice_get_within}
use Rattle.css_semantics.specs.Tasks.{is_same_window}
use Rattle.css_semantics.specs.Pending.{Object}
use Rattle.css_semantics.specs.Rules.{share_byte}
use Rattle.css_semantics.specs.Clear.{AreApart}
use Rattle.css_record.specs.declared.window.Window as coded
use Rattle.css_record.specs.Windows.{window, IsWindow}
use Rattle.css_objects.specs.declared.ordered.Found.{Found}
use Rattle.css_objects.specs.declared.pending.Probe.{Probe}
use Rattle.css_objects.specs.declared.pending.Pending.{Pending}
use Rattle.css_objects.specs.declared.pending.Probe.TheVariants as probes
use Rattle.css_objects.specs.Ordered.{HasNone}
use Rattle.css_arguments.specs.Lists.{Each}
use Rattle.css_objects.specs.Found.{NoneShares, IsLastSharing}
use Rattle.css_objects.specs.Table.{Entry, Table, windows, object, IsTable}
use Rattle.css_objects.specs.Seen.{ShowsAt, IsProbe, IsSeen}
use Rattle.css_semantics.proofs.WindowRanges.{share-sym, share_is_rows, share_by, rows_by}
use Rattle.css_objects.proofs.Searches.{base_at}
use Rattle.css_arguments.proofs.Lists.{any_none, at_place, map_place, place_map, place_left, place_right}

-- ---- places

-- a place of two lists is one of the first or of the second
pub place_split : {X : Type 0} (xs ys : List X) (i : ℕ) (x : X) → slice_get (xs ++ ys) i ≡ Some x
    → (slice_get xs i ≡ Some x) ⊎ ((j : ℕ) × (i ≡ length xs + j) × (slice_get ys j ≡ Some x))
place_split [] ys i x at = inr (i, omega arith, at)
place_split (y ∷ xs) ys zero x at = inl at
place_split (y ∷ xs) ys (suc i) x at =
    elim (place_split xs ys i x at) [
      | inl here ↦ inl here
      | inr later ↦ inr (later.0, omega (arith, later.1), later.2)
    ]

pub apart_at : (os : List Object) → AreApart os → (i j : ℕ) (a b : Object) → i < j → slice_get os i ≡ Some a → slice_get os j ≡ Some b → share_byte a.window b.window ≡ false
apart_at [] apart i j a b before of_a of_b = absurd (cc)
apart_at (o ∷ os) apart i zero a b before of_a of_b = absurd (omega arith)
apart_at (o ∷ os) apart zero (suc j) a b before of_a of_b =
    let same : o ≡ a = cc in
    subst (λ (x : Object). share_byte x.window b.window ≡ false) same (at_place (λ p. share_byte o.window p.window ≡ false) os apart.0 j b of_b)
apart_at (o ∷ os) apart (suc i) (suc j) a b before of_a of_b = apart_at os apart.1 i j a b (omega arith) of_a of_b

-- windows that are equal
pub same_window : (a b : coded.Window) → is_same_window (window a) (window b) ≡ true → a ≡ b
same_window a b same =
    let base = and_parts (eqb a.base b.base) (eqb a.rows b.rows && (eqb a.width b.width && eqb a.stride b.stride)) same in
    let rows = and_parts (eqb a.rows b.rows) (eqb a.width b.width && eqb a.stride b.stride) base.1 in
    let width = and_parts (eqb a.width b.width) (eqb a.stride b.stride) rows.1 in
    let of_base = eqb-true a.base b.base base.0 in
    let of_rows = eqb-true a.rows b.rows rows.0 in
    let of_width = eqb-true a.width b.width width.0 in
    let of_stride = eqb-true a.stride b.stride width.1 in
    λ i. record { base = of_base i; rows = of_rows i; width = of_width i; stride = of_stride i }

-- windows of one base share its byte
pub same_base_shares : (v w : coded.Window) → IsWindow (window v) → IsWindow (window w) → v.base ≡ w.base → share_byte (window v) (window w) ≡ true
same_base_shares v w of_v of_w same =
    share_is_rows (window v) (window w) of_v.width of_w.width
    ∙ share_by (window w) v.rows v.base v.width v.stride 0 (omega (arith, of_v.rows))
    (rows_by w.rows w.base w.width w.stride (v.base + 0 * v.stride) (v.base + 0 * v.stride + v.width) 0 (omega (arith, of_w.rows)) (omega (arith, same, of_v.width)) (omega (arith, same, of_w.width)))

module _ (rows blocks : List Entry) (written : List coded.Window) (is : IsTable rows blocks written) where
  abbrev t : Table
  t = record { rows = rows; blocks = blocks }

  pub entry_window : (i : ℕ) (e : Entry) → slice_get (rows ++ blocks) i ≡ Some e → IsWindow (window e.window)
  entry_window i e at =
      elim (place_split rows blocks i e at) [
        | inl here ↦ (is.rows_are.rows i e.window (place_map (λ (x : Entry). x.window) rows i e here)).is_window
        | inr later ↦ (is.blocks_are later.0 e.window (place_map (λ (x : Entry). x.window) blocks later.0 e later.2)).is_window
      ]

  -- two objects that share a byte are one
  pub one_entry : (i j : ℕ) (e f : Entry) → slice_get (rows ++ blocks) i ≡ Some e → slice_get (rows ++ blocks) j ≡ Some f → share_byte (window e.window) (window f.window) ≡ true → i ≡ j
  one_entry i j e f of_e of_f shares =
      let left = place_map object (rows ++ blocks) i e of_e in
      let right = place_map object (rows ++ blocks) j f of_f in
      elim (cases_order i j) [
        | inl same ↦ same
        | inr (inl before) ↦ absurd (false≢true (sym (apart_at (map object (rows ++ blocks)) is.apart i j (object e) (object f) before left right) ∙ shares))
        | inr (inr behind) ↦
            absurd (false≢true (sym (apart_at (map object (rows ++ blocks)) is.apart j i (object f) (object e) behind right left)
            ∙ share-sym (window f.window) (window e.window) ∙ shares))
      ]

  -- nothing is equal to a window that shares a byte with another one
  pub none_equal : (w : coded.Window) (place : ℕ) (e : Entry) → slice_get (rows ++ blocks) place ≡ Some e → share_byte (window w) (window e.window) ≡ true → e.window ≢ w
      → list_any (λ o. is_same_window (window w) o.window) (map object (rows ++ blocks)) ≡ false
  none_equal w place e at shares other =
      any_none (λ o. is_same_window (window w) o.window) (map object (rows ++ blocks))
      (λ i o of_o.
      let found = map_place object (rows ++ blocks) i o of_o in
      false_from_ne_true (is_same_window (window w) o.window)
      (λ same.
      let equal : w ≡ found.0.window = same_window w found.0.window (subst (λ (x : Object). is_same_window (window w) x.window ≡ true) (sym found.2) same) in
      let also : share_byte (window found.0.window) (window e.window) ≡ true = subst (λ (x : coded.Window). share_byte (window x) (window e.window) ≡ true) equal shares in
      let one = one_entry i place found.0 e found.1 at also in
      let here : slice_get (rows ++ blocks) place ≡ Some found.0 = subst (λ (n : ℕ). slice_get (rows ++ blocks) n ≡ Some found.0) one found.1 in
      let entry : found.0 ≡ e = some_same found.0 e (sym here ∙ at) in
      other (sym (ap (λ (x : Entry). x.window) entry) ∙ sym equal)))
    where
      some_same : (x y : Entry) → Some x ≡ Some y → x ≡ y
      some_same x y e = cc

  module _ (w : coded.Window) where
    abbrev IsBelow : List Entry → ℕ → Type 0
    IsBelow es base = Each (windows es) (λ v. share_byte (window w) (window v) ≡ true → v.base ≤ base)

    all_below : (base : ℕ) → IsBelow rows base → IsBelow blocks base → (i : ℕ) (e : Entry) → slice_get (rows ++ blocks) i ≡ Some e
        → share_byte (window w) (window e.window) ≡ true → e.window.base ≤ base
    all_below base of_rows of_blocks i e at shares =
        elim (place_split rows blocks i e at) [
          | inl here ↦ of_rows i e.window (place_map (λ (x : Entry). x.window) rows i e here) shares
          | inr later ↦ of_blocks later.0 e.window (place_map (λ (x : Entry). x.window) blocks later.0 e later.2) shares
        ]

    probed : (place : ℕ) (e : Entry) (f : Found) → slice_get (rows ++ blocks) place ≡ Some e → e.window ≡ f.window → share_byte (window w) (window f.window) ≡ true
        → IsBelow rows f.window.base → IsBelow blocks f.window.base → (es : List Entry) → ((p : Pending) → ShowsAt es f.place p → ShowsAt (rows ++ blocks) place p)
        → (p : Probe) → IsSeen es f w p → IsProbe t w p
    probed place e f at same shares of_rows of_blocks es moves probes.Nothing seen = absurd seen
    probed place e f at same shares of_rows of_blocks es moves (probes.Same p) seen = (seen.1, record { place = place; shown = moves p seen.2 })
    probed place e f at same shares of_rows of_blocks es moves (probes.Crosses v) seen = record {
      none_equal = none_equal w place e at (subst (λ (x : coded.Window). share_byte (window w) (window x) ≡ true) (sym same) shares) (λ equal. seen.0 (sym same ∙ equal));
      place = place;
      entry = e;
      at = at;
      is = same ∙ sym seen.1;
      shares = subst (λ (x : coded.Window). share_byte (window w) (window x) ≡ true) (sym seen.1) shares;
      greatest = λ i x of_x also. subst (λ (y : coded.Window). x.window.base ≤ y.base) (sym seen.1) (all_below f.window.base of_rows of_blocks i x of_x also);
    }

    pub none_is_below : (es : List Entry) (base : ℕ) → NoneShares (windows es) w → IsBelow es base
    none_is_below es base none i v at shares = absurd (false≢true (sym (none i v at) ∙ shares))

    pub last_is_below : (es : List Entry) (f : Found) (base : ℕ) → IsLastSharing (windows es) w f → f.window.base ≤ base → IsBelow es base
    last_is_below es f base last less i v at shares = omega (arith, last.greatest i v at shares, less)

    pub probed_row : (f : Found) → IsLastSharing (windows rows) w f → IsBelow blocks f.window.base → (p : Probe) → IsSeen rows f w p → IsProbe t w p
    probed_row f last of_blocks p seen =
        let found = map_place (λ (x : Entry). x.window) rows f.place f.window last.stands in
        probed f.place found.0 f (place_left rows blocks f.place found.0 found.1) found.2 last.shares (λ i v at. last.greatest i v at) of_blocks rows
        (λ q shown. record { entry = shown.entry; at = place_left rows blocks f.place shown.entry shown.at; shows = shown.shows }) p seen

    pub probed_block : (f : Found) → IsLastSharing (windows blocks) w f → IsBelow rows f.window.base → (p : Probe) → IsSeen blocks f w p → IsProbe t w p
    probed_block f last of_rows p seen =
        let found = map_place (λ (x : Entry). x.window) blocks f.place f.window last.stands in
        probed (length rows + f.place) found.0 f (place_right rows blocks f.place found.0 found.1) found.2 last.shares of_rows (λ i v at. last.greatest i v at) blocks
        (λ q shown. record { entry = shown.entry; at = place_right rows blocks f.place shown.entry shown.at; shows = shown.shows }) p seen

-- ---- objects that are lent

pub shows_left : (rows blocks : List Entry) (place : ℕ) (p : Pending) → ShowsAt rows place p → ShowsAt (rows ++ blocks) place p
shows_left rows blocks place p shown = record { entry = shown.entry; at = place_left rows blocks place shown.entry shown.at; shows = shown.shows }

pub shows_right : (rows blocks : List Entry) (place : ℕ) (p : Pending) → ShowsAt blocks place p → ShowsAt (rows ++ blocks) (length rows + place) p
shows_right rows blocks place p shown = record { entry = shown.entry; at = place_right rows blocks place shown.entry shown.at; shows = shown.shows }

pub none_at_base : (rows blocks : List Entry) (base : ℕ) → HasNone (windows rows) base → HasNone (windows blocks) base
    → list_any (λ o. eqb o.window.base base) (map object (rows ++ blocks)) ≡ false
none_at_base rows blocks base of_rows of_blocks =
    any_none (λ o. eqb o.window.base base) (map object (rows ++ blocks))
    (λ i o of_o.
    let found = map_place object (rows ++ blocks) i o of_o in
    subst (λ (x : Object). eqb x.window.base base ≡ false) found.2
    (ne_eqb found.0.window.base base (λ same.
    elim (place_split rows blocks i found.0 found.1) [
      | inl here ↦
          let at = place_map (λ (x : Entry). x.window) rows i found.0 here in
          of_rows i (slice_get_within (windows rows) i found.0.window at) (base_at (windows rows) i found.0.window at ∙ same)
      | inr later ↦
          let at = place_map (λ (x : Entry). x.window) blocks later.0 found.0 later.2 in
          of_blocks later.0 (slice_get_within (windows blocks) later.0 found.0.window at) (base_at (windows blocks) later.0 found.0.window at ∙ same)
    ])))
