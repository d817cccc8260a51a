-- The table with a version that a task makes.
use Rattle.std.proofs.Common.{◌≡◌, ◌≢◌, ℕ, zero, suc, ◌+◌, ◌<◌, ◌≤◌, Bool, true, false, List, [], ◌∷◌, ◌++◌, length, map, filter, take, drop, get_or, slice_get, slice_set, is_some, Some, refl, sym, ap, ◌∙◌, subst, All, arith, if◌then◌else◌}
use Rattle.std.specs.List.{list_any, insert}
use Rattle.std.specs.List.Sorted.{IsPermutation}
use Rattle.std.proofs.Math.Seq.{map-set_same}
use Rattle.std.proofs.lemmas.List.{length-map, map-append, map-set, set-append_left}
use Rattle.std.proofs.lemmas.List.Sorted.{IsPermutation-refl}
use Rattle.std.proofs.lemmas.Option.{slice_get_within, get_or_from_slice_get}
use Rattle.std.proofs.lemmas.Bool.{false_from_ne_true}
use Rattle.css_semantics.specs.Tasks.{is_same_window}
use Rattle.css_semantics.specs.Pending.{Object}
use Rattle.css_semantics.specs.Rules.{share_byte, overlap}
use Rattle.css_semantics.specs.Clear.{AreApart}
use Rattle.css_record.specs.declared.window.Window as coded
use Rattle.css_record.specs.Windows.{window, IsWindow}
use Rattle.css_objects.specs.declared.ordered.Found.{Found}
use Rattle.css_objects.specs.declared.version.Held.{Held}
use Rattle.css_objects.specs.declared.version.Held.TheVariants as held
use Rattle.css_objects.specs.Ordered.{IsAscending, IsGap, IsOfBase, HasNone}
use Rattle.css_arguments.specs.Lists.{Each}
use Rattle.css_objects.specs.Found.{IsRow, AreRows}
use Rattle.css_objects.specs.Table.{Entry, windows, maker, is_written, object, IsBlock, IsTable, IsInserted}
use Rattle.css_objects.specs.Versions.{versions}
use Rattle.css_objects.specs.Naming.{with_version}
use Rattle.css_objects.proofs.Searches.{base_at}
use Rattle.css_arguments.proofs.Looking.{within}
use Rattle.std.proofs.lemmas.List.Elements.{All-head, All-tail, All-nil, All-cons}
use Rattle.css_arguments.proofs.Lists.{map_place, place_map, place_left, place_right}
use Rattle.css_objects.proofs.Keeping.{filter-append, place_in_filter, rows_of, written_each, written_apart}
use Rattle.css_objects.proofs.Probes.{same_window, same_base_shares, entry_window, one_entry}
use Rattle.css_objects.proofs.Snapshots.{same_refl}
use Rattle.css_objects.proofs.Kept.{has_maker, same_written}
use Rattle.css_objects.proofs.Adding.{with_gap, of_base, found_same, apart_row, rows_with}

-- ---- lists with another element at a place

map_none : {X : Type 0} (p : X → Bool) (f : X → X) (zs : List X) → ((i : ℕ) (z : X) → slice_get zs i ≡ Some z → p z ≡ false) → map (λ e. if p e then f e else e) zs ≡ zs
map_none p f [] none = refl
map_none p f (z ∷ zs) none =
    ap (λ b. (if b then f z else z) ∷ map (λ e. if p e then f e else e) zs) (none 0 z refl) ∙ ap (λ ys. z ∷ ys) (map_none p f zs (λ i u of_u. none (suc i) u of_u))

set_one : {X : Type 0} (p : X → Bool) (f : X → X) (xs : List X) (k : ℕ) (x : X) → slice_get xs k ≡ Some x → p x ≡ true
    → ((i : ℕ) (y : X) → slice_get xs i ≡ Some y → i ≢ k → p y ≡ false) → map (λ e. if p e then f e else e) xs ≡ slice_set xs k (f x)
set_one p f [] k x at passes others = absurd (cc)
set_one p f (y ∷ xs) zero x at passes others =
    let same : y ≡ x = cc in
    ap (λ z. (if p z then f z else z) ∷ map (λ e. if p e then f e else e) xs) same
    ∙ ap (λ b. (if b then f x else x) ∷ map (λ e. if p e then f e else e) xs) passes
    ∙ ap (λ ys. f x ∷ ys) (map_none p f xs (λ i z of_z. others (suc i) z of_z (λ e. absurd (omega arith))))
set_one p f (y ∷ xs) (suc k) x at passes others =
    ap (λ b. (if b then f y else y) ∷ map (λ e. if p e then f e else e) xs) (others 0 y refl (λ e. absurd (omega arith)))
    ∙ ap (λ ys. y ∷ ys) (set_one p f xs k x at passes (λ i z of_z other. others (suc i) z of_z (λ e. other (omega arith))))

set_split : {X : Type 0} (xs : List X) (k : ℕ) (x y : X) → slice_get xs k ≡ Some x → (slice_set xs k y ≡ take k xs ++ y ∷ drop (suc k) xs) × (xs ≡ take k xs ++ x ∷ drop (suc k) xs)
set_split [] k x y at = absurd (cc)
set_split (z ∷ xs) zero x y at = (refl, ap (λ u. u ∷ xs) (let e : z ≡ x = cc in e))
set_split (z ∷ xs) (suc k) x y at = let rest = set_split xs k x y at in (ap (λ ys. z ∷ ys) rest.0, ap (λ ys. z ∷ ys) rest.1)

place_take : {X : Type 0} (xs : List X) (k j : ℕ) (x : X) → slice_get (take k xs) j ≡ Some x → (j < k) × (slice_get xs j ≡ Some x)
place_take [] zero j x at = absurd (cc)
place_take [] (suc k) j x at = absurd (cc)
place_take (y ∷ xs) zero j x at = absurd (cc)
place_take (y ∷ xs) (suc k) zero x at = (omega arith, at)
place_take (y ∷ xs) (suc k) (suc j) x at = let rest = place_take xs k j x at in (omega (arith, rest.0), rest.1)

place_drop : {X : Type 0} (xs : List X) (k j : ℕ) (x : X) → slice_get (drop k xs) j ≡ Some x → (i : ℕ) × (k ≤ i) × (slice_get xs i ≡ Some x)
place_drop [] zero j x at = absurd (cc)
place_drop [] (suc k) j x at = absurd (cc)
place_drop (y ∷ xs) zero j x at = (j, omega arith, at)
place_drop (y ∷ xs) (suc k) j x at = let rest = place_drop xs k j x at in (suc rest.0, omega (arith, rest.1), rest.2)

filter_passes : {X : Type 0} (p : X → Bool) (xs : List X) (j : ℕ) (x : X) → slice_get (filter p xs) j ≡ Some x → p x ≡ true
filter_passes p [] j x at = absurd (cc)
filter_passes p (y ∷ xs) j x at = by (p y) refl j (λ k of_k. filter_passes p xs k x of_k) at
  where
    by : (b : Bool) → p y ≡ b → (k : ℕ) → ((n : ℕ) → slice_get (filter p xs) n ≡ Some x → p x ≡ true)
        → slice_get (if b then y ∷ filter p xs else filter p xs) k ≡ Some x → p x ≡ true
    by true passes zero later of_k = let same : y ≡ x = cc in sym (ap p same) ∙ passes
    by true passes (suc k) later of_k = later k of_k
    by false fails k later of_k = later k of_k

filter_place : {X : Type 0} (p : X → Bool) (xs : List X) (i : ℕ) (x : X) → slice_get xs i ≡ Some x → p x ≡ true → (j : ℕ) × (slice_get (filter p xs) j ≡ Some x)
filter_place p [] i x at passes = absurd (cc)
filter_place p (y ∷ xs) zero x at passes =
    let same : y ≡ x = cc in
    (0, ap (λ b. slice_get (if b then y ∷ filter p xs else filter p xs) 0) (ap p same ∙ passes) ∙ ap Some same)
filter_place p (y ∷ xs) (suc i) x at passes = by (p y) (filter_place p xs i x at passes)
  where
    by : (b : Bool) → (j : ℕ) × (slice_get (filter p xs) j ≡ Some x) → (j : ℕ) × (slice_get (if b then y ∷ filter p xs else filter p xs) j ≡ Some x)
    by true found = (suc found.0, found.1)
    by false found = found

set_right : {X : Type 0} (xs ys : List X) (i : ℕ) (y : X) → slice_set (xs ++ ys) (length xs + i) y ≡ xs ++ slice_set ys i y
set_right [] ys i y = ap (λ n. slice_set ys n y) (let e : 0 + i ≡ i = omega arith in e)
set_right (x ∷ xs) ys i y = ap (λ n. slice_set (x ∷ (xs ++ ys)) n y) (let e : suc (length xs) + i ≡ suc (length xs + i) = omega arith in e) ∙ ap (λ zs. x ∷ zs) (set_right xs ys i y)

-- ---- entries by their windows and versions

entries_same : (es fs : List Entry) → windows es ≡ windows fs → versions es ≡ versions fs → es ≡ fs
entries_same [] [] of_w of_v = refl
entries_same [] (f ∷ fs) of_w of_v = absurd (cc)
entries_same (e ∷ es) [] of_w of_v = absurd (cc)
entries_same (e ∷ es) (f ∷ fs) of_w of_v =
    let w : e.window ≡ f.window = cc in
    let v : e.version ≡ f.version = cc in
    let ws : windows es ≡ windows fs = cc in
    let vs : versions es ≡ versions fs = cc in
    ap (λ (x : coded.Window). record { window = x; version = e.version } ∷ es) w
    ∙ ap (λ (x : Held). record { window = f.window; version = x } ∷ es) v
    ∙ ap (λ rest. f ∷ rest) (entries_same es fs ws vs)

set_entry : (es fs : List Entry) (k : ℕ) (e : Entry) (v : Held) → slice_get es k ≡ Some e → windows fs ≡ windows es → versions fs ≡ slice_set (versions es) k v
    → fs ≡ slice_set es k (record { window = e.window; version = v })
set_entry es fs k e v at of_w of_v =
    let e1 : Entry = record { window = e.window; version = v } in
    let here : get_or es k e ≡ e = get_or_from_slice_get es k e e at in
    entries_same fs (slice_set es k e1)
    (of_w ∙ sym (map-set_same (λ (x : Entry). x.window) es k e1 e (ap (λ (x : Entry). x.window) (sym here))))
    (of_v ∙ sym (map-set (λ (x : Entry). x.version) es k e1))

-- what depends on windows alone
apart_windows : (os ps : List Object) → map (λ o. o.window) os ≡ map (λ o. o.window) ps → AreApart os → AreApart ps
apart_windows [] [] same apart = tt
apart_windows [] (p ∷ ps) same apart = absurd (cc)
apart_windows (o ∷ os) [] same apart = absurd (cc)
apart_windows (o ∷ os) (p ∷ ps) same apart =
    let w : o.window ≡ p.window = cc in
    let ws : map (λ (x : Object). x.window) os ≡ map (λ (x : Object). x.window) ps = cc in
    (all os ps ws w apart.0, apart_windows os ps ws apart.1)
  where
    all : (xs ys : List Object) → map (λ (x : Object). x.window) xs ≡ map (λ (x : Object). x.window) ys → o.window ≡ p.window → All (λ q. share_byte o.window q.window ≡ false) xs → All (λ q. share_byte p.window q.window ≡ false) ys
    all [] [] same w every = All-nil (λ (q : Object). share_byte p.window q.window ≡ false)
    all [] (y ∷ ys) same w every = absurd (cc)
    all (x ∷ xs) [] same w every = absurd (cc)
    all (x ∷ xs) (y ∷ ys) same w every =
        let here : x.window ≡ y.window = cc in
        let rest : map (λ (z : Object). z.window) xs ≡ map (λ (z : Object). z.window) ys = cc in
        All-cons (λ (q : Object). share_byte p.window q.window ≡ false) y ys
        (sym (ap (λ v. share_byte v y.window) w) ∙ sym (ap (share_byte o.window) here) ∙ All-head (λ (q : Object). share_byte o.window q.window ≡ false) x xs every)
        (all xs ys rest w (All-tail (λ (q : Object). share_byte o.window q.window ≡ false) x xs every))

object_windows : (es : List Entry) → map (λ (o : Object). o.window) (map object es) ≡ map window (windows es)
object_windows [] = refl
object_windows (e ∷ es) = ap (λ rest. window e.window ∷ rest) (object_windows es)

same_apart : (es fs : List Entry) → windows es ≡ windows fs → AreApart (map object es) → AreApart (map object fs)
same_apart es fs same apart = apart_windows (map object es) (map object fs) (object_windows es ∙ ap (map window) same ∙ sym (object_windows fs)) apart

-- ---- windows of one row that are written, with one more

written_with : (before behind : List Entry) (e : Entry) (written : List coded.Window) (g : ℕ) → is_written e ≡ true → written ≡ windows (filter is_written before) ++ windows (filter is_written behind)
    → IsGap written g e.window.base → Each (windows before) (λ u. u.base < e.window.base) → Each (windows behind) (λ v. e.window.base < v.base)
    → insert written g e.window ≡ windows (filter is_written (before ++ e ∷ behind))
written_with before behind e written g is_w whole gap below above =
    with_gap written e.window g gap (windows (filter is_written before)) (windows (filter is_written behind)) whole
    (written_each before (λ u. u.base < e.window.base) below) (written_each behind (λ v. e.window.base < v.base) above)
    ∙ sym (ap windows (filter-append is_written before (e ∷ behind))
    ∙ ap (λ b. windows (filter is_written before ++ (if b then e ∷ filter is_written behind else filter is_written behind))) is_w
    ∙ map-append (λ (x : Entry). x.window) (filter is_written before) (e ∷ filter is_written behind))

-- the written windows of a table
written_rows_of : (rows blocks : List Entry) (written : List coded.Window) → AreRows (windows rows) → AreApart (map object (rows ++ blocks)) → written ≡ windows (filter is_written rows) → IsAscending written → AreRows written
written_rows_of rows blocks written rows_are apart same ascends =
    rows_of written
    (λ i v at. written_each rows IsRow rows_are.rows i v (ap (λ ws. slice_get ws i) (sym same) ∙ at))
    ascends
    (λ i j u v before of_u of_v. written_apart rows blocks apart i j u v before (ap (λ ws. slice_get ws i) (sym same) ∙ of_u) (ap (λ ws. slice_get ws j) (sym same) ∙ of_v))

-- the object of a window's base gets a version
remade : (rows blocks : List Entry) (written : List coded.Window) (is : IsTable rows blocks written) (w : coded.Window) (is_window : IsWindow (window w))
    (clear : list_any (λ o. overlap (window w) o.window) (map object (rows ++ blocks)) ≡ false) (task out place : ℕ) (e : Entry) → slice_get (rows ++ blocks) place ≡ Some e → e.window.base ≡ w.base
    → with_version (rows ++ blocks) w (held.Made task out) ≡ slice_set (rows ++ blocks) place (record { window = e.window; version = held.Made task out })
remade rows blocks written is w is_window clear task out place e at base =
    rw (found_same rows blocks written is w is_window clear place e at base)
    (set_one (λ (x : Entry). is_same_window (window w) (window x.window)) (λ (x : Entry). record { window = x.window; version = held.Made task out }) (rows ++ blocks) place e at
    (subst (λ (v : coded.Window). is_same_window (window w) (window v) ≡ true) (of_base rows blocks written is w is_window clear place e at base) (same_refl w))
    (λ i y of_y other.
    false_from_ne_true (is_same_window (window w) (window y.window))
    (λ same.
    let whole : w ≡ y.window = same_window w y.window same in
    other
    (one_entry rows blocks written is i place y e of_y at
    (same_base_shares y.window e.window (entry_window rows blocks written is i y of_y) (entry_window rows blocks written is place e at) (ap (λ (x : coded.Window). x.base) (sym whole) ∙ sym base))))))

module _ (rows blocks : List Entry) (written : List coded.Window) (is : IsTable rows blocks written) (w : coded.Window) (is_window : IsWindow (window w))
    (clear : list_any (λ o. overlap (window w) o.window) (map object (rows ++ blocks)) ≡ false) (task out : ℕ) where
  abbrev made : Held
  made = held.Made task out

  abbrev made_entry : Entry
  made_entry = record { window = w; version = made }

  -- ---- a new object of one row

  pub none_written : HasNone (windows rows) w.base → HasNone written w.base
  none_written none i inside same =
      let v = within written i inside in
      let old = map_place (λ (e : Entry). e.window) (filter is_written rows) i v.0 (ap (λ ws. slice_get ws i) (sym is.written_are) ∙ v.1) in
      let first = place_in_filter is_written rows i old.0 old.1 in
      let at = place_map (λ (e : Entry). e.window) rows first.0 old.0 first.1 in
      none first.0 (slice_get_within (windows rows) first.0 old.0.window at)
      (base_at (windows rows) first.0 old.0.window at ∙ ap (λ (x : coded.Window). x.base) old.2 ∙ sym (base_at written i v.0 v.1) ∙ same)

  module _ (one : w.rows ≡ 1) (new : (i : ℕ) (e : Entry) → slice_get (rows ++ blocks) i ≡ Some e → w ≢ e.window) (rows' : List Entry) (added : IsInserted rows w made rows')
      (g : ℕ) (gap : IsGap written g w.base) (written' : List coded.Window) (of_written : written' ≡ insert written g w) (ascends : IsAscending written') where
    place_within : added.place ≤ length rows
    place_within = omega (arith, added.gap.within, length-map rows (λ (e : Entry). e.window))

    split : rows ≡ take added.place rows ++ drop added.place rows
    split = sym (take_drop rows added.place)
      where
        take_drop : (xs : List Entry) (i : ℕ) → take i xs ++ drop i xs ≡ xs
        take_drop [] zero = refl
        take_drop [] (suc i) = refl
        take_drop (x ∷ xs) zero = refl
        take_drop (x ∷ xs) (suc i) = ap (λ ys. x ∷ ys) (take_drop xs i)

    below : Each (windows (take added.place rows)) (λ u. u.base < w.base)
    below i u at =
        let e = map_place (λ (x : Entry). x.window) (take added.place rows) i u at in
        let old = place_take rows added.place i e.0 e.1 in
        let there = place_map (λ (x : Entry). x.window) rows i e.0 old.1 in
        omega (arith, added.gap.below i old.0, base_at (windows rows) i e.0.window there, ap (λ (x : coded.Window). x.base) e.2)

    above : Each (windows (drop added.place rows)) (λ v. w.base < v.base)
    above i v at =
        let e = map_place (λ (x : Entry). x.window) (drop added.place rows) i v at in
        let old = place_drop rows added.place i e.0 e.1 in
        let there = place_map (λ (x : Entry). x.window) rows old.0 e.0 old.2 in
        omega (arith, added.gap.above old.0 old.1 (slice_get_within (windows rows) old.0 e.0.window there), base_at (windows rows) old.0 e.0.window there, ap (λ (x : coded.Window). x.base) e.2)

    written_is : written' ≡ windows (filter is_written rows')
    written_is =
        of_written
        ∙ written_with (take added.place rows) (drop added.place rows) made_entry written g refl
        (is.written_are ∙ ap (λ es. windows (filter is_written es)) split ∙ ap windows (filter-append is_written (take added.place rows) (drop added.place rows))
        ∙ map-append (λ (e : Entry). e.window) (filter is_written (take added.place rows)) (filter is_written (drop added.place rows)))
        gap below above
        ∙ ap (λ es. windows (filter is_written es)) (sym added.is)

    pub table-made_row : IsTable rows' blocks written'
    table-made_row =
        let apart : AreApart (map object (rows' ++ blocks)) =
        subst (λ es. AreApart (map object (es ++ blocks))) (sym added.is) (apart_row rows blocks written is w is_window clear new made added.place place_within) in
        let rows_are : AreRows (windows rows') =
        subst (λ es. AreRows (windows es)) (sym added.is)
        (rows_with rows blocks written is w is_window clear new made one added.place place_within (subst (λ es. IsAscending (windows es)) added.is added.ascends)) in
        record {
          rows_are = rows_are;
          blocks_are = is.blocks_are;
          written_rows = written_rows_of rows' blocks written' rows_are apart written_is ascends;
          written_are = written_is;
          apart = apart;
        }

  -- ---- an object of one row that is there

  module _ (f : Found) (of : IsOfBase (windows rows) w.base f) (rows' : List Entry) (of_windows : windows rows' ≡ windows rows) (of_versions : versions rows' ≡ slice_set (versions rows) f.place made) where
    abbrev pub old : (e : Entry) × (slice_get rows f.place ≡ Some e) × (e.window ≡ f.window)
    old = map_place (λ (e : Entry). e.window) rows f.place f.window of.stands

    old_at : slice_get (rows ++ blocks) f.place ≡ Some old.0
    old_at = place_left rows blocks f.place old.0 old.1

    old_base : old.0.window.base ≡ w.base
    old_base = ap (λ (x : coded.Window). x.base) old.2 ∙ of.same

    same_old : w ≡ old.0.window
    same_old = of_base rows blocks written is w is_window clear f.place old.0 old_at old_base

    rows_are_set : rows' ≡ slice_set rows f.place (record { window = old.0.window; version = made })
    rows_are_set = set_entry rows rows' f.place old.0 made old.1 of_windows of_versions

    pub row_remade : IsPermutation (rows' ++ blocks) (with_version (rows ++ blocks) w made)
    row_remade =
        subst (IsPermutation (rows' ++ blocks)) (sym whole) (IsPermutation-refl (rows' ++ blocks))
      where
        whole : with_version (rows ++ blocks) w made ≡ rows' ++ blocks
        whole =
            remade rows blocks written is w is_window clear task out f.place old.0 old_at old_base
            ∙ set-append_left rows blocks f.place (record { window = old.0.window; version = made }) (slice_get_within rows f.place old.0 old.1)
            ∙ ap (λ es. es ++ blocks) (sym rows_are_set)

    apart_remade : AreApart (map object (rows' ++ blocks))
    apart_remade =
        same_apart (rows ++ blocks) (rows' ++ blocks)
        (map-append (λ (e : Entry). e.window) rows blocks ∙ ap (λ ws. ws ++ windows blocks) (sym of_windows) ∙ sym (map-append (λ (e : Entry). e.window) rows' blocks)) is.apart

    -- which a task may write already
    pub table-remade : is_written old.0 ≡ true → IsTable rows' blocks written
    table-remade already = record {
      rows_are = subst AreRows (sym of_windows) is.rows_are;
      blocks_are = is.blocks_are;
      written_rows = is.written_rows;
      written_are = is.written_are ∙ sym (same_written rows' rows of_windows makers);
      apart = apart_remade;
    }
      where
        makers : map has_maker (versions rows') ≡ map has_maker (versions rows)
        makers =
            ap (map has_maker) of_versions
            ∙ map-set_same has_maker (versions rows) f.place made old.0.version
            (sym already ∙ ap (λ v. is_some (maker v)) (sym (get_or_from_slice_get (versions rows) f.place old.0.version old.0.version (place_map (λ (e : Entry). e.version) rows f.place old.0 old.1))))

    -- and which tasks only read
    module _ (unwritten : is_written old.0 ≡ false) (g : ℕ) (gap : IsGap written g w.base) (written' : List coded.Window) (of_written : written' ≡ insert written g w) (ascends : IsAscending written') where
      abbrev before : List Entry
      before = take f.place rows

      abbrev behind : List Entry
      behind = drop (suc f.place) rows

      parts : (rows' ≡ before ++ record { window = old.0.window; version = made } ∷ behind) × (rows ≡ before ++ old.0 ∷ behind)
      parts =
          let split = set_split rows f.place old.0 (record { window = old.0.window; version = made }) old.1 in
          (rows_are_set ∙ split.0, split.1)

      stands : slice_get (windows rows) f.place ≡ Some old.0.window
      stands = place_map (λ (e : Entry). e.window) rows f.place old.0 old.1

      lower : Each (windows before) (λ u. u.base < old.0.window.base)
      lower i u at =
          let e = map_place (λ (x : Entry). x.window) before i u at in
          let first = place_take rows f.place i e.0 e.1 in
          let there = place_map (λ (x : Entry). x.window) rows i e.0 first.1 in
          omega (arith, is.rows_are.parted i f.place e.0.window old.0.window first.0 there stands, (is.rows_are.rows i e.0.window there).is_window.width, ap (λ (x : coded.Window). x.base) e.2)

      higher : Each (windows behind) (λ v. old.0.window.base < v.base)
      higher i v at =
          let e = map_place (λ (x : Entry). x.window) behind i v at in
          let later = place_drop rows (suc f.place) i e.0 e.1 in
          let there = place_map (λ (x : Entry). x.window) rows later.0 e.0 later.2 in
          omega (
            arith,
            is.rows_are.parted f.place later.0 old.0.window e.0.window (omega (arith, later.1)) stands there,
            (is.rows_are.rows f.place old.0.window stands).is_window.width,
            ap (λ (x : coded.Window). x.base) e.2,
          )

      written_is_set : written' ≡ windows (filter is_written rows')
      written_is_set =
          of_written ∙ ap (insert written g) same_old
          ∙ written_with before behind (record { window = old.0.window; version = made }) written g refl
          (is.written_are ∙ ap (λ es. windows (filter is_written es)) parts.1 ∙ ap windows (filter-append is_written before (old.0 ∷ behind))
          ∙ ap (λ b. windows (filter is_written before ++ (if b then old.0 ∷ filter is_written behind else filter is_written behind))) unwritten
          ∙ map-append (λ (e : Entry). e.window) (filter is_written before) (filter is_written behind))
          (subst (IsGap written g) (sym old_base) gap) lower higher
          ∙ ap (λ es. windows (filter is_written es)) (sym parts.0)

      pub table-written : IsTable rows' blocks written'
      table-written = record {
        rows_are = subst AreRows (sym of_windows) is.rows_are;
        blocks_are = is.blocks_are;
        written_rows = written_rows_of rows' blocks written' (subst AreRows (sym of_windows) is.rows_are) apart_remade written_is_set ascends;
        written_are = written_is_set;
        apart = apart_remade;
      }

    -- whether a task may write it
    pub is_old_written : (v : Found) → IsOfBase written w.base v → is_written old.0 ≡ true
    is_old_written v there =
        let e = map_place (λ (x : Entry). x.window) (filter is_written rows) v.place v.window (ap (λ ws. slice_get ws v.place) (sym is.written_are) ∙ there.stands) in
        let first = place_in_filter is_written rows v.place e.0 e.1 in
        let passes = filter_passes is_written rows v.place e.0 e.1 in
        let base : e.0.window.base ≡ old.0.window.base = ap (λ (x : coded.Window). x.base) e.2 ∙ there.same ∙ sym old_base in
        let at = place_left rows blocks first.0 e.0 first.1 in
        let one =
        one_entry rows blocks written is first.0 f.place e.0 old.0 at old_at
        (same_base_shares e.0.window old.0.window (entry_window rows blocks written is first.0 e.0 at) (entry_window rows blocks written is f.place old.0 old_at) base) in
        let whole : e.0 ≡ old.0 = some_inside e.0 old.0 (sym first.1 ∙ ap (slice_get rows) one ∙ old.1) in
        sym (ap is_written whole) ∙ passes
      where
        some_inside : (x y : Entry) → Some x ≡ Some y → x ≡ y
        some_inside x y h = cc

    pub is_old_unwritten : HasNone written w.base → is_written old.0 ≡ false
    is_old_unwritten none =
        false_from_ne_true (is_written old.0)
        (λ passes.
        let there = filter_place is_written rows f.place old.0 old.1 passes in
        let at : slice_get written there.0 ≡ Some old.0.window =
        ap (λ ws. slice_get ws there.0) is.written_are ∙ place_map (λ (x : Entry). x.window) (filter is_written rows) there.0 old.0 there.1 in
        none there.0 (slice_get_within written there.0 old.0.window at) (base_at written there.0 old.0.window at ∙ old_base))

  -- ---- an object of several rows that is there

  module _ (f : Found) (of : IsOfBase (windows blocks) w.base f) (blocks' : List Entry) (of_windows : windows blocks' ≡ windows blocks) (of_versions : versions blocks' ≡ slice_set (versions blocks) f.place made) where
    pub table-remade_block : IsTable rows blocks' written
    table-remade_block = record {
      rows_are = is.rows_are;
      blocks_are = subst (λ ws. Each ws IsBlock) (sym of_windows) is.blocks_are;
      written_rows = is.written_rows;
      written_are = is.written_are;
      apart =
          same_apart (rows ++ blocks) (rows ++ blocks')
          (map-append (λ (e : Entry). e.window) rows blocks ∙ ap (λ ws. windows rows ++ ws) (sym of_windows) ∙ sym (map-append (λ (e : Entry). e.window) rows blocks')) is.apart;
    }

    pub block_remade : IsPermutation (rows ++ blocks') (with_version (rows ++ blocks) w made)
    block_remade =
        let old = map_place (λ (e : Entry). e.window) blocks f.place f.window of.stands in
        let at = place_right rows blocks f.place old.0 old.1 in
        let base : old.0.window.base ≡ w.base = ap (λ (x : coded.Window). x.base) old.2 ∙ of.same in
        let whole : with_version (rows ++ blocks) w made ≡ rows ++ blocks' =
        remade rows blocks written is w is_window clear task out (length rows + f.place) old.0 at base
        ∙ set_right rows blocks f.place (record { window = old.0.window; version = made })
        ∙ ap (λ es. rows ++ es) (sym (set_entry blocks blocks' f.place old.0 made old.1 of_windows of_versions)) in
        subst (IsPermutation (rows ++ blocks')) (sym whole) (IsPermutation-refl (rows ++ blocks'))
