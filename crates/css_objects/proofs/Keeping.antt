-- The table without some of its objects.
use Rattle.std.proofs.Common.{◌≡◌, ◌≢◌, ℕ, zero, suc, ◌+◌, ◌*◌, ◌<◌, ◌≤◌, Bool, true, false, not, List, [], ◌∷◌, ◌++◌, map, filter, slice_get, Some, ◌⊎◌, inl, inr, refl, sym, ap, ◌∙◌, subst, All, arith, eqb, if◌then◌else◌}
use Rattle.std.specs.List.{remove}
use Rattle.std.proofs.lemmas.List.{length-map, map-append, append-nil}
use Rattle.std.proofs.lemmas.List.Elements.{All-head, All-tail, All-nil, All-cons}
use Rattle.std.proofs.lemmas.Option.{slice_get_within}
use Rattle.std.proofs.lemmas.Bool.{cases_order, cases_lt, false≢true, eq-eqb, ne_eqb}
use Rattle.css_semantics.specs.Pending.{Object}
use Rattle.css_semantics.specs.Rules.{share_byte}
use Rattle.css_semantics.specs.Clear.{AreApart}
use Rattle.css_semantics.proofs.Apart.{filter-apart}
use Rattle.css_record.specs.declared.window.Window as coded
use Rattle.css_record.specs.Windows.{window}
use Rattle.css_objects.specs.Ordered.{IsAscending, HasNone}
use Rattle.css_arguments.specs.Lists.{Each}
use Rattle.css_objects.specs.Found.{IsRow, AreRows}
use Rattle.css_objects.specs.Table.{Entry, windows, is_written, is_other, without, object, IsBlock, IsTable}
use Rattle.css_semantics.proofs.WindowRanges.{share_is_rows, share_by, rows_by}
use Rattle.css_objects.proofs.Searches.{base_at}
use Rattle.css_arguments.proofs.Lists.{map_place, place_map, place_left}
use Rattle.css_objects.proofs.Probes.{apart_at}

-- ---- filters

pub place_in_filter : {X : Type 0} (p : X → Bool) (xs : List X) (j : ℕ) (x : X) → slice_get (filter p xs) j ≡ Some x → (i : ℕ) × (slice_get xs i ≡ Some x)
place_in_filter p [] j x at = absurd (cc)
place_in_filter p (y ∷ xs) j x at = by (p y) j (λ k of_k. place_in_filter p xs k x of_k) at
  where
    by : (b : Bool) (k : ℕ) → ((n : ℕ) → slice_get (filter p xs) n ≡ Some x → (i : ℕ) × (slice_get xs i ≡ Some x))
        → slice_get (if b then y ∷ filter p xs else filter p xs) k ≡ Some x → (i : ℕ) × (slice_get (y ∷ xs) i ≡ Some x)
    by true zero later of_k = (0, of_k)
    by true (suc k) later of_k = let found = later k of_k in (suc found.0, found.1)
    by false k later of_k = let found = later k of_k in (suc found.0, found.1)

pub filter-map : {X Y : Type 0} (f : X → Y) (p : Y → Bool) (xs : List X) → filter p (map f xs) ≡ map f (filter (λ x. p (f x)) xs)
filter-map f p [] = refl
filter-map f p (x ∷ xs) = by (p (f x)) (filter-map f p xs)
  where
    by : (b : Bool) → filter p (map f xs) ≡ map f (filter (λ y. p (f y)) xs)
        → (if b then f x ∷ filter p (map f xs) else filter p (map f xs)) ≡ map f (if b then x ∷ filter (λ y. p (f y)) xs else filter (λ y. p (f y)) xs)
    by true rest = ap (λ ys. f x ∷ ys) rest
    by false rest = rest

pub filter-turned : {X : Type 0} (p q : X → Bool) (xs : List X) → filter p (filter q xs) ≡ filter q (filter p xs)
filter-turned p q [] = refl
filter-turned p q (x ∷ xs) = by (p x) (q x) refl refl (filter-turned p q xs)
  where
    by : (b c : Bool) → p x ≡ b → q x ≡ c → filter p (filter q xs) ≡ filter q (filter p xs)
        → filter p (if c then x ∷ filter q xs else filter q xs) ≡ filter q (if b then x ∷ filter p xs else filter p xs)
    by true true of_p of_q rest = rw (of_p, of_q) (ap (λ ys. x ∷ ys) rest)
    by true false of_p of_q rest = rw of_q rest
    by false true of_p of_q rest = rw of_p rest
    by false false of_p of_q rest = rest

pub filter-append : {X : Type 0} (p : X → Bool) (xs ys : List X) → filter p (xs ++ ys) ≡ filter p xs ++ filter p ys
filter-append p [] ys = refl
filter-append p (x ∷ xs) ys = by (p x) (filter-append p xs ys)
  where
    by : (b : Bool) → filter p (xs ++ ys) ≡ filter p xs ++ filter p ys
        → (if b then x ∷ filter p (xs ++ ys) else filter p (xs ++ ys)) ≡ (if b then x ∷ filter p xs else filter p xs) ++ filter p ys
    by true rest = ap (λ zs. x ∷ zs) rest
    by false rest = rest

pub filter-all : {X : Type 0} (p : X → Bool) (xs : List X) → ((i : ℕ) (x : X) → slice_get xs i ≡ Some x → p x ≡ true) → filter p xs ≡ xs
filter-all p [] all = refl
filter-all p (x ∷ xs) all =
    ap (λ b. if b then x ∷ filter p xs else filter p xs) (all 0 x refl) ∙ ap (λ ys. x ∷ ys) (filter-all p xs (λ i y at. all (suc i) y at))

-- all but one
pub filter-one : {X : Type 0} (p : X → Bool) (xs : List X) (k : ℕ) (x : X) → slice_get xs k ≡ Some x → p x ≡ false
    → ((i : ℕ) (y : X) → slice_get xs i ≡ Some y → i ≢ k → p y ≡ true) → filter p xs ≡ remove xs k
filter-one p [] k x at fails others = absurd (cc)
filter-one p (y ∷ xs) zero x at fails others =
    let here : p y ≡ false = (let same : y ≡ x = cc in rw same fails) in
    ap (λ b. if b then y ∷ filter p xs else filter p xs) here ∙ filter-all p xs (λ i z of_z. others (suc i) z of_z (λ e. absurd (omega arith)))
filter-one p (y ∷ xs) (suc k) x at fails others =
    ap (λ b. if b then y ∷ filter p xs else filter p xs) (others 0 y refl (λ e. absurd (omega arith)))
    ∙ ap (λ ys. y ∷ ys) (filter-one p xs k x at fails (λ i z of_z other. others (suc i) z of_z (λ e. other (omega arith))))

-- ---- rows

-- windows of one row in order of base that share no byte are parted
pub rows_of : (ws : List coded.Window) → Each ws IsRow → IsAscending ws
    → ((i j : ℕ) (v w : coded.Window) → i < j → slice_get ws i ≡ Some v → slice_get ws j ≡ Some w → share_byte (window v) (window w) ≡ false) → AreRows ws
rows_of ws are ascends apart = record {
  rows = are;
  parted = λ i j v w before of_v of_w. by i j v w before of_v of_w (cases_lt w.base (v.base + v.width));
}
  where
    by : (i j : ℕ) (v w : coded.Window) → i < j → slice_get ws i ≡ Some v → slice_get ws j ≡ Some w → (w.base < v.base + v.width) ⊎ (v.base + v.width ≤ w.base) → v.base + v.width ≤ w.base
    by i j v w before of_v of_w (inr parted) = parted
    by i j v w before of_v of_w (inl met) =
        let rise = ascends.rises i j before (omega (arith, length-map ws (λ x. x.base), slice_get_within ws j w of_w)) in
        let of_base = base_at ws i v of_v in
        let other_base = base_at ws j w of_w in
        let is_v = are i v of_v in
        let is_w = are j w of_w in
        absurd (false≢true (sym (apart i j v w before of_v of_w)
        ∙ share_is_rows (window v) (window w) is_v.is_window.width is_w.is_window.width
        ∙ share_by (window w) v.rows v.base v.width v.stride 0 (omega (arith, is_v.is_window.rows))
        (rows_by w.rows w.base w.width w.stride (v.base + 0 * v.stride) (v.base + 0 * v.stride + v.width) 0 (omega (arith, is_w.is_window.rows))
        (omega (arith, met)) (omega (arith, rise, of_base, other_base)))))

-- ---- without the window of a base

pub dropped : (ws : List coded.Window) (base k : ℕ) (w : coded.Window) → IsAscending ws → slice_get ws k ≡ Some w → w.base ≡ base → filter (is_other base) ws ≡ remove ws k
dropped ws base k w ascends at is =
    filter-one (is_other base) ws k w at (ap not (eq-eqb w.base base is))
    (λ i v of_v other. ap not (ne_eqb v.base base (λ same. distinct i v of_v other same (cases_order i k))))
  where
    distinct : (i : ℕ) (v : coded.Window) → slice_get ws i ≡ Some v → i ≢ k → v.base ≡ base → (i ≡ k) ⊎ ((i < k) ⊎ (k < i)) → ⊥
    distinct i v of_v other same (inl equal) = other equal
    distinct i v of_v other same (inr (inl before)) =
        omega (arith, ascends.rises i k before (omega (arith, length-map ws (λ x. x.base), slice_get_within ws k w at)), base_at ws i v of_v, base_at ws k w at, same, is)
    distinct i v of_v other same (inr (inr behind)) =
        omega (arith, ascends.rises k i behind (omega (arith, length-map ws (λ x. x.base), slice_get_within ws i v of_v)), base_at ws i v of_v, base_at ws k w at, same, is)

pub not_there : (ws : List coded.Window) (base : ℕ) → HasNone ws base → filter (is_other base) ws ≡ ws
not_there ws base none =
    filter-all (is_other base) ws (λ i v at. ap not (ne_eqb v.base base (λ same. none i (slice_get_within ws i v at) (base_at ws i v at ∙ same))))

-- and of objects
pub dropped_entry : (es : List Entry) (base k : ℕ) (w : coded.Window) → IsAscending (windows es) → slice_get (windows es) k ≡ Some w → w.base ≡ base → without base es ≡ remove es k
dropped_entry es base k w ascends at is =
    let found = map_place (λ (x : Entry). x.window) es k w at in
    filter-one (λ e. is_other base e.window) es k found.0 found.1 (ap not (eq-eqb found.0.window.base base (ap (λ (x : coded.Window). x.base) found.2 ∙ is)))
    (λ i e of_e other. ap not (ne_eqb e.window.base base (λ same. distinct i e of_e other same (cases_order i k))))
  where
    distinct : (i : ℕ) (e : Entry) → slice_get es i ≡ Some e → i ≢ k → e.window.base ≡ base → (i ≡ k) ⊎ ((i < k) ⊎ (k < i)) → ⊥
    distinct i e of_e other same (inl equal) = other equal
    distinct i e of_e other same (inr (inl before)) =
        let here = place_map (λ (x : Entry). x.window) es i e of_e in
        omega (arith, ascends.rises i k before (omega (arith, length-map (windows es) (λ x. x.base), slice_get_within (windows es) k w at)), base_at (windows es) i e.window here, base_at (windows es) k w at, same, is)
    distinct i e of_e other same (inr (inr behind)) =
        let here = place_map (λ (x : Entry). x.window) es i e of_e in
        omega (arith, ascends.rises k i behind (omega (arith, length-map (windows es) (λ x. x.base), slice_get_within (windows es) i e.window here)), base_at (windows es) i e.window here, base_at (windows es) k w at, same, is)

pub no_entry : (es : List Entry) (base : ℕ) → HasNone (windows es) base → without base es ≡ es
no_entry es base none =
    filter-all (λ e. is_other base e.window) es
    (λ i e at.
    let here = place_map (λ (x : Entry). x.window) es i e at in
    ap not (ne_eqb e.window.base base (λ same. none i (slice_get_within (windows es) i e.window here) (base_at (windows es) i e.window here ∙ same))))

pub windows-without : (base : ℕ) (es : List Entry) → windows (without base es) ≡ filter (is_other base) (windows es)
windows-without base es = sym (filter-map (λ e. e.window) (is_other base) es)

-- ---- windows of objects that share no byte

pub windows_apart : (rows blocks : List Entry) → AreApart (map object (rows ++ blocks)) → (i j : ℕ) (v w : coded.Window) → i < j
    → slice_get (windows rows) i ≡ Some v → slice_get (windows rows) j ≡ Some w → share_byte (window v) (window w) ≡ false
windows_apart rows blocks apart i j v w before of_v of_w =
    let first = map_place (λ (x : Entry). x.window) rows i v of_v in
    let second = map_place (λ (x : Entry). x.window) rows j w of_w in
    subst (λ (x : coded.Window). share_byte (window x) (window w) ≡ false) first.2
    (subst (λ (x : coded.Window). share_byte (window first.0.window) (window x) ≡ false) second.2
    (apart_at (map object (rows ++ blocks)) apart i j (object first.0) (object second.0) before
    (place_map object (rows ++ blocks) i first.0 (place_left rows blocks i first.0 first.1)) (place_map object (rows ++ blocks) j second.0 (place_left rows blocks j second.0 second.1))))

pub written_each : (rows : List Entry) (P : coded.Window → Type 0) → Each (windows rows) P → Each (windows (filter is_written rows)) P
written_each rows P all i w at =
    let entry = map_place (λ (x : Entry). x.window) (filter is_written rows) i w at in
    let old = place_in_filter is_written rows i entry.0 entry.1 in
    subst P entry.2 (all old.0 entry.0.window (place_map (λ (x : Entry). x.window) rows old.0 entry.0 old.1))

All-front : {X : Type 0} (P : X → Type 0) (xs ys : List X) → All P (xs ++ ys) → All P xs
All-front P [] ys all = All-nil P
All-front P (x ∷ xs) ys all = All-cons P x xs (All-head P x (xs ++ ys) all) (All-front P xs ys (All-tail P x (xs ++ ys) all))

front-apart : (xs ys : List Object) → AreApart (xs ++ ys) → AreApart xs
front-apart [] ys apart = tt
front-apart (x ∷ xs) ys apart = (All-front (λ p. share_byte x.window p.window ≡ false) xs ys apart.0, front-apart xs ys apart.1)

pub written_apart : (rows blocks : List Entry) → AreApart (map object (rows ++ blocks)) → (i j : ℕ) (v w : coded.Window) → i < j
    → slice_get (windows (filter is_written rows)) i ≡ Some v → slice_get (windows (filter is_written rows)) j ≡ Some w → share_byte (window v) (window w) ≡ false
written_apart rows blocks apart i j v w before of_v of_w =
    let front = front-apart (map object rows) (map object blocks) (subst AreApart (map-append object rows blocks) apart) in
    let fewer = filter-apart (λ o. o.is_written) (map object rows) front in
    let same : filter (λ o. o.is_written) (map object rows) ≡ map object (filter is_written rows ++ []) =
    filter-map object (λ o. o.is_written) rows ∙ ap (map object) (sym (append-nil (filter is_written rows))) in
    windows_apart (filter is_written rows) [] (subst AreApart same fewer) i j v w before of_v of_w

-- ---- the table without the object of a base

module _ (base : ℕ) (rows blocks : List Entry) (written : List coded.Window) (is : IsTable rows blocks written) where
  pub objects-without : map object (without base rows ++ without base blocks) ≡ filter (λ o. not (eqb o.window.base base)) (map object (rows ++ blocks))
  objects-without =
      ap (map object) (sym (filter-append (λ e. is_other base e.window) rows blocks))
      ∙ sym (filter-map object (λ o. not (eqb o.window.base base)) (rows ++ blocks))

  each_left : (P : coded.Window → Type 0) (es : List Entry) → Each (windows es) P → Each (windows (without base es)) P
  each_left P es all i w at =
      let entry = map_place (λ (x : Entry). x.window) (without base es) i w at in
      let old = place_in_filter (λ e. is_other base e.window) es i entry.0 entry.1 in
      subst P entry.2 (all old.0 entry.0.window (place_map (λ (x : Entry). x.window) es old.0 entry.0 old.1))

  left_apart : AreApart (map object (without base rows ++ without base blocks))
  left_apart = subst AreApart (sym objects-without) (filter-apart (λ o. not (eqb o.window.base base)) (map object (rows ++ blocks)) is.apart)

  pub table-without : IsAscending (windows (without base rows)) → IsAscending (filter (is_other base) written) → IsTable (without base rows) (without base blocks) (filter (is_other base) written)
  table-without rows_rise written_rise =
      let rows_are = each_left IsRow rows is.rows_are.rows in
      let written_is : filter (is_other base) written ≡ windows (filter is_written (without base rows)) =
      ap (filter (is_other base)) is.written_are
      ∙ filter-map (λ e. e.window) (is_other base) (filter is_written rows)
      ∙ ap windows (filter-turned (λ e. is_other base e.window) is_written rows) in
      record {
        rows_are = rows_of (windows (without base rows)) rows_are rows_rise (apart_rows left_apart);
        blocks_are = each_left IsBlock blocks is.blocks_are;
        written_rows = rows_of (filter (is_other base) written) (each_written written_is rows_are) written_rise (apart_written written_is left_apart);
        written_are = written_is;
        apart = left_apart;
      }
    where
      apart_rows : AreApart (map object (without base rows ++ without base blocks)) → (i j : ℕ) (v w : coded.Window) → i < j
          → slice_get (windows (without base rows)) i ≡ Some v → slice_get (windows (without base rows)) j ≡ Some w → share_byte (window v) (window w) ≡ false
      apart_rows apart i j v w before of_v of_w = windows_apart (without base rows) (without base blocks) apart i j v w before of_v of_w

      each_written : filter (is_other base) written ≡ windows (filter is_written (without base rows)) → Each (windows (without base rows)) IsRow → Each (filter (is_other base) written) IsRow
      each_written same all i w at = written_each (without base rows) IsRow all i w (subst (λ (ws : List coded.Window). slice_get ws i ≡ Some w) same at)

      apart_written : filter (is_other base) written ≡ windows (filter is_written (without base rows)) → AreApart (map object (without base rows ++ without base blocks)) → (i j : ℕ) (v w : coded.Window) → i < j
          → slice_get (filter (is_other base) written) i ≡ Some v → slice_get (filter (is_other base) written) j ≡ Some w → share_byte (window v) (window w) ≡ false
      apart_written same apart i j v w before of_v of_w =
          written_apart (without base rows) (without base blocks) apart i j v w before
          (subst (λ (ws : List coded.Window). slice_get ws i ≡ Some v) same of_v) (subst (λ (ws : List coded.Window). slice_get ws j ≡ Some w) same of_w)
