-- Windows in order of base with one more.
use Rattle.std.proofs.Common.{◌≡◌, ℕ, zero, suc, ◌+◌, ◌-◌, ◌<◌, ◌≤◌, false, cond, List, [], ◌∷◌, ◌++◌, length, map, take, drop, slice_index, slice_get, nat_eq, Some, None, refl, sym, ap, ◌∙◌, subst, inl, inr, arith}
use Rattle.std.specs.List.{insert, remove, position_or_len}
use Rattle.std.specs.Option.{option_map_or}
use Rattle.std.specs.Map.{lookup, keys_of}
use Rattle.std.proofs.lemmas.List.{map-append, take-map, drop-map, length-map}
use Rattle.std.proofs.lemmas.List.Edits.{length-insert, get_or-insert_below, get_or-insert_at, get_or-insert_above}
use Rattle.std.proofs.lemmas.Bool.{cases_order, ne_eqb}
use Rattle.indexmap.specs.IndexMap.{insert_entry, move_index}
use Rattle.indexmap.proofs.MapLemmas.{absent_from_lookup, or_len-absent, insert_entry-absent}
use Rattle.css_record.specs.declared.window.Window.{Window}
use Rattle.css_objects.specs.declared.version.Held.{Held}
use Rattle.css_objects.specs.declared.ordered.Found.{Found}
use Rattle.css_objects.specs.Ordered.{bases, IsAscending, IsInOrder, IsGap, IsLastBelow, HasNone}
use Rattle.css_objects.proofs.Searches.{base_at}
use Rattle.std.proofs.lemmas.Option.{slice_get_within, get_or_from_slice_get}
use Rattle.css_objects.specs.Table.{entries}
use Rattle.css_arguments.proofs.Lists.{place_map, place_right}

pub map-insert : {X Y : Type 0} (f : X → Y) (xs : List X) (i : ℕ) (x : X) → map f (insert xs i x) ≡ insert (map f xs) i (f x)
map-insert f xs i x =
    map-append f (take i xs) (x ∷ drop i xs)
    ∙ ap (λ ys. ys ++ f x ∷ map f (drop i xs)) (sym (take-map f i xs))
    ∙ ap (λ ys. take i (map f xs) ++ f x ∷ ys) (sym (drop-map f i xs))

-- numbers that rise, with one more in a gap
module _ (xs : List ℕ) (at y : ℕ) (within : at ≤ length xs) (rises : (i j : ℕ) → i < j → j < length xs → slice_index xs i < slice_index xs j)
    (below : (i : ℕ) → i < at → slice_index xs i < y) (above : (i : ℕ) → at ≤ i → i < length xs → y < slice_index xs i) where
  behind : (i : ℕ) → at < i → slice_index (insert xs at y) i ≡ slice_index xs (i - 1)
  behind i past =
      let again : i - 1 + 1 ≡ i = omega arith in
      subst (λ (n : ℕ). slice_index (insert xs at y) n ≡ slice_index xs (i - 1)) again (get_or-insert_above xs at y 0 (i - 1) (omega arith) within)

  pub rises_with : (i j : ℕ) → i < j → j < length (insert xs at y) → slice_index (insert xs at y) i < slice_index (insert xs at y) j
  rises_with i j before inside =
      let longer = length-insert xs at y within in
      elim (cases_order j at) [
        | inl same ↦
            omega (
              arith,
              below i (omega arith),
              get_or-insert_below xs at y 0 i (omega arith) within,
              subst (λ (n : ℕ). slice_index (insert xs at y) n ≡ y) (sym same) (get_or-insert_at xs at y 0 within),
            )
        | inr (inl under) ↦
            omega (arith, rises i j before (omega arith), get_or-insert_below xs at y 0 i (omega arith) within, get_or-insert_below xs at y 0 j under within)
        | inr (inr over) ↦
            elim (cases_order i at) [
              | inl same ↦
                  omega (
                    arith,
                    above (j - 1) (omega arith) (omega (arith, longer)),
                    behind j over,
                    subst (λ (n : ℕ). slice_index (insert xs at y) n ≡ y) (sym same) (get_or-insert_at xs at y 0 within),
                  )
              | inr (inl under) ↦
                  omega (arith, below i under, rises i (j - 1) (omega arith) (omega (arith, longer)), behind j over, get_or-insert_below xs at y 0 i under within)
              | inr (inr past) ↦
                  omega (arith, rises (i - 1) (j - 1) (omega arith) (omega (arith, longer)), behind j over, behind i past)
            ]
      ]

pub ascends_with : (windows : List Window) (place : ℕ) (w : Window) → IsGap windows place w.base → IsAscending windows → IsAscending (insert windows place w)
ascends_with windows place w gap ascends =
    let same = map-insert (λ (x : Window). x.base) windows place w in
    let long = length-map windows (λ x. x.base) in
    record {
      rises = λ i j before inside.
          subst (λ (xs : List ℕ). slice_index xs i < slice_index xs j) (sym same)
          (rises_with (bases windows) place w.base (omega (arith, long, gap.within)) ascends.rises gap.below (λ k from under. gap.above k from (omega (arith, long, under)))
          i j before (subst (λ (xs : List ℕ). j < length xs) same inside));
    }

pub in_order_with : (es : List (ℕ × Window)) (place : ℕ) (w : Window) → IsGap (map (λ e. e.1) es) place w.base → IsInOrder (map (λ e. e.0) es) (map (λ e. e.1) es)
    → IsInOrder (map (λ e. e.0) (insert es place (w.base, w))) (map (λ e. e.1) (insert es place (w.base, w)))
in_order_with es place w gap is =
    let of_keys = map-insert (λ (e : ℕ × Window). e.0) es place (w.base, w) in
    let of_values = map-insert (λ (e : ℕ × Window). e.1) es place (w.base, w) in
    record {
      keyed =
          of_keys ∙ ap (λ ks. insert ks place w.base) is.keyed
          ∙ sym (map-insert (λ (x : Window). x.base) (map (λ e. e.1) es) place w) ∙ ap bases (sym of_values);
      ascends = subst IsAscending (sym of_values) (ascends_with (map (λ e. e.1) es) place w gap is.ascends);
    }

-- ---- what the map does with a new key

pub lookup_absent : (k : ℕ) (es : List (ℕ × Window)) → ((i : ℕ) (e : ℕ × Window) → slice_get es i ≡ Some e → nat_eq k e.0 ≡ false) → lookup (nat_eq k) es ≡ None
lookup_absent k [] none = refl
lookup_absent k (e ∷ es) none =
    ap (λ b. cond b (Some e.1) (lookup (nat_eq k) es)) (none 0 e refl) ∙ lookup_absent k es (λ i f at. none (suc i) f at)

remove_end : {X : Type 0} (xs : List X) (x : X) → remove (xs ++ x ∷ []) (length xs) ≡ xs
remove_end [] x = refl
remove_end (y ∷ xs) x = ap (λ ys. y ∷ ys) (remove_end xs x)

moved : {X : Type 0} (xs : List X) (x : X) (place : ℕ) → move_index (xs ++ x ∷ []) (length xs) place ≡ insert xs place x
moved xs x place =
    let same : length xs + 0 ≡ length xs = omega arith in
    let last : slice_get (xs ++ x ∷ []) (length xs) ≡ Some x = subst (λ n. slice_get (xs ++ x ∷ []) n ≡ Some x) same (place_right xs (x ∷ []) 0 x refl) in
    ap (λ o. option_map_or (λ y. insert (remove (xs ++ x ∷ []) (length xs)) place y) o (xs ++ x ∷ [])) last
    ∙ ap (λ ys. insert ys place x) (remove_end xs x)

pub new_entry : (k : ℕ) (w : Window) (es : List (ℕ × Window)) (place : ℕ) → lookup (nat_eq k) es ≡ None
    → move_index (insert_entry nat_eq es k w) (position_or_len (nat_eq k) (keys_of es)) place ≡ insert es place (k, w)
new_entry k w es place none =
    let absent = absent_from_lookup (nat_eq k) es none in
    ap (λ xs. move_index xs (position_or_len (nat_eq k) (keys_of es)) place) (insert_entry-absent nat_eq k w es absent)
    ∙ ap (λ n. move_index (es ++ (k, w) ∷ []) n place) (or_len-absent (nat_eq k) es absent)
    ∙ moved es (k, w) place

-- ---- windows and versions side by side, with one more

pub entries-insert : (ws : List Window) (vs : List Held) (i : ℕ) (w : Window) (v : Held) → length vs ≡ length ws → i ≤ length ws
    → entries (insert ws i w) (insert vs i v) ≡ insert (entries ws vs) i (record { window = w; version = v })
entries-insert [] [] zero w v long within = refl
entries-insert [] [] (suc i) w v long within = absurd (omega arith)
entries-insert [] (y ∷ vs) i w v long within = absurd (omega arith)
entries-insert (x ∷ ws) [] i w v long within = absurd (omega arith)
entries-insert (x ∷ ws) (y ∷ vs) zero w v long within = refl
entries-insert (x ∷ ws) (y ∷ vs) (suc i) w v long within = ap (λ rest. record { window = x; version = y } ∷ rest) (entries-insert ws vs i w v (omega arith) (omega arith))

-- ---- where a window would stand

pub gap_behind : (ws : List Window) (base : ℕ) (f : Found) → IsLastBelow ws base f → HasNone ws base → IsGap ws (f.place + 1) base
gap_behind ws base f last none = record {
  within = omega (arith, slice_get_within ws f.place f.window last.stands);
  below = λ i under.
      elim (cases_order i f.place) [
        | inl same ↦ omega (arith, last.below, subst (λ (n : ℕ). slice_index (bases ws) n ≡ f.window.base) (sym same) (base_at ws f.place f.window last.stands))
        | inr (inl before) ↦ omega (arith, last.below, last.before i before)
        | inr (inr behind) ↦ absurd (omega arith)
      ];
  above = λ i from inside.
      elim (cases_order (slice_index (bases ws) i) base) [
        | inl same ↦ absurd (none i inside same)
        | inr (inl less) ↦ absurd (omega (arith, last.above i from inside))
        | inr (inr more) ↦ more
      ];
}

-- no key is a base that no window has
pub no_key : (es : List (ℕ × Window)) (base : ℕ) → IsInOrder (map (λ e. e.0) es) (map (λ e. e.1) es) → HasNone (map (λ e. e.1) es) base → lookup (nat_eq base) es ≡ None
no_key es base is none =
    lookup_absent base es
    (λ i e at.
    ne_eqb base e.0
    (λ same.
    let key : slice_index (map (λ (x : ℕ × Window). x.0) es) i ≡ e.0 = get_or_from_slice_get (map (λ (x : ℕ × Window). x.0) es) i e.0 0 (place_map (λ (x : ℕ × Window). x.0) es i e at) in
    let value = place_map (λ (x : ℕ × Window). x.1) es i e at in
    none i (slice_get_within (map (λ (x : ℕ × Window). x.1) es) i e.1 value)
    (sym (ap (λ ks. slice_index ks i) is.keyed) ∙ key ∙ sym same)))
