-- Windows in order of base after an edit.
use Rattle.std.proofs.Common.{◌≡◌, ℕ, zero, suc, ◌+◌, ◌<◌, List, [], ◌∷◌, ◌++◌, length, map, take, drop, slice_index, refl, sym, ap, ◌∙◌, subst, inl, inr, arith}
use Rattle.std.specs.List.{remove}
use Rattle.std.proofs.lemmas.List.{map-append, take-map, drop-map, length-map}
use Rattle.std.proofs.lemmas.List.Edits.{length-remove, get_or-remove_below, get_or-remove_above}
use Rattle.std.proofs.lemmas.Bool.{cases_lt}
use Rattle.css_record.specs.declared.window.Window.{Window}
use Rattle.css_objects.specs.declared.version.Held.{Held}
use Rattle.css_objects.specs.Ordered.{bases, IsAscending, IsInOrder}
use Rattle.css_objects.specs.Table.{entries}

pub map-remove : {X Y : Type 0} (f : X → Y) (xs : List X) (i : ℕ) → map f (remove xs i) ≡ remove (map f xs) i
map-remove f xs i =
    map-append f (take i xs) (drop (suc i) xs)
    ∙ ap (λ ys. ys ++ map f (drop (suc i) xs)) (sym (take-map f i xs))
    ∙ ap (λ ys. take i (map f xs) ++ ys) (sym (drop-map f (suc i) xs))

-- numbers that rise, without one
module _ (xs : List ℕ) (at : ℕ) (within : at < length xs) (rises : (i j : ℕ) → i < j → j < length xs → slice_index xs i < slice_index xs j) where
  pub rises_without : (i j : ℕ) → i < j → j < length (remove xs at) → slice_index (remove xs at) i < slice_index (remove xs at) j
  rises_without i j before inside =
      let shorter = length-remove xs at within in
      elim (cases_lt j at) [
        | inl below ↦
            omega (arith, rises i j before (omega (arith, shorter)), get_or-remove_below xs at 0 i (omega arith) within, get_or-remove_below xs at 0 j below within)
        | inr above ↦
            elim (cases_lt i at) [
              | inl first ↦
                  omega (arith, rises i (j + 1) (omega arith) (omega (arith, shorter)), get_or-remove_below xs at 0 i first within, get_or-remove_above xs at 0 j above within)
              | inr both ↦
                  omega (arith, rises (i + 1) (j + 1) (omega arith) (omega (arith, shorter)), get_or-remove_above xs at 0 i both within, get_or-remove_above xs at 0 j above within)
            ]
      ]

pub ascends_without : (windows : List Window) (at : ℕ) → at < length windows → IsAscending windows → IsAscending (remove windows at)
ascends_without windows at within ascends =
    let same = map-remove (λ (w : Window). w.base) windows at in
    let long = length-map windows (λ w. w.base) in
    record {
      rises = λ i j before inside.
          subst (λ (xs : List ℕ). slice_index xs i < slice_index xs j) (sym same)
          (rises_without (bases windows) at (omega (arith, long)) ascends.rises i j before (subst (λ (xs : List ℕ). j < length xs) same inside));
    }

pub in_order_without : (es : List (ℕ × Window)) (at : ℕ) → at < length es → IsInOrder (map (λ e. e.0) es) (map (λ e. e.1) es)
    → IsInOrder (map (λ e. e.0) (remove es at)) (map (λ e. e.1) (remove es at))
in_order_without es at within is =
    let of_keys = map-remove (λ (e : ℕ × Window). e.0) es at in
    let of_values = map-remove (λ (e : ℕ × Window). e.1) es at in
    let long = length-map es (λ (e : ℕ × Window). e.1) in
    record {
      keyed =
          of_keys ∙ ap (λ ks. remove ks at) is.keyed
          ∙ sym (map-remove (λ (w : Window). w.base) (map (λ e. e.1) es) at) ∙ ap bases (sym of_values);
      ascends = subst IsAscending (sym of_values) (ascends_without (map (λ e. e.1) es) at (omega (arith, long)) is.ascends);
    }

-- windows and versions side by side, without one
pub entries-remove : (ws : List Window) (vs : List Held) (i : ℕ) → length vs ≡ length ws → i < length ws → entries (remove ws i) (remove vs i) ≡ remove (entries ws vs) i
entries-remove [] vs i long within = absurd (omega arith)
entries-remove (w ∷ ws) [] i long within = absurd (omega arith)
entries-remove (w ∷ ws) (v ∷ vs) zero long within = refl
entries-remove (w ∷ ws) (v ∷ vs) (suc i) long within = ap (λ rest. record { window = w; version = v } ∷ rest) (entries-remove ws vs i (omega arith) (omega arith))
