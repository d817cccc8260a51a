-- The table without one object that is only read.
use Rattle.std.proofs.Common.{◌≡◌, ℕ, zero, suc, ◌+◌, ◌-◌, ◌<◌, Bool, false, List, [], ◌∷◌, ◌++◌, length, map, filter, slice_get, Some, refl, sym, ap, ◌∙◌, subst, All, arith, if◌then◌else◌}
use Rattle.std.specs.List.{remove}
use Rattle.std.proofs.lemmas.List.Elements.{All-head, All-tail, All-nil, All-cons}
use Rattle.std.proofs.lemmas.List.Edits.{remove-append_left, remove-append_right}
use Rattle.css_semantics.specs.Pending.{Object}
use Rattle.css_semantics.specs.Rules.{share_byte}
use Rattle.css_semantics.specs.Clear.{AreApart}
use Rattle.css_record.specs.declared.window.Window as coded
use Rattle.css_objects.specs.Ordered.{IsAscending}
use Rattle.css_arguments.specs.Lists.{Each}
use Rattle.css_objects.specs.Found.{IsRow}
use Rattle.css_objects.specs.Table.{Entry, windows, is_written, object, IsBlock, IsTable}
use Rattle.css_arguments.proofs.Lists.{map_place, place_map}
use Rattle.css_objects.proofs.Edits.{map-remove}
use Rattle.css_objects.proofs.Keeping.{rows_of, windows_apart}

pub place_remove : {X : Type 0} (xs : List X) (i j : ℕ) (x : X) → slice_get (remove xs i) j ≡ Some x → (k : ℕ) × (slice_get xs k ≡ Some x)
place_remove [] zero j x at = absurd (cc)
place_remove [] (suc i) j x at = absurd (cc)
place_remove (y ∷ xs) zero j x at = (suc j, at)
place_remove (y ∷ xs) (suc i) zero x at = (0, at)
place_remove (y ∷ xs) (suc i) (suc j) x at = let found = place_remove xs i j x at in (suc found.0, found.1)

All-remove : {X : Type 0} (P : X → Type 0) (xs : List X) (i : ℕ) → All P xs → All P (remove xs i)
All-remove P [] zero all = All-nil P
All-remove P [] (suc i) all = All-nil P
All-remove P (x ∷ xs) zero all = All-tail P x xs all
All-remove P (x ∷ xs) (suc i) all = All-cons P x (remove xs i) (All-head P x xs all) (All-remove P xs i (All-tail P x xs all))

apart-remove : (os : List Object) (i : ℕ) → AreApart os → AreApart (remove os i)
apart-remove [] zero apart = tt
apart-remove [] (suc i) apart = tt
apart-remove (o ∷ os) zero apart = apart.1
apart-remove (o ∷ os) (suc i) apart = (All-remove (λ p. share_byte o.window p.window ≡ false) os i apart.0, apart-remove os i apart.1)

pub filter-remove : {X : Type 0} (p : X → Bool) (xs : List X) (k : ℕ) (x : X) → slice_get xs k ≡ Some x → p x ≡ false → filter p (remove xs k) ≡ filter p xs
filter-remove p [] k x at fails = absurd (cc)
filter-remove p (y ∷ xs) zero x at fails =
    let here : p y ≡ false = (let same : y ≡ x = cc in rw same fails) in
    ap (λ b. if b then y ∷ filter p xs else filter p xs) (sym here)
filter-remove p (y ∷ xs) (suc k) x at fails = ap (λ ys. if p y then y ∷ ys else ys) (filter-remove p xs k x at fails)

each_remove : (P : coded.Window → Type 0) (es : List Entry) (k : ℕ) → Each (windows es) P → Each (windows (remove es k)) P
each_remove P es k all i w at =
    let entry = map_place (λ (x : Entry). x.window) (remove es k) i w at in
    let old = place_remove es k i entry.0 entry.1 in
    subst P entry.2 (all old.0 entry.0.window (place_map (λ (x : Entry). x.window) es old.0 entry.0 old.1))

module _ (rows blocks : List Entry) (written : List coded.Window) (is : IsTable rows blocks written) where
  pub table-without_row : (k : ℕ) (e : Entry) → slice_get rows k ≡ Some e → k < length rows → is_written e ≡ false → IsAscending (windows (remove rows k)) → IsTable (remove rows k) blocks written
  table-without_row k e at within unwritten ascends =
      let apart : AreApart (map object (remove rows k ++ blocks)) =
      subst AreApart (sym (map-remove object (rows ++ blocks) k) ∙ ap (map object) (remove-append_left rows blocks k within)) (apart-remove (map object (rows ++ blocks)) k is.apart) in
      record {
        rows_are = rows_of (windows (remove rows k)) (each_remove IsRow rows k is.rows_are.rows) ascends (windows_apart (remove rows k) blocks apart);
        blocks_are = is.blocks_are;
        written_rows = is.written_rows;
        written_are = is.written_are ∙ ap windows (sym (filter-remove is_written rows k e at unwritten));
        apart = apart;
      }

  pub table-without_block : (k : ℕ) → k < length blocks → IsTable rows (remove blocks k) written
  table-without_block k within =
      let behind : length rows + k - length rows ≡ k = omega arith in
      let apart : AreApart (map object (rows ++ remove blocks k)) =
      subst AreApart
      (sym (map-remove object (rows ++ blocks) (length rows + k)) ∙ ap (map object) (remove-append_right rows blocks (length rows) (length rows + k) refl (omega arith) ∙ ap (λ n. rows ++ remove blocks n) behind))
      (apart-remove (map object (rows ++ blocks)) (length rows + k) is.apart) in
      record {
        rows_are = is.rows_are;
        blocks_are = each_remove IsBlock blocks k is.blocks_are;
        written_rows = is.written_rows;
        written_are = is.written_are;
        apart = apart;
      }
