-- The version of a window's object.
use Rattle.std.proofs.Common.{◌≡◌, ◌≢◌, ℕ, zero, suc, ◌<◌, Bool, true, false, ◌||◌, List, [], ◌∷◌, ◌++◌, find, cond, slice_get, is_some, Option, Some, None, option_map, inl, inr, refl, sym, ap, ◌∙◌, subst, arith}
use Rattle.std.specs.List.{list_any}
use Rattle.std.proofs.lemmas.List.{length-map}
use Rattle.std.proofs.lemmas.Option.{slice_get_within}
use Rattle.std.proofs.lemmas.Bool.{cases_order, false_from_ne_true}
use Rattle.css_semantics.specs.Tasks.{is_same_window}
use Rattle.css_record.specs.declared.window.Window as coded
use Rattle.css_record.specs.Windows.{window}
use Rattle.css_objects.specs.declared.ordered.Found.{Found}
use Rattle.css_objects.specs.declared.version.Held.{Held}
use Rattle.css_objects.specs.Ordered.{IsAscending, IsOfBase, HasNone}
use Rattle.css_objects.specs.Table.{Entry, windows}
use Rattle.css_objects.specs.Naming.{version_of}
use Rattle.css_objects.proofs.Searches.{base_at}
use Rattle.css_arguments.proofs.Lists.{place_map}
use Rattle.css_objects.proofs.Probes.{same_window}
use Rattle.css_objects.proofs.Snapshots.{same_refl}

find_none : {X : Type 0} (p : X → Bool) (xs : List X) → ((i : ℕ) (x : X) → slice_get xs i ≡ Some x → p x ≡ false) → find p xs ≡ None
find_none p [] none = refl
find_none p (x ∷ xs) none = ap (λ b. cond b (Some x) (find p xs)) (none 0 x refl) ∙ find_none p xs (λ i y at. none (suc i) y at)

find_one : {X : Type 0} (p : X → Bool) (xs : List X) (k : ℕ) (x : X) → slice_get xs k ≡ Some x → p x ≡ true → ((i : ℕ) (y : X) → i < k → slice_get xs i ≡ Some y → p y ≡ false) → find p xs ≡ Some x
find_one p [] k x at passes before = absurd (cc)
find_one p (y ∷ xs) zero x at passes before =
    let same : y ≡ x = cc in
    ap (λ b. cond b (Some y) (find p xs)) (ap p same ∙ passes) ∙ ap Some same
find_one p (y ∷ xs) (suc k) x at passes before =
    ap (λ b. cond b (Some y) (find p xs)) (before 0 y (omega arith) refl)
    ∙ find_one p xs k x at passes (λ i z less of_z. before (suc i) z (omega arith) of_z)

module _ (es : List Entry) (w : coded.Window) where
  abbrev is_w : Entry → Bool
  is_w e = is_same_window (window w) (window e.window)

  -- no object of its base
  pub version_none : HasNone (windows es) w.base → version_of es w ≡ None
  version_none none =
      ap (option_map (λ e. e.version))
      (find_none is_w es
      (λ i e at.
      let there = place_map (λ (x : Entry). x.window) es i e at in
      false_from_ne_true (is_w e)
      (λ same.
      let whole = same_window w e.window same in
      none i (slice_get_within (windows es) i e.window there) (base_at (windows es) i e.window there ∙ ap (λ (x : coded.Window). x.base) (sym whole)))))

  module _ (f : Found) (of : IsOfBase (windows es) w.base f) (ascends : IsAscending (windows es)) where
    -- an object of its base has the only one
    alone : (i : ℕ) (e : Entry) → slice_get es i ≡ Some e → is_w e ≡ true → i ≡ f.place
    alone i e at same =
        let there = place_map (λ (x : Entry). x.window) es i e at in
        let whole = same_window w e.window same in
        let base = base_at (windows es) i e.window there ∙ ap (λ (x : coded.Window). x.base) (sym whole) in
        let other = base_at (windows es) f.place f.window of.stands ∙ of.same in
        let long = length-map (windows es) (λ (x : coded.Window). x.base) in
        elim (cases_order i f.place) [
          | inl one ↦ one
          | inr (inl before) ↦ absurd (omega (arith, base, other, ascends.rises i f.place before (omega (arith, long, slice_get_within (windows es) f.place f.window of.stands))))
          | inr (inr behind) ↦ absurd (omega (arith, base, other, ascends.rises f.place i behind (omega (arith, long, slice_get_within (windows es) i e.window there))))
        ]

    -- which is equal to it
    pub version_same : (v : Held) → slice_get es f.place ≡ Some (record { window = f.window; version = v }) → f.window ≡ w → version_of es w ≡ Some v
    version_same v at equal =
        ap (option_map (λ e. e.version))
        (find_one is_w es f.place (record { window = f.window; version = v }) at
        (subst (λ (x : coded.Window). is_same_window (window w) (window x) ≡ true) (sym equal) (same_refl w))
        (λ i e less of_e. false_from_ne_true (is_w e) (λ same. omega (arith, less, alone i e of_e same))))

    -- or isn't
    pub version_other : f.window ≢ w → version_of es w ≡ None
    version_other other =
        ap (option_map (λ e. e.version))
        (find_none is_w es
        (λ i e at.
        false_from_ne_true (is_w e)
        (λ same.
        let place = alone i e at same in
        let there = place_map (λ (x : Entry). x.window) es i e at in
        let whole = same_window w e.window same in
        other (some_same f.window e.window (sym of.stands ∙ ap (slice_get (windows es)) (sym place) ∙ there) ∙ sym whole))))
      where
        some_same : (x y : coded.Window) → Some x ≡ Some y → x ≡ y
        some_same x y h = cc

-- of two lists of objects
find-append : {X : Type 0} (p : X → Bool) (xs ys : List X) → find p (xs ++ ys) ≡ (elim (find p xs) [ Some x ↦ Some x | None ↦ find p ys ])
find-append p [] ys = refl
find-append p (x ∷ xs) ys = by (p x) (find-append p xs ys)
  where
    by : (b : Bool) → find p (xs ++ ys) ≡ (elim (find p xs) [ Some x ↦ Some x | None ↦ find p ys ])
        → cond b (Some x) (find p (xs ++ ys)) ≡ (elim (cond b (Some x) (find p xs)) [ Some x ↦ Some x | None ↦ find p ys ])
    by true rest = refl
    by false rest = rest

pub version_left : (es fs : List Entry) (w : coded.Window) (v : Held) → version_of es w ≡ Some v → version_of (es ++ fs) w ≡ Some v
version_left es fs w v is =
    ap (option_map (λ e. e.version)) (find-append (λ (e : Entry). is_same_window (window w) (window e.window)) es fs)
    ∙ by (find (λ (e : Entry). is_same_window (window w) (window e.window)) es) is
  where
    by : (o : Option Entry) → option_map (λ e. e.version) o ≡ Some v
        → option_map (λ e. e.version) (elim o [ Some x ↦ Some x | None ↦ find (λ (e : Entry). is_same_window (window w) (window e.window)) fs ]) ≡ Some v
    by None h = absurd (cc)
    by (Some x) h = h

pub version_right : (es fs : List Entry) (w : coded.Window) → version_of es w ≡ None → version_of (es ++ fs) w ≡ version_of fs w
version_right es fs w none =
    ap (option_map (λ e. e.version)) (find-append (λ (e : Entry). is_same_window (window w) (window e.window)) es fs)
    ∙ by (find (λ (e : Entry). is_same_window (window w) (window e.window)) es) none
  where
    by : (o : Option Entry) → option_map (λ e. e.version) o ≡ None
        → option_map (λ e. e.version) (elim o [ Some x ↦ Some x | None ↦ find (λ (e : Entry). is_same_window (window w) (window e.window)) fs ]) ≡ version_of fs w
    by None h = refl
    by (Some x) h = absurd (cc)

-- whether there is one
pub version_there : (es : List Entry) (w : coded.Window) → is_some (version_of es w) ≡ list_any (λ e. is_same_window (window w) (window e.window)) es
version_there [] w = refl
version_there (e ∷ es) w = by (is_same_window (window w) (window e.window)) (version_there es w)
  where
    by : (b : Bool) → is_some (version_of es w) ≡ list_any (λ e. is_same_window (window w) (window e.window)) es
        → is_some (option_map (λ x. x.version) (cond b (Some e) (find (λ (x : Entry). is_same_window (window w) (window x.window)) es))) ≡ (b || list_any (λ e. is_same_window (window w) (window e.window)) es)
    by true rest = refl
    by false rest = rest
