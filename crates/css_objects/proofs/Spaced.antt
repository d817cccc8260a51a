-- Probes among objects of four bytes, eight bytes apart.
use Rattle.std.proofs.Common.{◌≡◌, ℕ, zero, suc, ◌+◌, ◌*◌, ◌<◌, ◌≤◌, Bool, true, false, ◌&&◌, ◌||◌, List, [], length, slice_get, nat_lt, Some, inl, inr, refl, sym, ap, ◌∙◌, subst, arith}
use Rattle.std.specs.List.{list_any}
use Rattle.std.proofs.lemmas.Bool.{false≢true, ltb-true, lt-ltb, and_parts, and_from}
use Rattle.std.proofs.lemmas.List.{length-map}
use Rattle.css_semantics.specs.Tasks.{is_same_window}
use Rattle.css_semantics.specs.Rules.{share_byte}
use Rattle.css_semantics.proofs.WindowRanges.{share_is_rows}
use Rattle.css_record.specs.declared.window.Window.{Window}
use Rattle.css_record.specs.Windows.{window}
use Rattle.css_arguments.proofs.Lists.{map_place, place_map, place_left}
use Rattle.css_objects.specs.declared.pending.Probe.{Probe}
use Rattle.css_objects.specs.declared.pending.Probe.TheVariants as probes
use Rattle.css_objects.specs.Found.{TakesAtMost}
use Rattle.css_objects.specs.Table.{Entry, Table, all_entries, objects, object, windows}
use Rattle.css_objects.specs.Seen.{IsProbe}
use Rattle.css_objects.specs.Spaced.{one_row, spaced, IsThousand, is_same}
use Rattle.css_objects.proofs.Probes.{place_split}
use Rattle.css_objects.proofs.Snapshots.{same_refl}
use Rattle.css_objects.proofs.Stores.{none_any}

-- ---- the windows by their places

spaced_long : (n b : ℕ) → length (spaced n b) ≡ n
unfolding spaced
spaced_long zero b = refl
spaced_long (suc n) b = ap suc (spaced_long n (b + 8))

spaced_is : (n b i : ℕ) (w : Window) → slice_get (spaced n b) i ≡ Some w → (i < n) × (w ≡ one_row (b + 8 * i) 4)
unfolding spaced
spaced_is zero b i w at = absurd (cc)
spaced_is (suc n) b zero w at =
    let first : w ≡ one_row b 4 = cc in
    (omega arith, first ∙ ap (λ c. one_row c 4) (let e : b ≡ b + 8 * 0 = omega arith in e))
spaced_is (suc n) b (suc i) w at =
    let rest = spaced_is n (b + 8) i w at in
    (omega (arith, rest.0), rest.1 ∙ ap (λ c. one_row c 4) (let e : b + 8 + 8 * i ≡ b + 8 * suc i = omega arith in e))

spaced_at : (n b i : ℕ) → i < n → slice_get (spaced n b) i ≡ Some (one_row (b + 8 * i) 4)
unfolding spaced
spaced_at zero b i below = absurd (omega arith)
spaced_at (suc n) b zero below = ap (λ c. Some (one_row c 4)) (let e : b ≡ b + 8 * 0 = omega arith in e)
spaced_at (suc n) b (suc i) below =
    spaced_at n (b + 8) i (omega arith) ∙ ap (λ c. Some (one_row c 4)) (let e : b + 8 + 8 * i ≡ b + 8 * suc i = omega arith in e)

-- ---- bytes that two rows share

or_nothing : (b : Bool) → ((b || false) || false) ≡ b
or_nothing true = refl
or_nothing false = refl

shared : (a x b : ℕ) → 1 ≤ x → share_byte (window (one_row a x)) (window (one_row b 4)) ≡ (nat_lt b (a + x) && nat_lt a (b + 4))
shared a x b some = share_is_rows (window (one_row a x)) (window (one_row b 4)) some (omega arith) ∙ or_nothing (nat_lt b (a + x) && nat_lt a (b + 4))

shared_gives : (a x b : ℕ) → 1 ≤ x → share_byte (window (one_row a x)) (window (one_row b 4)) ≡ true → (b < a + x) × (a < b + 4)
shared_gives a x b some shares =
    let parts = and_parts (nat_lt b (a + x)) (nat_lt a (b + 4)) (sym (shared a x b some) ∙ shares) in
    (ltb-true b (a + x) parts.0, ltb-true a (b + 4) parts.1)

shared_by : (a x b : ℕ) → 1 ≤ x → b < a + x → a < b + 4 → share_byte (window (one_row a x)) (window (one_row b 4)) ≡ true
shared_by a x b some below above = shared a x b some ∙ and_from (nat_lt b (a + x)) (nat_lt a (b + 4)) (lt-ltb b (a + x) below) (lt-ltb a (b + 4) above)

-- ---- a table of such objects

module _ (n b : ℕ) (t : Table) (rows : windows t.rows ≡ spaced n b) (blocks : t.blocks ≡ []) where
  entry_is : (i : ℕ) (e : Entry) → slice_get (all_entries t) i ≡ Some e → (i < n) × (e.window ≡ one_row (b + 8 * i) 4)
  entry_is i e at =
      elim (place_split t.rows t.blocks i e at) [
        | inl here ↦ spaced_is n b i e.window (subst (λ (ws : List Window). slice_get ws i ≡ Some e.window) rows (place_map (λ (x : Entry). x.window) t.rows i e here))
        | inr later ↦ absurd (nothing later.0 (subst (λ (es : List Entry). slice_get es later.0 ≡ Some e) blocks later.2))
      ]
    where
      nothing : (j : ℕ) → slice_get {X = Entry} [] j ≡ Some e → ⊥
      nothing j of_j = absurd (cc)

  entry_of : (i : ℕ) → i < n → (e : Entry) × (slice_get (all_entries t) i ≡ Some e) × (e.window ≡ one_row (b + 8 * i) 4)
  entry_of i below =
      let found = map_place (λ (x : Entry). x.window) t.rows i (one_row (b + 8 * i) 4) (subst (λ (ws : List Window). slice_get ws i ≡ Some (one_row (b + 8 * i) 4)) (sym rows) (spaced_at n b i below)) in
      (found.0, place_left t.rows t.blocks i found.0 found.1, found.2)

  -- an object that shares a byte isn't passed over
  not_nothing : (w : Window) (i : ℕ) → i < n → share_byte (window w) (window (one_row (b + 8 * i) 4)) ≡ true → list_any (λ o. share_byte (window w) o.window) (objects t) ≡ false → ⊥
  not_nothing w i below shares none =
      let e = entry_of i below in
      let at = place_map object (all_entries t) i e.0 e.1 in
      let fails = none_any (λ o. share_byte (window w) o.window) (objects t) i (object e.0) none at in
      false≢true (sym fails ∙ subst (λ (x : Window). share_byte (window w) (window x) ≡ true) (sym e.2) shares)

  pub probed_same : (j : ℕ) → j < n → (p : Probe) → IsProbe t (one_row (b + 8 * j) 4) p → is_same p ≡ true
  probed_same j below probes.Nothing none =
      absurd (not_nothing (one_row (b + 8 * j) 4) j below (shared_by (b + 8 * j) 4 (b + 8 * j) (omega arith) (omega arith) (omega arith)) none)
  probed_same j below (probes.Same q) same = refl
  probed_same j below (probes.Crosses v) crosses =
      let w = one_row (b + 8 * j) 4 in
      let e = entry_of j below in
      let at = place_map object (all_entries t) j e.0 e.1 in
      let fails = none_any (λ o. is_same_window (window w) o.window) (objects t) j (object e.0) crosses.none_equal at in
      absurd (false≢true (sym fails ∙ subst (λ (x : Window). is_same_window (window w) (window x) ≡ true) (sym e.2) (same_refl w)))

  pub probed_nothing : (j : ℕ) (p : Probe) → IsProbe t (one_row (b + 8 * j + 4) 4) p → p ≡ probes.Nothing
  probed_nothing j probes.Nothing none = refl
  probed_nothing j (probes.Same q) same =
      let shown = same.1.shown in
      let e = entry_is same.1.place shown.entry shown.at in
      let equal : one_row (b + 8 * j + 4) 4 ≡ one_row (b + 8 * same.1.place) 4 = sym same.0 ∙ shown.shows.window ∙ e.1 in
      absurd (omega (arith, ap (λ (x : Window). x.base) equal))
  probed_nothing j (probes.Crosses v) crosses =
      let e = entry_is crosses.place crosses.entry crosses.at in
      let shares = subst (λ (x : Window). share_byte (window (one_row (b + 8 * j + 4) 4)) (window x) ≡ true) (sym crosses.is ∙ e.1) crosses.shares in
      let range = shared_gives (b + 8 * j + 4) 4 (b + 8 * crosses.place) (omega arith) shares in
      absurd (omega (arith, range.0, range.1))

  pub probed_crosses : (j : ℕ) → j + 1 < n → (p : Probe) → IsProbe t (one_row (b + 8 * j + 4) 8) p → p ≡ probes.Crosses (one_row (b + 8 * (j + 1)) 4)
  probed_crosses j below probes.Nothing none =
      absurd (not_nothing (one_row (b + 8 * j + 4) 8) (j + 1) below (shared_by (b + 8 * j + 4) 8 (b + 8 * (j + 1)) (omega arith) (omega arith) (omega arith)) none)
  probed_crosses j below (probes.Same q) same =
      let shown = same.1.shown in
      let e = entry_is same.1.place shown.entry shown.at in
      let equal : one_row (b + 8 * j + 4) 8 ≡ one_row (b + 8 * same.1.place) 4 = sym same.0 ∙ shown.shows.window ∙ e.1 in
      absurd (omega (arith, ap (λ (x : Window). x.width) equal))
  probed_crosses j below (probes.Crosses v) crosses =
      let e = entry_is crosses.place crosses.entry crosses.at in
      let of_v : v ≡ one_row (b + 8 * crosses.place) 4 = sym crosses.is ∙ e.1 in
      let shares = subst (λ (x : Window). share_byte (window (one_row (b + 8 * j + 4) 8)) (window x) ≡ true) of_v crosses.shares in
      let range = shared_gives (b + 8 * j + 4) 8 (b + 8 * crosses.place) (omega arith) shares in
      let place : crosses.place ≡ j + 1 = omega (arith, range.0, range.1) in
      ap (λ (x : Window). probes.Crosses x) (of_v ∙ ap (λ (i : ℕ). one_row (b + 8 * i) 4) place)

-- ---- a thousand of them

pub thousand_steps : (t : Table) (old new : ℕ) → IsThousand t → TakesAtMost (length t.rows) (length t.blocks) 1 old new → new ≤ old + 10
thousand_steps t old new is takes =
    let many : length t.rows ≡ 1000 = sym (length-map t.rows (λ e. e.window)) ∙ ap length is.rows ∙ spaced_long 1000 4096 in
    let none : length t.blocks ≡ 0 = ap length is.blocks in
    omega (arith, none, takes 10 (omega (arith, many)))

pub thousand_same : (t : Table) (p : Probe) → IsThousand t → IsProbe t (one_row 12088 4) p → is_same p ≡ true
thousand_same t p is probed = probed_same 1000 4096 t is.rows is.blocks 999 (omega arith) p probed

pub thousand_nothing : (t : Table) (p : Probe) → IsThousand t → IsProbe t (one_row 12092 4) p → p ≡ probes.Nothing
thousand_nothing t p is probed = probed_nothing 1000 4096 t is.rows is.blocks 999 p probed

pub thousand_crosses : (t : Table) (p : Probe) → IsThousand t → IsProbe t (one_row 12084 8) p → p ≡ probes.Crosses (one_row 12088 4)
thousand_crosses t p is probed = probed_crosses 1000 4096 t is.rows is.blocks 998 (omega arith) p probed
