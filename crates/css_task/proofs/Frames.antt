-- A search through frames, of which the first begins at a place.
use Rattle.std.proofs.Common.{◌≡◌, ℕ, ◌+◌, ◌≤◌, ◌<◌, Bool, true, false, ◌||◌, ◌&&◌, List, ◌∷◌, length, drop, get_or, nat_le, refl, ap, sym, ◌∙◌, arith}
use Rattle.std.proofs.lemmas.Bool.{le-leb, leb-true, and_parts}
use Rattle.css_semantics.specs.Rules.{is_in_frame}
use Rattle.css_semantics.specs.TaskSpaces.{total}
use Rattle.css_semantics.proofs.TaskWorlds.{total-from}
use Rattle.css_semantics.proofs.TaskBytes.{first_frame}
use Rattle.css_vm.proofs.Entries.{drop_next}

pub total_cons : (size : ℕ) (sizes : List ℕ) → total (size ∷ sizes) ≡ size + total sizes
total_cons size sizes =
    let whole : total (size ∷ sizes) ≡ size + total sizes = omega (arith, total-from (0 + size) sizes) in
    whole

module _ (sizes : List ℕ) (i : ℕ) (within : i < length sizes) where
  pub one_more : total (drop i sizes) ≡ get_or sizes i 0 + total (drop (i + 1) sizes)
  one_more = ap total (drop_next sizes i 0 within) ∙ total_cons (get_or sizes i 0) (drop (i + 1) sizes)

  module _ (end base address size : ℕ) (is : base + total (drop i sizes) ≡ end) where
    here_or_later : is_in_frame end (drop i sizes) address size ≡ ((nat_le base address && nat_le (address + size) (base + get_or sizes i 0)) || is_in_frame end (drop (i + 1) sizes) address size)
    here_or_later = rw (drop_next sizes i 0 within) (first_frame end (get_or sizes i 0) (drop (i + 1) sizes) base address size (omega (arith, is, one_more)))

    pub found : base ≤ address → address + size ≤ base + get_or sizes i 0 → true ≡ is_in_frame end (drop i sizes) address size
    found above below = rw (here_or_later, le-leb base address above, le-leb (address + size) (base + get_or sizes i 0) below)

    passed_by : (b : Bool) → (nat_le base address && nat_le (address + size) (base + get_or sizes i 0)) ≡ b → (base ≤ address → address + size ≤ base + get_or sizes i 0 → ⊥)
        → is_in_frame end (drop (i + 1) sizes) address size ≡ (b || is_in_frame end (drop (i + 1) sizes) address size)
    passed_by false inside out = refl
    passed_by true inside out =
        let parts = and_parts (nat_le base address) (nat_le (address + size) (base + get_or sizes i 0)) inside in
        absurd (out (leb-true base address parts.0) (leb-true (address + size) (base + get_or sizes i 0) parts.1))

    pub passed : (base ≤ address → address + size ≤ base + get_or sizes i 0 → ⊥) → is_in_frame end (drop (i + 1) sizes) address size ≡ is_in_frame end (drop i sizes) address size
    passed out = passed_by (nat_le base address && nat_le (address + size) (base + get_or sizes i 0)) refl out ∙ sym here_or_later
