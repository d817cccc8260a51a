-- Bytes over others, byte by byte.
use Rattle.std.proofs.Common.{◌≡◌, nat_le, nat_lt, ℕ, zero, suc, ◌+◌, ◌-◌, ◌≤◌, ◌<◌, min, max, List, [], ◌∷◌, ◌++◌, length, take, drop, slice_index, Bool, true, false, if◌then◌else◌, refl, ap, sym, subst, ◌∙◌, arith}
use Rattle.std.proofs.lemmas.Bool.{and_parts, leb-true, ltb-true}
use Rattle.std.proofs.lemmas.Bool.Decides.{nat_tests}
use Rattle.std.proofs.lemmas.List.{length-take-le, length-drop, get_or-take, get_or-drop}
use Rattle.css_semantics.specs.Memory.{is_between, overlaid}
use Rattle.css_isa.proofs.Bytes.{spliced}

-- a choice between two bytes, by two tests that are the same
chosen : (b b' : Bool) (x x' y : ℕ) → b ≡ b' → (b ≡ true → x ≡ x') → (if b then x else y) ≡ (if b' then x' else y)
chosen true b' x x' y same is = subst (λ (c : Bool). x ≡ (if c then x' else y)) same (is refl)
chosen false b' x x' y same is = subst (λ (c : Bool). y ≡ (if c then x' else y)) same refl

-- two stores are the same where at each byte they store the same, or nothing
pub same_overlay : (first : ℕ) (bytes : List ℕ) (address : ℕ) (new : List ℕ) (address' : ℕ) (new' : List ℕ)
    → ((p : ℕ) → first ≤ p → p < first + length bytes → is_between address (address + length new) p ≡ is_between address' (address' + length new') p)
    → ((p : ℕ) → first ≤ p → p < first + length bytes → is_between address (address + length new) p ≡ true → slice_index new (p - address) ≡ slice_index new' (p - address'))
    → overlaid first bytes address new ≡ overlaid first bytes address' new'
same_overlay first [] address new address' new' same is = refl
same_overlay first (b ∷ bytes) address new address' new' same is =
    let here : (if is_between address (address + length new) first then slice_index new (first - address) else b)
    ≡ (if is_between address' (address' + length new') first then slice_index new' (first - address') else b) =
    chosen (is_between address (address + length new) first) (is_between address' (address' + length new') first)
    (slice_index new (first - address)) (slice_index new' (first - address')) b
    (same first (omega arith) (omega arith)) (is first (omega arith) (omega arith)) in
    let rest = same_overlay (first + 1) bytes address new address' new' (λ p above below. same p (omega arith) (omega arith)) (λ p above below. is p (omega arith) (omega arith)) in
    rw (here, rest)

-- nothing is stored where the bytes don't meet
pub none_overlaid : (first : ℕ) (bytes : List ℕ) (address : ℕ) (new : List ℕ)
    → ((p : ℕ) → first ≤ p → p < first + length bytes → is_between address (address + length new) p ≡ false) → overlaid first bytes address new ≡ bytes
none_overlaid first [] address new none = refl
none_overlaid first (b ∷ bytes) address new none =
    let here = none first (omega arith) (omega arith) in
    rw (here, none_overlaid (first + 1) bytes address new (λ p above below. none p (omega arith) (omega arith)))

-- a front of the bytes that are stored over
pub take-overlaid : (count first : ℕ) (bytes : List ℕ) (address : ℕ) (new : List ℕ) → take count (overlaid first bytes address new) ≡ overlaid first (take count bytes) address new
take-overlaid zero first bytes address new = refl
take-overlaid (suc count) first [] address new = refl
take-overlaid (suc count) first (b ∷ bytes) address new = rw (take-overlaid count (first + 1) bytes address new)

module _ (first : ℕ) (bytes : List ℕ) (address : ℕ) (new : List ℕ) (from to : ℕ)
    (is_from : from ≡ max first address) (is_to : to ≡ min (first + length bytes) (address + length new)) where
  -- where they don't meet, the one ends before the other begins
  pub apart_overlaid : to ≤ from → overlaid first bytes address new ≡ bytes
  apart_overlaid over = none_overlaid first bytes address new (λ p above below. grind (arith, nat_tests))

  -- what is stored is the part that meets the bytes
  pub clipped : from < to → overlaid first bytes address new ≡ take (from - first) bytes ++ (take (to - from) (drop (from - address) new) ++ drop (to - first) bytes)
  clipped some =
      let part = take (to - from) (drop (from - address) new) in
      let long : length part ≡ to - from = length-take-le (to - from) (drop (from - address) new) (omega (arith, length-drop (from - address) new)) in
      let cut : overlaid first bytes address new ≡ overlaid first bytes from part =
      same_overlay first bytes address new from part
      (λ p above below. grind (arith, nat_tests))
      (λ p above below inside.
      let parts = and_parts (nat_le address p) (nat_lt p (address + length new)) inside in
      let after = leb-true address p parts.0 in
      let before = ltb-true p (address + length new) parts.1 in
      let at : from - address + (p - from) ≡ p - address = omega arith in
      sym (get_or-take (to - from) (drop (from - address) new) (p - from) 0 (omega arith) ∙ get_or-drop (from - address) new (p - from) 0 ∙ ap (slice_index new) at)) in
      let whole : overlaid first bytes (first + (from - first)) part ≡ take (from - first) bytes ++ (part ++ drop (from - first + length part) bytes) =
      spliced first bytes (from - first) part (omega arith) in
      let start : first + (from - first) ≡ from = omega arith in
      let end : from - first + length part ≡ to - first = omega arith in
      cut ∙ ap (λ n. overlaid first bytes n part) (sym start) ∙ whole ∙ ap (λ n. take (from - first) bytes ++ (part ++ drop n bytes)) end
