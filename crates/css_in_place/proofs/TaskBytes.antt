-- The bytes of a task's memory, after a store, and those of a list that a store changes in the same way.
use Rattle.std.proofs.Common.{◌≡◌, ℕ, zero, suc, ◌+◌, ◌-◌, ◌<◌, ◌≤◌, Bool, true, false, ◌||◌, nat_le, nat_lt, List, [], ◌∷◌, ◌++◌, length, map, slice_index, refl, sym, ap, ◌∙◌, arith, if◌then◌else◌}
use Rattle.std.specs.List.{list_any}
use Rattle.std.proofs.lemmas.Bool.{and_parts, leb-true, ltb-true}
use Rattle.css_semantics.specs.Memory.{is_between, overlaid}
use Rattle.css_semantics.specs.Alone.{Region, is_in_region, byte_of_regions, overlaid_region}
use Rattle.css_semantics.proofs.StackPlaces.{length-overlaid}
use Rattle.css_semantics.specs.TaskSpaces.{total}
use Rattle.css_semantics.proofs.TaskWorlds.{total-from}

pub total_more : (size : ℕ) (frames : List ℕ) → total (size ∷ frames) ≡ size + total frames
total_more size frames = omega (arith, total-from (0 + size) frames)

-- a store in two lists that stand one behind the other
pub overlaid_append : (from : ℕ) (bytes others : List ℕ) (address : ℕ) (new : List ℕ) → overlaid from (bytes ++ others) address new ≡ overlaid from bytes address new ++ overlaid (from + length bytes) others address new
overlaid_append from [] others address new =
    let same : from ≡ from + 0 = omega arith in
    ap (λ n. overlaid n others address new) same
overlaid_append from (b ∷ bytes) others address new =
    let on : from + 1 + length bytes ≡ from + suc (length bytes) = omega arith in
    ap (λ rest. (if is_between address (address + length new) from then slice_index new (from - address) else b) ∷ rest)
    (overlaid_append (from + 1) bytes others address new ∙ ap (λ n. overlaid (from + 1) bytes address new ++ overlaid n others address new) on)

-- the byte at an address, with what is stored in its place
abbrev pub new_byte : (address : ℕ) (new : List ℕ) (a old : ℕ) → ℕ
new_byte address new a old = if is_between address (address + length new) a then slice_index new (a - address) else old

-- a byte of bytes in which something is stored
pub overlaid_byte : (from : ℕ) (bytes : List ℕ) (address : ℕ) (new : List ℕ) (k : ℕ) → k < length bytes → slice_index (overlaid from bytes address new) k ≡ new_byte address new (from + k) (slice_index bytes k)
overlaid_byte from [] address new k below = absurd (omega arith)
overlaid_byte from (b ∷ bytes) address new zero below =
    let same : from ≡ from + 0 = omega arith in
    ap (λ n. new_byte address new n b) same
overlaid_byte from (b ∷ bytes) address new (suc k) below =
    let on : from + 1 + k ≡ from + suc k = omega arith in
    overlaid_byte (from + 1) bytes address new k (omega arith) ∙ ap (λ n. new_byte address new n (slice_index bytes k)) on

-- ---- regions

-- one of the regions has the byte
abbrev pub is_in_regions : List Region → ℕ → Bool
is_in_regions regions a = list_any (λ r. is_in_region r a) regions

region_stays : (address : ℕ) (new : List ℕ) (r : Region) (a : ℕ) → is_in_region (overlaid_region address new r) a ≡ is_in_region r a
region_stays address new r a = ap (λ n. is_between r.base (r.base + n) a) (length-overlaid r.base r.bytes address new)

pub regions_stay : (address : ℕ) (new : List ℕ) (regions : List Region) (a : ℕ) → is_in_regions (map (overlaid_region address new) regions) a ≡ is_in_regions regions a
regions_stay address new [] a = refl
regions_stay address new (r ∷ regions) a = rw (region_stays address new r a, regions_stay address new regions a) refl

pub between_parts : (from to a : ℕ) → is_between from to a ≡ true → (from ≤ a) × (a < to)
between_parts from to a h =
    let parts = and_parts (nat_le from a) (nat_lt a to) h in
    (leb-true from a parts.0, ltb-true a to parts.1)

module _ (address : ℕ) (new : List ℕ) (a : ℕ) where
  region_byte : (r : Region) → is_in_region r a ≡ true → slice_index (overlaid r.base r.bytes address new) (a - r.base) ≡ new_byte address new a (slice_index r.bytes (a - r.base))
  region_byte r held =
      let parts = between_parts r.base (r.base + length r.bytes) a held in
      let at : r.base + (a - r.base) ≡ a = omega (arith, parts.0) in
      overlaid_byte r.base r.bytes address new (a - r.base) (omega (arith, parts.0, parts.1)) ∙ ap (λ n. new_byte address new n (slice_index r.bytes (a - r.base))) at

  region_or : (r : Region) (regions : List Region) (b : Bool) → is_in_region r a ≡ b → (is_in_region r a ≡ false → byte_of_regions (map (overlaid_region address new) regions) a ≡ new_byte address new a (byte_of_regions regions a))
      → byte_of_regions (map (overlaid_region address new) (r ∷ regions)) a ≡ new_byte address new a (byte_of_regions (r ∷ regions) a)
  region_or r regions true is others = rw (region_stays address new r a, is) (region_byte r is)
  region_or r regions false is others = rw (region_stays address new r a, is) (others is)

  -- a byte of a region, behind a store
  pub regions_byte : (regions : List Region) → is_in_regions regions a ≡ true → byte_of_regions (map (overlaid_region address new) regions) a ≡ new_byte address new a (byte_of_regions regions a)
  regions_byte [] held = absurd (cc)
  regions_byte (r ∷ regions) held =
      region_or r regions (is_in_region r a) refl (λ out. regions_byte regions (ap (λ b. b || is_in_regions regions a) (sym out) ∙ held))
