-- So many bytes from an address, one by one.
use Rattle.std.proofs.Common.{◌≡◌, ℕ, zero, suc, ◌+◌, ◌<◌, List, [], ◌∷◌, ◌++◌, length, take, drop, slice_index, refl, ap, ◌∙◌, arith}

module _ (bytes : (address width : ℕ) → List ℕ) (byte : ℕ → ℕ) (none : (address : ℕ) → bytes address 0 ≡ []) (more : (address width : ℕ) → bytes address (suc width) ≡ byte address ∷ bytes (address + 1) width) where
  pub length_bytes : (address width : ℕ) → length (bytes address width) ≡ width
  length_bytes address zero = ap length (none address)
  length_bytes address (suc width) = ap length (more address width) ∙ ap suc (length_bytes (address + 1) width)

  -- the byte at an address
  pub byte_of : (address width k : ℕ) → k < width → slice_index (bytes address width) k ≡ byte (address + k)
  byte_of address zero k below = absurd (omega arith)
  byte_of address (suc width) zero below =
      let same : address ≡ address + 0 = omega arith in
      ap (λ all. slice_index all 0) (more address width) ∙ ap byte same
  byte_of address (suc width) (suc k) below =
      let on : address + 1 + k ≡ address + suc k = omega arith in
      ap (λ all. slice_index all (suc k)) (more address width) ∙ byte_of (address + 1) width k (omega arith) ∙ ap byte on

  -- they are the front of themselves and others
  pub take_bytes : (address width : ℕ) (rest : List ℕ) → take width (bytes address width ++ rest) ≡ bytes address width
  take_bytes address zero rest = rw (none address) refl
  take_bytes address (suc width) rest = rw (more address width) (ap (λ all. byte address ∷ all) (take_bytes (address + 1) width rest))

  -- and the others are what is left
  pub drop_bytes : (address width : ℕ) (rest : List ℕ) → drop width (bytes address width ++ rest) ≡ rest
  drop_bytes address zero rest = rw (none address) refl
  drop_bytes address (suc width) rest = rw (more address width) (drop_bytes (address + 1) width rest)
