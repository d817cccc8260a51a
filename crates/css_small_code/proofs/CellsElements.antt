-- Addresses: those of variables and elements, which cells hold modulo 2^32.
use Rattle.std.proofs.Common.{◌≡◌, ℕ, ◌+◌, ◌*◌, ◌%◌, ◌^◌, ℤ, pos, ◌*ℤ◌, refl, lit<}
use Rattle.css_base.specs.declared.int_type.IntType.TheVariants.{UInt}
use Rattle.css_num.specs.Conversion.{modulo, converted}
use Rattle.css_num.proofs.Congruence.{AreCongruent, congruent_refl, congruent_sym, congruent_trans, congruent-add, congruent-mul, congruent_below, congruent-modulo, congruent-converted, modulo-congruent}
use Rattle.css_semantics.specs.Memory.{big_endian_bytes}
use Rattle.css_vm.specs.declared.code.Narrow.TheVariants.{U32}
use Rattle.css_vm.specs.Cells.{cell_of, sum_of, product_of, narrowed}
use Rattle.css_small_code.specs.Meaning.{element_of}
use Rattle.css_small_code.proofs.Cells.{congruent-cell, congruent-sum_of, congruent-product_of}
use Rattle.css_small_code.proofs.CellsMemory.{low_bytes}

-- a cell that is congruent modulo 2^64 is so modulo 2^32
low : {a b : ℤ} → AreCongruent (2 ^ 64) a b → AreCongruent (2 ^ 32) a b
low h = congruent_below (2 ^ 32) (2 ^ 32) refl h

pointer_cell : (p : ℕ) → AreCongruent (2 ^ 32) (pos (narrowed U32 p)) (pos p)
pointer_cell p = congruent_trans (low (congruent-cell (converted UInt (pos p)))) (congruent-converted UInt (pos p))

-- behind a pointer and an index
pub element_cell : (p : ℕ) (i : ℤ) → sum_of (narrowed U32 p) (product_of (cell_of i) 4) % 2 ^ 32 ≡ element_of p i
element_cell p i =
    let cell = sum_of (narrowed U32 p) (product_of (cell_of i) 4) in
    let places = low (congruent-product_of (cell_of i) 4 (congruent-cell i) (congruent_refl (2 ^ 64) (pos 4))) in
    let counted : AreCongruent (2 ^ 32) (pos (modulo i (2 ^ 32) * 4)) (i *ℤ pos 4) = congruent-mul (congruent-modulo i (2 ^ 32) (lit< tt)) (congruent_refl (2 ^ 32) (pos 4)) in
    let whole = low (congruent-sum_of (narrowed U32 p) (product_of (cell_of i) 4) (congruent_refl (2 ^ 64) (pos (narrowed U32 p))) (congruent_refl (2 ^ 64) (pos (product_of (cell_of i) 4)))) in
    let moved = congruent_trans whole (congruent-add (pointer_cell p) (congruent_trans places (congruent_sym counted))) in
    modulo-congruent (2 ^ 32) {a = pos cell} {b = pos (p + modulo i (2 ^ 32) * 4)} (lit< tt) moved

-- an address has the bytes of its cell
pub bytes_of-address : (cell : ℕ) → big_endian_bytes 4 cell ≡ big_endian_bytes 4 (cell % 2 ^ 32)
bytes_of-address cell = low_bytes 4 cell
