-- Cells of values, and the bytes and scalars that they stand for.
use Rattle.std.proofs.Common.{◌≡◌, ℕ, zero, suc, ◌+◌, ◌*◌, ◌/◌, ◌%◌, ◌^◌, ◌<◌, ◌≤◌, ℤ, pos, [], ◌∷◌, ◌++◌, refl, sym, ap, ◌∙◌, arith, lit<, lit≤}
use Rattle.std.proofs.Math.Arith.{mod-mul}
use Rattle.std.proofs.Math.Nat.{pow-suc}
use Rattle.css_base.specs.declared.int_type.IntType.{IntType}
use Rattle.css_base.specs.declared.int_type.IntType.TheVariants.{UChar, SChar, Short, UShort, Int, UInt, Long, ULong, LongLong, ULongLong}
use Rattle.css_num.specs.Conversion.{modulo, representation}
use Rattle.css_num.proofs.Congruence.{AreCongruent, congruent-modulo, modulo-congruent, congruent_below}
use Rattle.css_semantics.specs.Memory.{big_endian_bytes}
use Rattle.css_core.specs.Expressions.{bytes_of}
use Rattle.css_isa.specs.Cells.{cell_of}
use Rattle.css_gen_expr.specs.Calls.{width_of}

pub congruent-cell : (v : ℤ) → AreCongruent (2 ^ 64) (pos (cell_of v)) v
congruent-cell v = congruent-modulo v (2 ^ 64) (lit< tt)

-- the low bits of a cell are the value's
low_cell : (v : ℤ) (i m : ℕ) → 2 ^ 64 ≡ i * m → 0 < m → cell_of v % m ≡ modulo v m
low_cell v i m e some = modulo-congruent m {a = pos (cell_of v)} {b = v} some (congruent_below i m e (congruent-cell v))

pub scalar_of-cell : (t : IntType) (v : ℤ) → cell_of v % 2 ^ (8 * width_of t) ≡ representation t v
scalar_of-cell UChar v = low_cell v (2 ^ 56) (2 ^ 8) refl (lit< tt)
scalar_of-cell SChar v = low_cell v (2 ^ 56) (2 ^ 8) refl (lit< tt)
scalar_of-cell Short v = low_cell v (2 ^ 48) (2 ^ 16) refl (lit< tt)
scalar_of-cell UShort v = low_cell v (2 ^ 48) (2 ^ 16) refl (lit< tt)
scalar_of-cell Int v = low_cell v (2 ^ 32) (2 ^ 32) refl (lit< tt)
scalar_of-cell UInt v = low_cell v (2 ^ 32) (2 ^ 32) refl (lit< tt)
scalar_of-cell Long v = low_cell v (2 ^ 32) (2 ^ 32) refl (lit< tt)
scalar_of-cell ULong v = low_cell v (2 ^ 32) (2 ^ 32) refl (lit< tt)
scalar_of-cell LongLong v = low_cell v 1 (2 ^ 64) refl (lit< tt)
scalar_of-cell ULongLong v = low_cell v 1 (2 ^ 64) refl (lit< tt)
