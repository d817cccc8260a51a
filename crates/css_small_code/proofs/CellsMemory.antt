-- What of a cell leaves the machine: main's result, a written byte, and the bytes in memory.
use Rattle.std.proofs.Common.{◌≡◌, ℕ, zero, suc, ◌+◌, ◌*◌, ◌/◌, ◌%◌, ◌^◌, ◌<◌, ℤ, [], ◌∷◌, ◌++◌, refl, sym, ap, ◌∙◌, arith, lit<, lit≤}
use Rattle.std.proofs.Math.Arith.{mod-mul}
use Rattle.std.proofs.Math.Nat.{pow-suc}
use Rattle.css_base.specs.declared.int_type.IntType.TheVariants.{Int}
use Rattle.css_num.specs.Types.{IsInRange}
use Rattle.css_num.specs.Conversion.{modulo, representation}
use Rattle.css_num.proofs.Congruence.{congruent_below, modulo-congruent, converted-congruent}
use Rattle.css_num.proofs.Ranges.{converted-value}
use Rattle.css_num.proofs.Wrapping.{congruent_narrow}
use Rattle.css_semantics.specs.Memory.{big_endian_bytes}
use Rattle.css_vm.specs.Cells.{cell_of, int_of}
use Rattle.css_small_code.proofs.Cells.{congruent-cell}

pub int_of-cell : (v : ℤ) → IsInRange Int v → int_of (cell_of v) ≡ v
int_of-cell v h = converted-congruent Int (congruent_narrow 64 32 (lit≤ tt) (congruent-cell v)) ∙ converted-value Int v h

pub byte_of-cell : (v : ℤ) → cell_of v % 256 ≡ modulo v 256
byte_of-cell v = modulo-congruent 256 (lit< tt) (congruent_below (2 ^ 56) 256 refl (congruent-cell v))

power_some : (k : ℕ) → 0 < 256 ^ k
power_some zero = lit< tt
power_some (suc k) = omega (arith, pow-suc 256 k, power_some k)

-- so many bytes are those of the number modulo 256 to their number
pub low_bytes : (width n : ℕ) → big_endian_bytes width n ≡ big_endian_bytes width (n % 256 ^ width)
low_bytes zero n = refl
low_bytes (suc width) n =
    let power = 256 ^ width in
    let rest = n / 256 % power in
    let m = n % 256 ^ suc width in
    let parts : m ≡ rest * 256 + n % 256 = ap (λ p. n % p) (pow-suc 256 width) ∙ mod-mul n (power_some width) (lit< tt) in
    let high : m / 256 ≡ rest = omega arith in
    let low : m % 256 ≡ n % 256 = omega arith in
    ap (λ bytes. bytes ++ n % 256 ∷ []) (low_bytes width (n / 256) ∙ ap (big_endian_bytes width) (sym high))
    ∙ ap (λ byte. big_endian_bytes width (m / 256) ++ byte ∷ []) (sym low)

pub bytes_of-cell : (v : ℤ) → big_endian_bytes 4 (cell_of v) ≡ big_endian_bytes 4 (representation Int v)
bytes_of-cell v =
    low_bytes 4 (cell_of v) ∙ ap (big_endian_bytes 4) (modulo-congruent (2 ^ 32) (lit< tt) (congruent_below (2 ^ 32) (2 ^ 32) refl (congruent-cell v)))
