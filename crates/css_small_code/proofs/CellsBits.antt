-- The cells of bitwise operators on ints: the 33 upper bits of an int's cell are its sign.
use Rattle.std.proofs.Common.{◌≡◌, ℕ, zero, suc, ◌+◌, ◌-◌, ◌*◌, ◌^◌, ◌<◌, ◌≤◌, nat_le, ℤ, pos, negsuc, ◌-ℤ◌, neg_ℤ, bit_and, bit_or, bit_xor, refl, sym, ap, ◌∙◌, arith}
use Rattle.std.proofs.lemmas.Bool.{cond-true, cond-false, le-leb, lt-leb}
use Rattle.std.proofs.lemmas.Nat.{and_block, or_block, xor_block, or_lt, xor_lt}
use lib.Bits.{and_lt}
use borrow.Author.Differences.{same_in, sum_is_lem, neg_is, le_out}
use Rattle.css_base.specs.declared.int_type.IntType.TheVariants.{Int}
use Rattle.css_num.specs.Types.{least, greatest, IsInRange}
use Rattle.css_num.specs.Conversion.{representation, represented}
use Rattle.css_num.specs.Operators.{bitwise}
use Rattle.css_vm.specs.Cells.{cell_of}

-- the upper 33 bits of a cell, each of which is the sign
abbrev upper : ℕ → ℕ
upper sign = sign * (2 ^ 33 - 1)

-- An int's cell and its representation have the same 31 lower bits, and above them the sign, the cell 33 times.
record IsSplit (v : ℤ) : Type 0 where
  sign : ℕ
  low : ℕ
  is_bit : sign < 2
  is_low : low < 2 ^ 31
  cell : cell_of v ≡ upper sign * 2 ^ 31 + low
  short : representation Int v ≡ sign * 2 ^ 31 + low

split : (v : ℤ) → IsInRange Int v → IsSplit v
split (pos a) h =
    let small : a < 2 ^ 31 = omega (arith, le_out (pos a) (greatest Int) h.at_most) in
    record { sign = 0; low = a; is_bit = omega arith; is_low = small; cell = omega arith; short = omega arith }
split (negsuc a) h =
    let small : a < 2 ^ 31 = omega (arith, le_out (least Int) (negsuc a) h.at_least) in
    record { sign = 1; low = 2 ^ 31 - 1 - a; is_bit = omega arith; is_low = omega arith; cell = omega arith; short = omega arith }

-- a representation below half, and one from half on
read_low : (r : ℕ) → r < 2 ^ 31 → represented Int r ≡ pos r
read_low r h = cond-false (nat_le (2 ^ 31) r) (pos r -ℤ pos (2 ^ 32)) (pos r) (lt-leb (2 ^ 31) r h)

read_high : (r k : ℕ) → 2 ^ 31 ≤ r → r + k + 1 ≡ 2 ^ 32 → represented Int r ≡ negsuc k
read_high r k h e =
    cond-true (nat_le (2 ^ 31) r) (pos r -ℤ pos (2 ^ 32)) (pos r) (le-leb (2 ^ 31) r h)
    ∙ same_in (pos r -ℤ pos (2 ^ 32)) (negsuc k) (omega (arith, sum_is_lem (pos r) (neg_ℤ (pos (2 ^ 32))), neg_is (pos (2 ^ 32))))

-- the cell of what a sign and 31 bits stand for
joined : (sign low : ℕ) → sign < 2 → low < 2 ^ 31 → cell_of (represented Int (sign * 2 ^ 31 + low)) ≡ upper sign * 2 ^ 31 + low
joined zero low h k = ap cell_of (read_low (0 * 2 ^ 31 + low) (omega arith)) ∙ omega arith
joined (suc zero) low h k = ap cell_of (read_high (1 * 2 ^ 31 + low) (2 ^ 31 - 1 - low) (omega arith) (omega arith)) ∙ omega arith
joined (suc (suc n)) low h k = absurd (omega arith)

-- an operator on bits: on numbers in two blocks it works on each block, and on a sign that stands 33 times as on the sign
record IsBitwise (f : ℕ → ℕ → ℕ) : Type 0 where
  block : (k a b r s : ℕ) → r < 2 ^ k → s < 2 ^ k → f (a * 2 ^ k + r) (b * 2 ^ k + s) ≡ f a b * 2 ^ k + f r s
  stays_low : (a b : ℕ) → a < 2 ^ 31 → b < 2 ^ 31 → f a b < 2 ^ 31
  stays_bit : (a b : ℕ) → a < 2 → b < 2 → f a b < 2
  signs : (a b : ℕ) → a < 2 → b < 2 → f (upper a) (upper b) ≡ upper (f a b)

cell_of-bitwise : (f : ℕ → ℕ → ℕ) → IsBitwise f → (x y : ℤ) → IsInRange Int x → IsInRange Int y → f (cell_of x) (cell_of y) ≡ cell_of (bitwise f Int x y)
cell_of-bitwise f is x y h k =
    let a = split x h in
    let b = split y k in
    ap (λ c. f c (cell_of y)) a.cell
    ∙ ap (f (upper a.sign * 2 ^ 31 + a.low)) b.cell
    ∙ is.block 31 (upper a.sign) (upper b.sign) a.low b.low a.is_low b.is_low
    ∙ ap (λ u. u * 2 ^ 31 + f a.low b.low) (is.signs a.sign b.sign a.is_bit b.is_bit)
    ∙ sym (joined (f a.sign b.sign) (f a.low b.low) (is.stays_bit a.sign b.sign a.is_bit b.is_bit) (is.stays_low a.low b.low a.is_low b.is_low))
    ∙ ap (λ r. cell_of (represented Int r)) (sym (is.block 31 a.sign b.sign a.low b.low a.is_low b.is_low))
    ∙ ap (λ r. cell_of (represented Int (f r (b.sign * 2 ^ 31 + b.low)))) (sym a.short)
    ∙ ap (λ r. cell_of (represented Int (f (representation Int x) r))) (sym b.short)

-- what holds at each two bits
at_bits : (P : ℕ → ℕ → Type 0) → P 0 0 → P 0 1 → P 1 0 → P 1 1 → (a b : ℕ) → a < 2 → b < 2 → P a b
at_bits P p q r s zero zero h k = p
at_bits P p q r s zero (suc zero) h k = q
at_bits P p q r s (suc zero) zero h k = r
at_bits P p q r s (suc zero) (suc zero) h k = s
at_bits P p q r s (suc (suc a)) b h k = absurd (omega arith)
at_bits P p q r s zero (suc (suc b)) h k = absurd (omega arith)
at_bits P p q r s (suc zero) (suc (suc b)) h k = absurd (omega arith)

is_and : IsBitwise bit_and
is_and = record {
  block = and_block;
  stays_low = λ a b. and_lt 31 a b;
  stays_bit = λ a b. and_lt 1 a b;
  signs = at_bits (λ a b. bit_and (upper a) (upper b) ≡ upper (bit_and a b)) refl refl refl refl;
}

is_or : IsBitwise bit_or
is_or = record {
  block = or_block;
  stays_low = λ a b. or_lt 31 a b;
  stays_bit = λ a b. or_lt 1 a b;
  signs = at_bits (λ a b. bit_or (upper a) (upper b) ≡ upper (bit_or a b)) refl refl refl refl;
}

is_xor : IsBitwise bit_xor
is_xor = record {
  block = xor_block;
  stays_low = λ a b. xor_lt 31 a b;
  stays_bit = λ a b. xor_lt 1 a b;
  signs = at_bits (λ a b. bit_xor (upper a) (upper b) ≡ upper (bit_xor a b)) refl refl refl refl;
}

pub cell_of-and : (x y : ℤ) → IsInRange Int x → IsInRange Int y → bit_and (cell_of x) (cell_of y) ≡ cell_of (bitwise bit_and Int x y)
cell_of-and = cell_of-bitwise bit_and is_and

pub cell_of-or : (x y : ℤ) → IsInRange Int x → IsInRange Int y → bit_or (cell_of x) (cell_of y) ≡ cell_of (bitwise bit_or Int x y)
cell_of-or = cell_of-bitwise bit_or is_or

pub cell_of-xor : (x y : ℤ) → IsInRange Int x → IsInRange Int y → bit_xor (cell_of x) (cell_of y) ≡ cell_of (bitwise bit_xor Int x y)
cell_of-xor = cell_of-bitwise bit_xor is_xor
