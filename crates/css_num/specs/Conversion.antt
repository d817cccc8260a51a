-- Conversion to a type: modulo 2 to its bits, read as signed where the type is.
use Rattle.std.specs.Prelude.{ℕ, ◌-◌, ◌%◌, ◌^◌, ℤ, pos, negsuc, ◌-ℤ◌, ◌+ℤ◌, ◌*ℤ◌, ◌≡◌, nat_le, ◌&&◌, if◌then◌else◌}
use Rattle.css_base.specs.declared.int_type.IntType.{IntType}
use Rattle.css_num.specs.Types.{bits_of, has_sign, half_of}

-- z modulo n, from 0 to n - 1
abbrev pub modulo : ℤ → ℕ → ℕ
modulo (pos a) n = a % n
modulo (negsuc a) n = n - 1 - a % n

-- the two's complement representation of a value in the type's bits
abbrev pub representation : IntType → ℤ → ℕ
representation t z = modulo z (2 ^ bits_of t)

-- the value that a representation stands for
abbrev pub represented : IntType → ℕ → ℤ
represented t r = if has_sign t && nat_le (half_of t) r then pos r -ℤ pos (2 ^ bits_of t) else pos r

-- C99 6.3.1.3, with signed types wrapping too
abbrev pub converted : IntType → ℤ → ℤ
converted t z = represented t (representation t z)

-- a and b differ by a multiple of n
abbrev pub IsCongruent : ℕ → ℤ → ℤ → Type 0
IsCongruent n a b = (k : ℤ) × (a ≡ b +ℤ k *ℤ pos n)
