-- Promotion and the usual arithmetic conversions.
use Rattle.std.specs.Prelude.{◌≡◌, ◌⊎◌, nat_lt, nat_le, if◌then◌else◌}
use Rattle.css_base.specs.declared.int_type.IntType.{IntType}
use Rattle.css_base.specs.declared.int_type.IntType.TheVariants.{Int}
use Rattle.css_num.specs.Types.{bits_of, has_sign, rank_of, unsigned_kin}

-- C99 6.3.1.1: what is below int becomes int, which has all its values
abbrev pub promoted : IntType → IntType
promoted t = if nat_lt (rank_of t) (rank_of Int) then Int else t

abbrev pub higher_rank : IntType → IntType → IntType
higher_rank a b = if nat_lt (rank_of a) (rank_of b) then b else a

-- a signed and an unsigned type
abbrev pub mixed : IntType → IntType → IntType
mixed signed unsigned =
    if nat_le (rank_of signed) (rank_of unsigned) then unsigned
    else (if nat_lt (bits_of unsigned) (bits_of signed) then signed else unsigned_kin signed)

-- C99 6.3.1.8, of two promoted types
abbrev pub common : IntType → IntType → IntType
common a b =
    if has_sign a then (if has_sign b then higher_rank a b else mixed a b)
    else (if has_sign b then mixed b a else higher_rank a b)

abbrev pub usual_type : IntType → IntType → IntType
usual_type a b = common (promoted a) (promoted b)

-- a type, or the unsigned type of its rank
abbrev pub IsKinOf : IntType → IntType → Type 0
IsKinOf t a = (t ≡ a) ⊎ (t ≡ unsigned_kin a)
