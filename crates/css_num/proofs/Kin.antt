-- The usual type: its order, its kin and its rank.
use Rattle.std.proofs.Common.{◌≡◌, ◌⊎◌, inl, inr, refl, Bool, true, false, nat_lt, nat_le, max, if◌then◌else◌}
use Rattle.css_base.specs.declared.int_type.IntType.{IntType}
use Rattle.css_base.specs.declared.int_type.IntType.TheVariants.{UChar, SChar, Short, UShort, Int, UInt, Long, ULong, LongLong, ULongLong}
use Rattle.css_num.specs.Types.{bits_of, has_sign, rank_of}
use Rattle.css_num.specs.Usual.{promoted, mixed, common, usual_type, IsKinOf}

-- each pair is computed: the first clauses split both types
pub usual_type_comm : (a b : IntType) → usual_type a b ≡ usual_type b a
usual_type_comm UChar UChar = refl
usual_type_comm SChar UChar = refl
usual_type_comm Short UChar = refl
usual_type_comm UShort UChar = refl
usual_type_comm Int UChar = refl
usual_type_comm UInt UChar = refl
usual_type_comm Long UChar = refl
usual_type_comm ULong UChar = refl
usual_type_comm LongLong UChar = refl
usual_type_comm ULongLong UChar = refl
usual_type_comm _ _ = refl

pub rank_of-usual_type : (a b : IntType) → rank_of (usual_type a b) ≡ max (rank_of (promoted a)) (rank_of (promoted b))
rank_of-usual_type UChar UChar = refl
rank_of-usual_type SChar UChar = refl
rank_of-usual_type Short UChar = refl
rank_of-usual_type UShort UChar = refl
rank_of-usual_type Int UChar = refl
rank_of-usual_type UInt UChar = refl
rank_of-usual_type Long UChar = refl
rank_of-usual_type ULong UChar = refl
rank_of-usual_type LongLong UChar = refl
rank_of-usual_type ULongLong UChar = refl
rank_of-usual_type _ _ = refl

-- t is a kin of a or of b
abbrev IsKinOfOne : IntType → IntType → IntType → Type 0
IsKinOfOne a b t = IsKinOf t a ⊎ IsKinOf t b

either : (a b : IntType) (first : Bool) {x y : IntType} → IsKinOfOne a b x → IsKinOfOne a b y → IsKinOfOne a b (if first then x else y)
either a b true h k = h
either a b false h k = k

first_kin : (a b : IntType) → IsKinOfOne a b a
first_kin a b = inl (inl refl)

second_kin : (a b : IntType) → IsKinOfOne a b b
second_kin a b = inr (inl refl)

pub common_kin : (a b : IntType) → IsKinOfOne a b (common a b)
common_kin a b =
    let ranked = either a b (nat_lt (rank_of a) (rank_of b)) (second_kin a b) (first_kin a b) in
    let left : IsKinOfOne a b (mixed a b) = either a b (nat_le (rank_of a) (rank_of b)) (second_kin a b) (either a b (nat_lt (bits_of b) (bits_of a)) (first_kin a b) (inl (inr refl))) in
    let right : IsKinOfOne a b (mixed b a) = either a b (nat_le (rank_of b) (rank_of a)) (first_kin a b) (either a b (nat_lt (bits_of a) (bits_of b)) (second_kin a b) (inr (inr refl))) in
    either a b (has_sign a) (either a b (has_sign b) ranked left) (either a b (has_sign b) right ranked)
