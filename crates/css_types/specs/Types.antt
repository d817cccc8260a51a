-- The types of C, and those that words and stars name.
use Rattle.std.specs.Prelude.{ℕ, ◌+◌, ◌*◌, ◌/◌, min, Bool, true, false, ◌==◌, ◌&&◌, nat_le, List, [], ◌∷◌, fold, Option, Some, None, option_map, if◌then◌else◌}
use Rattle.css_base.specs.declared.int_type.IntType.{IntType}
use Rattle.css_base.specs.declared.int_type.IntType.TheVariants.{UChar, SChar, Short, UShort, Int, UInt, Long, ULong, LongLong, ULongLong}
use Rattle.css_num.specs.Types.{bits_of}
use Rattle.css_tree.specs.declared.words.Specifier.{Specifier}
use Rattle.css_tree.specs.declared.words.Specifier.TheVariants as words
use Rattle.css_tree.specs.Syntax.{Stars, TypeName}

-- An array knows its bytes.
pub data CType : Type 0 where
  Void : CType
  Integer : (t : IntType) → CType
  Pointer : (to : CType) → CType
  Array : (count bytes : ℕ) (of : CType) → CType

-- the bytes of an object of the type; no object is void
abbrev pub size_of : CType → ℕ
size_of Void = 0
size_of (Integer t) = bits_of t / 8
size_of (Pointer to) = 4
size_of (Array count bytes of) = bytes

abbrev pub array_of : ℕ → CType → CType
array_of count t = Array count (count * size_of t) t

-- arrays of arrays: the last dimension is the innermost array's
abbrev pub arrays_of : List ℕ → CType → CType
arrays_of [] t = t
arrays_of (count ∷ counts) t = array_of count (arrays_of counts t)

-- the most bytes of a type
abbrev pub biggest : ℕ
biggest = 1073741824

-- the type of its values in the core; that of a void call is never used
abbrev pub core_type : CType → IntType
core_type Void = Int
core_type (Integer t) = t
core_type (Pointer to) = UInt
core_type (Array count bytes of) = UInt

abbrev pub is_void : CType → Bool
is_void Void = true
is_void t = false

abbrev pub is_integer : CType → Bool
is_integer (Integer t) = true
is_integer t = false

abbrev pub is_pointer : CType → Bool
is_pointer (Pointer to) = true
is_pointer t = false

-- an integer or a pointer
abbrev pub is_scalar : CType → Bool
is_scalar (Integer t) = true
is_scalar (Pointer to) = true
is_scalar t = false

abbrev pub is_array : CType → Bool
is_array (Array count bytes of) = true
is_array t = false

-- char, or signed char
abbrev pub is_character : CType → Bool
is_character (Integer UChar) = true
is_character (Integer SChar) = true
is_character t = false

abbrev pub code_of : IntType → ℕ
code_of UChar = 0
code_of SChar = 1
code_of Short = 2
code_of UShort = 3
code_of Int = 4
code_of UInt = 5
code_of Long = 6
code_of ULong = 7
code_of LongLong = 8
code_of ULongLong = 9

abbrev pub is_same : CType → CType → Bool
is_same Void Void = true
is_same (Integer s) (Integer t) = code_of s == code_of t
is_same (Pointer s) (Pointer t) = is_same s t
is_same (Array count bytes s) (Array count' bytes' t) = (count == count') && is_same s t
is_same s t = false

abbrev pub are_same : List CType → List CType → Bool
are_same [] [] = true
are_same (s ∷ ss) (t ∷ ts) = is_same s t && are_same ss ts
are_same ss ts = false

-- ---- types by their words (C99 6.7.2)

-- how often each word that makes a type stands among some, in whatever order
pub record Counts : Type 0 where
  pub voids : ℕ
  pub chars : ℕ
  pub shorts : ℕ
  pub ints : ℕ
  pub longs : ℕ
  pub signeds : ℕ
  pub unsigneds : ℕ

abbrev pub no_words : Counts
no_words = record { voids = 0; chars = 0; shorts = 0; ints = 0; longs = 0; signeds = 0; unsigneds = 0 }

-- one more, of which three are as many as more
abbrev pub one_more : ℕ → ℕ
one_more n = min (n + 1) 3

-- the other words have no effect
abbrev pub with_word : Counts → Specifier → Counts
with_word c words.Void = record c { voids = one_more c.voids }
with_word c words.Char = record c { chars = one_more c.chars }
with_word c words.Short = record c { shorts = one_more c.shorts }
with_word c words.Int = record c { ints = one_more c.ints }
with_word c words.Long = record c { longs = one_more c.longs }
with_word c words.Signed = record c { signeds = one_more c.signeds }
with_word c words.Unsigned = record c { unsigneds = one_more c.unsigneds }
with_word c other = c

abbrev pub counted : List Specifier → Counts
counted ws = fold with_word no_words ws

-- `void` alone
abbrev pub is_void_alone : Counts → Bool
is_void_alone c = (c.voids == 1) && (c.chars + c.shorts + c.ints + c.longs + c.signeds + c.unsigneds == 0)

-- `char` with at most one of `signed` and `unsigned`
abbrev pub is_char : Counts → Bool
is_char c = (c.chars == 1) && (c.voids + c.shorts + c.ints + c.longs == 0) && nat_le (c.signeds + c.unsigneds) 1

-- at most one `int`, at most one of `signed` and `unsigned`, and no `void` or `char`
abbrev pub is_wide : Counts → Bool
is_wide c = (c.voids + c.chars == 0) && nat_le c.ints 1 && nat_le (c.signeds + c.unsigneds) 1

abbrev pub signed_as : (unsigneds : ℕ) → (signed unsigned : IntType) → IntType
signed_as unsigneds signed unsigned = if unsigneds == 0 then signed else unsigned

abbrev pub integer_of : Counts → Option IntType
integer_of c =
    if is_char c then Some (if c.signeds == 0 then UChar else SChar)
    else (if is_wide c then
    (if (c.shorts == 1) && (c.longs == 0) then Some (signed_as c.unsigneds Short UShort)
    else (if (c.shorts == 0) && (c.longs == 1) then Some (signed_as c.unsigneds Long ULong)
    else (if (c.shorts == 0) && (c.longs == 2) then Some (signed_as c.unsigneds LongLong ULongLong)
    else (if (c.shorts + c.longs == 0) && nat_le 1 (c.ints + c.signeds + c.unsigneds) then Some (signed_as c.unsigneds Int UInt) else None))))
    else None)

abbrev pub of_counts : Counts → Option CType
of_counts c = if is_void_alone c then Some Void else option_map Integer (integer_of c)

-- the type that the words name; char and unsigned char are one
unfoldable pub named_by : List Specifier → Option CType
named_by ws = of_counts (counted ws)

-- so many stars behind a type
abbrev pub starred : Stars → CType → CType
starred [] t = t
starred (star ∷ stars) t = starred stars (Pointer t)

abbrev pub type_of_name : TypeName → Option CType
type_of_name name = option_map (starred name.stars) (named_by name.specifiers)
