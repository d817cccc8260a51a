-- What a lexeme stands for: integer constants (C99 6.4.4.1), character constants (C99 6.4.4.4) and strings (C99 6.4.5).
use Rattle.std.specs.Prelude.{ℕ, zero, suc, ◌+◌, ◌-◌, ◌*◌, ◌^◌, Bool, true, false, ◌&&◌, ◌||◌, not, List, [], ◌∷◌, length, take, drop, fold, take_while, codes, bytes_eq, nat_le, nat_lt, ◌==◌, if◌then◌else◌, Option, Some, None, option_map, option_and_then}
use Rattle.css_base.specs.declared.int_type.IntType.{IntType}
use Rattle.css_base.specs.declared.int_type.IntType.TheVariants as types
use Rattle.css_base.specs.Tokens.{Kind, Word, Number, Character, Text, Punctuator}
use Rattle.css_lexemes.specs.declared.lexeme_class.LexemeClass.{LexemeClass}
use Rattle.css_lexemes.specs.declared.lexeme_class.LexemeClass.TheVariants as classes
use Rattle.css_lexemes.specs.declared.values.Candidate.{Candidate}
use Rattle.css_lexemes.specs.declared.values.Escape.{Escape}
use Rattle.css_lexemes.specs.declared.values.Suffix.{Suffix}
use Rattle.css_lexemes.specs.Source.{begins_with}
use Rattle.css_lexemes.specs.LineKinds.{is_digit}

-- The value of a digit: `0` to `9`, `A` to `F` or `a` to `f`.
abbrev pub digit_value : ℕ → ℕ
digit_value b = if nat_le 97 b then b - 87 else (if nat_le 65 b then b - 55 else b - 48)

abbrev pub is_hexadecimal_digit : ℕ → Bool
is_hexadecimal_digit b = is_digit b || ((nat_le 65 b && nat_le b 70) || (nat_le 97 b && nat_le b 102))

-- A digit of a base of at most 16.
abbrev pub is_digit_in : (base b : ℕ) → Bool
is_digit_in base b = is_hexadecimal_digit b && nat_lt (digit_value b) base

-- The digits of a base that a text begins with.
abbrev pub digits_in : (base : ℕ) → List ℕ → List ℕ
digits_in base text = take_while (is_digit_in base) text

-- The value of digits in a base, the first one the greatest.
abbrev pub value_in : (base : ℕ) (digits : List ℕ) → ℕ
value_in base digits = fold (λ value b. base * value + digit_value b) 0 digits

abbrev pub suffix : List ℕ → Bool → ℕ → List ℕ × Suffix
suffix spelling unsigned ranks = (spelling, record { unsigned = unsigned; ranks = ranks })

-- What stands beside a spelling.
abbrev pub suffix_in : List (List ℕ × Suffix) → (spelling : List ℕ) → Option Suffix
suffix_in [] spelling = None
suffix_in (s ∷ table) spelling = if bytes_eq s.0 spelling then Some s.1 else suffix_in table spelling

-- The suffixes (C99 6.4.4.1), each with its spelling.
abbrev pub suffixes : List (List ℕ × Suffix)
suffixes =
    suffix [] false 0 ∷ suffix (codes "u") true 0 ∷ suffix (codes "U") true 0
    ∷ suffix (codes "l") false 1 ∷ suffix (codes "L") false 1 ∷ suffix (codes "ll") false 2 ∷ suffix (codes "LL") false 2
    ∷ suffix (codes "ul") true 1 ∷ suffix (codes "uL") true 1 ∷ suffix (codes "Ul") true 1 ∷ suffix (codes "UL") true 1
    ∷ suffix (codes "lu") true 1 ∷ suffix (codes "lU") true 1 ∷ suffix (codes "Lu") true 1 ∷ suffix (codes "LU") true 1
    ∷ suffix (codes "ull") true 2 ∷ suffix (codes "uLL") true 2 ∷ suffix (codes "Ull") true 2 ∷ suffix (codes "ULL") true 2
    ∷ suffix (codes "llu") true 2 ∷ suffix (codes "llU") true 2 ∷ suffix (codes "LLu") true 2 ∷ suffix (codes "LLU") true 2
    ∷ []

abbrev pub candidate : IntType → Bool → ℕ → ℕ → Candidate
candidate kind unsigned rank greatest = record { kind = kind; unsigned = unsigned; rank = rank; greatest = greatest }

-- The types of constants in the order of C99 6.4.4.1. `int` and `long` have 32 bits.
abbrev pub candidates : List Candidate
candidates =
    candidate types.Int false 0 (2 ^ 31 - 1) ∷ candidate types.UInt true 0 (2 ^ 32 - 1)
    ∷ candidate types.Long false 1 (2 ^ 31 - 1) ∷ candidate types.ULong true 1 (2 ^ 32 - 1)
    ∷ candidate types.LongLong false 2 (2 ^ 63 - 1) ∷ candidate types.ULongLong true 2 (2 ^ 64 - 1)
    ∷ []

-- Whether a constant of this value with this suffix may have a type: a decimal one without `u` has no unsigned type, and
-- one with `u` has no signed type.
abbrev pub fits : (decimal : Bool) (suffix : Suffix) (value : ℕ) (candidate : Candidate) → Bool
fits decimal suffix value candidate =
    nat_le suffix.ranks candidate.rank && (nat_le value candidate.greatest
    && (if candidate.unsigned then suffix.unsigned || not decimal else not suffix.unsigned))

-- The first of some types that a constant may have.
abbrev pub first_type : (decimal : Bool) (suffix : Suffix) (value : ℕ) → List Candidate → Option IntType
first_type decimal suffix value [] = None
first_type decimal suffix value (c ∷ candidates) =
    if fits decimal suffix value c then Some c.kind else first_type decimal suffix value candidates

-- An integer constant: its digits in a base, and what stands behind them, which has to be a suffix. Its type is the first
-- that fits.
abbrev pub constant_in : (base : ℕ) (digits behind : List ℕ) → Option Kind
constant_in base digits behind =
    let value = value_in base digits in
    option_and_then (λ s. option_map (λ t. Number t value) (first_type (base == 10) s value candidates)) (suffix_in suffixes behind)

-- The digits in front and what stands behind them, as a constant.
abbrev pub number_in : (base : ℕ) (bytes : List ℕ) → Option Kind
number_in base bytes =
    let digits = digits_in base bytes in
    if length digits == 0 then None else constant_in base digits (drop (length digits) bytes)

-- An integer constant (C99 6.4.4.1): hexadecimal behind `0x` or `0X`, octal from another `0` on, else decimal.
abbrev pub integer_constant : List ℕ → Option Kind
integer_constant bytes =
    if begins_with (codes "0x") bytes || begins_with (codes "0X") bytes then number_in 16 (drop 2 bytes)
    else (if begins_with (codes "0") bytes then number_in 8 bytes else number_in 10 bytes)

-- An escape (C99 6.4.4.4): its value, and how many bytes it has behind the backslash.
abbrev pub escape : ℕ → ℕ → Escape
escape value size = record { value = value; size = size }

-- The simple escapes: the byte behind the backslash, and the value.
abbrev pub simple_escapes : List (ℕ × ℕ)
simple_escapes =
    (39, 39) ∷ (34, 34) ∷ (63, 63) ∷ (92, 92) ∷ (97, 7) ∷ (98, 8) ∷ (102, 12) ∷ (110, 10) ∷ (114, 13) ∷ (116, 9) ∷ (118, 11) ∷ []

abbrev pub simple_escape : List (ℕ × ℕ) → ℕ → Option ℕ
simple_escape [] b = None
simple_escape (e ∷ escapes) b = if e.0 == b then Some e.1 else simple_escape escapes b

-- Digits as an escape with so many bytes in front of them, if there are any and their value is a byte's.
abbrev pub numeric_escape : (base before : ℕ) (digits : List ℕ) → Option Escape
numeric_escape base before digits =
    if (length digits == 0) || nat_lt 255 (value_in base digits) then None
    else Some (escape (value_in base digits) (before + length digits))

-- The escape that stands behind a backslash: a simple one, one to three octal digits, or `x` and hexadecimal digits.
abbrev pub escape_at : List ℕ → Option Escape
escape_at [] = None
escape_at (b ∷ bytes) =
    if b == 120 then numeric_escape 16 1 (digits_in 16 bytes)
    else (if is_digit_in 8 b then numeric_escape 8 0 (take 3 (digits_in 8 (b ∷ bytes)))
    else option_map (λ value. escape value 1) (simple_escape simple_escapes b))

-- The values of the characters between two quotes, of which the first bytes belong to an escape. None where an escape is
-- none or its value isn't a byte's.
abbrev pub characters : (escaped : ℕ) (body : List ℕ) → Option (List ℕ)
characters escaped [] = Some []
characters (suc escaped) (b ∷ body) = characters escaped body
characters zero (b ∷ body) =
    if b == 92
    then option_and_then (λ e. option_map (λ values. e.value ∷ values) (characters e.size body)) (escape_at body)
    else option_map (λ values. b ∷ values) (characters 0 body)

-- What stands between two quotes.
abbrev pub between_quotes : List ℕ → List ℕ
between_quotes bytes = take (length bytes - 2) (drop 1 bytes)

-- A character constant has one character.
abbrev pub one_character : List ℕ → Option Kind
one_character (value ∷ []) = Some (Character value)
one_character _ = None

-- What a lexeme of a class stands for, if its number, character or escapes are in range and form.
abbrev pub kind_of_lexeme : LexemeClass → List ℕ → Option Kind
kind_of_lexeme classes.Identifier bytes = Some (Word bytes)
kind_of_lexeme classes.Number bytes = integer_constant bytes
kind_of_lexeme classes.Character bytes = option_and_then one_character (characters 0 (between_quotes bytes))
kind_of_lexeme classes.Text bytes = option_map Text (characters 0 (between_quotes bytes))
kind_of_lexeme classes.Punctuator bytes = Some (Punctuator bytes)
