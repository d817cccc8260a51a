-- Identifiers.
use Rattle.std.specs.Prelude.{ℕ, Bool, ◌&&◌, ◌||◌, ◌==◌, nat_le, List, slice_index}
use Rattle.std.specs.List.{list_all}

-- a letter or an underscore
abbrev pub is_letter : ℕ → Bool
is_letter b = nat_le 97 b && nat_le b 122 || nat_le 65 b && nat_le b 90 || b == 95

abbrev pub is_digit : ℕ → Bool
is_digit b = nat_le 48 b && nat_le b 57

abbrev pub is_word_byte : ℕ → Bool
is_word_byte b = is_letter b || is_digit b

-- C99 6.4.2.1: letters, underscores and digits, of which the first isn't a digit
abbrev pub is_identifier : List ℕ → Bool
is_identifier bs = is_letter (slice_index bs 0) && list_all is_word_byte bs
