-- Words by number: a word's number is its place in a list.
use Rattle.std.specs.Prelude.{ℕ, Bool, false, ◌==◌, List, [], Option, None, Some, position, bytes_eq, slice_index_or}

-- The number of a word, if it has one.
abbrev pub number_in : List (List ℕ) → List ℕ → Option ℕ
number_in words word = position (bytes_eq word) words

-- The word of a number.
abbrev pub word_at : List (List ℕ) → ℕ → List ℕ
word_at words number = slice_index_or words number []

abbrev pub is_number : ℕ → Option ℕ → Bool
is_number number None = false
is_number number (Some other) = other == number

-- A number stands for a word.
abbrev pub stands_for : List (List ℕ) → ℕ → List ℕ → Bool
stands_for words number word = is_number number (number_in words word)
