-- Which numbers words write, by their digits.
use Rattle.std.proofs.Common.{◌≡◌, ◌<◌, ◌≤◌, ℕ, true, false, ◌&&◌, ltb, List, Some, None, refl, arith}
use Rattle.std.specs.Str.Parse.{digits_value}
use Rattle.std.proofs.lemmas.Bool.{and_from, lt-ltb, cond-true}
use Rattle.css_traces.specs.Words.{is_plain, number_below, small_of, line_number_of}

pub below_refused : (limit : ℕ) (word : List ℕ) → is_plain word ≡ false → number_below limit word ≡ None
unfolding number_below
below_refused limit word h = rw h refl

pub below_given : (limit : ℕ) (word : List ℕ) → is_plain word ≡ true → digits_value 10 word < limit → number_below limit word ≡ Some (digits_value 10 word)
unfolding number_below
below_given limit word h lt = cond-true (is_plain word && ltb (digits_value 10 word) limit) (Some (digits_value 10 word)) None (and_from (is_plain word) (ltb (digits_value 10 word) limit) h (lt-ltb (digits_value 10 word) limit lt))

pub below_over : (limit : ℕ) (word : List ℕ) → is_plain word ≡ true → limit ≤ digits_value 10 word → number_below limit word ≡ None
unfolding number_below
below_over limit word h le = grind arith

pub line_none : (word : List ℕ) → small_of word ≡ None → line_number_of word ≡ None
unfolding line_number_of
line_none word h = rw h refl

pub line_zero : (word : List ℕ) (n : ℕ) → small_of word ≡ Some n → n ≡ 0 → line_number_of word ≡ None
unfolding line_number_of
line_zero word n h z = rw (h, z) refl

pub line_some : (word : List ℕ) (n : ℕ) → small_of word ≡ Some n → 0 < n → line_number_of word ≡ Some n
unfolding line_number_of
line_some word n h z = rw h (grind arith)
