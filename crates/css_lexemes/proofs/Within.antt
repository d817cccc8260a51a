-- What stands in front of a text is no longer than the text.
use Rattle.std.proofs.Common.{◌≡◌, ℕ, ◌+◌, ◌<◌, ◌≤◌, inl, inr, max, Bool, false, not, ◌&&◌, List, [], ◌∷◌, length, drop, ap, ◌∙◌, arith, length-append}
use Rattle.std.specs.Prelude.{◌==◌}
use Rattle.std.specs.List.{prefix_len}
use Rattle.std.proofs.lemmas.Bool.{cases_Bool, cases_eq, cond-true, cond-false}
use Rattle.std.proofs.lemmas.List.Folds.{length-prefix_len}
use Rattle.std.proofs.lemmas.List.Sums.{prefix_len-le-length}
use Rattle.css_lexemes.specs.declared.lexeme_class.LexemeClass.{LexemeClass}
use Rattle.css_lexemes.specs.declared.lexeme_class.LexemeClass.TheVariants as classes
use Rattle.css_lexemes.specs.Source.{begins_with}
use Rattle.css_lexemes.specs.LineKinds.{is_blank, is_word_byte, first_word}
use Rattle.css_lexemes.specs.Lexemes.{goes_on, punctuators}
use Rattle.css_lexemes.specs.Longest.{class_at, tail_length, closed_length, more_of, longest_of, length_of_class, lexeme_length, size_at}
use Rattle.css_lexemes.proofs.Longest.{more_of_some, more_of_none}
use Rattle.css_lexemes.proofs.Punctuators.{begins_is}

more_within : (more n high : ℕ) → n ≤ high → more_of more n ≤ more + high
more_within more n high fits =
    elim (cases_eq n 0) [
      | inl none ↦ omega (arith, more_of_none more n none)
      | inr some ↦ omega (arith, fits, more_of_some more n (omega (arith, some)))
    ]

tail_within : (before : ℕ) (text : List ℕ) → tail_length before text ≤ length text
tail_within before [] = omega arith
tail_within before (b ∷ text) =
    let rest = tail_within b text in
    elim (cases_Bool (goes_on before b)) [
      | inl holds ↦ let e : tail_length before (b ∷ text) ≡ 1 + tail_length b text = cond-true (goes_on before b) _ _ holds in omega (arith, e, rest)
      | inr fails ↦ let e : tail_length before (b ∷ text) ≡ 0 = cond-false (goes_on before b) _ _ fails in omega (arith, e)
    ]

closed_within : (quote : ℕ) (escaped : Bool) (text : List ℕ) → closed_length quote escaped text ≤ length text
closed_within quote escaped [] = omega arith
closed_within quote escaped (b ∷ text) =
    let rest = closed_within quote ((b == 92) && not escaped) text in
    elim (cases_Bool (b == 10)) [
      | inl newline ↦ let e : closed_length quote escaped (b ∷ text) ≡ 0 = cond-true (b == 10) _ _ newline in omega (arith, e)
      | inr plain ↦
          elim (cases_Bool ((b == quote) && not escaped)) [
            | inl ends ↦
                let e : closed_length quote escaped (b ∷ text) ≡ 1 = cond-false (b == 10) _ _ plain ∙ cond-true ((b == quote) && not escaped) _ _ ends in omega (arith, e)
            | inr other ↦
                let n = closed_length quote ((b == 92) && not escaped) text in
                let e : closed_length quote escaped (b ∷ text) ≡ more_of 1 n =
                cond-false (b == 10) _ _ plain ∙ cond-false ((b == quote) && not escaped) _ _ other in
                omega (arith, e, more_within 1 n (length text) rest)
          ]
    ]

longest_within : (spellings : List (List ℕ)) (text : List ℕ) → longest_of spellings text ≤ length text
longest_within [] text = omega arith
longest_within (spelling ∷ others) text =
    let rest = longest_within others text in
    elim (cases_Bool (begins_with spelling text)) [
      | inl holds ↦
          let e : longest_of (spelling ∷ others) text ≡ max (length spelling) (longest_of others text) =
          ap (λ n. max n (longest_of others text)) (cond-true (begins_with spelling text) _ _ holds) in
          let l = ap length (begins_is spelling text holds) ∙ length-append spelling (drop (length spelling) text) in
          omega (arith, e, l, rest)
      | inr fails ↦
          let e : longest_of (spelling ∷ others) text ≡ max 0 (longest_of others text) =
          ap (λ n. max n (longest_of others text)) (cond-false (begins_with spelling text) _ _ fails) in
          omega (arith, e, rest)
    ]

class_within : (class : LexemeClass) (b : ℕ) (text : List ℕ) → length_of_class class b text ≤ 1 + length text
class_within classes.Identifier b text =
    let e : length (first_word text) ≡ prefix_len is_word_byte text = length-prefix_len is_word_byte text in
    omega (arith, e, prefix_len-le-length is_word_byte text)
class_within classes.Number b text = omega (arith, tail_within b text)
class_within classes.Character b text = more_within 1 (closed_length 39 false text) (length text) (closed_within 39 false text)
class_within classes.Text b text = more_within 1 (closed_length 34 false text) (length text) (closed_within 34 false text)
class_within classes.Punctuator b text = omega (arith, longest_within punctuators (b ∷ text))

pub lexeme_within : (text : List ℕ) → lexeme_length text ≤ length text
lexeme_within [] = omega arith
lexeme_within (b ∷ text) = omega (arith, class_within (class_at (b ∷ text)) b text)

pub size_within : (text : List ℕ) → size_at text ≤ length text
size_within [] = omega arith
size_within (b ∷ text) =
    elim (cases_Bool (is_blank b)) [
      | inl blank ↦ let e : size_at (b ∷ text) ≡ 1 = cond-true (is_blank b) _ _ blank in omega (arith, e)
      | inr solid ↦ let e : size_at (b ∷ text) ≡ max 1 (lexeme_length (b ∷ text)) = cond-false (is_blank b) _ _ solid in omega (arith, e, lexeme_within (b ∷ text))
    ]

pub size_some : (b : ℕ) (text : List ℕ) → 0 < size_at (b ∷ text)
size_some b text =
    elim (cases_Bool (is_blank b)) [
      | inl blank ↦ let e : size_at (b ∷ text) ≡ 1 = cond-true (is_blank b) _ _ blank in omega (arith, e)
      | inr solid ↦ let e : size_at (b ∷ text) ≡ max 1 (lexeme_length (b ∷ text)) = cond-false (is_blank b) _ _ solid in omega (arith, e)
    ]
