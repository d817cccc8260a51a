-- The longest lexeme in front of a text is one, and no lexeme in front is longer.
use Rattle.std.proofs.Common.{◌≡◌, ◌≢◌, ℕ, zero, suc, ◌+◌, ◌<◌, ◌≤◌, ◌⊎◌, inl, inr, true, false, ◌&&◌, ◌||◌, List, [], ◌∷◌, ◌++◌, length, take, refl, sym, ap, ◌∙◌, subst, arith, append_assoc, length-append, ◌-◌, Contains}
use Rattle.std.specs.Prelude.{◌==◌}
use Rattle.std.proofs.lemmas.Bool.{false≢true, both_ways, eqb-true, or_cases, or_parts, or_left, or_right, and_parts, and_from, cond-true, cond-false, cases_Bool, cases_eq}
use Rattle.std.specs.List.{prefix_len}
use Rattle.std.proofs.lemmas.List.Folds.{length-prefix_len}
use Rattle.css_lexemes.specs.declared.lexeme_class.LexemeClass.{LexemeClass}
use Rattle.css_lexemes.specs.declared.lexeme_class.LexemeClass.TheVariants as classes
use Rattle.css_lexemes.specs.LineKinds.{is_blank, is_digit, is_nondigit, is_word_byte, first_word}
use Rattle.css_lexemes.specs.Lexemes.{goes_on, begins_number, begins_with_digit, is_exponent, punctuators, IsConstant, IsBody, IsOfClass}
use Rattle.css_lexemes.specs.Longest.{class_at, tail_length, closed_length, more_of, longest_of, length_of_class, lexeme_length}
use Rattle.css_lexemes.proofs.Classes.{at_identifier, at_number, at_punctuator, at_blank}
use Rattle.css_lexemes.proofs.Longest.{passing_fit, passing_pass, take_one_more, tail_fits, tail_is, more_of_some, more_of_none, body_fits, closed_is}
use Rattle.css_lexemes.proofs.Punctuators.{spelling_fits, spelling_is, punctuator_apart, punctuator_some}

-- Of the class that the text may begin with, and no longer than the longest; or shorter.
abbrev pub Fits : (class : LexemeClass) (size : ℕ) (text : List ℕ) → Type 0
Fits class size text = ((class ≡ class_at text) × (size ≤ lexeme_length text)) ⊎ (size < lexeme_length text)

in_class : (class : LexemeClass) (b : ℕ) (text : List ℕ) (size : ℕ) → class_at (b ∷ text) ≡ class → size ≤ length_of_class class b text → Fits class size (b ∷ text)
in_class class b text size is fits = inl (sym is, subst (λ k. size ≤ length_of_class k b text) (sym is) fits)

pub digit_goes_on : (before d : ℕ) → is_digit d ≡ true → goes_on before d ≡ true
digit_goes_on before d digit =
    or_left (is_word_byte d) ((d == 46) || (((d == 43) || (d == 45)) && is_exponent before)) (or_right (is_nondigit d) (is_digit d) digit)

-- A number in front of a text begins it.
begins_longer : (b : ℕ) (front rest : List ℕ) → begins_number (b ∷ front) ≡ true → begins_number (b ∷ (front ++ rest)) ≡ true
begins_longer b [] rest holds =
    elim (or_cases (is_digit b) ((b == 46) && false) holds) [
      | inl h ↦ or_left (is_digit b) ((b == 46) && begins_with_digit rest) h
      | inr h ↦ absurd (false≢true (and_parts (b == 46) false h).1)
    ]
begins_longer b (c ∷ front) rest holds = holds

identifier_fits : (front rest : List ℕ) → IsOfClass classes.Identifier front → Fits classes.Identifier (length front) (front ++ rest)
identifier_fits [] rest is = absurd is
identifier_fits (b ∷ front) rest is =
    in_class classes.Identifier b (front ++ rest) (length (b ∷ front)) (at_identifier b (front ++ rest) is.0) (omega (arith, passing_fit is_word_byte front rest is.1))

number_fits : (front rest : List ℕ) → IsOfClass classes.Number front → Fits classes.Number (length front) (front ++ rest)
number_fits [] rest is = absurd is
number_fits (b ∷ front) rest is =
    in_class classes.Number b (front ++ rest) (length (b ∷ front)) (at_number b (front ++ rest) (begins_longer b front rest is.0)) (omega (arith, tail_fits b front rest is.1))

-- The bytes behind a constant's first quote.
abbrev closing : (quote : ℕ) (body : List ℕ) → List ℕ
closing quote body = body ++ quote ∷ []

constant_size : (quote : ℕ) (body rest : List ℕ) → quote ≢ 10 → IsBody quote false body
    → length (quote ∷ closing quote body) ≤ more_of 1 (closed_length quote false (closing quote body ++ rest))
constant_size quote body rest plain is =
    let e : closed_length quote false (closing quote body ++ rest) ≡ length body + 1 =
    ap (closed_length quote false) (append_assoc body (quote ∷ []) rest) ∙ body_fits quote false body rest plain is in
    let l = length-append body (quote ∷ []) in
    omega (arith, e, l, more_of_some 1 (closed_length quote false (closing quote body ++ rest)) (omega (arith, e)))

character_fits : (front rest : List ℕ) → IsOfClass classes.Character front → Fits classes.Character (length front) (front ++ rest)
character_fits front rest is =
    subst (λ f. Fits classes.Character (length f) (f ++ rest)) (sym is.1)
    (in_class classes.Character 39 (closing 39 is.0 ++ rest) (length (39 ∷ closing 39 is.0)) refl (constant_size 39 is.0 rest (λ e. omega arith) is.2))

text_fits : (front rest : List ℕ) → IsOfClass classes.Text front → Fits classes.Text (length front) (front ++ rest)
text_fits front rest is =
    subst (λ f. Fits classes.Text (length f) (f ++ rest)) (sym is.1)
    (in_class classes.Text 34 (closing 34 is.0 ++ rest) (length (34 ∷ closing 34 is.0)) refl (constant_size 34 is.0 rest (λ e. omega arith) is.2))

-- A period with a digit behind it goes on.
digit_behind : (b : ℕ) (rest : List ℕ) → begins_with_digit rest ≡ true → 0 < tail_length b rest
digit_behind b [] digit = absurd (false≢true digit)
digit_behind b (d ∷ rest) digit =
    let e : tail_length b (d ∷ rest) ≡ 1 + tail_length d rest = cond-true (goes_on b d) _ _ (digit_goes_on b d digit) in omega (arith, e)

period_only : (b : ℕ) (front rest : List ℕ) → begins_number (b ∷ front) ≡ false → begins_number (b ∷ (front ++ rest)) ≡ true
    → length (b ∷ front) < 1 + tail_length b (front ++ rest)
period_only b [] rest none some =
    let apart = (or_parts (is_digit b) ((b == 46) && false) none).0 in
    elim (or_cases (is_digit b) ((b == 46) && begins_with_digit rest) some) [
      | inl h ↦ absurd (both_ways (is_digit b) apart h)
      | inr h ↦ let more = digit_behind b rest (and_parts (b == 46) (begins_with_digit rest) h).1 in omega (arith, more)
    ]
period_only b (c ∷ front) rest none some = absurd (both_ways (begins_number (b ∷ c ∷ front)) none some)

punctuator_fits : (front rest : List ℕ) → IsOfClass classes.Punctuator front → Fits classes.Punctuator (length front) (front ++ rest)
punctuator_fits [] rest is = absurd (punctuator_some is)
punctuator_fits (b ∷ front) rest is =
    let apart = punctuator_apart b front is in
    elim (cases_Bool (begins_number (b ∷ (front ++ rest)))) [
      | inl number ↦
          let more = period_only b front rest apart.number number in
          inr (subst (λ k. length (b ∷ front) < length_of_class k b (front ++ rest)) (sym (at_number b (front ++ rest) number)) more)
      | inr none ↦
          in_class classes.Punctuator b (front ++ rest) (length (b ∷ front)) (at_punctuator b (front ++ rest) apart.letter none apart.character apart.text)
          (spelling_fits punctuators (b ∷ front) rest is)
    ]

pub fits : (class : LexemeClass) (front rest : List ℕ) → IsOfClass class front → Fits class (length front) (front ++ rest)
fits classes.Identifier front rest is = identifier_fits front rest is
fits classes.Number front rest is = number_fits front rest is
fits classes.Character front rest is = character_fits front rest is
fits classes.Text front rest is = text_fits front rest is
fits classes.Punctuator front rest is = punctuator_fits front rest is

-- The longest front of a class that the text may begin with.
abbrev IsIn : (class : LexemeClass) (b : ℕ) (text : List ℕ) → Type 0
IsIn class b text = IsOfClass class (take (length_of_class class b text) (b ∷ text))

identifier_is : (b : ℕ) (text : List ℕ) → is_nondigit b ≡ true → IsIn classes.Identifier b text
identifier_is b text letter =
    let size : length (first_word text) ≡ prefix_len is_word_byte text = length-prefix_len is_word_byte text in
    subst (IsOfClass classes.Identifier) (sym (take_one_more (length (first_word text)) b text ∙ ap (λ n. b ∷ take n text) size)) (letter, passing_pass is_word_byte text)

digit_kept : (n : ℕ) (text : List ℕ) → 0 < n → begins_with_digit text ≡ true → begins_with_digit (take n text) ≡ true
digit_kept zero text some digit = absurd (omega arith)
digit_kept (suc n) [] some digit = digit
digit_kept (suc n) (d ∷ text) some digit = digit

number_kept : (b : ℕ) (text : List ℕ) → begins_number (b ∷ text) ≡ true → begins_number (b ∷ take (tail_length b text) text) ≡ true
number_kept b text number =
    elim (or_cases (is_digit b) ((b == 46) && begins_with_digit text) number) [
      | inl h ↦ or_left (is_digit b) ((b == 46) && begins_with_digit (take (tail_length b text) text)) h
      | inr h ↦
          let p = and_parts (b == 46) (begins_with_digit text) h in
          or_right (is_digit b) ((b == 46) && begins_with_digit (take (tail_length b text) text))
          (and_from (b == 46) (begins_with_digit (take (tail_length b text) text)) p.0 (digit_kept (tail_length b text) text (digit_behind b text p.1) p.1))
    ]

number_is : (b : ℕ) (text : List ℕ) → begins_number (b ∷ text) ≡ true → IsIn classes.Number b text
number_is b text number =
    subst (IsOfClass classes.Number) (sym (take_one_more (tail_length b text) b text)) (number_kept b text number, tail_is b text)

constant_is : (quote b : ℕ) (text : List ℕ) → b ≡ quote → 0 < more_of 1 (closed_length quote false text)
    → IsConstant quote (take (more_of 1 (closed_length quote false text)) (b ∷ text))
constant_is quote b text is some =
    let n = closed_length quote false text in
    elim (cases_eq n 0) [
      | inl none ↦ absurd (omega (arith, some, more_of_none 1 n none))
      | inr more ↦
          let closed = closed_is quote false text (omega (arith, more)) in
          let bytes : take (more_of 1 n) (b ∷ text) ≡ quote ∷ (closed.body ++ quote ∷ []) =
          ap (λ k. take k (b ∷ text)) (more_of_some 1 n (omega (arith, more))) ∙ (take_one_more n b text ∙ (ap (λ q. q ∷ take n text) is ∙ ap (λ r. quote ∷ r) closed.bytes_are)) in
          (closed.body, bytes, closed.is_body)
    ]

moved_class : (class : LexemeClass) (b : ℕ) (text : List ℕ) → class_at (b ∷ text) ≡ class → IsIn class b text
    → IsOfClass (class_at (b ∷ text)) (take (lexeme_length (b ∷ text)) (b ∷ text))
moved_class class b text is one = subst (λ k. IsIn k b text) (sym is) one

some_of : (class : LexemeClass) (b : ℕ) (text : List ℕ) → class_at (b ∷ text) ≡ class → 0 < lexeme_length (b ∷ text) → 0 < length_of_class class b text
some_of class b text is some = subst (λ k. 0 < length_of_class k b text) is some

-- The class where the text begins neither a word nor a number.
other_is : (b : ℕ) (text : List ℕ) → is_nondigit b ≡ false → begins_number (b ∷ text) ≡ false → 0 < lexeme_length (b ∷ text)
    → IsOfClass (class_at (b ∷ text)) (take (lexeme_length (b ∷ text)) (b ∷ text))
other_is b text letter number some =
    elim (cases_Bool (b == 39)) [
      | inl character ↦
          let is : class_at (b ∷ text) ≡ classes.Character = cond-false (is_nondigit b) _ _ letter ∙ (cond-false (begins_number (b ∷ text)) _ _ number ∙ cond-true (b == 39) _ _ character) in
          moved_class classes.Character b text is (constant_is 39 b text (eqb-true b 39 character) (some_of classes.Character b text is some))
      | inr character ↦
          elim (cases_Bool (b == 34)) [
            | inl string ↦
                let is : class_at (b ∷ text) ≡ classes.Text =
                cond-false (is_nondigit b) _ _ letter ∙ (cond-false (begins_number (b ∷ text)) _ _ number ∙ (cond-false (b == 39) _ _ character ∙ cond-true (b == 34) _ _ string)) in
                moved_class classes.Text b text is (constant_is 34 b text (eqb-true b 34 string) (some_of classes.Text b text is some))
            | inr string ↦
                let is = at_punctuator b text letter number character string in
                moved_class classes.Punctuator b text is (spelling_is punctuators (b ∷ text) (some_of classes.Punctuator b text is some))
          ]
    ]

pub is_one : (b : ℕ) (text : List ℕ) → 0 < lexeme_length (b ∷ text) → IsOfClass (class_at (b ∷ text)) (take (lexeme_length (b ∷ text)) (b ∷ text))
is_one b text some =
    elim (cases_Bool (is_nondigit b)) [
      | inl letter ↦ moved_class classes.Identifier b text (at_identifier b text letter) (identifier_is b text letter)
      | inr letter ↦
          elim (cases_Bool (begins_number (b ∷ text))) [
            | inl number ↦ moved_class classes.Number b text (at_number b text number) (number_is b text number)
            | inr number ↦ other_is b text letter number some
          ]
    ]

-- White space begins no lexeme.
pub blank_none : (b : ℕ) (text : List ℕ) → is_blank b ≡ true → lexeme_length (b ∷ text) ≡ 0
blank_none b text blank =
    let n = lexeme_length (b ∷ text) in
    elim (cases_eq n 0) [
      | inl none ↦ none
      | inr more ↦ absurd (apart (omega (arith, more)))
    ]
  where
    first : (n : ℕ) → 0 < n → take n (b ∷ text) ≡ b ∷ take (n - 1) text
    first zero some = absurd (omega arith)
    first (suc n) some = ap (λ k. b ∷ take k text) (omega arith)

    apart : 0 < lexeme_length (b ∷ text) → ⊥
    apart some =
        let e = at_blank b text blank in
        let n = longest_of punctuators (b ∷ text) in
        let more : 0 < n = subst (λ k. 0 < length_of_class k b text) e some in
        let one : Contains punctuators (b ∷ take (n - 1) text) = subst (Contains punctuators) (first n more) (spelling_is punctuators (b ∷ text) more) in
        both_ways (is_blank b) (punctuator_apart b (take (n - 1) text) one).blank blank
