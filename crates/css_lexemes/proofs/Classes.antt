-- What the first bytes of a text say of a lexeme that stands there.
use Rattle.std.proofs.Common.{◌≡◌, ℕ, ◌<◌, ◌≤◌, inl, inr, true, false, ◌&&◌, ◌||◌, List, ◌∷◌, cond, refl, ◌∙◌, arith}
use Rattle.std.specs.Prelude.{nat_le, ◌==◌}
use Rattle.std.proofs.lemmas.Bool.{leb-true, eqb-true, or_cases, and_parts, cond-true, cond-false, false_from_ne_true}
use Rattle.css_lexemes.specs.declared.lexeme_class.LexemeClass.{LexemeClass}
use Rattle.css_lexemes.specs.declared.lexeme_class.LexemeClass.TheVariants as classes
use Rattle.css_lexemes.specs.LineKinds.{is_blank, is_digit, is_nondigit}
use Rattle.css_lexemes.specs.Lexemes.{begins_number, begins_with_digit}
use Rattle.css_lexemes.specs.Longest.{class_at}

digit_range : (b : ℕ) → is_digit b ≡ true → (48 ≤ b) × (b ≤ 57)
digit_range b holds = let h = and_parts (nat_le 48 b) (nat_le b 57) holds in (leb-true 48 b h.0, leb-true b 57 h.1)

within : (low high b : ℕ) → (nat_le low b && nat_le b high) ≡ true → (low ≤ b) × (b ≤ high)
within low high b holds = let h = and_parts (nat_le low b) (nat_le b high) holds in (leb-true low b h.0, leb-true b high h.1)

letter_range : (b : ℕ) → is_nondigit b ≡ true → (65 ≤ b) × (b ≤ 122)
letter_range b holds =
    elim (or_cases (nat_le 65 b && nat_le b 90) ((nat_le 97 b && nat_le b 122) || (b == 95)) holds) [
      | inl h ↦ let r = within 65 90 b h in (r.0, omega (arith, r.1))
      | inr h ↦
          elim (or_cases (nat_le 97 b && nat_le b 122) (b == 95) h) [
            | inl g ↦ let r = within 97 122 b g in (omega (arith, r.0), r.1)
            | inr g ↦ let e = eqb-true b 95 g in (omega (arith, e), omega (arith, e))
          ]
    ]

blank_range : (b : ℕ) → is_blank b ≡ true → b ≤ 32
blank_range b holds =
    elim (or_cases (nat_le 9 b && nat_le b 13) (b == 32) holds) [
      | inl h ↦ let r = within 9 13 b h in omega (arith, r.1)
      | inr h ↦ let e = eqb-true b 32 h in omega (arith, e)
    ]

pub no_letter : (b : ℕ) → b < 65 → is_nondigit b ≡ false
no_letter b low = false_from_ne_true (is_nondigit b) (λ holds. absurd (omega (arith, (letter_range b holds).0)))

pub no_digit_below : (b : ℕ) → b < 48 → is_digit b ≡ false
no_digit_below b low = false_from_ne_true (is_digit b) (λ holds. absurd (omega (arith, (digit_range b holds).0)))

pub no_digit_above : (b : ℕ) → 57 < b → is_digit b ≡ false
no_digit_above b high = false_from_ne_true (is_digit b) (λ holds. absurd (omega (arith, (digit_range b holds).1)))

-- A number begins with a digit or a period.
pub number_range : (b : ℕ) (text : List ℕ) → begins_number (b ∷ text) ≡ true → (46 ≤ b) × (b ≤ 57)
number_range b text holds =
    elim (or_cases (is_digit b) ((b == 46) && begins_with_digit text) holds) [
      | inl h ↦ let r = digit_range b h in (omega (arith, r.0), r.1)
      | inr h ↦ let e = eqb-true b 46 (and_parts (b == 46) (begins_with_digit text) h).0 in (omega (arith, e), omega (arith, e))
    ]

pub no_number : (b : ℕ) (text : List ℕ) → b < 46 → begins_number (b ∷ text) ≡ false
no_number b text low = false_from_ne_true (begins_number (b ∷ text)) (λ holds. absurd (omega (arith, (number_range b text holds).0)))

other_class : ℕ → LexemeClass
other_class b = cond (b == 39) classes.Character (cond (b == 34) classes.Text classes.Punctuator)

pub at_identifier : (b : ℕ) (text : List ℕ) → is_nondigit b ≡ true → class_at (b ∷ text) ≡ classes.Identifier
at_identifier b text holds = cond-true (is_nondigit b) _ _ holds

pub at_number : (b : ℕ) (text : List ℕ) → begins_number (b ∷ text) ≡ true → class_at (b ∷ text) ≡ classes.Number
at_number b text holds =
    cond-false (is_nondigit b) _ _ (no_letter b (omega (arith, (number_range b text holds).1)))
    ∙ cond-true (begins_number (b ∷ text)) _ _ holds

pub at_character : (text : List ℕ) → class_at (39 ∷ text) ≡ classes.Character
at_character text = refl

pub at_text : (text : List ℕ) → class_at (34 ∷ text) ≡ classes.Text
at_text text = refl

pub at_punctuator : (b : ℕ) (text : List ℕ) → is_nondigit b ≡ false → begins_number (b ∷ text) ≡ false → (b == 39) ≡ false → (b == 34) ≡ false
    → class_at (b ∷ text) ≡ classes.Punctuator
at_punctuator b text a n c s =
    cond-false (is_nondigit b) _ _ a ∙ (cond-false (begins_number (b ∷ text)) _ _ n ∙ (cond-false (b == 39) _ _ c ∙ cond-false (b == 34) _ _ s))

-- White space begins no lexeme but a punctuator, which none begins with.
pub at_blank : (b : ℕ) (text : List ℕ) → is_blank b ≡ true → class_at (b ∷ text) ≡ classes.Punctuator
at_blank b text blank =
    let low = blank_range b blank in
    at_punctuator b text (no_letter b (omega (arith, low))) (no_number b text (omega (arith, low)))
    (false_from_ne_true (b == 39) (λ e. absurd (omega (arith, low, eqb-true b 39 e))))
    (false_from_ne_true (b == 34) (λ e. absurd (omega (arith, low, eqb-true b 34 e))))
