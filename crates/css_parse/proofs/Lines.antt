-- The first of some lines.
use Rattle.std.proofs.Common.{◌≡◌, ℕ, List, [], ◌∷◌, ◌++◌, Option, Some, None, refl, sym, ap, ◌∙◌}
use Rattle.css_base.specs.Tokens.{Kind, Lexeme, At, Lexemes, More}
use Rattle.css_parse.specs.Unsupported.{word_lines, words_lines, token_lines, unsupported_lines, first}

-- lines behind the first one don't matter
pub first-append : (xs ys : List ℕ) {line : ℕ} → Some line ≡ first xs → Some line ≡ first (xs ++ ys)
first-append [] ys e = absurd cc
first-append (x ∷ xs) ys e = e

pub none-append : (xs ys : List ℕ) → None ≡ first xs → xs ++ ys ≡ ys
none-append [] ys e = refl
none-append (x ∷ xs) ys e = absurd cc

-- a token with such a keyword, and one without
pub token_found : (ts rest behind : List Lexeme) (t : Lexeme) {line : ℕ} → unsupported_lines ts ≡ unsupported_lines rest → rest ≡ t ∷ behind → Some line ≡ first (token_lines t) → Some line ≡ first (unsupported_lines ts)
token_found ts rest behind t same is e = first-append (token_lines t) (unsupported_lines behind) e ∙ sym (ap first (same ∙ ap unsupported_lines is))

pub token_passed : (ts rest behind : List Lexeme) (t : Lexeme) → unsupported_lines ts ≡ unsupported_lines rest → rest ≡ t ∷ behind → None ≡ first (token_lines t) → unsupported_lines ts ≡ unsupported_lines behind
token_passed ts rest behind t same is e = same ∙ ap unsupported_lines is ∙ none-append (token_lines t) (unsupported_lines behind) e
