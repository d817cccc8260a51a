-- Unsupported keywords among tokens, and among those of them that aren't directives.
use Rattle.std.proofs.Common.{◌≡◌, ℕ, List, [], ◌∷◌, ◌++◌, refl, sym, ap, ◌∙◌}
use Rattle.css_base.specs.Tokens.{Kind, Word, Number, Character, Text, Punctuator, Directive, Lexeme, At}
use Rattle.css_lex.specs.WithoutDirectives.{without_directives, kinds_and_lines}
use Rattle.css_parse.specs.Unsupported.{word_lines, words_lines, token_lines, unsupported_lines}
use Rattle.css_unmarking.proofs.Others.{AreOthers}

-- They go by the tokens' kinds and lines.
abbrev kind_lines : Kind → ℕ → List ℕ
kind_lines (Directive words) line = words_lines words
kind_lines kind line = word_lines kind line

token_is : (kind : Kind) (line place end : ℕ) → token_lines (At kind line place end) ≡ kind_lines kind line
token_is (Word bytes) line place end = refl
token_is (Number type value) line place end = refl
token_is (Character byte) line place end = refl
token_is (Text bytes) line place end = refl
token_is (Punctuator bytes) line place end = refl
token_is (Directive words) line place end = refl

abbrev lines_by : List (Kind × ℕ) → List ℕ
lines_by [] = []
lines_by (x ∷ xs) = kind_lines x.0 x.1 ++ lines_by xs

unsupported_by : (ts : List Lexeme) → lines_by (kinds_and_lines ts) ≡ unsupported_lines ts
unsupported_by [] = refl
unsupported_by (At kind line place end ∷ ts) = ap (λ l. l ++ lines_by (kinds_and_lines ts)) (sym (token_is kind line place end)) ∙ ap (λ l. token_lines (At kind line place end) ++ l) (unsupported_by ts)

none_behind : (xs ys : List ℕ) → xs ++ ys ≡ [] → (xs ≡ []) × (ys ≡ [])
none_behind [] ys h = (refl, h)
none_behind (x ∷ xs) ys h = absurd cc

unsupported_without : (ts : List Lexeme) → unsupported_lines ts ≡ [] → unsupported_lines (without_directives ts) ≡ []
unsupported_without [] h = refl
unsupported_without (At (Directive words) line place end ∷ ts) h = unsupported_without ts (none_behind (words_lines words) (unsupported_lines ts) h).1
unsupported_without (At kind line place end ∷ ts) h =
    let both = none_behind (token_lines (At kind line place end)) (unsupported_lines ts) h in
    ap (λ l. l ++ unsupported_lines (without_directives ts)) both.0 ∙ unsupported_without ts both.1

pub unsupported_others : (ts us : List Lexeme) → AreOthers ts us → unsupported_lines ts ≡ [] → unsupported_lines us ≡ []
unsupported_others ts us h none = sym (unsupported_by us) ∙ ap lines_by h ∙ unsupported_by (without_directives ts) ∙ unsupported_without ts none
