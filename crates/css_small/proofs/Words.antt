-- A directive of one word.
use Rattle.std.proofs.Common.{◌≡◌, ℕ, List, [], ◌∷◌, length, None, refl}
use Rattle.css_base.specs.Tokens.{Kind, Word, Number, Character, Text, Punctuator, Directive, lexemes, kind_of}
use Rattle.css_base.specs.declared.token.Token.{Token}
use Rattle.css_base.specs.declared.token.TokenKind as code
use Rattle.css_tree.specs.Shapes.{in_row}
use Rattle.css_small.specs.Trees.{kinds_of, directive_of}

two_words : (k other : Kind) (kinds : List Kind) → directive_of (k ∷ other ∷ kinds) ≡ None
two_words (Word bytes) other kinds = refl
two_words (Number type value) other kinds = refl
two_words (Character byte) other kinds = refl
two_words (Text bytes) other kinds = refl
two_words (Punctuator bytes) other kinds = refl
two_words (Directive words) other kinds = refl

-- words that aren't one
pub not_one_word : (ts : List Token) → (length ts ≡ 1 → ⊥) → directive_of (kinds_of (in_row (lexemes ts))) ≡ None
not_one_word [] other = refl
not_one_word (t ∷ []) other = absurd (other refl)
not_one_word (t ∷ u ∷ ts) other = two_words (kind_of t.kind) (kind_of u.kind) (kinds_of (in_row (lexemes ts)))

-- one token that is no word
pub no_word : (k : code.TokenKind) → ((bytes : List ℕ) → k ≡ code.Word bytes → ⊥) → directive_of (kind_of k ∷ []) ≡ None
no_word (code.Word bytes) other = absurd (other bytes refl)
no_word (code.Number type value) other = refl
no_word (code.Character byte) other = refl
no_word (code.Text bytes) other = refl
no_word (code.Punctuator bytes) other = refl
no_word (code.Directive' shape words) other = refl
