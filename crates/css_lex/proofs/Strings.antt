-- Strings that are joined one token at a time.
use Rattle.std.proofs.Common.{◌≡◌, ℕ, Bool, true, false, ◌&&◌, List, [], ◌∷◌, ◌++◌, refl, sym, ap, ◌∙◌, subst, append_assoc}
use Rattle.std.proofs.lemmas.List.{append-nil}
use Rattle.css_base.specs.Tokens.{Word, Number, Character, Text, Punctuator, Directive, Lexeme, At}
use Rattle.css_lex.specs.Spelling.{join, joined}
use Rattle.css_lex.specs.Joining.{joined_behind}

-- A token is a string.
abbrev pub is_text : Lexeme → Bool
is_text (At (Text bytes) line place end) = true
is_text _ = false

-- Two tokens that aren't both strings stay apart.
pub apart : (a b : Lexeme) (tokens : List Lexeme) → (is_text a && is_text b) ≡ false → join a (b ∷ tokens) ≡ a ∷ b ∷ tokens
apart (At (Text x) line place end) (At (Text y) next_line next_place next_end) tokens none = absurd cc
apart (At (Text x) line place end) (At (Word y) next_line next_place next_end) tokens none = refl
apart (At (Text x) line place end) (At (Number y v) next_line next_place next_end) tokens none = refl
apart (At (Text x) line place end) (At (Character y) next_line next_place next_end) tokens none = refl
apart (At (Text x) line place end) (At (Punctuator y) next_line next_place next_end) tokens none = refl
apart (At (Text x) line place end) (At (Directive y) next_line next_place next_end) tokens none = refl
apart (At (Word x) line place end) b tokens none = refl
apart (At (Number x v) line place end) b tokens none = refl
apart (At (Character x) line place end) b tokens none = refl
apart (At (Punctuator x) line place end) b tokens none = refl
apart (At (Directive x) line place end) b tokens none = refl

pub alone : (a : Lexeme) → join a [] ≡ a ∷ []
alone (At (Text x) line place end) = refl
alone (At (Word x) line place end) = refl
alone (At (Number x v) line place end) = refl
alone (At (Character x) line place end) = refl
alone (At (Punctuator x) line place end) = refl
alone (At (Directive x) line place end) = refl

-- No two strings stand next to each other.
abbrev pub AreApart : List Lexeme → Type 0
AreApart [] = Unit {0}
AreApart (a ∷ []) = Unit {0}
AreApart (a ∷ b ∷ tokens) = ((is_text a && is_text b) ≡ false) × AreApart (b ∷ tokens)

pub joined_apart : (tokens : List Lexeme) → AreApart tokens → joined tokens ≡ tokens
joined_apart [] are = refl
joined_apart (a ∷ []) are = alone a
joined_apart (a ∷ b ∷ tokens) are = ap (join a) (joined_apart (b ∷ tokens) are.1) ∙ apart a b tokens are.0

-- Two strings in front of a list.
text_twice : (x y : List ℕ) (line place end next_line next_place next_end : ℕ) (tokens : List Lexeme)
    → join (At (Text x) line place end) (join (At (Text y) next_line next_place next_end) tokens) ≡ join (At (Text (x ++ y)) line place next_end) tokens
text_twice x y line place end next_line next_place next_end [] = refl
text_twice x y line place end next_line next_place next_end (At (Text z) l p e ∷ tokens) = ap (λ b. At (Text b) line place e ∷ tokens) (sym (append_assoc x y z))
text_twice x y line place end next_line next_place next_end (At (Word z) l p e ∷ tokens) = refl
text_twice x y line place end next_line next_place next_end (At (Number z v) l p e ∷ tokens) = refl
text_twice x y line place end next_line next_place next_end (At (Character z) l p e ∷ tokens) = refl
text_twice x y line place end next_line next_place next_end (At (Punctuator z) l p e ∷ tokens) = refl
text_twice x y line place end next_line next_place next_end (At (Directive z) l p e ∷ tokens) = refl

-- A list that is joined with the next token already is joined as the whole is.
two_joined : (a b : Lexeme) (tokens : List Lexeme) → joined (join a (b ∷ []) ++ tokens) ≡ join a (join b (joined tokens))
two_joined (At (Text x) line place end) (At (Text y) next_line next_place next_end) tokens = sym (text_twice x y line place end next_line next_place next_end (joined tokens))
two_joined (At (Text x) line place end) (At (Word y) next_line next_place next_end) tokens = refl
two_joined (At (Text x) line place end) (At (Number y v) next_line next_place next_end) tokens = refl
two_joined (At (Text x) line place end) (At (Character y) next_line next_place next_end) tokens = refl
two_joined (At (Text x) line place end) (At (Punctuator y) next_line next_place next_end) tokens = refl
two_joined (At (Text x) line place end) (At (Directive y) next_line next_place next_end) tokens = refl
two_joined (At (Word x) line place end) b tokens = refl
two_joined (At (Number x v) line place end) b tokens = refl
two_joined (At (Character x) line place end) b tokens = refl
two_joined (At (Punctuator x) line place end) b tokens = refl
two_joined (At (Directive x) line place end) b tokens = refl

pub behind_joined : (done : List Lexeme) (token : Lexeme) (rest : List Lexeme) → joined (joined_behind done token ++ rest) ≡ joined (done ++ token ∷ rest)
behind_joined [] token rest = refl
behind_joined (a ∷ []) token rest = two_joined a token rest
behind_joined (a ∷ b ∷ done) token rest = ap (join a) (behind_joined (b ∷ done) token rest)

-- The first of two that are joined is a string where it was one.
abbrev first_text : List Lexeme → Bool
first_text [] = false
first_text (a ∷ tokens) = is_text a

pair_first : (a b : Lexeme) → first_text (join a (b ∷ [])) ≡ is_text a
pair_first (At (Text x) line place end) (At (Text y) next_line next_place next_end) = refl
pair_first (At (Text x) line place end) (At (Word y) next_line next_place next_end) = refl
pair_first (At (Text x) line place end) (At (Number y v) next_line next_place next_end) = refl
pair_first (At (Text x) line place end) (At (Character y) next_line next_place next_end) = refl
pair_first (At (Text x) line place end) (At (Punctuator y) next_line next_place next_end) = refl
pair_first (At (Text x) line place end) (At (Directive y) next_line next_place next_end) = refl
pair_first (At (Word x) line place end) b = refl
pair_first (At (Number x v) line place end) b = refl
pair_first (At (Character x) line place end) b = refl
pair_first (At (Punctuator x) line place end) b = refl
pair_first (At (Directive x) line place end) b = refl

pair_apart : (a b : Lexeme) → AreApart (join a (b ∷ []))
pair_apart (At (Text x) line place end) (At (Text y) next_line next_place next_end) = tt
pair_apart (At (Text x) line place end) (At (Word y) next_line next_place next_end) = (refl, tt)
pair_apart (At (Text x) line place end) (At (Number y v) next_line next_place next_end) = (refl, tt)
pair_apart (At (Text x) line place end) (At (Character y) next_line next_place next_end) = (refl, tt)
pair_apart (At (Text x) line place end) (At (Punctuator y) next_line next_place next_end) = (refl, tt)
pair_apart (At (Text x) line place end) (At (Directive y) next_line next_place next_end) = (refl, tt)
pair_apart (At (Word x) line place end) b = (refl, tt)
pair_apart (At (Number x v) line place end) b = (refl, tt)
pair_apart (At (Character x) line place end) b = (refl, tt)
pair_apart (At (Punctuator x) line place end) b = (refl, tt)
pair_apart (At (Directive x) line place end) b = (refl, tt)

more_apart : (a : Lexeme) (tokens : List Lexeme) → (is_text a && first_text tokens) ≡ false → AreApart tokens → AreApart (a ∷ tokens)
more_apart a [] none are = tt
more_apart a (b ∷ tokens) none are = (none, are)

behind_first : (a : Lexeme) (done : List Lexeme) (token : Lexeme) → first_text (joined_behind (a ∷ done) token) ≡ is_text a
behind_first a [] token = pair_first a token
behind_first a (b ∷ done) token = refl

pub behind_apart : (done : List Lexeme) (token : Lexeme) → AreApart done → AreApart (joined_behind done token)
behind_apart [] token are = tt
behind_apart (a ∷ []) token are = pair_apart a token
behind_apart (a ∷ b ∷ done) token are =
    more_apart a (joined_behind (b ∷ done) token) (ap (λ t. is_text a && t) (behind_first b done token) ∙ are.0) (behind_apart (b ∷ done) token are.1)

pub behind_last : (done : List Lexeme) (last token : Lexeme) → joined_behind (done ++ last ∷ []) token ≡ done ++ join last (token ∷ [])
behind_last [] last token = refl
behind_last (a ∷ []) last token = refl
behind_last (a ∷ b ∷ done) last token = ap (λ r. a ∷ r) (behind_last (b ∷ done) last token)

-- Of some tokens those that are left are still to be joined.
pub record IsJoining (tokens done rest : List Lexeme) : Type 0 where
  pub same : joined tokens ≡ joined (done ++ rest)
  pub are_apart : AreApart done

pub none_joined : (tokens : List Lexeme) → IsJoining tokens [] tokens
none_joined tokens = record { same = refl; are_apart = tt }

pub one_joined : (tokens done all : List Lexeme) (token : Lexeme) (rest : List Lexeme) → IsJoining tokens done (token ∷ rest) → all ≡ joined_behind done token
    → IsJoining tokens all rest
one_joined tokens done all token rest is all_are =
    subst (λ a. IsJoining tokens a rest) (sym all_are)
    (record { same = is.same ∙ sym (behind_joined done token rest); are_apart = behind_apart done token is.are_apart })

pub all_joined : (tokens done : List Lexeme) → IsJoining tokens done [] → done ≡ joined tokens
all_joined tokens done is = sym (is.same ∙ (ap joined (append-nil done) ∙ joined_apart done is.are_apart))
