-- Names among the words of a line.
use Rattle.std.proofs.Common.{◌≡◌, ℕ, inl, inr, false, not, ◌||◌, List, [], ◌∷◌, length, drop, cond, refl, sym, ap, ◌∙◌, subst, All, Option, Some, None, option_map, option_and_then}
use Rattle.std.specs.Prelude.{codes, ◌==◌, if◌then◌else◌}
use Rattle.std.proofs.lemmas.Bool.{cases_Bool, cond-true, cond-false, cond_both}
use Rattle.std.proofs.lemmas.List.{drop-drop}
use Rattle.std.proofs.lemmas.List.Elements.{All-nil, All-cons}
use Rattle.css_base.specs.declared.int_type.IntType.{IntType}
use Rattle.css_base.specs.Tokens.{Kind, Word, Number, Character, Text, Punctuator, At}
use Rattle.css_lexemes.specs.declared.lexeme_class.LexemeClass.TheVariants as classes
use Rattle.css_lexemes.specs.declared.pieces.Shape.{Shape}
use Rattle.css_lexemes.specs.declared.pieces.Shape.TheVariants as shapes
use Rattle.css_lexemes.specs.Source.{begins_with, bytes_of}
use Rattle.css_lexemes.specs.Lexemes.{Piece}
use Rattle.css_lexemes.specs.Values.{digits_in, value_in, suffixes, suffix_in, candidates, first_type, constant_in, number_in, integer_constant, characters, between_quotes, one_character}
use Rattle.css_macros.specs.Macros.{IsNoDirective}
use Rattle.css_lex.specs.Reading.{is_blank_piece, is_identifier, solid, from_solid, behind_first, kind_in, place_of, end_of, undefined_at, undefined_of}
use Rattle.css_lex.specs.Spelling.{line_at}
use Rattle.css_lex.specs.Words.{words_of, failure_of}
use Rattle.css_lex.specs.HashLines.{word_name, kind_at, only_name}
use Rattle.css_lex.proofs.Late.{by_kind, word_some, word_none, fails_on, fails_here}

-- What a lexeme that is no identifier stands for: no name, and no directive.
abbrev IsNoName : Kind → Type 0
IsNoName kind = (word_name kind ≡ None) × IsNoDirective kind

abbrev AllNoNames : Option Kind → Type 0
AllNoNames found = (kind : Kind) → found ≡ Some kind → IsNoName kind

no_names : AllNoNames None
no_names kind is = absurd cc

one_no_name : (found : Kind) → IsNoName found → AllNoNames (Some found)
one_no_name found none kind is = let e : found ≡ kind = cc in subst IsNoName e none

number_typed : (value : ℕ) (found : Option IntType) → AllNoNames (option_map (λ t. Number t value) found)
number_typed value None = no_names
number_typed value (Some t) = one_no_name (Number t value) (refl, tt)

number_suffixed : {S : Type 0} (value : ℕ) (found : Option S) (typed : S → Option IntType)
    → AllNoNames (option_and_then (λ s. option_map (λ t. Number t value) (typed s)) found)
number_suffixed value None typed = no_names
number_suffixed value (Some s) typed = number_typed value (typed s)

number_digits : (base : ℕ) (bytes : List ℕ) → AllNoNames (number_in base bytes)
number_digits base bytes =
    let digits = digits_in base bytes in
    cond_both (length digits == 0) None (constant_in base digits (drop (length digits) bytes)) AllNoNames (λ _. no_names)
    (λ _. number_suffixed (value_in base digits) (suffix_in suffixes (drop (length digits) bytes)) (λ s. first_type (base == 10) s (value_in base digits) candidates))

constant_number : (bytes : List ℕ) → AllNoNames (integer_constant bytes)
constant_number bytes =
    cond_both (begins_with (codes "0x") bytes || begins_with (codes "0X") bytes) (number_in 16 (drop 2 bytes)) (cond (begins_with (codes "0") bytes) (number_in 8 bytes) (number_in 10 bytes))
    AllNoNames (λ _. number_digits 16 (drop 2 bytes))
    (λ _. cond_both (begins_with (codes "0") bytes) (number_in 8 bytes) (number_in 10 bytes) AllNoNames (λ _. number_digits 8 bytes) (λ _. number_digits 10 bytes))

one_value : (values : List ℕ) → AllNoNames (one_character values)
one_value [] = no_names
one_value (v ∷ []) = one_no_name (Character v) (refl, tt)
one_value (v ∷ u ∷ values) = no_names

character_value : (found : Option (List ℕ)) → AllNoNames (option_and_then one_character found)
character_value None = no_names
character_value (Some values) = one_value values

text_value : (found : Option (List ℕ)) → AllNoNames (option_map Text found)
text_value None = no_names
text_value (Some values) = one_no_name (Text values) (refl, tt)

-- A piece is a name exactly where it is an identifier.
pub name_is : (shape : Shape) (bytes : List ℕ) (kind : Kind) → kind_in shape bytes ≡ Some kind
    → (word_name kind ≡ (if is_identifier shape then Some bytes else None)) × IsNoDirective kind
name_is shapes.Blank bytes kind is = absurd cc
name_is shapes.Stray bytes kind is = absurd cc
name_is (shapes.Lexeme classes.Identifier) bytes kind is = let e : Word bytes ≡ kind = cc in subst (λ k. (word_name k ≡ Some bytes) × IsNoDirective k) e (refl, tt)
name_is (shapes.Lexeme classes.Number) bytes kind is = constant_number bytes kind is
name_is (shapes.Lexeme classes.Character) bytes kind is = character_value (characters 0 (between_quotes bytes)) kind is
name_is (shapes.Lexeme classes.Text) bytes kind is = text_value (characters 0 (between_quotes bytes)) kind is
name_is (shapes.Lexeme classes.Punctuator) bytes kind is = let e : Punctuator bytes ≡ kind = cc in subst (λ k. (word_name k ≡ None) × IsNoDirective k) e (refl, tt)

pub no_identifier : (shape : Shape) (bytes : List ℕ) → kind_in shape bytes ≡ None → is_identifier shape ≡ false
no_identifier shapes.Blank bytes is = refl
no_identifier shapes.Stray bytes is = refl
no_identifier (shapes.Lexeme classes.Identifier) bytes is = absurd cc
no_identifier (shapes.Lexeme classes.Number) bytes is = refl
no_identifier (shapes.Lexeme classes.Character) bytes is = refl
no_identifier (shapes.Lexeme classes.Text) bytes is = refl
no_identifier (shapes.Lexeme classes.Punctuator) bytes is = refl

-- No word is a directive.
pub words_plain : (text : List ℕ) (pieces : List Piece) → All (λ w. IsNoDirective (kind_at w)) (words_of text pieces)
words_plain text [] = All-nil (λ w. IsNoDirective (kind_at w))
words_plain text (p ∷ pieces) =
    by_kind p (λ none. subst (All (λ w. IsNoDirective (kind_at w))) (sym (word_none text p pieces none)) (All-nil (λ w. IsNoDirective (kind_at w))))
    (λ kind is.
    subst (All (λ w. IsNoDirective (kind_at w))) (sym (word_some text p pieces kind is))
    (All-cons (λ w. IsNoDirective (kind_at w)) (At kind (line_at text (place_of p)) (place_of p) (end_of p)) (words_of text pieces) (name_is p.shape (bytes_of p.bytes) kind is).1
    (words_plain text pieces)))

-- The solid pieces behind the first one.
pub solid_behind : (pieces : List Piece) → solid (behind_first pieces) ≡ drop 1 (solid pieces)
solid_behind [] = refl
solid_behind (p ∷ pieces) =
    elim (cases_Bool (is_blank_piece p.shape)) [
      | inl blank ↦
          ap (λ ps. solid (drop 1 ps)) (cond-true (is_blank_piece p.shape) (from_solid pieces) (p ∷ pieces) blank)
          ∙ (solid_behind pieces ∙ sym (ap (drop 1) (cond-false (not (is_blank_piece p.shape)) (p ∷ solid pieces) (solid pieces) (ap not blank))))
      | inr full ↦
          ap (λ ps. solid (drop 1 ps)) (cond-false (is_blank_piece p.shape) (from_solid pieces) (p ∷ pieces) full)
          ∙ sym (ap (drop 1) (cond-true (not (is_blank_piece p.shape)) (p ∷ solid pieces) (solid pieces) (ap not full)))
    ]

pub solid_third : (pieces : List Piece) → solid (behind_first (behind_first pieces)) ≡ drop 2 (solid pieces)
solid_third pieces = solid_behind (behind_first pieces) ∙ (ap (drop 1) (solid_behind pieces) ∙ drop-drop 1 1 (solid pieces))

-- The name of an `#undef`.
pub sole_is : (text : List ℕ) (pieces : List Piece) → only_name (words_of text pieces) (failure_of pieces) ≡ undefined_at pieces
sole_is text [] = refl
sole_is text (p ∷ []) =
    by_kind p
    (λ none.
    ap (λ ws. only_name ws (failure_of (p ∷ []))) (word_none text p [] none)
    ∙ sym (cond-false (is_identifier p.shape) (Some (bytes_of p.bytes)) None (no_identifier p.shape (bytes_of p.bytes) none)))
    (λ kind is.
    ap (λ ws. only_name ws (failure_of (p ∷ []))) (word_some text p [] kind is)
    ∙ (ap (only_name (At kind (line_at text (place_of p)) (place_of p) (end_of p) ∷ [])) (fails_on p [] kind is)
    ∙ (name_is p.shape (bytes_of p.bytes) kind is).0))
sole_is text (p ∷ q ∷ pieces) =
    by_kind p (λ none. ap (λ ws. only_name ws (failure_of (p ∷ q ∷ pieces))) (word_none text p (q ∷ pieces) none))
    (λ kind is.
    ap (λ ws. only_name ws (failure_of (p ∷ q ∷ pieces))) (word_some text p (q ∷ pieces) kind is)
    ∙ by_kind q
    (λ none.
    ap (λ ws. only_name (At kind (line_at text (place_of p)) (place_of p) (end_of p) ∷ ws) (failure_of (p ∷ q ∷ pieces))) (word_none text q pieces none)
    ∙ ap (only_name (At kind (line_at text (place_of p)) (place_of p) (end_of p) ∷ [])) (fails_on p (q ∷ pieces) kind is ∙ fails_here q pieces none))
    (λ other that.
    ap (λ ws. only_name (At kind (line_at text (place_of p)) (place_of p) (end_of p) ∷ ws) (failure_of (p ∷ q ∷ pieces))) (word_some text q pieces other that)))

pub undefined_is : (text : List ℕ) (pieces : List Piece)
    → only_name (words_of text (drop 2 (solid pieces))) (failure_of (drop 2 (solid pieces))) ≡ undefined_of pieces
undefined_is text pieces = sole_is text (drop 2 (solid pieces)) ∙ ap undefined_at (sym (solid_third pieces))
