-- `#define` lines.
use Rattle.std.proofs.Common.{◌≡◌, ℕ, suc, ◌+◌, ◌<◌, ◌≤◌, inl, inr, Bool, true, false, not, ◌&&◌, List, [], ◌∷◌, ◌++◌, length, drop, map, cond, refl, sym, ap, ap₂, ◌∙◌, subst, arith, append_assoc, All, Option, Some, None}
use Rattle.std.specs.Prelude.{filter_map, if◌then◌else◌}
use Rattle.std.proofs.lemmas.Bool.{cases_Bool, both_ways, cond-true, cond-false, and_left, and_right, and_from}
use Rattle.std.proofs.lemmas.List.{append-nil}
use Rattle.std.specs.List.{cons_option}
use Rattle.std.proofs.lemmas.List.Elements.{All-nil, All-tail}
use Rattle.css_base.specs.Tokens.{Kind, Lexeme, lexemes}
use Rattle.css_lex.specs.declared.breach.Breach.{Breach}
use Rattle.css_lex.specs.declared.line.Brought.{Brought}
use Rattle.css_lexemes.specs.declared.line_kind.LineKind.TheVariants as kinds
use Rattle.css_lexemes.specs.declared.source.SourceByte.{SourceByte}
use Rattle.css_lexemes.specs.Source.{bytes_of}
use Rattle.css_lexemes.specs.LineKinds.{line_kind}
use Rattle.css_lexemes.specs.Lexemes.{Piece}
use Rattle.css_lexemes.specs.Longest.{pieces_of}
use Rattle.css_macros.specs.Macros.{IsNoDirective, may_define, defined}
use Rattle.css_macros.specs.MacroTables.{table_of}
use Rattle.css_lex.specs.Costs.{State}
use Rattle.css_lex.specs.Reading.{is_blank_piece, is_identifier, solid, from_solid, behind_first, kind_of_piece, place_of, first_place, definition_at, definition_of, with_definition, table_by}
use Rattle.css_lex.specs.Refusals.{is_empty, stray_pieces, bad_constants, bad_bytes, unended_comments, is_bad_definition, line_breaches}
use Rattle.css_lexemes.specs.Rising.{AreBetween}
use Rattle.css_lex.specs.Words.{own_breach, words_of, failure_of}
use Rattle.css_lex.specs.Found.{IsFirst, IsFound, least_of}
use Rattle.css_lex.specs.HashLines.{opens, kind_at, front_name, behind_name}
use Rattle.css_lex.specs.LexState.{state_of, line_of, IsLexed}
use Rattle.css_lex.proofs.Firsts.{AllFrom, in_front, before_others, behind_others, from_behind}
use Rattle.css_lex.proofs.Late.{AreSolid, solid_lower, strays_from, constants_from, among, among_on, own_first, by_kind, word_some, word_none, fails_on, fails_here, none_of_both}
use Rattle.css_lex.proofs.LineBreaches.{pieces_in, late_of, spelled_as, kind_found, behind_as, tokens_as, pieces_solid, drop_solid}
use Rattle.css_lex.proofs.Hashes.{has_hash, solid_from}
use Rattle.css_lex.proofs.NamedWords.{name_is, no_identifier, solid_third, words_plain}
use Rattle.css_lex.proofs.UndefLines.{hash_breach}

-- The pieces from the name on.
abbrev pub from_name : List SourceByte → List Piece
from_name line = from_solid (behind_first (behind_first (pieces_of line)))

-- What is read as words.
abbrev pub define_pieces : List SourceByte → List Piece
define_pieces line = drop 2 (pieces_in line)

abbrev pub define_words : (text : List ℕ) → List SourceByte → List Lexeme
define_words text line = words_of text (define_pieces line)

name_pieces : (line : List SourceByte) → solid (from_name line) ≡ define_pieces line
name_pieces line = solid_from (behind_first (behind_first (pieces_of line))) ∙ solid_third (pieces_of line)

first_full : (pieces : List Piece) (p : Piece) (rest : List Piece) → from_solid pieces ≡ p ∷ rest → is_blank_piece p.shape ≡ false
first_full [] p rest is = absurd cc
first_full (q ∷ pieces) p rest is =
    elim (cases_Bool (is_blank_piece q.shape)) [
      | inl blank ↦ first_full pieces p rest (sym (cond-true (is_blank_piece q.shape) (from_solid pieces) (q ∷ pieces) blank) ∙ is)
      | inr full ↦
          let same : q ≡ p = let e : q ∷ pieces ≡ p ∷ rest = sym (cond-false (is_blank_piece q.shape) (from_solid pieces) (q ∷ pieces) full) ∙ is in cc in
          subst (λ (r : Piece). is_blank_piece r.shape ≡ false) same full
    ]

-- What is known of the pieces from the name on.
abbrev IsFrom : (line : List SourceByte) → List Piece → Type 0
IsFrom line found = from_name line ≡ found

solid_cons : (p : Piece) (rest : List Piece) → is_blank_piece p.shape ≡ false → solid (p ∷ rest) ≡ p ∷ solid rest
solid_cons p rest full = cond-true (not (is_blank_piece p.shape)) (p ∷ solid rest) (solid rest) (ap not full)

define_cons : (line : List SourceByte) (p : Piece) (rest : List Piece) → IsFrom line (p ∷ rest) → define_pieces line ≡ p ∷ solid rest
define_cons line p rest is =
    sym (name_pieces line) ∙ (ap solid is ∙ solid_cons p rest (first_full (behind_first (behind_first (pieces_of line))) p rest is))

abbrev is_definition : Piece → List Piece → Bool
is_definition p rest = is_identifier p.shape && not (opens (p ∷ rest))

none_at : (p : Piece) (rest : List Piece) → is_definition p rest ≡ false → definition_at (p ∷ rest) ≡ None
none_at p rest fails = cond-false (is_definition p rest) (Some (record { name = bytes_of p.bytes; body = solid rest })) None fails

some_at : (p : Piece) (rest : List Piece) → is_definition p rest ≡ true → definition_at (p ∷ rest) ≡ Some (record { name = bytes_of p.bytes; body = solid rest })
some_at p rest holds = cond-true (is_definition p rest) (Some (record { name = bytes_of p.bytes; body = solid rest })) None holds

identifier_none : (p : Piece) → (if is_identifier p.shape then Some (bytes_of p.bytes) else None) ≡ None → is_identifier p.shape ≡ false
identifier_none p is =
    elim (cases_Bool (is_identifier p.shape)) [
      | inl holds ↦ absurd (let e : Some (bytes_of p.bytes) ≡ None = sym (cond-true (is_identifier p.shape) (Some (bytes_of p.bytes)) None holds) ∙ is in cc)
      | inr fails ↦ fails
    ]

identifier_some : (p : Piece) (name : List ℕ) → (if is_identifier p.shape then Some (bytes_of p.bytes) else None) ≡ Some name → (is_identifier p.shape ≡ true) × (bytes_of p.bytes ≡ name)
identifier_some p name is =
    elim (cases_Bool (is_identifier p.shape)) [
      | inl holds ↦ (holds, let e : Some (bytes_of p.bytes) ≡ Some name = sym (cond-true (is_identifier p.shape) (Some (bytes_of p.bytes)) None holds) ∙ is in cc)
      | inr fails ↦ absurd (let e : None ≡ Some name = sym (cond-false (is_identifier p.shape) (Some (bytes_of p.bytes)) None fails) ∙ is in cc)
    ]

front_some : (text : List ℕ) (p : Piece) (pieces : List Piece) (kind : Kind) → kind_of_piece p ≡ Some kind
    → front_name (words_of text (p ∷ pieces)) ≡ (if is_identifier p.shape then Some (bytes_of p.bytes) else None)
front_some text p pieces kind is = ap front_name (word_some text p pieces kind is) ∙ (name_is p.shape (bytes_of p.bytes) kind is).0

-- Without a name there is no definition.
pub no_name : (text : List ℕ) (line : List SourceByte) → front_name (define_words text line) ≡ None → definition_of (pieces_of line) ≡ None
no_name text line none = by (from_name line) refl
  where
    by : (found : List Piece) → IsFrom line found → definition_at (from_name line) ≡ None
    by [] is = ap definition_at is
    by (p ∷ rest) is =
        ap definition_at is
        ∙ none_at p rest
        (by_kind p (λ nothing. and_left (is_identifier p.shape) (not (opens (p ∷ rest))) (no_identifier p.shape (bytes_of p.bytes) nothing))
        (λ kind some.
        and_left (is_identifier p.shape) (not (opens (p ∷ rest)))
        (identifier_none p
        (sym (front_some text p (solid rest) kind some) ∙ (sym (ap (λ ps. front_name (words_of text ps)) (define_cons line p rest is)) ∙ none)))))

-- A parenthesis behind the name: none.
pub no_object : (line : List SourceByte) → opens (from_name line) ≡ true → definition_of (pieces_of line) ≡ None
no_object line open' = by (from_name line) refl
  where
    by : (found : List Piece) → IsFrom line found → definition_at (from_name line) ≡ None
    by [] is = ap definition_at is
    by (p ∷ rest) is =
        ap definition_at is
        ∙ none_at p rest (and_right (is_identifier p.shape) (not (opens (p ∷ rest))) (ap not (sym (ap opens is) ∙ open')))

-- The definition of the line, and the words that stand for the name.
pub record IsDefinition (text : List ℕ) (line : List SourceByte) (name : List ℕ) : Type 0 where
  pub body : List Piece
  pub definition : definition_of (pieces_of line) ≡ Some (record { name = name; body = body })
  pub words : words_of text body ≡ behind_name (define_words text line)
  pub failure : failure_of body ≡ failure_of (define_pieces line)

pub one_definition : (text : List ℕ) (line : List SourceByte) (name : List ℕ) → front_name (define_words text line) ≡ Some name → opens (from_name line) ≡ false → IsDefinition text line name
one_definition text line name named plain = by (from_name line) refl
  where
    by : (found : List Piece) → IsFrom line found → IsDefinition text line name
    by [] is =
        let none : front_name (define_words text line) ≡ None = sym (ap (λ ps. front_name (words_of text ps)) (sym (ap solid is) ∙ name_pieces line)) in
        absurd (let e : None ≡ Some name = sym none ∙ named in cc)
    by (p ∷ rest) is =
        let pieces = define_cons line p rest is in
        let front : front_name (words_of text (p ∷ solid rest)) ≡ Some name = sym (ap (λ ps. front_name (words_of text ps)) pieces) ∙ named in
        by_kind p (λ nothing. absurd (let e : None ≡ Some name = sym (ap front_name (word_none text p (solid rest) nothing)) ∙ front in cc))
        (λ kind some.
        let id = identifier_some p name (sym (front_some text p (solid rest) kind some) ∙ front) in
        record {
          body = solid rest;
          definition =
              ap definition_at is
              ∙ (some_at p rest (and_from (is_identifier p.shape) (not (opens (p ∷ rest))) id.0 (ap not (sym (ap opens is) ∙ plain)))
              ∙ ap (λ n. Some (record { name = n; body = solid rest })) id.1);
          words = sym (ap (λ ps. behind_name (words_of text ps)) pieces ∙ ap behind_name (word_some text p (solid rest) kind some));
          failure = sym (ap failure_of pieces ∙ fails_on p (solid rest) kind some);
        })

pub plain_behind : (text : List ℕ) (pieces : List Piece) → All (λ w. IsNoDirective (kind_at w)) (behind_name (words_of text pieces))
plain_behind text pieces = by (words_of text pieces) (words_plain text pieces)
  where
    by : (words : List Lexeme) → All (λ w. IsNoDirective (kind_at w)) words → All (λ w. IsNoDirective (kind_at w)) (behind_name words)
    by [] all = all
    by (w ∷ words) all = All-tail (λ v. IsNoDirective (kind_at v)) w words all

-- The `#` stands before the pieces that are read.
pub behind_hash : (n high : ℕ) (line : List SourceByte) → (line_kind (bytes_of line) ≡ kinds.Text → ⊥) → AreBetween 0 high line
    → AreSolid ((hash_breach line).place + 1) (drop (suc n) (pieces_in line))
behind_hash n high line other between =
    let hash = has_hash line other in
    let are = subst (AreSolid 0) hash.pieces (pieces_solid high line between) in
    subst (λ ps. AreSolid (first_place ps + 1) (drop (suc n) ps)) (sym hash.pieces) (drop_solid _ n _ are.2)

-- A malformed line.
pub hash_first : (line : List SourceByte) (pieces : List Piece) (others : List Breach) → AreSolid ((hash_breach line).place + 1) pieces → AllFrom (hash_breach line).place others
    → IsFirst (hash_breach line) (stray_pieces pieces ++ ((hash_breach line ∷ others) ++ bad_constants pieces))
hash_first line pieces others are from =
    let b = hash_breach line in
    let lower = solid_lower b.place (b.place + 1) pieces (omega arith) are in
    behind_others b (stray_pieces pieces) ((b ∷ others) ++ bad_constants pieces) (from_behind b.place (b.place + 1) (stray_pieces pieces) (omega arith) (strays_from (b.place + 1) pieces are))
    (before_others b (b ∷ others) (bad_constants pieces) (in_front b others from) (constants_from b.place pieces lower))

abbrev define_late : (line : List SourceByte) → (is_bad : Bool) → List Breach
define_late line is_bad =
    stray_pieces (define_pieces line) ++ ((if is_bad then hash_breach line ∷ [] else []) ++ ([] ++ bad_constants (define_pieces line)))

abbrev bad_line : (text : List ℕ) (state : State) (line : List SourceByte) → Bool
bad_line text state line = is_bad_definition (spelled_as kinds.Define text line) state.table (definition_of (pieces_of line))

late_is : (text : List ℕ) (state : State) (line : List SourceByte) (is_bad : Bool) → bad_line text state line ≡ is_bad → late_of kinds.Define text state line ≡ define_late line is_bad
late_is text state line is_bad is = ap (define_late line) is

not_text : (line : List SourceByte) → line_kind (bytes_of line) ≡ kinds.Define → line_kind (bytes_of line) ≡ kinds.Text → ⊥
not_text line is text = let e : kinds.Define ≡ kinds.Text = sym is ∙ text in cc

bad_first : (text : List ℕ) (state : State) (line : List SourceByte) → line_kind (bytes_of line) ≡ kinds.Define → AreBetween 0 (length text) line → bad_line text state line ≡ true
    → IsFirst (hash_breach line) (late_of kinds.Define text state line)
bad_first text state line is between bad' =
    subst (IsFirst (hash_breach line)) (sym (late_is text state line true bad'))
    (hash_first line (define_pieces line) [] (behind_hash 1 (length text) line (not_text line is) between) (All-nil (λ c. (hash_breach line).place ≤ c.place)))

pub define_malformed : (text : List ℕ) (state : State) (line : List SourceByte) (early : Option Breach) → line_kind (bytes_of line) ≡ kinds.Define → AreBetween 0 (length text) line
    → IsFound early (bad_bytes line ++ unended_comments text line) → definition_of (pieces_of line) ≡ None
    → IsFound (least_of early (Some (hash_breach line))) (line_breaches text state (line_of line))
define_malformed text state line early is between found none =
    kind_found kinds.Define text state line early (Some (hash_breach line)) is found
    (bad_first text state line is between (ap (is_bad_definition (spelled_as kinds.Define text line) state.table) none))

-- The first piece that stands for nothing.
pub failure_alone : (low : ℕ) (pieces : List Piece) → AreSolid low pieces → IsFound (failure_of pieces) (among pieces [])
failure_alone low [] are = refl
failure_alone low (p ∷ pieces) are =
    by_kind p
    (λ none. subst (λ f. IsFound f (among (p ∷ pieces) [])) (sym (fails_here p pieces none)) (own_first low p pieces [] are none (All-nil (λ c. place_of p < c.place))))
    (λ kind some.
    subst (λ f. IsFound f (among (p ∷ pieces) [])) (sym (fails_on p pieces kind some))
    (subst (IsFound (failure_of pieces)) (sym (among_on p pieces [] kind some)) (failure_alone (place_of p + 1) pieces are.2)))

some_not_empty : (front : List Breach) (b : Breach) (back : List Breach) → is_empty (front ++ b ∷ back) ≡ false
some_not_empty [] b back = refl
some_not_empty (f ∷ front) b back = refl

first_not_empty : (b : Breach) (these : List Breach) → IsFirst b these → is_empty these ≡ false
first_not_empty b these first = ap is_empty first.parts ∙ some_not_empty first.front b first.back

left_not_empty : (these those : List Breach) → is_empty these ≡ false → is_empty (these ++ those) ≡ false
left_not_empty [] those some = absurd (both_ways true some refl)
left_not_empty (b ∷ these) those some = refl

right_not_empty : (these those : List Breach) → is_empty those ≡ false → is_empty (these ++ those) ≡ false
right_not_empty [] those some = some
right_not_empty (b ∷ these) those some = refl

spelled_parts : (text : List ℕ) (line : List SourceByte) → spelled_as kinds.Define text line ≡ is_empty ((bad_bytes line ++ unended_comments text line) ++ among (define_pieces line) [])
spelled_parts text line = ap is_empty (sym (append_assoc (bad_bytes line) (unended_comments text line) (among (define_pieces line) [])))

-- A line with a breach of bytes or tokens isn't spelled.
not_spelled : (text : List ℕ) (line : List SourceByte) (early : Option Breach) (b : Breach) → AreBetween 0 (length text) line → IsFound early (bad_bytes line ++ unended_comments text line)
    → least_of early (failure_of (define_pieces line)) ≡ Some b → spelled_as kinds.Define text line ≡ false
not_spelled text line (Some e) b between found is =
    spelled_parts text line ∙ left_not_empty (bad_bytes line ++ unended_comments text line) (among (define_pieces line) []) (first_not_empty e (bad_bytes line ++ unended_comments text line) found)
not_spelled text line None b between found is =
    let late = failure_alone 0 (define_pieces line) (drop_solid 0 2 (pieces_in line) (pieces_solid (length text) line between)) in
    spelled_parts text line
    ∙ right_not_empty (bad_bytes line ++ unended_comments text line) (among (define_pieces line) [])
    (first_not_empty b (among (define_pieces line) []) (subst (λ f. IsFound f (among (define_pieces line) [])) is late))

good_found : (text : List ℕ) (state : State) (line : List SourceByte) (early : Option Breach) → line_kind (bytes_of line) ≡ kinds.Define → AreBetween 0 (length text) line
    → IsFound early (bad_bytes line ++ unended_comments text line) → bad_line text state line ≡ false
    → IsFound (least_of early (failure_of (define_pieces line))) (line_breaches text state (line_of line))
good_found text state line early is between found good =
    kind_found kinds.Define text state line early (failure_of (define_pieces line)) is found
    (subst (IsFound (failure_of (define_pieces line))) (sym (late_is text state line false good))
    (failure_alone 0 (define_pieces line) (drop_solid 0 2 (pieces_in line) (pieces_solid (length text) line between))))

pub define_unspelled : (text : List ℕ) (state : State) (line : List SourceByte) (early : Option Breach) (name : List ℕ) (b : Breach) → line_kind (bytes_of line) ≡ kinds.Define
    → AreBetween 0 (length text) line → IsFound early (bad_bytes line ++ unended_comments text line) → IsDefinition text line name
    → least_of early (failure_of (define_pieces line)) ≡ Some b → IsFirst b (line_breaches text state (line_of line))
define_unspelled text state line early name b is between found definition least =
    let good : bad_line text state line ≡ false =
    ap (is_bad_definition (spelled_as kinds.Define text line) state.table) definition.definition
    ∙ and_left (spelled_as kinds.Define text line) (not (may_define state.table name (filter_map kind_of_piece definition.body))) (not_spelled text line early b between found least) in
    subst (λ f. IsFound f (line_breaches text state (line_of line))) least (good_found text state line early is between found good)

kinds_of_words : (text : List ℕ) (pieces : List Piece) → failure_of pieces ≡ None → filter_map kind_of_piece pieces ≡ map kind_at (words_of text pieces)
kinds_of_words text [] none = refl
kinds_of_words text (p ∷ pieces) none =
    by_kind p (λ nothing. absurd (let e : Some (own_breach p) ≡ None = sym (fails_here p pieces nothing) ∙ none in cc))
    (λ kind some.
    ap (λ o. cons_option o (filter_map kind_of_piece pieces)) some
    ∙ (ap (λ ks. kind ∷ ks) (kinds_of_words text pieces (sym (fails_on p pieces kind some) ∙ none)) ∙ sym (ap (map kind_at) (word_some text p pieces kind some))))

-- The tokens of the definition.
body_kinds : (text : List ℕ) (line : List SourceByte) (name : List ℕ) (early : Option Breach) (tokens : List Kind) → (is : IsDefinition text line name)
    → least_of early (failure_of (define_pieces line)) ≡ None → tokens ≡ map kind_at (behind_name (define_words text line)) → filter_map kind_of_piece is.body ≡ tokens
body_kinds text line name early tokens is none tokens_are =
    let all = (none_of_both early (failure_of (define_pieces line)) none).1 in
    kinds_of_words text is.body (is.failure ∙ all) ∙ (ap (map kind_at) is.words ∙ sym tokens_are)

is_spelled : (text : List ℕ) (line : List SourceByte) (early : Option Breach) → AreBetween 0 (length text) line → IsFound early (bad_bytes line ++ unended_comments text line)
    → least_of early (failure_of (define_pieces line)) ≡ None → spelled_as kinds.Define text line ≡ true
is_spelled text line early between found none =
    let both = none_of_both early (failure_of (define_pieces line)) none in
    let early_none : bad_bytes line ++ unended_comments text line ≡ [] = subst (λ f. IsFound f (bad_bytes line ++ unended_comments text line)) both.0 found in
    let late = failure_alone 0 (define_pieces line) (drop_solid 0 2 (pieces_in line) (pieces_solid (length text) line between)) in
    let late_none : among (define_pieces line) [] ≡ [] = subst (λ f. IsFound f (among (define_pieces line) [])) both.1 late in
    spelled_parts text line ∙ ap is_empty (ap₂ (λ a b. a ++ b) early_none late_none)

pub define_other : (text : List ℕ) (state : State) (line : List SourceByte) (early : Option Breach) (name : List ℕ) (tokens : List Kind) → line_kind (bytes_of line) ≡ kinds.Define
    → AreBetween 0 (length text) line → IsFound early (bad_bytes line ++ unended_comments text line) → (definition : IsDefinition text line name)
    → least_of early (failure_of (define_pieces line)) ≡ None → tokens ≡ map kind_at (behind_name (define_words text line)) → may_define state.table name tokens ≡ false
    → IsFirst (hash_breach line) (line_breaches text state (line_of line))
define_other text state line early name tokens is between found definition none tokens_are other =
    let bad' : bad_line text state line ≡ true =
    ap (is_bad_definition (spelled_as kinds.Define text line) state.table) definition.definition
    ∙ and_from (spelled_as kinds.Define text line) (not (may_define state.table name (filter_map kind_of_piece definition.body))) (is_spelled text line early between found none)
    (ap not (ap (may_define state.table name) (body_kinds text line name early tokens definition none tokens_are) ∙ other)) in
    let first = kind_found kinds.Define text state line early (Some (hash_breach line)) is found (bad_first text state line is between bad') in
    subst (λ e. IsFound (least_of e (Some (hash_breach line))) (line_breaches text state (line_of line))) (none_of_both early (failure_of (define_pieces line)) none).0 first

pub define_done : (text : List ℕ) (line : List SourceByte) (old new : Brought) (early : Option Breach) (name : List ℕ) (tokens : List Kind) → line_kind (bytes_of line) ≡ kinds.Define
    → AreBetween 0 (length text) line → IsFound early (bad_bytes line ++ unended_comments text line) → (definition : IsDefinition text line name)
    → least_of early (failure_of (define_pieces line)) ≡ None → tokens ≡ map kind_at (behind_name (define_words text line)) → may_define (table_of old.macros) name tokens ≡ true
    → table_of new.macros ≡ defined (table_of old.macros) name tokens → new.counts.tokens ≡ old.counts.tokens → new.counts.names ≡ old.counts.names
    → lexemes new.tokens.items ≡ lexemes old.tokens.items → IsLexed text line old new
define_done text line old new early name tokens is between found definition none tokens_are allowed table token_count name_count same =
    let state = state_of old in
    let kinds_are = body_kinds text line name early tokens definition none tokens_are in
    let good : bad_line text state line ≡ false =
    ap (is_bad_definition (spelled_as kinds.Define text line) state.table) definition.definition
    ∙ and_right (spelled_as kinds.Define text line) (not (may_define state.table name (filter_map kind_of_piece definition.body)))
    (ap not (ap (may_define state.table name) kinds_are ∙ allowed)) in
    let behind : table_by kinds.Define state.table (pieces_of line) ≡ defined state.table name tokens =
    ap (with_definition state.table) definition.definition
    ∙ (ap (λ ks. cond (may_define state.table name ks) (defined state.table name ks) state.table) kinds_are ∙ cond-true (may_define state.table name tokens) _ _ allowed) in
    record {
      unbroken = subst (λ f. IsFound f (line_breaches text state (line_of line))) none (good_found text state line early is between found good);
      state_is =
          ap (λ t. record { table = t; tokens = new.counts.tokens; names = new.counts.names }) (table ∙ sym behind)
          ∙ (ap₂ (λ t n. record { table = table_by kinds.Define state.table (pieces_of line); tokens = t; names = n }) (omega (arith, token_count)) (omega (arith, name_count))
          ∙ sym (behind_as kinds.Define state line is));
      tokens_are =
          same ∙ (sym (append-nil (lexemes old.tokens.items)) ∙ ap (λ ts. lexemes old.tokens.items ++ ts) (sym (tokens_as kinds.Define text state.table line is)));
    }
