-- Which static rule a text of a length that is allowed breaks first, of those on bytes, tokens, macros and constants.
use Rattle.std.specs.Prelude.{ℕ, ◌+◌, Bool, true, false, not, ◌&&◌, ◌||◌, List, [], ◌∷◌, ◌++◌, length, map, drop, filter, filter_map, codes, nat_le, nat_lt, ◌==◌, if◌then◌else◌, Option, Some, None, is_none, option_map}
use Rattle.css_base.specs.declared.static_fault.StaticFault.{StaticFault}
use Rattle.css_base.specs.declared.static_fault.StaticName.{StaticName}
use Rattle.css_base.specs.declared.static_fault.StaticName.TheVariants as names
use Rattle.css_lex.specs.declared.breach.Breach.{Breach}
use Rattle.css_lexemes.specs.declared.line_kind.LineKind.{LineKind}
use Rattle.css_lexemes.specs.declared.line_kind.LineKind.TheVariants as kinds
use Rattle.css_lexemes.specs.declared.pieces.Shape.{Shape}
use Rattle.css_lexemes.specs.declared.pieces.Shape.TheVariants as shapes
use Rattle.css_lexemes.specs.declared.source.SourceByte.{SourceByte}
use Rattle.css_lexemes.specs.Source.{begins_with, unspliced, bytes_of}
use Rattle.css_lexemes.specs.Comments.{length_before}
use Rattle.css_lexemes.specs.Lines.{kind_of_line}
use Rattle.css_lexemes.specs.Lexemes.{Piece}
use Rattle.css_macros.specs.Macros.{Table, may_define}
use Rattle.css_lex.specs.Reading.{ReadLine, Definition, solid, read_pieces, kind_of_piece, place_of, first_place, definition_of, undefined_of}
use Rattle.css_lex.specs.Costs.{Cost, costs, State, at_start, over_lines}
use Rattle.css_lex.specs.Spelling.{line_at}

-- A rule that is broken at a place.
abbrev pub breach : StaticName → ℕ → Breach
breach name place = record { name = name; place = place }

-- A byte that no text has outside comments: other than 9 to 13 and 32 to 126.
abbrev pub is_bad_byte : ℕ → Bool
is_bad_byte b = not ((nat_le 9 b && nat_le b 13) || (nat_le 32 b && nat_le b 126))

abbrev pub bad_bytes : List SourceByte → List Breach
bad_bytes bytes = map (λ b. breach names.BadByte b.place) (filter (λ b. is_bad_byte b.byte) bytes)

-- The text from a place on begins a comment that isn't ended.
abbrev pub is_unended : List ℕ → Bool
is_unended text = begins_with (codes "/*") text && (length_before (codes "*/") (drop 2 text) == length (drop 2 text))

abbrev pub begins_unended : (text : List ℕ) (place : ℕ) → Bool
begins_unended text place = is_unended (bytes_of (unspliced place 0 (drop place text)))

-- Comments that aren't ended: each shows as a space.
abbrev pub unended_comments : (text : List ℕ) → List SourceByte → List Breach
unended_comments text bytes =
    map (λ b. breach names.BadToken b.place) (filter (λ b. (b.byte == 32) && begins_unended text b.place) bytes)

-- The rule that one byte breaks.
abbrev pub byte_breach : (text : List ℕ) → SourceByte → Option Breach
byte_breach text c =
    if is_bad_byte c.byte then Some (breach names.BadByte c.place)
    else (if (c.byte == 32) && begins_unended text c.place then Some (breach names.BadToken c.place) else None)

abbrev pub is_stray : Shape → Bool
is_stray shapes.Stray = true
is_stray _ = false

abbrev pub is_lexeme : Shape → Bool
is_lexeme (shapes.Lexeme class) = true
is_lexeme _ = false

-- Where a token is read and none is spelled: also a constant that isn't ended, and `#` behind another token.
abbrev pub stray_pieces : List Piece → List Breach
stray_pieces pieces = map (λ p. breach names.BadToken (place_of p)) (filter (λ p. is_stray p.shape) pieces)

-- Lexemes whose number, character or escape is out of range or form.
abbrev pub bad_constants : List Piece → List Breach
bad_constants pieces =
    map (λ p. breach names.BadConstant (place_of p)) (filter (λ p. is_lexeme p.shape && is_none (kind_of_piece p)) pieces)

-- The breaches of bytes and tokens in a line.
abbrev pub unspelled : (text : List ℕ) → ReadLine → List Breach
unspelled text r =
    bad_bytes r.line.bytes
    ++ (unended_comments text r.line.bytes ++ (stray_pieces (read_pieces r) ++ bad_constants (read_pieces r)))

abbrev pub is_empty : List Breach → Bool
is_empty [] = true
is_empty (b ∷ breaches) = false

-- A `#define` has no name or is function-like, or defines a name anew with other tokens. The second is only judged in a
-- line that is spelled.
abbrev pub is_bad_definition : (is_spelled : Bool) → Table → Option Definition → Bool
is_bad_definition is_spelled table None = true
is_bad_definition is_spelled table (Some d) = is_spelled && not (may_define table d.name (filter_map kind_of_piece d.body))

-- The line is malformed for its kind.
abbrev pub is_malformed : LineKind → (is_spelled : Bool) → Table → List Piece → Bool
is_malformed kinds.Define is_spelled table pieces = is_bad_definition is_spelled table (definition_of pieces)
is_malformed kinds.Undef is_spelled table pieces = is_none (undefined_of pieces)
is_malformed kinds.Unknown is_spelled table pieces = true
is_malformed _ is_spelled table pieces = false

-- The place of such a breach is the line's `#`.
abbrev pub malformed : (text : List ℕ) → Table → ReadLine → List Breach
malformed text table r =
    if is_malformed (kind_of_line r.line) (is_empty (unspelled text r)) table r.pieces
    then breach names.BadMacro (first_place (solid r.pieces)) ∷ [] else []

-- The places from which on there are more than 1,000,000 tokens or replaced names, of which so many stand before.
abbrev pub overruns : (tokens names : ℕ) → List Cost → List Breach
overruns tokens replaced_names [] = []
overruns tokens replaced_names (c ∷ costs) =
    let t = tokens + c.tokens in
    let n = replaced_names + c.names in
    let more = overruns t n costs in
    if nat_lt 1000000 t || nat_lt 1000000 n then breach names.BadMacro c.place ∷ more else more

-- The breaches in a line, by rule: bytes, tokens, macros, constants.
abbrev pub line_breaches : (text : List ℕ) → State → ReadLine → List Breach
line_breaches text state r =
    bad_bytes r.line.bytes
    ++ (unended_comments text r.line.bytes
    ++ (stray_pieces (read_pieces r)
    ++ (malformed text state.table r
    ++ (overruns state.tokens state.names (costs state.table r) ++ bad_constants (read_pieces r)))))

-- The breaches of a text that is read as these lines.
abbrev pub breaches : (text : List ℕ) → List ReadLine → List Breach
breaches text lines = over_lines (line_breaches text) at_start lines

-- The breach at the least place; at one place the first.
abbrev pub first_breach : List Breach → Option Breach
first_breach [] = None
first_breach (b ∷ others) =
    elim (first_breach others) [
      | None ↦ Some b
      | Some c ↦ if nat_lt c.place b.place then Some c else Some b
    ]

-- The refusal of a text that is read as these lines: its first breach, with the breach's line.
abbrev pub refusal : (text : List ℕ) → List ReadLine → Option StaticFault
refusal text lines =
    option_map (λ b. record { name = b.name; line = line_at text b.place }) (first_breach (breaches text lines))
