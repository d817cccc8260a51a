-- The breaches of a line by its kind.
use Rattle.std.proofs.Common.{◌≡◌, ℕ, zero, suc, ◌+◌, ◌-◌, ◌<◌, inl, inr, Bool, not, List, [], ◌∷◌, ◌++◌, take, drop, refl, sym, ap, ◌∙◌, subst, arith, append_assoc, All, Option}
use Rattle.std.specs.Prelude.{slice_index, map, if◌then◌else◌, sum_by}
use Rattle.std.proofs.lemmas.Bool.{cases_Bool, cond-true, cond-false}
use Rattle.std.proofs.lemmas.List.Elements.{All-nil, All-cons}
use Rattle.css_base.specs.declared.static_fault.StaticName.TheVariants as statics
use Rattle.css_lex.specs.declared.breach.Breach.{Breach}
use Rattle.css_lexemes.specs.declared.line_kind.LineKind.{LineKind}
use Rattle.css_lexemes.specs.declared.source.SourceByte.{SourceByte}
use Rattle.css_lexemes.specs.Source.{bytes_of}
use Rattle.css_lexemes.specs.LineKinds.{line_kind}
use Rattle.css_lexemes.specs.Lexemes.{Piece}
use Rattle.css_lexemes.specs.Longest.{pieces_of, pieces_from, shape_at, size_at}
use Rattle.css_macros.specs.Macros.{Table}
use Rattle.css_lex.specs.Reading.{is_blank_piece, solid, read_by, place_of, first_place, table_by}
use Rattle.css_lex.specs.Costs.{State, costs_by, state_behind}
use Rattle.css_lex.specs.Spelling.{tokens_by, tokens_of_line}
use Rattle.css_lex.specs.Refusals.{breach, bad_bytes, unended_comments, stray_pieces, bad_constants, overruns, is_empty, is_malformed, line_breaches}
use Rattle.css_lexemes.specs.Rising.{AreBetween}
use Rattle.css_lex.specs.Found.{IsFound, least_of}
use Rattle.css_lex.specs.LexState.{line_of}
use Rattle.css_lex.proofs.Late.{AreSolid, solid_lower, both_found}
use Rattle.css_lexemes.proofs.Places.{from_lower}
use Rattle.css_lexemes.proofs.Within.{size_some}

abbrev pub pieces_in : List SourceByte → List Piece
pieces_in line = solid (pieces_of line)

-- Whether the line is spelled, if it is of this kind.
abbrev pub spelled_as : LineKind → (text : List ℕ) → List SourceByte → Bool
spelled_as kind text line =
    is_empty
    (bad_bytes line ++ (unended_comments text line ++ (stray_pieces (read_by kind (pieces_in line)) ++ bad_constants (read_by kind (pieces_in line)))))

abbrev pub malformed_as : LineKind → (text : List ℕ) → Table → List SourceByte → List Breach
malformed_as kind text table line =
    if is_malformed kind (spelled_as kind text line) table (pieces_of line) then breach statics.BadMacro (first_place (pieces_in line)) ∷ [] else []

-- The breaches of its tokens.
abbrev pub late_of : LineKind → (text : List ℕ) → State → List SourceByte → List Breach
late_of kind text state line =
    stray_pieces (read_by kind (pieces_in line))
    ++ (malformed_as kind text state.table line
    ++ (overruns state.tokens state.names (costs_by kind state.table (pieces_in line)) ++ bad_constants (read_by kind (pieces_in line))))

abbrev pub breaches_as : LineKind → (text : List ℕ) → State → List SourceByte → List Breach
breaches_as kind text state line = bad_bytes line ++ (unended_comments text line ++ late_of kind text state line)

pub line_as : (kind : LineKind) (text : List ℕ) (state : State) (line : List SourceByte) → line_kind (bytes_of line) ≡ kind
    → line_breaches text state (line_of line) ≡ breaches_as kind text state line
line_as kind text state line is = ap (λ k. breaches_as k text state line) is

abbrev pub state_as : LineKind → State → List SourceByte → State
state_as kind state line = record {
  table = table_by kind state.table (pieces_of line);
  tokens = state.tokens + sum_by (λ c. c.tokens) (costs_by kind state.table (pieces_in line));
  names = state.names + sum_by (λ c. c.names) (costs_by kind state.table (pieces_in line));
}

pub behind_as : (kind : LineKind) (state : State) (line : List SourceByte) → line_kind (bytes_of line) ≡ kind → state_behind state (line_of line) ≡ state_as kind state line
behind_as kind state line is = ap (λ k. state_as k state line) is

pub tokens_as : (kind : LineKind) (text : List ℕ) (table : Table) (line : List SourceByte) → line_kind (bytes_of line) ≡ kind
    → tokens_of_line text table (line_of line) ≡ tokens_by kind text table (pieces_in line)
tokens_as kind text table line is = ap (λ k. tokens_by k text table (pieces_in line)) is

-- The first breach of a line.
pub kind_found : (kind : LineKind) (text : List ℕ) (state : State) (line : List SourceByte) (early late : Option Breach) → line_kind (bytes_of line) ≡ kind
    → IsFound early (bad_bytes line ++ unended_comments text line) → IsFound late (late_of kind text state line)
    → IsFound (least_of early late) (line_breaches text state (line_of line))
kind_found kind text state line early late is a b =
    subst (IsFound (least_of early late)) (append_assoc (bad_bytes line) (unended_comments text line) (late_of kind text state line) ∙ sym (line_as kind text state line is))
    (both_found early late (bad_bytes line ++ unended_comments text line) (late_of kind text state line) a b)

-- A line's solid pieces are in order.
pub first_of_take : (n : ℕ) (c : SourceByte) (line : List SourceByte) → 0 < n → slice_index (map (λ b. b.place) (take n (c ∷ line))) 0 ≡ c.place
first_of_take zero c line some = absurd (omega arith)
first_of_take (suc n) c line some = refl

pieces_rise : (low high inside : ℕ) (line : List SourceByte) → AreBetween low high line → AreSolid low (solid (pieces_from inside line))
pieces_rise low high inside [] between = tt
pieces_rise low high (suc inside) (c ∷ line) between =
    pieces_rise low high inside line (from_lower low (c.place + 1) high line (let l = between.0 in omega (arith, l)) between.2)
pieces_rise low high zero (c ∷ line) between =
    let size = size_at (bytes_of (c ∷ line)) in
    let p : Piece = record { shape = shape_at (bytes_of (c ∷ line)); bytes = take size (c ∷ line) } in
    let rest = pieces_from (size - 1) line in
    let place : place_of p ≡ c.place = first_of_take size c line (size_some c.byte (bytes_of line)) in
    let behind : AreSolid (c.place + 1) (solid rest) = pieces_rise (c.place + 1) high (size - 1) line between.2 in
    elim (cases_Bool (is_blank_piece p.shape)) [
      | inl blank ↦
          subst (AreSolid low) (sym (cond-false (not (is_blank_piece p.shape)) (p ∷ solid rest) (solid rest) (ap not blank)))
          (solid_lower low (c.place + 1) (solid rest) (let l = between.0 in omega (arith, l)) behind)
      | inr full ↦
          subst (AreSolid low) (sym (cond-true (not (is_blank_piece p.shape)) (p ∷ solid rest) (solid rest) (ap not full)))
          (full, (let l = between.0 in omega (arith, l, place)), subst (λ n. AreSolid (n + 1) (solid rest)) (sym place) behind)
    ]

pub pieces_solid : (high : ℕ) (line : List SourceByte) → AreBetween 0 high line → AreSolid 0 (pieces_in line)
pieces_solid high line between = pieces_rise 0 high 0 line between

pub drop_solid : (low n : ℕ) (pieces : List Piece) → AreSolid low pieces → AreSolid low (drop n pieces)
drop_solid low zero pieces are = are
drop_solid low (suc n) [] are = tt
drop_solid low (suc n) (p ∷ pieces) are = drop_solid low n pieces (solid_lower low (place_of p + 1) pieces (let l = are.1 in omega (arith, l)) are.2)

-- All bytes lie in the text.
pub all_inside : (low high : ℕ) (line : List SourceByte) → AreBetween low high line → All (λ c. c.place < high) line
all_inside low high [] between = All-nil (λ c. c.place < high)
all_inside low high (c ∷ line) between = All-cons (λ c. c.place < high) c line between.1 (all_inside (c.place + 1) high line between.2)
