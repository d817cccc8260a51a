-- Pieces that agree spell tokens of one kind and one line, and cost as much.
use Rattle.std.proofs.Common.{◌≡◌, ℕ, ◌+◌, ◌≤◌, Bool, true, false, not, ◌||◌, List, [], ◌∷◌, ◌++◌, length, map, cond, refl, ap, ap₂, sym, ◌∙◌, subst, arith, Option, Some, None}
use Rattle.std.specs.Prelude.{flat_map, sum_by, nat_lt}
use Rattle.std.specs.List.{AllZip}
use Rattle.std.proofs.lemmas.Bool.{both_ways, ltb-false, le-ltb, or_parts, or_from, cond-true, cond-false}
use Rattle.std.proofs.lemmas.List.{map-append}
use Rattle.std.proofs.lemmas.List.Elements.{All-head, All-tail, filter-append}
use Rattle.std.proofs.lemmas.List.Sums.{sum_by-cons}
use Rattle.css_base.specs.declared.static_fault.StaticName.TheVariants as statics
use Rattle.css_base.specs.Tokens.{Kind, Word, Number, Character, Text, Punctuator, Directive, Lexeme, At}
use Rattle.css_lexemes.specs.declared.line_kind.LineKind.{LineKind}
use Rattle.css_lexemes.specs.declared.line_kind.LineKind.TheVariants as kinds
use Rattle.css_lexemes.specs.Lines.{is_css}
use Rattle.css_lexemes.specs.Lexemes.{Piece}
use Rattle.css_macros.specs.Macros.{Table, IsNoDirective, replacement, replacement_names}
use Rattle.css_lex.specs.Reading.{read_by, kind_of_piece, place_of, end_of}
use Rattle.css_lex.specs.Costs.{Cost, piece_costs, costs_by}
use Rattle.css_lex.specs.Spelling.{line_at, tokens_of, tokens_by}
use Rattle.css_lex.specs.Refusals.{breach, overruns}
use Rattle.css_lex.specs.WithoutDirectives.{is_directive_kind, is_directive, without_directives, kind_and_line, kinds_and_lines}
use Rattle.css_erased_text.proofs.Pairwise.{zip_append}
use Rattle.css_erased_text.proofs.Alike.{SamePiece, kind_alike, line_alike, read_alike}
use Rattle.css_erased_text.proofs.PlainTables.{ArePlain, IsPlainTable, piece_plain, replacement_plain}

-- The tokens of one piece, by what it stands for.
abbrev tokens_from : Table → Option Kind → (line place end : ℕ) → List Lexeme
tokens_from table found line place end = elim found [ None ↦ [] | Some kind ↦ map (λ k. At k line place end) (replacement table kind) ]

at_places : (kinds : List Kind) (line place end other last : ℕ)
    → kinds_and_lines (map (λ k. At k line place end) kinds) ≡ kinds_and_lines (map (λ k. At k line other last) kinds)
at_places [] line place end other last = refl
at_places (k ∷ kinds) line place end other last = ap (λ z. (k, line) ∷ z) (at_places kinds line place end other last)

from_places : (table : Table) (found : Option Kind) (line place end other last : ℕ)
    → kinds_and_lines (tokens_from table found line place end) ≡ kinds_and_lines (tokens_from table found line other last)
from_places table None line place end other last = refl
from_places table (Some kind) line place end other last = at_places (replacement table kind) line place end other last

piece_tokens : (text other : List ℕ) (table : Table) (p q : Piece) → SamePiece text other p q
    → kinds_and_lines (tokens_of other table q) ≡ kinds_and_lines (tokens_of text table p)
piece_tokens text other table p q same =
    ap₂ (λ found line. kinds_and_lines (tokens_from table found line (place_of q) (end_of q))) (sym (kind_alike text other p q same)) (sym (line_alike text other p q same))
    ∙ from_places table (kind_of_piece p) (line_at text (place_of p)) (place_of q) (end_of q) (place_of p) (end_of p)

pieces_tokens : (text other : List ℕ) (table : Table) (ps qs : List Piece) → AllZip (SamePiece text other) ps qs
    → kinds_and_lines (flat_map (tokens_of other table) qs) ≡ kinds_and_lines (flat_map (tokens_of text table) ps)
pieces_tokens text other table [] [] zip = refl
pieces_tokens text other table [] (q ∷ qs) zip = absurd zip
pieces_tokens text other table (p ∷ ps) [] zip = absurd zip
pieces_tokens text other table (p ∷ ps) (q ∷ qs) zip =
    map-append kind_and_line (tokens_of other table q) (flat_map (tokens_of other table) qs)
    ∙ ap₂ ◌++◌ (piece_tokens text other table p q zip.0) (pieces_tokens text other table ps qs zip.1)
    ∙ sym (map-append kind_and_line (tokens_of text table p) (flat_map (tokens_of text table) ps))

-- The tokens of a line that is no directive.
pub line_tokens : (text other : List ℕ) (kind : LineKind) (table : Table) (ps qs : List Piece) → is_css kind ≡ false → AllZip (SamePiece text other) ps qs
    → kinds_and_lines (tokens_by kind other table qs) ≡ kinds_and_lines (tokens_by kind text table ps)
line_tokens text other kinds.Text table ps qs plain zip = pieces_tokens text other table ps qs zip
line_tokens text other kinds.Null table ps qs plain zip = refl
line_tokens text other kinds.Include table ps qs plain zip = refl
line_tokens text other kinds.Define table ps qs plain zip = refl
line_tokens text other kinds.Undef table ps qs plain zip = refl
line_tokens text other kinds.Css table ps qs plain zip = absurd (both_ways true plain refl)
line_tokens text other kinds.Pragma table ps qs plain zip = refl
line_tokens text other kinds.Unknown table ps qs plain zip = refl

-- None of them is a directive.
no_directive : (kind : Kind) → IsNoDirective kind → is_directive_kind kind ≡ false
no_directive (Word bytes) plain = refl
no_directive (Number type value) plain = refl
no_directive (Character byte) plain = refl
no_directive (Text bytes) plain = refl
no_directive (Punctuator bytes) plain = refl
no_directive (Directive words) plain = absurd plain

kept_tokens : (kinds : List Kind) (line place end : ℕ) → ArePlain kinds
    → without_directives (map (λ k. At k line place end) kinds) ≡ map (λ k. At k line place end) kinds
kept_tokens [] line place end plain = refl
kept_tokens (k ∷ kinds) line place end plain =
    let rest = map (λ (k : Kind). At k line place end) kinds in
    cond-true (not (is_directive_kind k)) (At k line place end ∷ without_directives rest) (without_directives rest) (ap not (no_directive k (All-head IsNoDirective k kinds plain)))
    ∙ ap (λ z. At k line place end ∷ z) (kept_tokens kinds line place end (All-tail IsNoDirective k kinds plain))

kept_found : (table : Table) (found : Option Kind) (line place end : ℕ) → IsPlainTable table → ((kind : Kind) → found ≡ Some kind → IsNoDirective kind)
    → without_directives (tokens_from table found line place end) ≡ tokens_from table found line place end
kept_found table None line place end plain one = refl
kept_found table (Some kind) line place end plain one = kept_tokens (replacement table kind) line place end (replacement_plain table kind plain (one kind refl))

kept_pieces : (text : List ℕ) (table : Table) (pieces : List Piece) → IsPlainTable table
    → without_directives (flat_map (tokens_of text table) pieces) ≡ flat_map (tokens_of text table) pieces
kept_pieces text table [] plain = refl
kept_pieces text table (p ∷ pieces) plain =
    filter-append (λ t. not (is_directive t)) (tokens_of text table p) (flat_map (tokens_of text table) pieces)
    ∙ ap₂ ◌++◌ (kept_found table (kind_of_piece p) (line_at text (place_of p)) (place_of p) (end_of p) plain (piece_plain p)) (kept_pieces text table pieces plain)

pub line_kept : (text : List ℕ) (kind : LineKind) (table : Table) (pieces : List Piece) → is_css kind ≡ false → IsPlainTable table
    → without_directives (tokens_by kind text table pieces) ≡ tokens_by kind text table pieces
line_kept text kinds.Text table pieces other plain = kept_pieces text table pieces plain
line_kept text kinds.Null table pieces other plain = refl
line_kept text kinds.Include table pieces other plain = refl
line_kept text kinds.Define table pieces other plain = refl
line_kept text kinds.Undef table pieces other plain = refl
line_kept text kinds.Css table pieces other plain = absurd (both_ways true other refl)
line_kept text kinds.Pragma table pieces other plain = refl
line_kept text kinds.Unknown table pieces other plain = refl

-- Costs of as many tokens and names.
pub record SameCost (c d : Cost) : Type 0 where
  pub tokens_same : c.tokens ≡ d.tokens
  pub names_same : c.names ≡ d.names

abbrev costs_from : Table → Option Kind → (place : ℕ) → List Cost
costs_from table found place =
    elim found [ None ↦ [] | Some kind ↦ record { place = place; tokens = length (replacement table kind); names = replacement_names table kind } ∷ [] ]

found_costs : (table : Table) (found : Option Kind) (place other : ℕ) → AllZip SameCost (costs_from table found place) (costs_from table found other)
found_costs table None place other = tt
found_costs table (Some kind) place other = (record { tokens_same = refl; names_same = refl }, tt)

pieces_costs : (text other : List ℕ) (table : Table) (ps qs : List Piece) → AllZip (SamePiece text other) ps qs
    → AllZip SameCost (flat_map (piece_costs table) ps) (flat_map (piece_costs table) qs)
pieces_costs text other table [] [] zip = tt
pieces_costs text other table [] (q ∷ qs) zip = absurd zip
pieces_costs text other table (p ∷ ps) [] zip = absurd zip
pieces_costs text other table (p ∷ ps) (q ∷ qs) zip =
    zip_append SameCost (piece_costs table p) (piece_costs table q) (flat_map (piece_costs table) ps) (flat_map (piece_costs table) qs)
    (subst (λ found. AllZip SameCost (costs_from table (kind_of_piece p) (place_of p)) (costs_from table found (place_of q))) (kind_alike text other p q zip.0)
    (found_costs table (kind_of_piece p) (place_of p) (place_of q)))
    (pieces_costs text other table ps qs zip.1)

pub costs_alike : (text other : List ℕ) (kind : LineKind) (table : Table) (ps qs : List Piece) → AllZip (SamePiece text other) ps qs
    → AllZip SameCost (costs_by kind table ps) (costs_by kind table qs)
costs_alike text other kinds.Text table ps qs zip = pieces_costs text other table ps qs zip
costs_alike text other kinds.Null table ps qs zip = tt
costs_alike text other kinds.Include table ps qs zip = tt
costs_alike text other kinds.Define table ps qs zip = tt
costs_alike text other kinds.Undef table ps qs zip = tt
costs_alike text other kinds.Css table ps qs zip =
    (record { tokens_same = refl; names_same = refl }, pieces_costs text other table (read_by kinds.Css ps) (read_by kinds.Css qs) (read_alike text other kinds.Css ps qs zip))
costs_alike text other kinds.Pragma table ps qs zip = tt
costs_alike text other kinds.Unknown table ps qs zip = tt

pub sums_alike : (cs ds : List Cost) → AllZip SameCost cs ds → (sum_by (λ c. c.tokens) cs ≡ sum_by (λ c. c.tokens) ds) × (sum_by (λ c. c.names) cs ≡ sum_by (λ c. c.names) ds)
sums_alike [] [] zip = (refl, refl)
sums_alike [] (d ∷ ds) zip = absurd zip
sums_alike (c ∷ cs) [] zip = absurd zip
sums_alike (c ∷ cs) (d ∷ ds) zip =
    let rest = sums_alike cs ds zip.1 in (
      sum_by-cons (λ (c : Cost). c.tokens) c cs ∙ ap₂ ◌+◌ zip.0.tokens_same rest.0 ∙ sym (sum_by-cons (λ (c : Cost). c.tokens) d ds),
      sum_by-cons (λ (c : Cost). c.names) c cs ∙ ap₂ ◌+◌ zip.0.names_same rest.1 ∙ sym (sum_by-cons (λ (c : Cost). c.names) d ds),
    )

-- What doesn't pass the limits from a greater count doesn't from a lesser.
none_over : (tokens names : ℕ) (b : Bool) (place : ℕ) (more : List _) → cond b (breach statics.BadMacro place ∷ more) more ≡ [] → (b ≡ false) × (more ≡ [])
none_over tokens names true place more e = absurd cc
none_over tokens names false place more e = (refl, e)

pub overruns_alike : (cs ds : List Cost) → AllZip SameCost cs ds → (tokens names fewer less : ℕ) → fewer ≤ tokens → less ≤ names → overruns tokens names cs ≡ [] → overruns fewer less ds ≡ []
overruns_alike [] [] zip tokens names fewer less a b none = refl
overruns_alike [] (d ∷ ds) zip tokens names fewer less a b none = absurd zip
overruns_alike (c ∷ cs) [] zip tokens names fewer less a b none = absurd zip
overruns_alike (c ∷ cs) (d ∷ ds) zip tokens names fewer less a b none =
    let over = nat_lt 1000000 (tokens + c.tokens) || nat_lt 1000000 (names + c.names) in
    let e = none_over tokens names over c.place (overruns (tokens + c.tokens) (names + c.names) cs) none in
    let both = or_parts (nat_lt 1000000 (tokens + c.tokens)) (nat_lt 1000000 (names + c.names)) e.0 in
    let t = ltb-false 1000000 (tokens + c.tokens) both.0 in
    let n = ltb-false 1000000 (names + c.names) both.1 in
    let same_tokens = zip.0.tokens_same in
    let same_names = zip.0.names_same in
    let fits : (nat_lt 1000000 (fewer + d.tokens) || nat_lt 1000000 (less + d.names)) ≡ false =
    or_from (nat_lt 1000000 (fewer + d.tokens)) (nat_lt 1000000 (less + d.names)) (le-ltb 1000000 (fewer + d.tokens) (omega arith)) (le-ltb 1000000 (less + d.names) (omega arith)) in
    cond-false (nat_lt 1000000 (fewer + d.tokens) || nat_lt 1000000 (less + d.names)) _ _ fits
    ∙ overruns_alike cs ds zip.1 (tokens + c.tokens) (names + c.names) (fewer + d.tokens) (less + d.names) (omega arith) (omega arith) e.1
