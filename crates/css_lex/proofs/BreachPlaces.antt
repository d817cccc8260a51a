-- Each breach of a line is at one of its bytes.
use Rattle.std.proofs.Common.{◌≡◌, ℕ, zero, suc, ◌+◌, ◌-◌, inl, inr, Bool, true, false, not, ◌&&◌, List, [], ◌∷◌, take, cond, refl, sym, ◌∙◌, subst, All, is_none}
use Rattle.std.specs.Prelude.{filter, ◌==◌}
use Rattle.std.proofs.lemmas.Bool.{cases_Bool}
use Rattle.std.proofs.lemmas.List.Elements.{All-nil, All-cons, All-head, All-tail, All-append, All-map, All-filter, All-drop, All-get_or}
use Rattle.css_base.specs.declared.static_fault.StaticName.TheVariants as statics
use Rattle.css_lex.specs.declared.breach.Breach.{Breach}
use Rattle.css_lexemes.specs.declared.line_kind.LineKind.{LineKind}
use Rattle.css_lexemes.specs.declared.line_kind.LineKind.TheVariants as kinds
use Rattle.css_lexemes.specs.declared.source.SourceByte.{SourceByte}
use Rattle.css_lexemes.specs.Source.{bytes_of}
use Rattle.css_lexemes.specs.LineKinds.{line_kind}
use Rattle.css_lexemes.specs.Lexemes.{Piece}
use Rattle.css_lexemes.specs.Longest.{pieces_of, pieces_from, shape_at, size_at}
use Rattle.css_macros.specs.Macros.{Table}
use Rattle.css_lex.specs.Costs.{State, Cost, costs_by}
use Rattle.css_lex.specs.Reading.{is_blank_piece, read_by, kind_of_piece, place_of, first_place}
use Rattle.css_lex.specs.Refusals.{breach, is_bad_byte, begins_unended, bad_bytes, unended_comments, is_stray, is_lexeme, stray_pieces, bad_constants, overruns, is_malformed, line_breaches}
use Rattle.css_lex.specs.LexState.{line_of}
use Rattle.css_lex.proofs.Late.{pieces_costs, by_kind, cost_none, cost_some, passes, over_now, over_later}
use Rattle.css_lex.proofs.LineBreaches.{pieces_in, malformed_as, spelled_as, first_of_take}
use Rattle.css_lex.proofs.Hashes.{blanks, has_hash, hash_is}
use Rattle.css_lexemes.proofs.Within.{size_some}

module _ (P : ℕ → Type 0) where
  abbrev OfBytes : List SourceByte → Type 0
  OfBytes line = All (λ c. P c.place) line

  abbrev OfPieces : List Piece → Type 0
  OfPieces pieces = All (λ p. P (place_of p)) pieces

  abbrev OfBreaches : List Breach → Type 0
  OfBreaches breaches = All (λ b. P b.place) breaches

  abbrev OfCosts : List Cost → Type 0
  OfCosts costs = All (λ c. P c.place) costs

  of_pieces : (inside : ℕ) (line : List SourceByte) → OfBytes line → OfPieces (pieces_from inside line)
  of_pieces inside [] all = All-nil (λ p. P (place_of p))
  of_pieces (suc inside) (c ∷ line) all = of_pieces inside line (All-tail (λ c. P c.place) c line all)
  of_pieces zero (c ∷ line) all =
      let size = size_at (bytes_of (c ∷ line)) in
      let p : Piece = record { shape = shape_at (bytes_of (c ∷ line)); bytes = take size (c ∷ line) } in
      All-cons (λ q. P (place_of q)) p (pieces_from (size - 1) line)
      (subst P (sym (first_of_take size c line (size_some c.byte (bytes_of line)))) (All-head (λ c. P c.place) c line all))
      (of_pieces (size - 1) line (All-tail (λ c. P c.place) c line all))

  of_read : (kind : LineKind) (pieces : List Piece) → OfPieces pieces → OfPieces (read_by kind pieces)
  of_read kinds.Text pieces all = all
  of_read kinds.Null pieces all = All-nil (λ p. P (place_of p))
  of_read kinds.Include pieces all = All-nil (λ p. P (place_of p))
  of_read kinds.Define pieces all = All-drop (λ p. P (place_of p)) 2 pieces all
  of_read kinds.Undef pieces all = All-nil (λ p. P (place_of p))
  of_read kinds.Css pieces all = All-drop (λ p. P (place_of p)) 3 pieces all
  of_read kinds.Pragma pieces all = All-nil (λ p. P (place_of p))
  of_read kinds.Unknown pieces all = All-nil (λ p. P (place_of p))

  of_bad : (line : List SourceByte) → OfBytes line → OfBreaches (bad_bytes line)
  of_bad line all =
      All-map (λ (b : Breach). P b.place) (λ (c : SourceByte). breach statics.BadByte c.place) (filter (λ c. is_bad_byte c.byte) line)
      (All-filter (λ c. is_bad_byte c.byte) (λ c. P c.place) line all)

  of_unended : (text : List ℕ) (line : List SourceByte) → OfBytes line → OfBreaches (unended_comments text line)
  of_unended text line all =
      All-map (λ (b : Breach). P b.place) (λ (c : SourceByte). breach statics.BadToken c.place) (filter (λ c. (c.byte == 32) && begins_unended text c.place) line)
      (All-filter (λ c. (c.byte == 32) && begins_unended text c.place) (λ c. P c.place) line all)

  of_strays : (pieces : List Piece) → OfPieces pieces → OfBreaches (stray_pieces pieces)
  of_strays pieces all =
      All-map (λ (b : Breach). P b.place) (λ (p : Piece). breach statics.BadToken (place_of p)) (filter (λ p. is_stray p.shape) pieces)
      (All-filter (λ p. is_stray p.shape) (λ p. P (place_of p)) pieces all)

  of_constants : (pieces : List Piece) → OfPieces pieces → OfBreaches (bad_constants pieces)
  of_constants pieces all =
      All-map (λ (b : Breach). P b.place) (λ (p : Piece). breach statics.BadConstant (place_of p)) (filter (λ p. is_lexeme p.shape && is_none (kind_of_piece p)) pieces)
      (All-filter (λ p. is_lexeme p.shape && is_none (kind_of_piece p)) (λ p. P (place_of p)) pieces all)

  of_costs : (table : Table) (pieces : List Piece) → OfPieces pieces → OfCosts (pieces_costs table pieces)
  of_costs table [] all = All-nil (λ c. P c.place)
  of_costs table (p ∷ pieces) all =
      let rest = of_costs table pieces (All-tail (λ p. P (place_of p)) p pieces all) in
      by_kind p (λ none. subst OfCosts (sym (cost_none table p pieces none)) rest)
      (λ kind is. subst OfCosts (sym (cost_some table p pieces kind is)) (All-cons (λ c. P c.place) _ (pieces_costs table pieces) (All-head (λ p. P (place_of p)) p pieces all) rest))

  of_overruns : (tokens names : ℕ) (costs : List Cost) → OfCosts costs → OfBreaches (overruns tokens names costs)
  of_overruns tokens names [] all = All-nil (λ b. P b.place)
  of_overruns tokens names (c ∷ costs) all =
      let rest = of_overruns (tokens + c.tokens) (names + c.names) costs (All-tail (λ c. P c.place) c costs all) in
      elim (cases_Bool (passes tokens names c)) [
        | inl over ↦
            subst OfBreaches (sym (over_now tokens names c costs over))
            (All-cons (λ b. P b.place) (breach statics.BadMacro c.place) (overruns (tokens + c.tokens) (names + c.names) costs) (All-head (λ c. P c.place) c costs all) rest)
        | inr fits ↦ subst OfBreaches (sym (over_later tokens names c costs fits)) rest
      ]

  of_hash : (line : List SourceByte) → (line_kind (bytes_of line) ≡ kinds.Text → ⊥) → OfBytes line → P (first_place (pieces_in line))
  of_hash line other all =
      subst P (sym (hash_is line other)) (All-get_or (λ c. P c.place) line (blanks line) (record { byte = 0; place = 0 }) (has_hash line other).inside all)

  of_costs_by : (kind : LineKind) (table : Table) (line : List SourceByte) → line_kind (bytes_of line) ≡ kind → OfBytes line → OfPieces (pieces_in line) → OfCosts (costs_by kind table (pieces_in line))
  of_costs_by kinds.Text table line is all pieces = of_costs table (pieces_in line) pieces
  of_costs_by kinds.Null table line is all pieces = All-nil (λ c. P c.place)
  of_costs_by kinds.Include table line is all pieces = All-nil (λ c. P c.place)
  of_costs_by kinds.Define table line is all pieces = All-nil (λ c. P c.place)
  of_costs_by kinds.Undef table line is all pieces = All-nil (λ c. P c.place)
  of_costs_by kinds.Css table line is all pieces =
      All-cons (λ c. P c.place) (record { place = first_place (pieces_in line); tokens = 1; names = 0 }) (pieces_costs table (read_by kinds.Css (pieces_in line)))
      (of_hash line (λ e. let h : kinds.Css ≡ kinds.Text = sym is ∙ e in cc) all)
      (of_costs table (read_by kinds.Css (pieces_in line)) (of_read kinds.Css (pieces_in line) pieces))
  of_costs_by kinds.Pragma table line is all pieces = All-nil (λ c. P c.place)
  of_costs_by kinds.Unknown table line is all pieces = All-nil (λ c. P c.place)

  one_hash : (line : List SourceByte) (is_bad : Bool) → P (first_place (pieces_in line)) → OfBreaches (cond is_bad (breach statics.BadMacro (first_place (pieces_in line)) ∷ []) [])
  one_hash line true here = All-cons (λ b. P b.place) (breach statics.BadMacro (first_place (pieces_in line))) [] here (All-nil (λ b. P b.place))
  one_hash line false here = All-nil (λ b. P b.place)

  of_malformed : (kind : LineKind) (text : List ℕ) (table : Table) (line : List SourceByte) → line_kind (bytes_of line) ≡ kind → OfBytes line → OfBreaches (malformed_as kind text table line)
  of_malformed kinds.Text text table line is all = All-nil (λ b. P b.place)
  of_malformed kinds.Null text table line is all = All-nil (λ b. P b.place)
  of_malformed kinds.Include text table line is all = All-nil (λ b. P b.place)
  of_malformed kinds.Define text table line is all =
      one_hash line (is_malformed kinds.Define (spelled_as kinds.Define text line) table (pieces_of line)) (of_hash line (λ e. let h : kinds.Define ≡ kinds.Text = sym is ∙ e in cc) all)
  of_malformed kinds.Undef text table line is all =
      one_hash line (is_malformed kinds.Undef (spelled_as kinds.Undef text line) table (pieces_of line)) (of_hash line (λ e. let h : kinds.Undef ≡ kinds.Text = sym is ∙ e in cc) all)
  of_malformed kinds.Css text table line is all = All-nil (λ b. P b.place)
  of_malformed kinds.Pragma text table line is all = All-nil (λ b. P b.place)
  of_malformed kinds.Unknown text table line is all =
      one_hash line true (of_hash line (λ e. let h : kinds.Unknown ≡ kinds.Text = sym is ∙ e in cc) all)

  -- What holds of the places of a line's bytes holds of its breaches'.
  pub of_line : (text : List ℕ) (state : State) (line : List SourceByte) → OfBytes line → OfBreaches (line_breaches text state (line_of line))
  of_line text state line all =
      let kind = line_kind (bytes_of line) in
      let pieces = All-filter (λ p. not (is_blank_piece p.shape)) (λ p. P (place_of p)) (pieces_of line) (of_pieces 0 line all) in
      let read = of_read kind (pieces_in line) pieces in
      All-append (λ b. P b.place) (bad_bytes line) _ (of_bad line all)
      (All-append (λ b. P b.place) (unended_comments text line) _ (of_unended text line all)
      (All-append (λ b. P b.place) (stray_pieces (read_by kind (pieces_in line))) _ (of_strays (read_by kind (pieces_in line)) read)
      (All-append (λ b. P b.place) (malformed_as kind text state.table line) _ (of_malformed kind text state.table line refl all)
      (All-append (λ b. P b.place) (overruns state.tokens state.names (costs_by kind state.table (pieces_in line))) (bad_constants (read_by kind (pieces_in line)))
      (of_overruns state.tokens state.names (costs_by kind state.table (pieces_in line)) (of_costs_by kind state.table line refl all pieces))
      (of_constants (read_by kind (pieces_in line)) read)))))
