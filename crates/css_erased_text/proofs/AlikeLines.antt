-- Two texts with the same lines, but for directives of the one and empty lines of the other, spell the same tokens.
use Rattle.std.proofs.Common.{◌≡◌, ℕ, ◌≤◌, Bool, true, false, not, ◌&&◌, List, [], ◌∷◌, ◌++◌, map, cond, refl, ap, ap₂, sym, ◌∙◌, subst, arith, is_none}
use Rattle.std.specs.Prelude.{filter, sum_by}
use Rattle.std.specs.List.{AllZip}
use Rattle.std.proofs.lemmas.Bool.{cond-false}
use Rattle.std.proofs.lemmas.List.{map-append}
use Rattle.std.proofs.lemmas.List.Elements.{filter-append}
use Rattle.css_base.specs.declared.static_fault.StaticName.TheVariants as statics
use Rattle.css_base.specs.Tokens.{Lexeme}
use Rattle.css_lex.specs.declared.breach.Breach.{Breach}
use Rattle.css_lexemes.specs.declared.line_kind.LineKind.{LineKind}
use Rattle.css_lexemes.specs.declared.line_kind.LineKind.TheVariants as kinds
use Rattle.css_lexemes.specs.declared.source.SourceByte.{SourceByte}
use Rattle.css_lexemes.specs.Source.{bytes_of}
use Rattle.css_lexemes.specs.LineKinds.{line_kind}
use Rattle.css_lexemes.specs.Lines.{is_css}
use Rattle.css_lexemes.specs.Lexemes.{Piece}
use Rattle.css_lexemes.specs.Longest.{pieces_of}
use Rattle.css_macros.specs.Macros.{Table}
use Rattle.css_lex.specs.Reading.{kind_of_piece, place_of, first_place, read_by, table_by}
use Rattle.css_lex.specs.Costs.{Cost, State, costs_by, state_behind, over_lines}
use Rattle.css_lex.specs.Spelling.{tokens_by, tokens_of_line}
use Rattle.css_lex.specs.Refusals.{breach, is_bad_byte, bad_bytes, unended_comments, is_stray, is_lexeme, stray_pieces, bad_constants, overruns, is_empty, is_malformed, line_breaches}
use Rattle.css_lex.specs.LexState.{line_of}
use Rattle.css_lex.specs.WithoutDirectives.{is_directive, without_directives, kind_and_line, kinds_and_lines}
use Rattle.css_erased_text.proofs.Pairwise.{zip_filter, zip_none}
use Rattle.css_lex.proofs.LineBreaches.{pieces_in, spelled_as, malformed_as, breaches_as, state_as}
use Rattle.css_erased_text.proofs.Alike.{SameByte, SamePiece, is_unended_at, bytes_alike, pieces_alike, kind_alike, solid_alike, read_alike, table_alike, malformed_alike}
use Rattle.css_erased_text.proofs.PlainTables.{IsPlainTable, table_plain}
use Rattle.css_erased_text.proofs.AlikeTokens.{line_tokens, line_kept, costs_alike, sums_alike, overruns_alike}

-- The same macros, and no more tokens and names.
pub record IsLess (less more : State) : Type 0 where
  pub table_same : less.table ≡ more.table
  pub tokens_less : less.tokens ≤ more.tokens
  pub names_less : less.names ≤ more.names

both_none : {A : Type 0} (xs ys : List A) → xs ++ ys ≡ [] → (xs ≡ []) × (ys ≡ [])
both_none [] ys none = (refl, none)
both_none (x ∷ xs) ys none = absurd cc

none_joined : {A : Type 0} (xs ys : List A) → xs ≡ [] → ys ≡ [] → xs ++ ys ≡ []
none_joined xs ys a b = ap (λ z. z ++ ys) a ∙ b

one_or_none : {A : Type 0} (b : Bool) (x : A) → cond b (x ∷ []) [] ≡ [] → b ≡ false
one_or_none true x none = absurd cc
one_or_none false x none = refl

marked_none : (b : Bool) (c : SourceByte) (rest : List SourceByte) → map (λ (b : SourceByte). breach statics.BadToken b.place) (cond b (c ∷ rest) rest) ≡ []
    → (b ≡ false) × (map (λ (b : SourceByte). breach statics.BadToken b.place) rest ≡ [])
marked_none true c rest none = absurd cc
marked_none false c rest none = (refl, none)

module _ (text other : List ℕ) where
  unended_alike : (cs ds : List SourceByte) → AllZip (SameByte text other) cs ds → unended_comments text cs ≡ [] → unended_comments other ds ≡ []
  unended_alike [] [] zip none = refl
  unended_alike [] (d ∷ ds) zip none = absurd zip
  unended_alike (c ∷ cs) [] zip none = absurd zip
  unended_alike (c ∷ cs) (d ∷ ds) zip none =
      let both = marked_none (is_unended_at text c) c (filter (is_unended_at text) cs) none in
      ap (map (λ (b : SourceByte). breach statics.BadToken b.place)) (cond-false (is_unended_at other d) (d ∷ filter (is_unended_at other) ds) (filter (is_unended_at other) ds) (zip.0.ended both.0))
      ∙ unended_alike cs ds zip.1 both.1

  module _ (kind : LineKind) (state less : State) (fewer : IsLess less state) (line bytes : List SourceByte) (zip : AllZip (SameByte text other) line bytes) where
    pieces_zip : AllZip (SamePiece text other) (pieces_of line) (pieces_of bytes)
    pieces_zip = pieces_alike text other 0 line bytes zip

    solid_zip : AllZip (SamePiece text other) (pieces_in line) (pieces_in bytes)
    solid_zip = solid_alike text other (pieces_of line) (pieces_of bytes) pieces_zip

    read_zip : AllZip (SamePiece text other) (read_by kind (pieces_in line)) (read_by kind (pieces_in bytes))
    read_zip = read_alike text other kind (pieces_in line) (pieces_in bytes) solid_zip

    bad_alike : bad_bytes line ≡ [] → bad_bytes bytes ≡ []
    bad_alike none =
        zip_none (SameByte text other) (λ b. breach statics.BadByte b.place) (λ b. breach statics.BadByte b.place) (filter (λ b. is_bad_byte b.byte) line) (filter (λ b. is_bad_byte b.byte) bytes)
        (zip_filter (SameByte text other) (λ b. is_bad_byte b.byte) (λ b. is_bad_byte b.byte) (λ c d same. ap is_bad_byte same.byte_same) line bytes zip) none

    strays_alike : stray_pieces (read_by kind (pieces_in line)) ≡ [] → stray_pieces (read_by kind (pieces_in bytes)) ≡ []
    strays_alike none =
        zip_none (SamePiece text other) (λ p. breach statics.BadToken (place_of p)) (λ p. breach statics.BadToken (place_of p)) (filter (λ p. is_stray p.shape) (read_by kind (pieces_in line)))
        (filter (λ p. is_stray p.shape) (read_by kind (pieces_in bytes)))
        (zip_filter (SamePiece text other) (λ p. is_stray p.shape) (λ p. is_stray p.shape) (λ p q same. ap is_stray same.shape_same) (read_by kind (pieces_in line)) (read_by kind (pieces_in bytes)) read_zip)
        none

    constants_alike : bad_constants (read_by kind (pieces_in line)) ≡ [] → bad_constants (read_by kind (pieces_in bytes)) ≡ []
    constants_alike none =
        zip_none (SamePiece text other) (λ p. breach statics.BadConstant (place_of p)) (λ p. breach statics.BadConstant (place_of p))
        (filter (λ p. is_lexeme p.shape && is_none (kind_of_piece p)) (read_by kind (pieces_in line)))
        (filter (λ p. is_lexeme p.shape && is_none (kind_of_piece p)) (read_by kind (pieces_in bytes)))
        (zip_filter (SamePiece text other) (λ p. is_lexeme p.shape && is_none (kind_of_piece p)) (λ p. is_lexeme p.shape && is_none (kind_of_piece p))
        (λ p q same. ap₂ (λ s k. is_lexeme s && is_none k) same.shape_same (kind_alike text other p q same)) (read_by kind (pieces_in line)) (read_by kind (pieces_in bytes)) read_zip)
        none

    overruns_none : overruns state.tokens state.names (costs_by kind state.table (pieces_in line)) ≡ [] → overruns less.tokens less.names (costs_by kind less.table (pieces_in bytes)) ≡ []
    overruns_none none =
        subst (λ t. overruns less.tokens less.names (costs_by kind t (pieces_in bytes)) ≡ []) (sym fewer.table_same)
        (overruns_alike (costs_by kind state.table (pieces_in line)) (costs_by kind state.table (pieces_in bytes))
        (costs_alike text other kind state.table (pieces_in line) (pieces_in bytes) solid_zip) state.tokens state.names less.tokens less.names fewer.tokens_less fewer.names_less none)

    malformed_none : spelled_as kind text line ≡ true → spelled_as kind other bytes ≡ true → malformed_as kind text state.table line ≡ [] → malformed_as kind other less.table bytes ≡ []
    malformed_none here there none =
        let well = one_or_none (is_malformed kind (spelled_as kind text line) state.table (pieces_of line)) (breach statics.BadMacro (first_place (pieces_in line))) none in
        cond-false (is_malformed kind (spelled_as kind other bytes) less.table (pieces_of bytes)) (breach statics.BadMacro (first_place (pieces_in bytes)) ∷ []) []
        (ap₂ (λ s t. is_malformed kind s t (pieces_of bytes)) (there ∙ sym here) fewer.table_same
        ∙ sym (malformed_alike text other kind (spelled_as kind text line) state.table (pieces_of line) (pieces_of bytes) pieces_zip)
        ∙ well)

    -- The line breaks no rule in the other text.
    pub unbroken_alike : breaches_as kind text state line ≡ [] → breaches_as kind other less bytes ≡ []
    unbroken_alike none =
        let a = both_none (bad_bytes line) _ none in
        let b = both_none (unended_comments text line) _ a.1 in
        let c = both_none (stray_pieces (read_by kind (pieces_in line))) _ b.1 in
        let d = both_none (malformed_as kind text state.table line) _ c.1 in
        let e = both_none (overruns state.tokens state.names (costs_by kind state.table (pieces_in line))) (bad_constants (read_by kind (pieces_in line))) d.1 in
        let strays = stray_pieces (read_by kind (pieces_in bytes)) in
        let constants = bad_constants (read_by kind (pieces_in bytes)) in
        let bad_none : bad_bytes bytes ≡ [] = bad_alike a.0 in
        let unended_none : unended_comments other bytes ≡ [] = unended_alike line bytes zip b.0 in
        let strays_none : strays ≡ [] = strays_alike c.0 in
        let constants_none : constants ≡ [] = constants_alike e.1 in
        let here : spelled_as kind text line ≡ true =
        ap is_empty
        (none_joined (bad_bytes line) (unended_comments text line ++ (stray_pieces (read_by kind (pieces_in line)) ++ bad_constants (read_by kind (pieces_in line)))) a.0
        (none_joined (unended_comments text line) (stray_pieces (read_by kind (pieces_in line)) ++ bad_constants (read_by kind (pieces_in line))) b.0
        (none_joined (stray_pieces (read_by kind (pieces_in line))) (bad_constants (read_by kind (pieces_in line))) c.0 e.1))) in
        let there : spelled_as kind other bytes ≡ true =
        ap is_empty
        (none_joined (bad_bytes bytes) (unended_comments other bytes ++ (strays ++ constants)) bad_none
        (none_joined (unended_comments other bytes) (strays ++ constants) unended_none (none_joined strays constants strays_none constants_none))) in
        none_joined (bad_bytes bytes) _ bad_none
        (none_joined (unended_comments other bytes) _ unended_none
        (none_joined strays _ strays_none
        (none_joined (malformed_as kind other less.table bytes) _ (malformed_none here there d.0)
        (none_joined (overruns less.tokens less.names (costs_by kind less.table (pieces_in bytes))) constants (overruns_none e.0) constants_none))))

    -- What stands behind it.
    pub behind_alike : IsLess (state_as kind less bytes) (state_as kind state line)
    behind_alike =
        let sums = sums_alike (costs_by kind state.table (pieces_in line)) (costs_by kind state.table (pieces_in bytes)) (costs_alike text other kind state.table (pieces_in line) (pieces_in bytes) solid_zip) in
        let tokens = ap (λ t. sum_by (λ (c : Cost). c.tokens) (costs_by kind t (pieces_in bytes))) fewer.table_same ∙ sym sums.0 in
        let names = ap (λ t. sum_by (λ (c : Cost). c.names) (costs_by kind t (pieces_in bytes))) fewer.table_same ∙ sym sums.1 in
        record {
          table_same =
              ap (λ t. table_by kind t (pieces_of bytes)) fewer.table_same ∙ sym (table_alike text other kind state.table (pieces_of line) (pieces_of bytes) pieces_zip);
          tokens_less = let l = fewer.tokens_less in omega (arith, l, tokens);
          names_less = let l = fewer.names_less in omega (arith, l, names);
        }

    pub tokens_alike : is_css kind ≡ false → IsPlainTable state.table
        → kinds_and_lines (tokens_by kind other less.table (pieces_in bytes)) ≡ kinds_and_lines (without_directives (tokens_by kind text state.table (pieces_in line)))
    tokens_alike plain no_directives =
        ap (λ t. kinds_and_lines (tokens_by kind other t (pieces_in bytes))) fewer.table_same
        ∙ line_tokens text other kind state.table (pieces_in line) (pieces_in bytes) plain solid_zip
        ∙ ap kinds_and_lines (sym (line_kept text kind state.table (pieces_in line) plain no_directives))

-- The lines of one text, and of another one: each has the other's lines, but for directives and empty lines.
pub data SameLines (text other : List ℕ) : List (List SourceByte) → List (List SourceByte) → Type 0 where
  no_lines : SameLines text other [] []
  same_line : {line bytes : List SourceByte} {lines others : List (List SourceByte)} → is_css (line_kind (bytes_of line)) ≡ false → AllZip (SameByte text other) line bytes
      → SameLines text other lines others → SameLines text other (line ∷ lines) (bytes ∷ others)
  directive_line : {line : List SourceByte} {lines others : List (List SourceByte)} → line_kind (bytes_of line) ≡ kinds.Css → SameLines text other lines others
      → SameLines text other (line ∷ lines) others
  empty_line : {lines others : List (List SourceByte)} → SameLines text other lines others → SameLines text other lines ([] ∷ others)

abbrev pub lines_breaches : (text : List ℕ) → State → List (List SourceByte) → List Breach
lines_breaches text state lines = over_lines (line_breaches text) state (map line_of lines)

abbrev pub lines_tokens : (text : List ℕ) → State → List (List SourceByte) → List Lexeme
lines_tokens text state lines = over_lines (λ s r. tokens_of_line text s.table r) state (map line_of lines)

pub record AreKept (text other : List ℕ) (state less : State) (lines others : List (List SourceByte)) : Type 0 where
  pub unbroken : lines_breaches other less others ≡ []
  pub tokens_same : kinds_and_lines (lines_tokens other less others) ≡ kinds_and_lines (without_directives (lines_tokens text state lines))

no_token : (text : List ℕ) (kind : LineKind) (table : Table) (pieces : List Piece) → kind ≡ kinds.Css → without_directives (tokens_by kind text table pieces) ≡ []
no_token text kind table pieces is = ap (λ k. without_directives (tokens_by k text table pieces)) is

one_more : (text other : List ℕ) (state less : State) (line bytes : List SourceByte) (lines others : List (List SourceByte)) → is_css (line_kind (bytes_of line)) ≡ false
    → AllZip (SameByte text other) line bytes → IsLess less state → IsPlainTable state.table → lines_breaches text state (line ∷ lines) ≡ []
    → (IsLess (state_behind less (line_of bytes)) (state_behind state (line_of line)) → lines_breaches text (state_behind state (line_of line)) lines ≡ []
    → AreKept text other (state_behind state (line_of line)) (state_behind less (line_of bytes)) lines others)
    → AreKept text other state less (line ∷ lines) (bytes ∷ others)
one_more text other state less line bytes lines others plain zip fewer no_directives none rest =
    let kind : LineKind = line_kind (bytes_of line) in
    let same : kind ≡ line_kind (bytes_of bytes) = ap line_kind (bytes_alike text other line bytes zip) in
    let both = both_none (breaches_as kind text state line) (lines_breaches text (state_behind state (line_of line)) lines) none in
    let behind : IsLess (state_behind less (line_of bytes)) (state_behind state (line_of line)) =
    subst (λ k. IsLess (state_as k less bytes) (state_as kind state line)) same (behind_alike text other kind state less fewer line bytes zip) in
    let kept = rest behind both.1 in
    let here = tokens_by kind text state.table (pieces_in line) in
    let there = tokens_by (line_kind (bytes_of bytes)) other less.table (pieces_in bytes) in
    let more = lines_tokens text (state_behind state (line_of line)) lines in
    let others_more = lines_tokens other (state_behind less (line_of bytes)) others in
    record {
      unbroken =
          none_joined (breaches_as (line_kind (bytes_of bytes)) other less bytes) (lines_breaches other (state_behind less (line_of bytes)) others)
          (subst (λ k. breaches_as k other less bytes ≡ []) same (unbroken_alike text other kind state less fewer line bytes zip both.0)) kept.unbroken;
      tokens_same =
          map-append kind_and_line there others_more
          ∙ ap₂ ◌++◌
          (ap (λ k. kinds_and_lines (tokens_by k other less.table (pieces_in bytes))) (sym same) ∙ tokens_alike text other kind state less fewer line bytes zip plain no_directives) kept.tokens_same
          ∙ sym (ap kinds_and_lines (filter-append (λ t. not (is_directive t)) here more) ∙ map-append kind_and_line (without_directives here) (without_directives more));
    }

one_less : (text other : List ℕ) (state less : State) (line : List SourceByte) (lines others : List (List SourceByte)) → line_kind (bytes_of line) ≡ kinds.Css
    → IsLess less state → lines_breaches text state (line ∷ lines) ≡ []
    → (IsLess less (state_behind state (line_of line)) → lines_breaches text (state_behind state (line_of line)) lines ≡ []
    → AreKept text other (state_behind state (line_of line)) less lines others)
    → AreKept text other state less (line ∷ lines) others
one_less text other state less line lines others css fewer none rest =
    let kind : LineKind = line_kind (bytes_of line) in
    let both = both_none (breaches_as kind text state line) (lines_breaches text (state_behind state (line_of line)) lines) none in
    let behind : IsLess less (state_behind state (line_of line)) = record {
      table_same = fewer.table_same ∙ sym (ap (λ k. table_by k state.table (pieces_of line)) css);
      tokens_less = let l = fewer.tokens_less in omega (arith, l);
      names_less = let l = fewer.names_less in omega (arith, l);
    } in
    let kept = rest behind both.1 in
    let here = tokens_by kind text state.table (pieces_in line) in
    let more = lines_tokens text (state_behind state (line_of line)) lines in
    record {
      unbroken = kept.unbroken;
      tokens_same =
          kept.tokens_same
          ∙ sym (ap kinds_and_lines (filter-append (λ t. not (is_directive t)) here more ∙ ap (λ z. z ++ without_directives more) (no_token text kind state.table (pieces_in line) css)));
    }

pub kept : (text other : List ℕ) {lines others : List (List SourceByte)} → SameLines text other lines others → (state less : State) → IsLess less state → IsPlainTable state.table
    → lines_breaches text state lines ≡ [] → AreKept text other state less lines others
kept text other no_lines state less fewer plain none = record { unbroken = refl; tokens_same = refl }
kept text other (same_line {line} {bytes} {lines} {others} no_css zip rest) state less fewer plain none =
    one_more text other state less line bytes lines others no_css zip fewer plain none
    (λ behind more. kept text other rest (state_behind state (line_of line)) (state_behind less (line_of bytes)) behind (table_plain (line_kind (bytes_of line)) state.table (pieces_of line) plain) more)
kept text other (directive_line {line} {lines} {others} css rest) state less fewer plain none =
    one_less text other state less line lines others css fewer none
    (λ behind more. kept text other rest (state_behind state (line_of line)) less behind (table_plain (line_kind (bytes_of line)) state.table (pieces_of line) plain) more)
kept text other (empty_line {lines} {others} rest) state less fewer plain none =
    let k = kept text other rest state (state_behind less (line_of [])) (record { table_same = fewer.table_same; tokens_less = let l = fewer.tokens_less in omega (arith, l); names_less = let l = fewer.names_less in omega (arith, l) }) plain none in
    record { unbroken = k.unbroken; tokens_same = k.tokens_same }
