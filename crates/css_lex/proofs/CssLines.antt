-- `#pragma css` lines.
use Rattle.std.proofs.Common.{◌≡◌, ℕ, ◌+◌, ◌≤◌, true, List, [], ◌∷◌, ◌++◌, length, drop, refl, sym, ap, ap₂, ◌∙◌, subst, arith, Option, Some, None}
use Rattle.std.specs.Prelude.{nat_lt}
use Rattle.std.proofs.lemmas.Bool.{lt-ltb, le-ltb, or_left, or_from}
use Rattle.std.proofs.lemmas.List.Sums.{sum_by-cons}
use Rattle.css_base.specs.Tokens.{Directive, Lexeme, At, lexemes}
use Rattle.css_lex.specs.declared.breach.Breach.{Breach}
use Rattle.css_lex.specs.declared.line.Brought.{Brought}
use Rattle.css_lexemes.specs.declared.line_kind.LineKind.TheVariants as kinds
use Rattle.css_lexemes.specs.declared.source.SourceByte.{SourceByte}
use Rattle.css_lexemes.specs.Source.{bytes_of}
use Rattle.css_lexemes.specs.LineKinds.{line_kind}
use Rattle.css_lexemes.specs.Lexemes.{Piece}
use Rattle.css_macros.specs.MacroTables.{table_of}
use Rattle.css_lex.specs.Costs.{State, Cost}
use Rattle.css_lex.specs.Reading.{first_place, last_end}
use Rattle.css_lex.specs.Spelling.{line_at, joined, in_order}
use Rattle.css_lex.specs.Refusals.{stray_pieces, bad_constants, bad_bytes, unended_comments, overruns, line_breaches}
use Rattle.css_lexemes.specs.Rising.{AreBetween}
use Rattle.css_lex.specs.Words.{words_of, failure_of}
use Rattle.css_lex.specs.Expanded.{expanded, word_costs, tokens_among, names_among, IsHead}
use Rattle.css_lex.specs.Found.{IsFirst, IsFound, least_of}
use Rattle.css_lex.specs.LexState.{state_of, line_of, IsLexed}
use Rattle.css_lex.proofs.Late.{solid_lower, pieces_costs, passes, over_now, over_later, failure_first, overrun_first, costs_of_words, tokens_of_words, none_of_both, overruns_from, costs_from}
use Rattle.css_lex.proofs.LineBreaches.{pieces_in, late_of, kind_found, behind_as, tokens_as, pieces_solid, drop_solid}
use Rattle.css_lex.proofs.UndefLines.{hash_breach}
use Rattle.css_lex.proofs.DefineLines.{behind_hash, hash_first}

abbrev pub css_pieces : List SourceByte → List Piece
css_pieces line = drop 3 (pieces_in line)

abbrev pub css_words : (text : List ℕ) → List SourceByte → List Lexeme
css_words text line = words_of text (css_pieces line)

-- What the directive's own token costs.
abbrev own_cost : List SourceByte → Cost
own_cost line = record { place = first_place (pieces_in line); tokens = 1; names = 0 }

abbrev css_late : (line : List SourceByte) → List Breach → List Breach
css_late line over = stray_pieces (css_pieces line) ++ (over ++ bad_constants (css_pieces line))

late_is : (text : List ℕ) (state : State) (line : List SourceByte)
    → late_of kinds.Css text state line ≡ css_late line (overruns state.tokens state.names (own_cost line ∷ pieces_costs state.table (css_pieces line)))
late_is text state line = refl

not_text : (line : List SourceByte) → line_kind (bytes_of line) ≡ kinds.Css → line_kind (bytes_of line) ≡ kinds.Text → ⊥
not_text line is text = let e : kinds.Css ≡ kinds.Text = sym is ∙ text in cc

-- The directive's token is one too many.
pub css_over : (text : List ℕ) (state : State) (line : List SourceByte) (early : Option Breach) → line_kind (bytes_of line) ≡ kinds.Css → AreBetween 0 (length text) line
    → IsFound early (bad_bytes line ++ unended_comments text line) → state.tokens ≡ 1000000
    → IsFound (least_of early (Some (hash_breach line))) (line_breaches text state (line_of line))
css_over text state line early is between found full =
    let b = hash_breach line in
    let are = behind_hash 2 (length text) line (not_text line is) between in
    let costs = pieces_costs state.table (css_pieces line) in
    let over : passes state.tokens state.names (own_cost line) ≡ true =
    or_left (nat_lt 1000000 (state.tokens + 1)) (nat_lt 1000000 (state.names + 0)) (lt-ltb 1000000 (state.tokens + 1) (omega (arith, full))) in
    let lower = solid_lower b.place (b.place + 1) (css_pieces line) (omega arith) are in
    kind_found kinds.Css text state line early (Some b) is found
    (subst (λ o. IsFirst b (css_late line o)) (sym (over_now state.tokens state.names (own_cost line) costs over))
    (hash_first line (css_pieces line) (overruns (state.tokens + 1) (state.names + 0) costs) are
    (overruns_from b.place (state.tokens + 1) (state.names + 0) costs (costs_from b.place state.table (css_pieces line) lower))))

-- Its token is counted.
fits : (state : State) (line : List SourceByte) (tokens : ℕ) → tokens ≡ state.tokens + 1 → tokens ≤ 1000000 → state.names ≤ 1000000
    → overruns state.tokens state.names (own_cost line ∷ pieces_costs state.table (css_pieces line)) ≡ overruns tokens state.names (pieces_costs state.table (css_pieces line))
fits state line tokens is few few_names =
    over_later state.tokens state.names (own_cost line) (pieces_costs state.table (css_pieces line))
    (or_from (nat_lt 1000000 (state.tokens + 1)) (nat_lt 1000000 (state.names + 0)) (le-ltb 1000000 (state.tokens + 1) (omega (arith, is, few))) (le-ltb 1000000 (state.names + 0) (omega (arith, few_names))))
    ∙ ap₂ (λ t n. overruns t n (pieces_costs state.table (css_pieces line))) (sym is) (omega arith)

pub css_overrun : (text : List ℕ) (state : State) (line : List SourceByte) (early : Option Breach) (tokens : ℕ) (b : Breach) → line_kind (bytes_of line) ≡ kinds.Css
    → AreBetween 0 (length text) line → IsFound early (bad_bytes line ++ unended_comments text line) → tokens ≡ state.tokens + 1 → tokens ≤ 1000000 → state.names ≤ 1000000
    → IsHead b (overruns tokens state.names (word_costs state.table (css_words text line)))
    → IsFound (least_of early (Some b)) (line_breaches text state (line_of line))
css_overrun text state line early tokens b is between found counted few few_names head =
    kind_found kinds.Css text state line early (Some b) is found
    (subst (λ o. IsFirst b (css_late line o)) (sym (fits state line tokens counted few few_names))
    (overrun_first text state.table 0 tokens state.names (css_pieces line) b (drop_solid 0 3 (pieces_in line) (pieces_solid (length text) line between)) head))

pub css_found : (text : List ℕ) (state : State) (line : List SourceByte) (early : Option Breach) (tokens : ℕ) → line_kind (bytes_of line) ≡ kinds.Css
    → AreBetween 0 (length text) line → IsFound early (bad_bytes line ++ unended_comments text line) → tokens ≡ state.tokens + 1 → tokens ≤ 1000000 → state.names ≤ 1000000
    → overruns tokens state.names (word_costs state.table (css_words text line)) ≡ []
    → IsFound (least_of early (failure_of (css_pieces line))) (line_breaches text state (line_of line))
css_found text state line early tokens is between found counted few few_names none =
    kind_found kinds.Css text state line early (failure_of (css_pieces line)) is found
    (subst (λ o. IsFound (failure_of (css_pieces line)) (css_late line o)) (sym (fits state line tokens counted few few_names))
    (failure_first text state.table 0 tokens state.names (css_pieces line) (drop_solid 0 3 (pieces_in line) (pieces_solid (length text) line between)) none))

pub css_done : (text : List ℕ) (line : List SourceByte) (old new : Brought) (early : Option Breach) (tokens : ℕ) (words : List Lexeme) → line_kind (bytes_of line) ≡ kinds.Css
    → AreBetween 0 (length text) line → IsFound early (bad_bytes line ++ unended_comments text line) → tokens ≡ old.counts.tokens + 1 → tokens ≤ 1000000 → old.counts.names ≤ 1000000
    → overruns tokens old.counts.names (word_costs (table_of old.macros) (css_words text line)) ≡ []
    → least_of early (failure_of (css_pieces line)) ≡ None
    → table_of new.macros ≡ table_of old.macros
    → new.counts.tokens ≡ tokens + tokens_among (word_costs (table_of old.macros) (css_words text line))
    → new.counts.names ≡ old.counts.names + names_among (word_costs (table_of old.macros) (css_words text line))
    → words ≡ joined (expanded (table_of old.macros) (css_words text line))
    → lexemes new.tokens.items ≡ lexemes old.tokens.items
    ++ At (Directive (in_order words)) (line_at text (first_place (pieces_in line))) (first_place (pieces_in line)) (last_end (pieces_in line)) ∷ []
    → IsLexed text line old new
css_done text line old new early tokens words is between found counted few few_names fits_all none table token_count name_count words_are new_tokens =
    let state = state_of old in
    let ps = css_pieces line in
    let all_words = (none_of_both early (failure_of ps) none).1 in
    let costs_are = costs_of_words text state.table ps all_words in
    let token_sum : tokens_among (own_cost line ∷ pieces_costs state.table ps) ≡ 1 + tokens_among (pieces_costs state.table ps) = sum_by-cons (λ (c : Cost). c.tokens) (own_cost line) (pieces_costs state.table ps) in
    let name_sum : names_among (own_cost line ∷ pieces_costs state.table ps) ≡ 0 + names_among (pieces_costs state.table ps) = sum_by-cons (λ (c : Cost). c.names) (own_cost line) (pieces_costs state.table ps) in
    let t = ap tokens_among costs_are in
    let n = ap names_among costs_are in
    record {
      unbroken = subst (λ f. IsFound f (line_breaches text state (line_of line))) none (css_found text state line early tokens is between found counted few few_names fits_all);
      state_is =
          ap (λ m. record { table = m; tokens = new.counts.tokens; names = new.counts.names }) table
          ∙ (ap₂ (λ a b. record { table = state.table; tokens = a; names = b }) (omega (arith, token_count, counted, token_sum, t)) (omega (arith, name_count, name_sum, n))
          ∙ sym (behind_as kinds.Css state line is));
      tokens_are =
          new_tokens
          ∙ (ap
          (λ ws. lexemes old.tokens.items ++ At (Directive (in_order ws)) (line_at text (first_place (pieces_in line))) (first_place (pieces_in line)) (last_end (pieces_in line)) ∷ [])
          (words_are ∙ ap joined (sym (tokens_of_words text state.table ps all_words)))
          ∙ ap (λ ts. lexemes old.tokens.items ++ ts) (sym (tokens_as kinds.Css text state.table line is)));
    }
