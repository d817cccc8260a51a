-- Lines that are no `#` lines.
use Rattle.std.proofs.Common.{◌≡◌, ℕ, ◌+◌, List, [], ◌++◌, length, sym, ap, ap₂, ◌∙◌, subst, Option, Some, None}
use Rattle.css_base.specs.Tokens.{Lexeme, lexemes}
use Rattle.css_lex.specs.declared.breach.Breach.{Breach}
use Rattle.css_lex.specs.declared.line.Brought.{Brought}
use Rattle.css_lexemes.specs.declared.line_kind.LineKind.TheVariants as kinds
use Rattle.css_lexemes.specs.declared.source.SourceByte.{SourceByte}
use Rattle.css_lexemes.specs.Source.{bytes_of}
use Rattle.css_lexemes.specs.LineKinds.{line_kind}
use Rattle.css_macros.specs.MacroTables.{table_of}
use Rattle.css_lex.specs.Costs.{State}
use Rattle.css_lex.specs.Refusals.{bad_bytes, unended_comments, overruns, line_breaches}
use Rattle.css_lexemes.specs.Rising.{AreBetween}
use Rattle.css_lex.specs.Words.{words_of, failure_of}
use Rattle.css_lex.specs.Expanded.{expanded, word_costs, tokens_among, names_among, IsHead}
use Rattle.css_lex.specs.Found.{IsFound, least_of}
use Rattle.css_lex.specs.LexState.{state_of, line_of, IsLexed}
use Rattle.css_lex.proofs.Late.{failure_first, overrun_first, costs_of_words, tokens_of_words, none_of_both}
use Rattle.css_lex.proofs.LineBreaches.{pieces_in, kind_found, behind_as, tokens_as, pieces_solid}

-- The words of the line.
abbrev pub text_words : (text : List ℕ) → List SourceByte → List Lexeme
text_words text line = words_of text (pieces_in line)

pub text_found : (text : List ℕ) (state : State) (line : List SourceByte) (early : Option Breach) → line_kind (bytes_of line) ≡ kinds.Text → AreBetween 0 (length text) line
    → IsFound early (bad_bytes line ++ unended_comments text line) → overruns state.tokens state.names (word_costs state.table (text_words text line)) ≡ []
    → IsFound (least_of early (failure_of (pieces_in line))) (line_breaches text state (line_of line))
text_found text state line early is between found fits =
    kind_found kinds.Text text state line early (failure_of (pieces_in line)) is found
    (failure_first text state.table 0 state.tokens state.names (pieces_in line) (pieces_solid (length text) line between) fits)

pub text_over : (text : List ℕ) (state : State) (line : List SourceByte) (early : Option Breach) (b : Breach) → line_kind (bytes_of line) ≡ kinds.Text → AreBetween 0 (length text) line
    → IsFound early (bad_bytes line ++ unended_comments text line) → IsHead b (overruns state.tokens state.names (word_costs state.table (text_words text line)))
    → IsFound (least_of early (Some b)) (line_breaches text state (line_of line))
text_over text state line early b is between found head =
    kind_found kinds.Text text state line early (Some b) is found
    (overrun_first text state.table 0 state.tokens state.names (pieces_in line) b (pieces_solid (length text) line between) head)

-- The line breaks no rule.
pub text_done : (text : List ℕ) (line : List SourceByte) (old new : Brought) (early : Option Breach) → line_kind (bytes_of line) ≡ kinds.Text → AreBetween 0 (length text) line
    → IsFound early (bad_bytes line ++ unended_comments text line)
    → overruns old.counts.tokens old.counts.names (word_costs (table_of old.macros) (text_words text line)) ≡ []
    → least_of early (failure_of (pieces_in line)) ≡ None
    → table_of new.macros ≡ table_of old.macros
    → new.counts.tokens ≡ old.counts.tokens + tokens_among (word_costs (table_of old.macros) (text_words text line))
    → new.counts.names ≡ old.counts.names + names_among (word_costs (table_of old.macros) (text_words text line))
    → lexemes new.tokens.items ≡ lexemes old.tokens.items ++ expanded (table_of old.macros) (text_words text line)
    → IsLexed text line old new
text_done text line old new early is between found fits none table token_count name_count tokens =
    let state = state_of old in
    let all_words = (none_of_both early (failure_of (pieces_in line)) none).1 in
    let costs_are = costs_of_words text state.table (pieces_in line) all_words in
    record {
      unbroken = subst (λ f. IsFound f (line_breaches text state (line_of line))) none (text_found text state line early is between found fits);
      state_is =
          ap (λ t. record { table = t; tokens = new.counts.tokens; names = new.counts.names }) table
          ∙ (ap₂ (λ t n. record { table = state.table; tokens = t; names = n })
          (token_count ∙ ap (λ cs. state.tokens + tokens_among cs) (sym costs_are)) (name_count ∙ ap (λ cs. state.names + names_among cs) (sym costs_are))
          ∙ sym (behind_as kinds.Text state line is));
      tokens_are =
          tokens
          ∙ ap (λ ts. lexemes old.tokens.items ++ ts)
          (sym (tokens_of_words text state.table (pieces_in line) all_words) ∙ sym (tokens_as kinds.Text text state.table line is));
    }
