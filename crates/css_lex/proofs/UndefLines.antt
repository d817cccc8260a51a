-- `#undef` lines.
use Rattle.std.proofs.Common.{◌≡◌, ℕ, ◌+◌, ◌≤◌, true, List, [], ◌∷◌, ◌++◌, drop, cond, refl, sym, ap, ap₂, ◌∙◌, subst, arith, Option, Some, None, is_none}
use Rattle.std.proofs.lemmas.List.{append-nil}
use Rattle.std.proofs.lemmas.List.Elements.{All-nil}
use Rattle.css_base.specs.declared.static_fault.StaticName.TheVariants as statics
use Rattle.css_base.specs.Tokens.{lexemes}
use Rattle.css_lex.specs.declared.breach.Breach.{Breach}
use Rattle.css_lex.specs.declared.line.Brought.{Brought}
use Rattle.css_lexemes.specs.declared.line_kind.LineKind.{LineKind}
use Rattle.css_lexemes.specs.declared.line_kind.LineKind.TheVariants as kinds
use Rattle.css_lexemes.specs.declared.source.SourceByte.{SourceByte}
use Rattle.css_lexemes.specs.Source.{bytes_of}
use Rattle.css_lexemes.specs.LineKinds.{line_kind}
use Rattle.css_lexemes.specs.Longest.{pieces_of}
use Rattle.css_macros.specs.Macros.{Table, undefined}
use Rattle.css_macros.specs.MacroTables.{table_of}
use Rattle.css_lex.specs.Costs.{State}
use Rattle.css_lex.specs.Reading.{first_place, undefined_of, table_by, without_name}
use Rattle.css_lex.specs.Spelling.{tokens_by}
use Rattle.css_lex.specs.Refusals.{breach, bad_bytes, unended_comments, line_breaches}
use Rattle.css_lex.specs.Words.{words_of, failure_of}
use Rattle.css_lex.specs.Found.{IsFirst, IsFound, least_of}
use Rattle.css_lex.specs.HashLines.{only_name}
use Rattle.css_lex.specs.LexState.{state_of, line_of, IsLexed, passes}
use Rattle.css_lex.proofs.Firsts.{in_front}
use Rattle.css_lex.proofs.LineBreaches.{pieces_in, late_of, state_as, kind_found, behind_as, tokens_as}
use Rattle.css_lex.proofs.NamedWords.{undefined_is}

nothing_late : (kind : LineKind) (text : List ℕ) (state : State) (line : List SourceByte) → passes kind ≡ true → late_of kind text state line ≡ []
nothing_late kinds.Text text state line passed = absurd cc
nothing_late kinds.Null text state line passed = refl
nothing_late kinds.Include text state line passed = refl
nothing_late kinds.Define text state line passed = absurd cc
nothing_late kinds.Undef text state line passed = absurd cc
nothing_late kinds.Css text state line passed = absurd cc
nothing_late kinds.Pragma text state line passed = refl
nothing_late kinds.Unknown text state line passed = absurd cc

same_counts : (table : Table) (tokens names : ℕ) → (let s : State = record { table = table; tokens = tokens + 0; names = names + 0 } in s) ≡ record { table = table; tokens = tokens; names = names }
same_counts table tokens names = ap₂ (λ t n. record { table = table; tokens = t; names = n }) (omega arith) (omega arith)

same_state : (kind : LineKind) (state : State) (line : List SourceByte) → passes kind ≡ true → state_as kind state line ≡ state
same_state kinds.Text state line passed = absurd cc
same_state kinds.Null state line passed = same_counts state.table state.tokens state.names
same_state kinds.Include state line passed = same_counts state.table state.tokens state.names
same_state kinds.Define state line passed = absurd cc
same_state kinds.Undef state line passed = absurd cc
same_state kinds.Css state line passed = absurd cc
same_state kinds.Pragma state line passed = same_counts state.table state.tokens state.names
same_state kinds.Unknown state line passed = absurd cc

no_tokens : (kind : LineKind) (text : List ℕ) (table : Table) (line : List SourceByte) → passes kind ≡ true → tokens_by kind text table (pieces_in line) ≡ []
no_tokens kinds.Text text table line passed = absurd cc
no_tokens kinds.Null text table line passed = refl
no_tokens kinds.Include text table line passed = refl
no_tokens kinds.Define text table line passed = absurd cc
no_tokens kinds.Undef text table line passed = absurd cc
no_tokens kinds.Css text table line passed = absurd cc
no_tokens kinds.Pragma text table line passed = refl
no_tokens kinds.Unknown text table line passed = absurd cc

pub passed_found : (text : List ℕ) (state : State) (line : List SourceByte) (early : Option Breach) → passes (line_kind (bytes_of line)) ≡ true
    → IsFound early (bad_bytes line ++ unended_comments text line) → IsFound early (line_breaches text state (line_of line))
passed_found text state line early passed found =
    let kind = line_kind (bytes_of line) in
    subst (λ f. IsFound f (line_breaches text state (line_of line))) (least_alone early)
    (kind_found kind text state line early None refl found (nothing_late kind text state line passed))
  where
    least_alone : (e : Option Breach) → least_of e None ≡ e
    least_alone None = refl
    least_alone (Some e) = refl

pub passed_done : (text : List ℕ) (line : List SourceByte) (old : Brought) (early : Option Breach) → passes (line_kind (bytes_of line)) ≡ true
    → IsFound early (bad_bytes line ++ unended_comments text line) → early ≡ None → IsLexed text line old old
passed_done text line old early passed found none =
    let kind = line_kind (bytes_of line) in
    let state = state_of old in
    record {
      unbroken = subst (λ f. IsFound f (line_breaches text state (line_of line))) none (passed_found text state line early passed found);
      state_is = sym (behind_as kind state line refl ∙ same_state kind state line passed);
      tokens_are =
          sym
          (ap (λ ts. lexemes old.tokens.items ++ ts) (tokens_as kind text state.table line refl ∙ no_tokens kind text state.table line passed)
          ∙ append-nil (lexemes old.tokens.items));
    }

-- The breach at a line's `#`.
abbrev pub hash_breach : List SourceByte → Breach
hash_breach line = breach statics.BadMacro (first_place (pieces_in line))

pub unknown_found : (text : List ℕ) (state : State) (line : List SourceByte) (early : Option Breach) → line_kind (bytes_of line) ≡ kinds.Unknown
    → IsFound early (bad_bytes line ++ unended_comments text line) → IsFound (least_of early (Some (hash_breach line))) (line_breaches text state (line_of line))
unknown_found text state line early is found =
    kind_found kinds.Unknown text state line early (Some (hash_breach line)) is found (in_front (hash_breach line) [] (All-nil (λ c. (hash_breach line).place ≤ c.place)))

-- The name of an `#undef` line.
abbrev pub undef_name : (text : List ℕ) → List SourceByte → Option (List ℕ)
undef_name text line = only_name (words_of text (drop 2 (pieces_in line))) (failure_of (drop 2 (pieces_in line)))

undef_late : (text : List ℕ) (state : State) (line : List SourceByte) → (o : Option (List ℕ)) → undef_name text line ≡ o
    → late_of kinds.Undef text state line ≡ elim o [ None ↦ hash_breach line ∷ [] | Some name ↦ [] ]
undef_late text state line o is = by o (sym (undefined_is text (pieces_of line)) ∙ is)
  where
    by : (o : Option (List ℕ)) → undefined_of (pieces_of line) ≡ o → late_of kinds.Undef text state line ≡ elim o [ None ↦ hash_breach line ∷ [] | Some name ↦ [] ]
    by None e = ap (λ (f : Option (List ℕ)). (cond (is_none f) (hash_breach line ∷ []) []) ++ ([] ++ [])) e
    by (Some name) e = ap (λ (f : Option (List ℕ)). (cond (is_none f) (hash_breach line ∷ []) []) ++ ([] ++ [])) e

pub undef_malformed : (text : List ℕ) (state : State) (line : List SourceByte) (early : Option Breach) → line_kind (bytes_of line) ≡ kinds.Undef
    → IsFound early (bad_bytes line ++ unended_comments text line) → undef_name text line ≡ None
    → IsFound (least_of early (Some (hash_breach line))) (line_breaches text state (line_of line))
undef_malformed text state line early is found none =
    kind_found kinds.Undef text state line early (Some (hash_breach line)) is found
    (subst (IsFirst (hash_breach line)) (sym (undef_late text state line None none)) (in_front (hash_breach line) [] (All-nil (λ c. (hash_breach line).place ≤ c.place))))

pub undef_found : (text : List ℕ) (state : State) (line : List SourceByte) (early : Option Breach) (name : List ℕ) → line_kind (bytes_of line) ≡ kinds.Undef
    → IsFound early (bad_bytes line ++ unended_comments text line) → undef_name text line ≡ Some name → IsFound early (line_breaches text state (line_of line))
undef_found text state line early name is found named =
    subst (λ f. IsFound f (line_breaches text state (line_of line))) (least_alone early) (kind_found kinds.Undef text state line early None is found (undef_late text state line (Some name) named))
  where
    least_alone : (e : Option Breach) → least_of e None ≡ e
    least_alone None = refl
    least_alone (Some e) = refl

pub undef_done : (text : List ℕ) (line : List SourceByte) (old new : Brought) (early : Option Breach) (name : List ℕ) → line_kind (bytes_of line) ≡ kinds.Undef
    → IsFound early (bad_bytes line ++ unended_comments text line) → undef_name text line ≡ Some name → early ≡ None
    → table_of new.macros ≡ undefined (table_of old.macros) name → new.counts.tokens ≡ old.counts.tokens → new.counts.names ≡ old.counts.names
    → lexemes new.tokens.items ≡ lexemes old.tokens.items → IsLexed text line old new
undef_done text line old new early name is found named none table tokens names same =
    let state = state_of old in
    let there : undefined_of (pieces_of line) ≡ Some name = sym (undefined_is text (pieces_of line)) ∙ named in
    record {
      unbroken = subst (λ f. IsFound f (line_breaches text state (line_of line))) none (undef_found text state line early name is found named);
      state_is =
          ap (λ t. record { table = t; tokens = new.counts.tokens; names = new.counts.names }) (table ∙ sym (ap (without_name state.table) there))
          ∙ (ap₂ (λ t n. record { table = table_by kinds.Undef state.table (pieces_of line); tokens = t; names = n }) (omega (arith, tokens)) (omega (arith, names))
          ∙ sym (behind_as kinds.Undef state line is));
      tokens_are =
          same ∙ (sym (append-nil (lexemes old.tokens.items)) ∙ ap (λ ts. lexemes old.tokens.items ++ ts) (sym (tokens_as kinds.Undef text state.table line is)));
    }
