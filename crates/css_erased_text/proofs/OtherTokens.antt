-- The tokens of a text without its directives.
use Rattle.std.proofs.Common.{◌≡◌, ℕ, Bool, true, false, not, List, [], ◌∷◌, ◌++◌, cond, refl, ap, sym, ◌∙◌, subst, arith, le_trans, Option, Some, None, option_map, All}
use Rattle.std.specs.Prelude.{IsTrue, nat_lt}
use Rattle.std.proofs.lemmas.List.Elements.{All-nil, All-cons}
use Rattle.css_base.specs.declared.static_fault.StaticFault.{StaticFault}
use Rattle.css_base.specs.Tokens.{Kind, Word, Number, Character, Text, Punctuator, Directive, Lexeme, At}
use Rattle.css_lex.specs.declared.breach.Breach.{Breach}
use Rattle.css_lexemes.specs.Lines.{erased}
use Rattle.css_lex.specs.Costs.{at_start, over_lines}
use Rattle.css_lex.specs.LexState.{read_lines}
use Rattle.css_lex.specs.Spelling.{join, joined, line_at, tokens_of_line, tokens_of_lines}
use Rattle.css_lex.specs.Refusals.{first_breach, breaches, line_breaches, refusal}
use Rattle.css_lex.specs.Lexing.{SpellsTokens}
use Rattle.css_lex.specs.WithoutDirectives.{is_directive, is_string, without_directives, kind_and_line, kinds_and_lines, HasPartedStrings, SpellsTheOthers}
use Rattle.css_lex.proofs.Readings.{one_way, spells}
use Rattle.css_erased_text.proofs.PlainTables.{predefined_plain}
use Rattle.css_erased_text.proofs.AlikeLines.{AreKept, lines_breaches, kept}
use Rattle.css_erased_text.proofs.LeftLines.{lines_shown, lines_give, IsLeftOf, erased_left}

-- Joining goes by the tokens' kinds and lines.
abbrev join_kinds : Kind × ℕ → List (Kind × ℕ) → List (Kind × ℕ)
join_kinds (Text a, line) ((Text b, next) ∷ tokens) = (Text (a ++ b), line) ∷ tokens
join_kinds token tokens = token ∷ tokens

abbrev joined_kinds : List (Kind × ℕ) → List (Kind × ℕ)
joined_kinds [] = []
joined_kinds (token ∷ tokens) = join_kinds token (joined_kinds tokens)

join_by_kinds : (token : Lexeme) (tokens : List Lexeme) → kinds_and_lines (join token tokens) ≡ join_kinds (kind_and_line token) (kinds_and_lines tokens)
join_by_kinds (At (Text a) line place end) [] = refl
join_by_kinds (At (Text a) line place end) (At (Text b) l p e ∷ tokens) = refl
join_by_kinds (At (Text a) line place end) (At (Word b) l p e ∷ tokens) = refl
join_by_kinds (At (Text a) line place end) (At (Number b v) l p e ∷ tokens) = refl
join_by_kinds (At (Text a) line place end) (At (Character b) l p e ∷ tokens) = refl
join_by_kinds (At (Text a) line place end) (At (Punctuator b) l p e ∷ tokens) = refl
join_by_kinds (At (Text a) line place end) (At (Directive b) l p e ∷ tokens) = refl
join_by_kinds (At (Word a) line place end) tokens = refl
join_by_kinds (At (Number a v) line place end) tokens = refl
join_by_kinds (At (Character a) line place end) tokens = refl
join_by_kinds (At (Punctuator a) line place end) tokens = refl
join_by_kinds (At (Directive a) line place end) tokens = refl

joined_by_kinds : (tokens : List Lexeme) → kinds_and_lines (joined tokens) ≡ joined_kinds (kinds_and_lines tokens)
joined_by_kinds [] = refl
joined_by_kinds (token ∷ tokens) = join_by_kinds token (joined tokens) ∙ ap (join_kinds (kind_and_line token)) (joined_by_kinds tokens)

same_joined : (these those : List Lexeme) → kinds_and_lines these ≡ kinds_and_lines those → kinds_and_lines (joined these) ≡ kinds_and_lines (joined those)
same_joined these those same = joined_by_kinds these ∙ ap joined_kinds same ∙ sym (joined_by_kinds those)

-- A token in front of others that parts strings.
behind_parts : (token : Lexeme) (tokens : List Lexeme) → HasPartedStrings tokens → HasPartedStrings (token ∷ tokens)
behind_parts token tokens h = record {
  front = token ∷ h.front;
  first = h.first;
  between = h.between;
  second = h.second;
  back = h.back;
  parts = ap (λ z. token ∷ z) h.parts;
  strings = h.strings;
  directives = h.directives;
}

first_of : (a b : Lexeme) (these those : List Lexeme) → a ∷ these ≡ b ∷ those → (a ≡ b) × (these ≡ those)
first_of a b these those e = (cc, cc)

-- A string that grows in front still parts.
longer_parts : (a b : List ℕ) (line place l p e : ℕ) (tokens front between back : List Lexeme) (first second : Lexeme)
    → At (Text b) l p e ∷ tokens ≡ front ++ first ∷ (between ++ second ∷ back) → IsTrue (is_string first) × IsTrue (is_string second)
    → All (λ t. IsTrue (is_directive t)) between → HasPartedStrings (At (Text (a ++ b)) line place e ∷ tokens)
longer_parts a b line place l p e tokens [] between back first second parts strings directives =
    let both = first_of (At (Text b) l p e) first tokens (between ++ second ∷ back) parts in
    record {
      front = [];
      first = At (Text (a ++ b)) line place e;
      between = between;
      second = second;
      back = back;
      parts = ap (λ z. At (Text (a ++ b)) line place e ∷ z) both.1;
      strings = (refl, strings.1);
      directives = directives;
    }
longer_parts a b line place l p e tokens (f ∷ front) between back first second parts strings directives =
    let both = first_of (At (Text b) l p e) f tokens (front ++ first ∷ (between ++ second ∷ back)) parts in
    record {
      front = At (Text (a ++ b)) line place e ∷ front;
      first = first;
      between = between;
      second = second;
      back = back;
      parts = ap (λ z. At (Text (a ++ b)) line place e ∷ z) both.1;
      strings = strings;
      directives = directives;
    }

joins_parts : (token : Lexeme) (tokens : List Lexeme) → HasPartedStrings tokens → HasPartedStrings (join token tokens)
joins_parts (At (Text a) line place end) [] h = behind_parts (At (Text a) line place end) [] h
joins_parts (At (Text a) line place end) (At (Text b) l p e ∷ tokens) h =
    longer_parts a b line place l p e tokens h.front h.between h.back h.first h.second h.parts h.strings h.directives
joins_parts (At (Text a) line place end) (At (Word b) l p e ∷ tokens) h = behind_parts (At (Text a) line place end) (At (Word b) l p e ∷ tokens) h
joins_parts (At (Text a) line place end) (At (Number b v) l p e ∷ tokens) h = behind_parts (At (Text a) line place end) (At (Number b v) l p e ∷ tokens) h
joins_parts (At (Text a) line place end) (At (Character b) l p e ∷ tokens) h = behind_parts (At (Text a) line place end) (At (Character b) l p e ∷ tokens) h
joins_parts (At (Text a) line place end) (At (Punctuator b) l p e ∷ tokens) h = behind_parts (At (Text a) line place end) (At (Punctuator b) l p e ∷ tokens) h
joins_parts (At (Text a) line place end) (At (Directive b) l p e ∷ tokens) h = behind_parts (At (Text a) line place end) (At (Directive b) l p e ∷ tokens) h
joins_parts (At (Word a) line place end) tokens h = behind_parts (At (Word a) line place end) tokens h
joins_parts (At (Number a v) line place end) tokens h = behind_parts (At (Number a v) line place end) tokens h
joins_parts (At (Character a) line place end) tokens h = behind_parts (At (Character a) line place end) tokens h
joins_parts (At (Punctuator a) line place end) tokens h = behind_parts (At (Punctuator a) line place end) tokens h
joins_parts (At (Directive a) line place end) tokens h = behind_parts (At (Directive a) line place end) tokens h

-- Directives and a string behind them.
record StringBehind (tokens : List Lexeme) : Type 0 where
  pub between : List Lexeme
  pub second : Lexeme
  pub back : List Lexeme
  pub parts : tokens ≡ between ++ second ∷ back
  pub string : IsTrue (is_string second)
  pub directives : All (λ t. IsTrue (is_directive t)) between

no_string_first : (a : List ℕ) (line place end : ℕ) (tokens : List Lexeme) → (StringBehind tokens → ⊥)
    → join (At (Text a) line place end) (without_directives tokens) ≡ At (Text a) line place end ∷ without_directives tokens
no_string_first a line place end [] none = refl
no_string_first a line place end (At (Text b) l p e ∷ tokens) none =
    absurd (none (record { between = []; second = At (Text b) l p e; back = tokens; parts = refl; string = refl; directives = All-nil (λ t. IsTrue (is_directive t)) }))
no_string_first a line place end (At (Word b) l p e ∷ tokens) none = refl
no_string_first a line place end (At (Number b v) l p e ∷ tokens) none = refl
no_string_first a line place end (At (Character b) l p e ∷ tokens) none = refl
no_string_first a line place end (At (Punctuator b) l p e ∷ tokens) none = refl
no_string_first a line place end (At (Directive b) l p e ∷ tokens) none =
    no_string_first a line place end tokens
    (λ s. none (record {
      between = At (Directive b) l p e ∷ s.between;
      second = s.second;
      back = s.back;
      parts = ap (λ z. At (Directive b) l p e ∷ z) s.parts;
      string = s.string;
      directives = All-cons (λ t. IsTrue (is_directive t)) (At (Directive b) l p e) s.between refl s.directives;
    }))

-- A directive behind a string.
directive_behind : (a : List ℕ) (line place end : ℕ) (tokens : List Lexeme) → StringBehind tokens → HasPartedStrings (At (Text a) line place end ∷ tokens)
directive_behind a line place end tokens s = record {
  front = [];
  first = At (Text a) line place end;
  between = s.between;
  second = s.second;
  back = s.back;
  parts = ap (λ z. At (Text a) line place end ∷ z) s.parts;
  strings = (refl, s.string);
  directives = s.directives;
}

-- One more token: where no strings are parted, it makes no difference whether strings are joined before the directives go.
join_kept : (token : Lexeme) (tokens : List Lexeme) → (HasPartedStrings (join token tokens) → ⊥)
    → without_directives (join token tokens) ≡ cond (not (is_directive token)) (join token (without_directives tokens)) (without_directives tokens)
join_kept (At (Text a) line place end) [] none = refl
join_kept (At (Text a) line place end) (At (Text b) l p e ∷ tokens) none = refl
join_kept (At (Text a) line place end) (At (Word b) l p e ∷ tokens) none = refl
join_kept (At (Text a) line place end) (At (Number b v) l p e ∷ tokens) none = refl
join_kept (At (Text a) line place end) (At (Character b) l p e ∷ tokens) none = refl
join_kept (At (Text a) line place end) (At (Punctuator b) l p e ∷ tokens) none = refl
join_kept (At (Text a) line place end) (At (Directive b) l p e ∷ tokens) none =
    sym (no_string_first a line place end (At (Directive b) l p e ∷ tokens) (λ s. none (directive_behind a line place end (At (Directive b) l p e ∷ tokens) s)))
join_kept (At (Word a) line place end) tokens none = refl
join_kept (At (Number a v) line place end) tokens none = refl
join_kept (At (Character a) line place end) tokens none = refl
join_kept (At (Punctuator a) line place end) tokens none = refl
join_kept (At (Directive a) line place end) tokens none = refl

joined_cond : (b : Bool) (token : Lexeme) (tokens : List Lexeme) → cond b (join token (joined tokens)) (joined tokens) ≡ joined (cond b (token ∷ tokens) tokens)
joined_cond true token tokens = refl
joined_cond false token tokens = refl

joined_kept : (tokens : List Lexeme) → (HasPartedStrings (joined tokens) → ⊥) → without_directives (joined tokens) ≡ joined (without_directives tokens)
joined_kept [] none = refl
joined_kept (token ∷ tokens) none =
    join_kept token (joined tokens) none
    ∙ ap (λ z. cond (not (is_directive token)) (join token z) z) (joined_kept tokens (λ h. none (joins_parts token (joined tokens) h)))
    ∙ joined_cond (not (is_directive token)) token (without_directives tokens)

-- What is no refusal is no breach.
some_found : (b : Breach) (found : Option Breach)
    → ◌≡◌ {A = Option Breach} (elim found [ None ↦ Some b | Some c ↦ cond (nat_lt c.place b.place) (Some c) (Some b) ]) None → ⊥
some_found b None e = cc
some_found b (Some c) e = by (nat_lt c.place b.place) e
  where
    by : (lesser : Bool) → ◌≡◌ {A = Option Breach} (cond lesser (Some c) (Some b)) None → ⊥
    by true e = cc
    by false e = cc

no_breach : (found : List Breach) → first_breach found ≡ None → found ≡ []
no_breach [] none = refl
no_breach (b ∷ found) none = absurd (some_found b (first_breach found) none)

abbrev fault_at : (text : List ℕ) → Breach → StaticFault
fault_at text b = record { name = b.name; line = line_at text b.place }

no_fault : (text : List ℕ) (found : Option Breach) → option_map (fault_at text) found ≡ None → found ≡ None
no_fault text None none = refl
no_fault text (Some b) none = absurd cc

pub others_spelled : (text : List ℕ) (tokens : List Lexeme) → SpellsTokens text tokens → (HasPartedStrings tokens → ⊥) → SpellsTheOthers text tokens
others_spelled text tokens spelled apart = record {
  others = tokens_of_lines left (read_lines left);
  spelled =
      spells left (tokens_of_lines left (read_lines left)) (le_trans is_left.shorter spelled.short)
      (lines_give (line_breaches left) (λ s l. refl) left ∙ are_kept.unbroken) refl;
  same =
      same_joined (tokens_read left) (without_directives (tokens_read text))
      (ap kinds_and_lines (lines_give (λ s r. tokens_of_line left s.table r) (λ s l. refl) left)
      ∙ are_kept.tokens_same
      ∙ ap (λ z. kinds_and_lines (without_directives z)) (sym (lines_give (λ s r. tokens_of_line text s.table r) (λ s l. refl) text)))
      ∙ ap kinds_and_lines (sym (joined_kept (tokens_read text) (λ h. apart (subst HasPartedStrings (sym tokens_are) h))) ∙ ap without_directives (sym tokens_are));
}
  where
    left : List ℕ
    left = erased text

    tokens_read : List ℕ → List Lexeme
    tokens_read text = over_lines (λ s r. tokens_of_line text s.table r) at_start (read_lines text)

    tokens_are : tokens ≡ joined (tokens_read text)
    tokens_are = spelled.tokens_are ∙ ap (tokens_of_lines text) (one_way text spelled.lines spelled.reads)

    unbroken : lines_breaches text at_start (lines_shown text) ≡ []
    unbroken =
        sym (lines_give (line_breaches text) (λ s l. refl) text)
        ∙ no_breach (breaches text (read_lines text))
        (no_fault text (first_breach (breaches text (read_lines text))) (sym (ap (refusal text) (one_way text spelled.lines spelled.reads)) ∙ spelled.unbroken))

    is_left : IsLeftOf text left
    is_left = erased_left text

    are_kept : AreKept text left at_start at_start (lines_shown text) (lines_shown left)
    are_kept = kept text left is_left.lines at_start at_start (record { table_same = refl; tokens_less = omega arith; names_less = omega arith }) predefined_plain unbroken
