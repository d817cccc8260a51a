-- The lines of a text, one byte at a time.
use Rattle.std.proofs.Common.{◌≡◌, ℕ, ◌+◌, ◌<◌, ◌≤◌, inl, inr, List, [], ◌∷◌, ◌++◌, length, drop, map, sym, ap, ap₂, ◌∙◌, subst, arith, append_assoc, All}
use Rattle.std.proofs.lemmas.List.{append-nil, drop_all}
use Rattle.std.proofs.lemmas.List.Elements.{All-nil, All-append, All-push, All-weaker, All-head, All-tail}
use Rattle.std.proofs.lemmas.Bool.{cases_eq}
use Rattle.css_base.specs.Tokens.{Lexeme, lexemes}
use Rattle.css_lex.specs.declared.breach.Breach.{Breach}
use Rattle.css_lex.specs.declared.line.Brought.{Brought}
use Rattle.css_lexemes.specs.declared.source.SourceByte.{SourceByte}
use Rattle.css_lexemes.specs.Lines.{lines_from, shown_bytes}
use Rattle.css_macros.specs.MacroTables.{table_of}
use Rattle.css_lex.specs.Reading.{ReadLine}
use Rattle.css_lex.specs.Costs.{State, state_behind, at_start, over_lines}
use Rattle.css_lex.specs.Spelling.{tokens_of_line}
use Rattle.css_lex.specs.Refusals.{line_breaches, breaches}
use Rattle.css_lexemes.specs.Rising.{AreBetween}
use Rattle.css_lex.specs.Found.{IsFirst}
use Rattle.css_lex.specs.LexState.{state_of, line_of, with_pieces, read_lines, IsLexed, IsWhole}
use Rattle.css_lexemes.proofs.Erasing.{at_place, rest_at, newline_line, other_line}
use Rattle.css_lexemes.proofs.Places.{shown_between}
use Rattle.css_lex.proofs.CommentBytes.{between_from}
use Rattle.css_lex.proofs.Firsts.{AllFrom, before_others}
use Rattle.css_lex.proofs.BreachPlaces.{of_line}

abbrev pub lines_left : (from to : ℕ) (front rest : List SourceByte) → List ReadLine
lines_left from to front rest = map with_pieces (lines_from from to front rest)

abbrev pub breaches_left : (text : List ℕ) → State → List ReadLine → List Breach
breaches_left text state lines = over_lines (line_breaches text) state lines

abbrev pub tokens_left : (text : List ℕ) → State → List ReadLine → List Lexeme
tokens_left text state lines = over_lines (λ s r. tokens_of_line text s.table r) state lines

-- So many bytes of what the text shows were read; the line at hand shows `front` so far.
pub record IsReadTo (text : List ℕ) (shown : List SourceByte) (brought : Brought) (front : List SourceByte) (place : ℕ) : Type 0 where
  pub from : ℕ
  pub low : ℕ
  pub unbroken : breaches text (read_lines text) ≡ breaches_left text (state_of brought) (lines_left from (length text) front (drop place shown))
  pub tokens_are : tokens_left text at_start (read_lines text)
      ≡ lexemes brought.tokens.items ++ tokens_left text (state_of brought) (lines_left from (length text) front (drop place shown))
  pub between : AreBetween 0 (length text) front
  pub before : All (λ c. c.place < low) front
  pub behind : AreBetween low (length text) (drop place shown)

pub start_read : (text : List ℕ) (shown : List SourceByte) (brought : Brought) → shown ≡ shown_bytes text → state_of brought ≡ at_start → lexemes brought.tokens.items ≡ []
    → IsReadTo text shown brought [] 0
start_read text shown brought is start empty =
    let lines : read_lines text ≡ lines_left 0 (length text) [] shown = ap (lines_left 0 (length text) []) (sym is) in
    record {
      from = 0;
      low = 0;
      unbroken = ap₂ (breaches_left text) (sym start) lines;
      tokens_are = ap₂ (tokens_left text) (sym start) lines ∙ ap (λ ts. ts ++ tokens_left text (state_of brought) (lines_left 0 (length text) [] shown)) (sym empty);
      between = omega arith;
      before = All-nil (λ c. c.place < 0);
      behind = subst (AreBetween 0 (length text)) (sym is) (shown_between text);
    }

one_between : (low high : ℕ) (front : List SourceByte) (c : SourceByte) → AreBetween low high front → All (λ d. d.place < c.place) front → low ≤ c.place → c.place < high
    → AreBetween low high (front ++ c ∷ [])
one_between low high [] c between before lower inside = (lower, inside, omega (arith, inside))
one_between low high (d ∷ front) c between before lower inside = (
  between.0,
  between.1,
  one_between (d.place + 1) high front c between.2 (All-tail (λ e. e.place < c.place) d front before)
      (let h = All-head (λ e. e.place < c.place) d front before in omega (arith, h)) inside,
)

pub byte_read : (text : List ℕ) (shown : List SourceByte) (brought : Brought) (front all : List SourceByte) (place : ℕ) → IsReadTo text shown brought front place → place < length shown
    → ((at_place shown place).byte ≡ 10 → ⊥) → all ≡ front ++ at_place shown place ∷ [] → IsReadTo text shown brought all (place + 1)
byte_read text shown brought front all place is inside other all_are =
    let c = at_place shown place in
    let rest = rest_at shown place inside in
    let behind = subst (AreBetween is.low (length text)) rest is.behind in
    let lines : lines_left is.from (length text) front (drop place shown) ≡ lines_left is.from (length text) all (drop (place + 1) shown) =
    ap (lines_left is.from (length text) front) rest
    ∙ (ap (map with_pieces) (other_line is.from (length text) front c (drop (place + 1) shown) other) ∙ ap (λ f. lines_left is.from (length text) f (drop (place + 1) shown)) (sym all_are)) in
    let low = is.low in
    let lower = behind.0 in
    record {
      from = is.from;
      low = c.place + 1;
      unbroken = is.unbroken ∙ ap (breaches_left text (state_of brought)) lines;
      tokens_are = is.tokens_are ∙ ap (λ ls. lexemes brought.tokens.items ++ tokens_left text (state_of brought) ls) lines;
      between =
          subst (AreBetween 0 (length text)) (sym all_are)
          (one_between 0 (length text) front c is.between (All-weaker (λ d. d.place < low) (λ d. d.place < c.place) (λ d h. omega (arith, h, lower)) front is.before) (omega arith) behind.1);
      before =
          subst (All (λ d. d.place < c.place + 1)) (sym all_are)
          (All-push (λ d. d.place < c.place + 1) front c (All-weaker (λ d. d.place < low) (λ d. d.place < c.place + 1) (λ d h. omega (arith, h, lower)) front is.before) (omega arith));
      behind = behind.2;
    }

-- A line that breaks no rule.
pub line_read : (text : List ℕ) (shown : List SourceByte) (old new : Brought) (front : List SourceByte) (place : ℕ) → IsReadTo text shown old front place → place < length shown
    → (at_place shown place).byte ≡ 10 → IsLexed text front old new → IsReadTo text shown new [] (place + 1)
line_read text shown old new front place is inside newline lexed =
    let c = at_place shown place in
    let rest = drop (place + 1) shown in
    let behind = subst (AreBetween is.low (length text)) (rest_at shown place inside) is.behind in
    let others = lines_left (c.place + 1) (length text) [] rest in
    let this : ReadLine = with_pieces (record { bytes = front; from = is.from; to = c.place + 1 }) in
    let lines : lines_left is.from (length text) front (drop place shown) ≡ this ∷ others =
    ap (lines_left is.from (length text) front) (rest_at shown place inside) ∙ ap (map with_pieces) (newline_line is.from (length text) front c rest newline) in
    record {
      from = c.place + 1;
      low = c.place + 1;
      unbroken =
          is.unbroken
          ∙ (ap (breaches_left text (state_of old)) lines
          ∙ (ap (λ bs. bs ++ breaches_left text (state_behind (state_of old) this) others) lexed.unbroken ∙ ap (λ s. breaches_left text s others) (sym lexed.state_is)));
      tokens_are =
          is.tokens_are
          ∙ (ap (λ ls. lexemes old.tokens.items ++ tokens_left text (state_of old) ls) lines
          ∙ (sym (append_assoc (lexemes old.tokens.items) (tokens_of_line text (table_of old.macros) this) (tokens_left text (state_behind (state_of old) this) others))
          ∙ ap₂ (λ ts s. ts ++ tokens_left text s others) (sym lexed.tokens_are) (sym lexed.state_is)));
      between = omega arith;
      before = All-nil (λ d. d.place < c.place + 1);
      behind = behind.2;
    }

-- Breaches of later lines are later.
lines_later : (text : List ℕ) (low from to : ℕ) (state : State) (front rest : List SourceByte) → All (λ c. low ≤ c.place) front → All (λ c. low ≤ c.place) rest
    → AllFrom low (breaches_left text state (lines_left from to front rest))
lines_later text low from to state front [] all others =
    All-append (λ b. low ≤ b.place) (line_breaches text state (line_of front)) [] (of_line (λ n. low ≤ n) text state front all) (All-nil (λ b. low ≤ b.place))
lines_later text low from to state front (c ∷ rest) all others =
    let here = All-head (λ d. low ≤ d.place) c rest others in
    let more = All-tail (λ d. low ≤ d.place) c rest others in
    elim (cases_eq c.byte 10) [
      | inl newline ↦
          subst (λ ls. AllFrom low (breaches_left text state (map with_pieces ls))) (sym (newline_line from to front c rest newline))
          (All-append (λ b. low ≤ b.place) (line_breaches text state (line_of front)) _ (of_line (λ n. low ≤ n) text state front all)
          (lines_later text low (c.place + 1) to (state_behind state (with_pieces (record { bytes = front; from = from; to = c.place + 1 }))) [] rest (All-nil (λ d. low ≤ d.place)) more))
      | inr other ↦
          subst (λ ls. AllFrom low (breaches_left text state (map with_pieces ls))) (sym (other_line from to front c rest other))
          (lines_later text low from to state (front ++ c ∷ []) rest (All-push (λ d. low ≤ d.place) front c all here) more)
    ]

first_inside : (P : ℕ → Type 0) (b : Breach) (these : List Breach) → IsFirst b these → All (λ c. P c.place) these → P b.place
first_inside P b these first all =
    let parts : All (λ c. P c.place) (first.front ++ b ∷ first.back) = subst (All (λ c. P c.place)) first.parts all in
    by first.front parts
  where
    by : (front : List Breach) → All (λ c. P c.place) (front ++ b ∷ first.back) → P b.place
    by [] here = All-head (λ c. P c.place) b first.back here
    by (f ∷ front) here = by front (All-tail (λ c. P c.place) f (front ++ b ∷ first.back) here)

-- The first breach of the first line that has one is the text's.
pub line_broken : (text : List ℕ) (shown : List SourceByte) (old : Brought) (front : List SourceByte) (place : ℕ) (b : Breach) → IsReadTo text shown old front place → place < length shown
    → (at_place shown place).byte ≡ 10 → IsFirst b (line_breaches text (state_of old) (line_of front)) → IsFirst b (breaches text (read_lines text))
line_broken text shown old front place b is inside newline first =
    let c = at_place shown place in
    let rest = drop (place + 1) shown in
    let behind = subst (AreBetween is.low (length text)) (rest_at shown place inside) is.behind in
    let others = lines_left (c.place + 1) (length text) [] rest in
    let this : ReadLine = with_pieces (record { bytes = front; from = is.from; to = c.place + 1 }) in
    let lines : lines_left is.from (length text) front (drop place shown) ≡ this ∷ others =
    ap (lines_left is.from (length text) front) (rest_at shown place inside) ∙ ap (map with_pieces) (newline_line is.from (length text) front c rest newline) in
    let low = is.low in
    let before : b.place < low = first_inside (λ n. n < low) b (line_breaches text (state_of old) (line_of front)) first (of_line (λ n. n < low) text (state_of old) front is.before) in
    let lower = behind.0 in
    let later = between_from (c.place + 1) (length text) rest behind.2 in
    subst (IsFirst b) (sym (is.unbroken ∙ ap (breaches_left text (state_of old)) lines))
    (before_others b (line_breaches text (state_of old) (line_of front)) (breaches_left text (state_behind (state_of old) this) others) first
    (lines_later text b.place (c.place + 1) (length text) (state_behind (state_of old) this) [] rest (All-nil (λ d. b.place ≤ d.place))
    (All-weaker (λ d. c.place + 1 ≤ d.place) (λ d. b.place ≤ d.place) (λ d h. omega (arith, h, before, lower)) rest later)))

last_lines : (text : List ℕ) (shown : List SourceByte) (from : ℕ) (front : List SourceByte) (place : ℕ) → length shown ≤ place
    → lines_left from (length text) front (drop place shown) ≡ with_pieces (record { bytes = front; from = from; to = length text }) ∷ []
last_lines text shown from front place end = ap (lines_left from (length text) front) (drop_all place shown end)

-- The last line.
pub last_read : (text : List ℕ) (shown : List SourceByte) (old new : Brought) (front : List SourceByte) (place : ℕ) → IsReadTo text shown old front place → length shown ≤ place
    → IsLexed text front old new → IsWhole text new
last_read text shown old new front place is end lexed =
    let lines = last_lines text shown is.from front place end in
    record {
      unbroken = is.unbroken ∙ (ap (breaches_left text (state_of old)) lines ∙ (append-nil (line_breaches text (state_of old) (line_of front)) ∙ lexed.unbroken));
      tokens_are =
          lexed.tokens_are
          ∙ sym
          (is.tokens_are
          ∙ (ap (λ ls. lexemes old.tokens.items ++ tokens_left text (state_of old) ls) lines
          ∙ ap (λ ts. lexemes old.tokens.items ++ ts) (append-nil (tokens_of_line text (table_of old.macros) (line_of front)))));
    }

pub last_broken : (text : List ℕ) (shown : List SourceByte) (old : Brought) (front : List SourceByte) (place : ℕ) (b : Breach) → IsReadTo text shown old front place → length shown ≤ place
    → IsFirst b (line_breaches text (state_of old) (line_of front)) → IsFirst b (breaches text (read_lines text))
last_broken text shown old front place b is end first =
    subst (IsFirst b)
    (sym (is.unbroken ∙ (ap (breaches_left text (state_of old)) (last_lines text shown is.from front place end) ∙ append-nil (line_breaches text (state_of old) (line_of front))))) first
