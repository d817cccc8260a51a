-- A text's lines and pieces, and what it spells or breaks.
use Rattle.std.proofs.Common.{◌≡◌, ◌⊎◌, ℕ, ◌<◌, ◌≤◌, inl, inr, List, [], ◌∷◌, length, map, refl, sym, ap, ap₂, ◌∙◌, arith, All, Option, Some, None, option_map}
use Rattle.std.proofs.lemmas.Bool.{cases_lt}
use Rattle.std.proofs.lemmas.List.Elements.{All-nil, All-cons, All-head, All-tail}
use Rattle.css_base.specs.declared.static_fault.StaticFault.{StaticFault}
use Rattle.css_base.specs.declared.static_fault.StaticName.TheVariants as names
use Rattle.css_base.specs.Tokens.{Lexeme}
use Rattle.css_lex.specs.declared.breach.Breach.{Breach}
use Rattle.css_lexemes.specs.Lines.{LogicalLine, logical_lines}
use Rattle.css_lexemes.specs.Lexemes.{ConsistsOf}
use Rattle.css_lex.specs.Reading.{ReadLine, Reads}
use Rattle.css_lex.specs.Spelling.{line_at, tokens_of_lines}
use Rattle.css_lex.specs.Refusals.{breaches, first_breach, refusal}
use Rattle.css_lex.specs.Lexing.{longest_text, SpellsTokens, BreaksFirst, IsRefused}
use Rattle.css_lex.specs.Found.{IsFirst}
use Rattle.css_lex.specs.LexState.{with_pieces, read_lines}
use Rattle.css_lex.proofs.Firsts.{first_is}
use Rattle.css_lexemes.proofs.LinePieces.{consists, only}

abbrev Consist : List ReadLine → Type 0
Consist lines = All (λ r. ConsistsOf r.line.bytes r.pieces) lines

lines_consist : (lines : List LogicalLine) → Consist (map with_pieces lines)
lines_consist [] = All-nil (λ r. ConsistsOf r.line.bytes r.pieces)
lines_consist (line ∷ lines) = All-cons (λ r. ConsistsOf r.line.bytes r.pieces) (with_pieces line) (map with_pieces lines) (consists line.bytes) (lines_consist lines)

lines_same : (lines : List LogicalLine) → map (λ (r : ReadLine). r.line) (map with_pieces lines) ≡ lines
lines_same [] = refl
lines_same (line ∷ lines) = ap (λ ls. line ∷ ls) (lines_same lines)

-- A text is read as its lines with their pieces, and no other way.
pub is_read : (text : List ℕ) → Reads text (read_lines text)
is_read text = (lines_same (logical_lines text), lines_consist (logical_lines text))

only_lines : (lines : List ReadLine) → Consist lines → lines ≡ map with_pieces (map (λ (r : ReadLine). r.line) lines)
only_lines [] all = refl
only_lines (r ∷ lines) all =
    ap₂ (λ ps ls. record { line = r.line; pieces = ps } ∷ ls) (only r.line.bytes r.pieces (All-head (λ r. ConsistsOf r.line.bytes r.pieces) r lines all))
    (only_lines lines (All-tail (λ r. ConsistsOf r.line.bytes r.pieces) r lines all))

pub one_way : (text : List ℕ) (lines : List ReadLine) → Reads text lines → lines ≡ read_lines text
one_way text lines reads = only_lines lines reads.1 ∙ ap (map with_pieces) reads.0

fault_at : (text : List ℕ) → Breach → StaticFault
fault_at text b = record { name = b.name; line = line_at text b.place }

pub spells : (text : List ℕ) (tokens : List Lexeme) → length text ≤ longest_text → breaches text (read_lines text) ≡ [] → tokens ≡ tokens_of_lines text (read_lines text)
    → SpellsTokens text tokens
spells text tokens short unbroken tokens_are = record {
  lines = read_lines text;
  short = short;
  reads = is_read text;
  unbroken = ap (λ bs. option_map (λ (b : Breach). record { name = b.name; line = line_at text b.place }) (first_breach bs)) unbroken;
  tokens_are = tokens_are;
}

pub breaks : (text : List ℕ) (b : Breach) (fault : StaticFault) → length text ≤ longest_text → IsFirst b (breaches text (read_lines text))
    → fault ≡ record { name = b.name; line = line_at text b.place } → BreaksFirst text fault
breaks text b fault short first fault_is = record {
  lines = read_lines text;
  short = short;
  reads = is_read text;
  broken =
      ap (option_map (λ (c : Breach). record { name = c.name; line = line_at text c.place })) (first_is b (breaches text (read_lines text)) first) ∙ sym (ap Some fault_is);
}

same_refusal : (text : List ℕ) (lines : List ReadLine) → Reads text lines → refusal text lines ≡ refusal text (read_lines text)
same_refusal text lines reads = ap (refusal text) (one_way text lines reads)

pub one_spelling : (text : List ℕ) (these those : List Lexeme) → SpellsTokens text these → SpellsTokens text those → these ≡ those
one_spelling text these those a b =
    (a.tokens_are ∙ ap (tokens_of_lines text) (one_way text a.lines a.reads)) ∙ sym (b.tokens_are ∙ ap (tokens_of_lines text) (one_way text b.lines b.reads))

pub not_both : (text : List ℕ) (tokens : List Lexeme) (fault : StaticFault) → SpellsTokens text tokens → IsRefused text fault → ⊥
not_both text tokens fault a (inl long) = let s = a.short in omega (arith, s, long.0)
not_both text tokens fault a (inr b) =
    let e : None ≡ Some fault = sym a.unbroken ∙ (same_refusal text a.lines a.reads ∙ (sym (same_refusal text b.lines b.reads) ∙ b.broken)) in cc

pub one_refusal : (text : List ℕ) (this that : StaticFault) → IsRefused text this → IsRefused text that → this ≡ that
one_refusal text this that (inl a) (inl b) = a.1 ∙ sym b.1
one_refusal text this that (inl a) (inr b) = let s = b.short in absurd (omega (arith, s, a.0))
one_refusal text this that (inr a) (inl b) = let s = a.short in absurd (omega (arith, s, b.0))
one_refusal text this that (inr a) (inr b) =
    let e : Some this ≡ Some that = sym a.broken ∙ (same_refusal text a.lines a.reads ∙ (sym (same_refusal text b.lines b.reads) ∙ b.broken)) in cc

-- ---- each text has tokens or a refusal

abbrev LexedOrRefused : List ℕ → Type 0
LexedOrRefused text = ((tokens : List Lexeme) × SpellsTokens text tokens) ⊎ ((fault : StaticFault) × IsRefused text fault)

by_refusal : (text : List ℕ) → length text ≤ longest_text → (found : Option StaticFault) → refusal text (read_lines text) ≡ found → LexedOrRefused text
by_refusal text short None is =
    inl (tokens_of_lines text (read_lines text), record { lines = read_lines text; short = short; reads = is_read text; unbroken = is; tokens_are = refl })
by_refusal text short (Some fault) is = inr (fault, inr (record { lines = read_lines text; short = short; reads = is_read text; broken = is }))

by_length : (text : List ℕ) → (longest_text < length text) ⊎ (length text ≤ longest_text) → LexedOrRefused text
by_length text (inl long) = inr (record { name = names.TooLong; line = 1 }, inl (long, refl))
by_length text (inr short) = by_refusal text short (refusal text (read_lines text)) refl

pub lexed_or_refused : (text : List ℕ) → LexedOrRefused text
lexed_or_refused text = by_length text (cases_lt longest_text (length text))
