-- Erasing twice is erasing once.
use Rattle.std.proofs.Common.{◌≡◌, ℕ, zero, suc, ◌+◌, ◌<◌, ◌≤◌, ◌⊎◌, Bool, true, false, List, [], ◌∷◌, ◌++◌, length, take, cond, refl, ap, ap₂, sym, ◌∙◌, subst, inl, inr, arith, length-append, append_assoc, take_at}
use Rattle.std.specs.Prelude.{filter, slice_range, ◌==◌}
use Rattle.std.proofs.Math.Seq.{take-length}
use Rattle.std.proofs.lemmas.List.{append-nil}
use Rattle.std.proofs.lemmas.Bool.{eqb-true}
use Rattle.std.proofs.lemmas.Bool.Decides.{eqb_tells}
use Rattle.css_lexemes.specs.declared.source.SourceByte.{SourceByte}
use Rattle.css_lexemes.specs.declared.line_kind.LineKind.{LineKind}
use Rattle.css_lexemes.specs.Source.{unspliced, bytes_of}
use Rattle.css_lexemes.specs.Comments.{uncommented}
use Rattle.css_lexemes.specs.LineKinds.{line_kind}
use Rattle.css_lexemes.specs.Lines.{lines_from, shown_bytes, is_css, kept_of, erased}
use Rattle.css_lexemes.proofs.Erasing.{left_of, newline_line, other_line}
use Rattle.css_lexemes.proofs.Shifting.{all_moved, unspliced_moved, uncommented_moved, left_behind}
use Rattle.css_erased_text.proofs.SpliceCuts.{LineCut, line_cut}

-- None of the bytes is a newline.
abbrev pub IsOneLine : List SourceByte → Type 0
IsOneLine [] = Unit {0}
IsOneLine (c ∷ bytes) = (c.byte ≡ 10 → ⊥) × IsOneLine bytes

-- The first newline of some bytes.
pub record FirstNewline (bytes : List SourceByte) : Type 0 where
  pub out : List SourceByte
  pub nl : SourceByte
  pub rest : List SourceByte
  pub parts : bytes ≡ out ++ nl ∷ rest
  pub newline : nl.byte ≡ 10
  pub before : IsOneLine out

pub first_newline : (bytes : List SourceByte) → IsOneLine bytes ⊎ FirstNewline bytes
first_newline [] = inl tt
first_newline (c ∷ bytes) =
    elim (eqb_tells c.byte 10) [
      | inl t ↦ inr (record { out = []; nl = c; rest = bytes; parts = refl; newline = t.1; before = tt })
      | inr t ↦
          elim (first_newline bytes) [
            | inl one ↦ inl (t.1, one)
            | inr f ↦ inr (record { out = c ∷ f.out; nl = f.nl; rest = f.rest; parts = ap (λ z. c ∷ z) f.parts; newline = f.newline; before = (t.1, f.before) })
          ]
    ]

one_line : (from to : ℕ) (front bytes : List SourceByte) → IsOneLine bytes → lines_from from to front bytes ≡ record { bytes = front ++ bytes; from = from; to = to } ∷ []
one_line from to front [] one = ap (λ z. record { bytes = z; from = from; to = to } ∷ []) (sym (append-nil front))
one_line from to front (c ∷ bytes) one =
    other_line from to front c bytes one.0 ∙ one_line from to (front ++ c ∷ []) bytes one.1
    ∙ ap (λ z. record { bytes = z; from = from; to = to } ∷ []) (append_assoc front (c ∷ []) bytes)

first_line : (from to : ℕ) (front out : List SourceByte) (nl : SourceByte) (rest : List SourceByte) → IsOneLine out → nl.byte ≡ 10
    → lines_from from to front (out ++ nl ∷ rest) ≡ record { bytes = front ++ out; from = from; to = nl.place + 1 } ∷ lines_from (nl.place + 1) to [] rest
first_line from to front [] nl rest one newline =
    newline_line from to front nl rest newline ∙ ap (λ z. record { bytes = z; from = from; to = nl.place + 1 } ∷ lines_from (nl.place + 1) to [] rest) (sym (append-nil front))
first_line from to front (c ∷ out) nl rest one newline =
    other_line from to front c (out ++ nl ∷ rest) one.0 ∙ first_line from to (front ++ c ∷ []) out nl rest one.1 newline
    ∙ ap (λ z. record { bytes = z; from = from; to = nl.place + 1 } ∷ lines_from (nl.place + 1) to [] rest) (append_assoc front (c ∷ []) out)

from_start : (text : List ℕ) (n : ℕ) → slice_range text 0 n ≡ take n text
from_start text n = ap (λ k. take k text) (omega arith)

-- A text of one line.
pub erased_one : (text : List ℕ) → IsOneLine (shown_bytes text) → erased text ≡ kept_of (line_kind (bytes_of (shown_bytes text))) text
erased_one text one =
    ap (left_of text) (one_line 0 (length text) [] (shown_bytes text) one)
    ∙ append-nil (kept_of (line_kind (bytes_of (shown_bytes text))) (slice_range text 0 (length text)))
    ∙ ap (kept_of (line_kind (bytes_of (shown_bytes text)))) (from_start text (length text) ∙ take-length text)

-- A text's first line, and what follows it.
pub erased_first : (text : List ℕ) (out : List SourceByte) (nl : SourceByte) (l : LineCut text out nl) → IsOneLine out → nl.byte ≡ 10 → (others : List ℕ)
    → erased (l.before ++ 10 ∷ others) ≡ kept_of (line_kind (bytes_of out)) (l.before ++ 10 ∷ []) ++ erased others
erased_first text out nl l one newline others =
    subst (λ w. left_of w (lines_from 0 (length w) [] (shown_bytes (l.before ++ 10 ∷ others))) ≡ kept_of (line_kind (bytes_of out)) front ++ erased others) whole
    (ap (λ z. left_of (front ++ others) (lines_from 0 (length (front ++ others)) [] z)) (l.again others)
    ∙ ap (left_of (front ++ others)) (first_line 0 (length (front ++ others)) [] out nl (all_moved (length l.before + 1) (shown_bytes others)) one newline)
    ∙ ap₂ (λ p q. kept_of (line_kind (bytes_of out)) p ++ q) here there)
  where
    front : List ℕ
    front = l.before ++ 10 ∷ []

    whole : front ++ others ≡ l.before ++ 10 ∷ others
    whole = append_assoc l.before (10 ∷ []) others

    size : length front ≡ nl.place + 1
    size = let a = length-append l.before (10 ∷ []) in let b = l.at in omega (arith, a, b)

    here : slice_range (front ++ others) 0 (nl.place + 1) ≡ front
    here = from_start (front ++ others) (nl.place + 1) ∙ take_at front others (nl.place + 1) size

    there : left_of (front ++ others) (lines_from (nl.place + 1) (length (front ++ others)) [] (all_moved (length l.before + 1) (shown_bytes others))) ≡ erased others
    there =
        ap₂ (λ a b. left_of (front ++ others) (lines_from a b [] (all_moved (length l.before + 1) (shown_bytes others)))) (sym size ∙ omega arith)
        (length-append front others ∙ omega arith)
        ∙ ap (λ n. left_of (front ++ others) (lines_from (0 + length front) (length others + length front) [] (all_moved n (shown_bytes others)))) (let a = length-append l.before (10 ∷ []) in omega (arith, a))
        ∙ left_behind front others 0 (length others) [] (shown_bytes others)

-- A newline in front is a line of its own.
newline_cut : LineCut (10 ∷ []) [] (record { byte = 10; place = 0 })
newline_cut = record {
  before = [];
  behind = [];
  parts = refl;
  at = refl;
  again = λ others.
      ap (λ z. record { byte = 10; place = 0 } ∷ uncommented [] 0 0 z) (unspliced_moved 1 0 0 others)
      ∙ ap (λ z. record { byte = 10; place = 0 } ∷ z) (uncommented_moved 1 [] 0 0 (unspliced 0 0 others));
}

erased_newline : (others : List ℕ) → erased (10 ∷ others) ≡ 10 ∷ erased others
unfolding newline_cut
erased_newline others = erased_first (10 ∷ []) [] (record { byte = 10; place = 0 }) newline_cut tt refl others

abbrev pub newlines_of : List ℕ → List ℕ
newlines_of part = filter (λ b. b == 10) part

erased_newlines_first : (part others : List ℕ) → erased (newlines_of part ++ others) ≡ newlines_of part ++ erased others
erased_newlines_first [] others = refl
erased_newlines_first (b ∷ part) others = by (b == 10) refl (erased_newlines_first part others)
  where
    by : (newline : Bool) → (b == 10) ≡ newline → erased (newlines_of part ++ others) ≡ newlines_of part ++ erased others
        → erased (cond newline (b ∷ newlines_of part) (newlines_of part) ++ others) ≡ cond newline (b ∷ newlines_of part) (newlines_of part) ++ erased others
    by true is rest =
        let same : b ≡ 10 = eqb-true b 10 is in
        ap (λ z. erased (z ∷ newlines_of part ++ others)) same ∙ erased_newline (newlines_of part ++ others)
        ∙ ap (λ z. 10 ∷ z) rest ∙ ap (λ z. z ∷ newlines_of part ++ erased others) (sym same)
    by false is rest = rest

newlines_alone : (part : List ℕ) → erased (newlines_of part) ≡ newlines_of part
newlines_alone part =
    ap erased (sym (append-nil (newlines_of part))) ∙ erased_newlines_first part [] ∙ append-nil (newlines_of part)

pub kept_by : (kind : LineKind) (part : List ℕ) (css : Bool) → is_css kind ≡ css → kept_of kind part ≡ cond css (newlines_of part) part
kept_by kind part css is = ap (λ c. cond c (newlines_of part) part) is

twice_one : (text : List ℕ) (css : Bool) → erased text ≡ cond css (newlines_of text) text → erased (erased text) ≡ erased text
twice_one text true is = ap erased is ∙ newlines_alone text ∙ sym is
twice_one text false is = ap erased is

twice_more : (text part rest : List ℕ) (css : Bool) → erased text ≡ cond css (newlines_of part) part ++ rest
    → ((others : List ℕ) → erased (part ++ others) ≡ cond css (newlines_of part) part ++ erased others) → erased rest ≡ rest → erased (erased text) ≡ erased text
twice_more text part rest true is first again = ap erased is ∙ erased_newlines_first part rest ∙ ap (λ z. newlines_of part ++ z) again ∙ sym is
twice_more text part rest false is first again = ap erased is ∙ first rest ∙ ap (λ z. part ++ z) again ∙ sym is

twice_by : (text : List ℕ) → IsOneLine (shown_bytes text) ⊎ FirstNewline (shown_bytes text) → ((t : List ℕ) → length t < length text → erased (erased t) ≡ erased t) → erased (erased text) ≡ erased text
twice_by text (inl one) shorter =
    let kind = line_kind (bytes_of (shown_bytes text)) in
    twice_one text (is_css kind) (erased_one text one ∙ kept_by kind text (is_css kind) refl)
twice_by text (inr f) shorter = twice_more text part (erased l.behind) (is_css kind) (ap erased l.parts ∙ line l.behind) first (shorter l.behind fewer)
  where
    l : LineCut text f.out f.nl
    l = line_cut text f.out f.nl f.rest f.parts f.newline

    part : List ℕ
    part = l.before ++ 10 ∷ []

    kind : LineKind
    kind = line_kind (bytes_of f.out)

    line : (others : List ℕ) → erased (l.before ++ 10 ∷ others) ≡ cond (is_css kind) (newlines_of part) part ++ erased others
    line others = erased_first text f.out f.nl l f.before f.newline others ∙ ap (λ z. z ++ erased others) (kept_by kind part (is_css kind) refl)

    first : (others : List ℕ) → erased (part ++ others) ≡ cond (is_css kind) (newlines_of part) part ++ erased others
    first others = ap erased (append_assoc l.before (10 ∷ []) others) ∙ line others

    fewer : length l.behind < length text
    fewer = let a = ap length l.parts in let b = length-append l.before (10 ∷ l.behind) in omega (arith, a, b)

twice_within : (n : ℕ) (text : List ℕ) → length text ≤ n → erased (erased text) ≡ erased text
twice_within zero [] few = refl
twice_within zero (b ∷ text) few = absurd (omega (arith, few))
twice_within (suc n) text few = twice_by text (first_newline (shown_bytes text)) (λ t less. twice_within n t (omega (arith, few, less)))

pub twice : (text : List ℕ) → erased (erased text) ≡ erased text
twice text = twice_within (length text) text (omega arith)
