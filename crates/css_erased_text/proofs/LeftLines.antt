-- The lines of a text without its directives are the text's other lines, and empty ones.
use Rattle.std.proofs.Common.{◌≡◌, ℕ, zero, suc, ◌+◌, ◌<◌, ◌≤◌, ◌⊎◌, inl, inr, Bool, true, false, ◌&&◌, List, [], ◌∷◌, ◌++◌, length, take, drop, map, cond, refl, ap, ap₂, sym, ◌∙◌, subst, arith, length-append, append_assoc}
use Rattle.std.specs.Prelude.{◌==◌, if◌then◌else◌}
use Rattle.std.specs.List.{AllZip}
use Rattle.std.proofs.Math.Seq.{take-append-add, drop-append-add}
use Rattle.std.proofs.lemmas.Bool.{eqb-true, eq-eqb, ne_eqb}
use Rattle.std.proofs.lemmas.List.{map-append, append-nil, take-append-le}
use Rattle.std.proofs.lemmas.List.Sums.{sum_by-append, length-filter, count_by-le-length}
use Rattle.css_lexemes.specs.declared.line_kind.LineKind.{LineKind}
use Rattle.css_lexemes.specs.declared.line_kind.LineKind.TheVariants as kinds
use Rattle.css_lexemes.specs.declared.source.SourceByte.{SourceByte}
use Rattle.css_lexemes.specs.Source.{unspliced, bytes_of}
use Rattle.css_lexemes.specs.Comments.{uncommented}
use Rattle.css_lexemes.specs.LineKinds.{line_kind}
use Rattle.css_lexemes.specs.Lines.{LogicalLine, lines_from, shown_bytes, logical_lines, is_css, newlines, erased}
use Rattle.css_lex.specs.Costs.{State, state_behind, at_start, over_lines}
use Rattle.css_lex.specs.CommentEnd.{plain_bytes}
use Rattle.css_lexemes.specs.Rising.{AreBetween}
use Rattle.css_lex.specs.Reading.{ReadLine}
use Rattle.css_lex.specs.LexState.{line_of, with_pieces}
use Rattle.css_lex.specs.Spelling.{line_at}
use Rattle.css_lex.specs.Refusals.{is_unended}
use Rattle.css_lexemes.proofs.Places.{shown_between}
use Rattle.css_erased_text.proofs.Counting.{filtered}
use Rattle.css_lexemes.proofs.Shifting.{moved, all_moved, moved_bytes, unspliced_moved, uncommented_moved}
use Rattle.css_erased_text.proofs.SpliceCuts.{LineCut, line_cut}
use Rattle.css_lex.proofs.CommentBytes.{plain_moved}
use Rattle.css_erased_text.proofs.Twice.{IsOneLine, FirstNewline, first_newline, erased_one, erased_first, newlines_of, kept_by}
use Rattle.css_erased_text.proofs.Pairwise.{zip_map, zip_weaker}
use Rattle.css_erased_text.proofs.Alike.{SameByte, is_unended_at}
use Rattle.css_erased_text.proofs.EndedComments.{AreEnded, shown_ended}
use Rattle.css_erased_text.proofs.AlikeLines.{SameLines, no_lines, same_line, directive_line, empty_line}

-- What lines show.
abbrev split : (front bytes : List SourceByte) → List (List SourceByte)
split front [] = front ∷ []
split front (c ∷ bytes) = if c.byte == 10 then front ∷ split [] bytes else split (front ++ c ∷ []) bytes

abbrev pub lines_shown : List ℕ → List (List SourceByte)
lines_shown text = split [] (shown_bytes text)

abbrev bytes_shown : List LogicalLine → List (List SourceByte)
bytes_shown lines = map (λ l. l.bytes) lines

split_is : (from to : ℕ) (front bytes : List SourceByte) → bytes_shown (lines_from from to front bytes) ≡ split front bytes
split_is from to front [] = refl
split_is from to front (c ∷ bytes) = by (c.byte == 10) (split_is (c.place + 1) to [] bytes) (split_is from to (front ++ c ∷ []) bytes)
  where
    by : (newline : Bool) → bytes_shown (lines_from (c.place + 1) to [] bytes) ≡ split [] bytes → bytes_shown (lines_from from to (front ++ c ∷ []) bytes) ≡ split (front ++ c ∷ []) bytes
        → bytes_shown (cond newline (record { bytes = front; from = from; to = c.place + 1 } ∷ lines_from (c.place + 1) to [] bytes) (lines_from from to (front ++ c ∷ []) bytes))
        ≡ cond newline (front ∷ split [] bytes) (split (front ++ c ∷ []) bytes)
    by true a b = ap (λ z. front ∷ z) a
    by false a b = b

over_shown : {A : Type 0} (give : State → ReadLine → List A) → ((state : State) (line : LogicalLine) → give state (with_pieces line) ≡ give state (line_of line.bytes))
    → (state : State) (lines : List LogicalLine) → over_lines give state (map with_pieces lines) ≡ over_lines give state (map line_of (bytes_shown lines))
over_shown give same state [] = refl
over_shown give same state (line ∷ lines) = ap₂ ◌++◌ (same state line) (over_shown give same (state_behind state (with_pieces line)) lines)

-- What a text's lines give is what the lines that it shows give.
pub lines_give : {A : Type 0} (give : State → ReadLine → List A) → ((state : State) (line : LogicalLine) → give state (with_pieces line) ≡ give state (line_of line.bytes))
    → (text : List ℕ) → over_lines give at_start (map with_pieces (logical_lines text)) ≡ over_lines give at_start (map line_of (lines_shown text))
lines_give give same text =
    over_shown give same at_start (logical_lines text) ∙ ap (λ ls. over_lines give at_start (map line_of ls)) (split_is 0 (length text) [] (shown_bytes text))

split_moved : (by : ℕ) (front bytes : List SourceByte) → split (all_moved by front) (all_moved by bytes) ≡ map (all_moved by) (split front bytes)
split_moved by front [] = refl
split_moved by front (c ∷ bytes) = either (c.byte == 10) (split_moved by [] bytes) (split_moved by (front ++ c ∷ []) bytes)
  where
    either : (newline : Bool) → split [] (all_moved by bytes) ≡ map (all_moved by) (split [] bytes)
        → split (all_moved by (front ++ c ∷ [])) (all_moved by bytes) ≡ map (all_moved by) (split (front ++ c ∷ []) bytes)
        → cond newline (all_moved by front ∷ split [] (all_moved by bytes)) (split (all_moved by front ++ moved by c ∷ []) (all_moved by bytes))
        ≡ map (all_moved by) (cond newline (front ∷ split [] bytes) (split (front ++ c ∷ []) bytes))
    either true a b = ap (λ z. all_moved by front ∷ z) a
    either false a b = ap (λ f. split f (all_moved by bytes)) (sym (map-append (moved by) front (c ∷ []))) ∙ b

split_newline : (front : List SourceByte) (c : SourceByte) (bytes : List SourceByte) → c.byte ≡ 10 → split front (c ∷ bytes) ≡ front ∷ split [] bytes
split_newline front c bytes newline = let e = eq-eqb c.byte 10 newline in rw (split, e) refl

split_other : (front : List SourceByte) (c : SourceByte) (bytes : List SourceByte) → (c.byte ≡ 10 → ⊥) → split front (c ∷ bytes) ≡ split (front ++ c ∷ []) bytes
split_other front c bytes other = let e = ne_eqb c.byte 10 other in rw (split, e) refl

split_one : (front bytes : List SourceByte) → IsOneLine bytes → split front bytes ≡ (front ++ bytes) ∷ []
split_one front [] one = ap (λ z. z ∷ []) (sym (append-nil front))
split_one front (c ∷ bytes) one =
    split_other front c bytes one.0 ∙ split_one (front ++ c ∷ []) bytes one.1 ∙ ap (λ z. z ∷ []) (append_assoc front (c ∷ []) bytes)

split_first : (front out : List SourceByte) (nl : SourceByte) (rest : List SourceByte) → IsOneLine out → nl.byte ≡ 10
    → split front (out ++ nl ∷ rest) ≡ (front ++ out) ∷ split [] rest
split_first front [] nl rest one newline = split_newline front nl rest newline ∙ ap (λ z. z ∷ split [] rest) (sym (append-nil front))
split_first front (c ∷ out) nl rest one newline =
    split_other front c (out ++ nl ∷ rest) one.0 ∙ split_first (front ++ c ∷ []) out nl rest one.1 newline
    ∙ ap (λ z. z ∷ split [] rest) (append_assoc front (c ∷ []) out)

-- Lines and comments of a text that stands behind another one.
line_moved : (front rest : List ℕ) (place : ℕ) → line_at (front ++ rest) (place + length front) ≡ newlines front + line_at rest place
line_moved front rest place =
    let same : take (place + length front) (front ++ rest) ≡ front ++ take place rest = ap (λ n. take n (front ++ rest)) (omega arith) ∙ take-append-add front rest place in
    let sums : newlines (front ++ take place rest) ≡ newlines front + newlines (take place rest) = sum_by-append (λ b. cond (b == 10) 1 0) front (take place rest) in
    ap (λ z. 1 + newlines z) same ∙ omega (arith, sums)

unended_moved : (front rest : List ℕ) (c : SourceByte) → is_unended_at (front ++ rest) (moved (length front) c) ≡ is_unended_at rest c
unended_moved front rest c =
    let same : drop (c.place + length front) (front ++ rest) ≡ drop c.place rest = ap (λ n. drop n (front ++ rest)) (omega arith) ∙ drop-append-add front rest c.place in
    ap (λ z. (c.byte == 32) && is_unended z)
    (plain_moved (c.place + length front) (drop (c.place + length front) (front ++ rest)) ∙ ap plain_bytes same ∙ sym (plain_moved c.place (drop c.place rest)))

byte_moved : (front back text other : List ℕ) → newlines front ≡ newlines back → (c d : SourceByte) → SameByte text other c d
    → SameByte (front ++ text) (back ++ other) (moved (length front) c) (moved (length back) d)
byte_moved front back text other count c d same = record {
  byte_same = same.byte_same;
  line_same = line_moved front text c.place ∙ ap₂ ◌+◌ count same.line_same ∙ sym (line_moved back other d.place);
  ended = λ e. unended_moved back other d ∙ same.ended (sym (unended_moved front text c) ∙ e);
}

lines_moved : (front back text other : List ℕ) → newlines front ≡ newlines back → {lines others : List (List SourceByte)} → SameLines text other lines others
    → SameLines (front ++ text) (back ++ other) (map (all_moved (length front)) lines) (map (all_moved (length back)) others)
lines_moved front back text other count no_lines = no_lines
lines_moved front back text other count (same_line {line} {bytes} plain zip rest) =
    same_line (ap (λ z. is_css (line_kind z)) (moved_bytes (length front) line) ∙ plain)
    (zip_map (SameByte (front ++ text) (back ++ other)) (moved (length front)) (moved (length back)) line bytes
    (zip_weaker (SameByte text other) (λ c d. SameByte (front ++ text) (back ++ other) (moved (length front) c) (moved (length back) d)) (byte_moved front back text other count) line bytes zip))
    (lines_moved front back text other count rest)
lines_moved front back text other count (directive_line {line} css rest) =
    directive_line (ap line_kind (moved_bytes (length front) line) ∙ css) (lines_moved front back text other count rest)
lines_moved front back text other count (empty_line rest) = empty_line (lines_moved front back text other count rest)

-- The first line of a text in another one with the same first line.
low_newline : (low high : ℕ) (out : List SourceByte) (nl : SourceByte) (rest : List SourceByte) → AreBetween low high (out ++ nl ∷ rest) → low ≤ nl.place
low_newline low high [] nl rest between = between.0
low_newline low high (c ∷ out) nl rest between = let l = between.0 in let m = low_newline (c.place + 1) high out nl rest between.2 in omega (arith, l, m)

first_zip : (text other : List ℕ) (low high : ℕ) (out : List SourceByte) (nl : SourceByte) (rest : List SourceByte) → AreBetween low high (out ++ nl ∷ rest)
    → ((place : ℕ) → place ≤ nl.place → line_at text place ≡ line_at other place) → AreEnded other out → AllZip (SameByte text other) out out
first_zip text other low high [] nl rest between same ended = tt
first_zip text other low high (c ∷ out) nl rest between same ended = (
  record { byte_same = refl; line_same = same c.place (let m = low_newline (c.place + 1) high out nl rest between.2 in omega (arith, m)); ended = λ e. ended.0 },
  first_zip text other (c.place + 1) high out nl rest between.2 same ended.1,
)

own_zip : (text : List ℕ) (bytes : List SourceByte) → AllZip (SameByte text text) bytes bytes
own_zip text [] = tt
own_zip text (c ∷ bytes) = (record { byte_same = refl; line_same = refl; ended = λ e. e }, own_zip text bytes)

-- Newlines in front of a text are empty lines.
abbrev blanks : List ℕ → List (List SourceByte)
blanks bytes = map (λ b. []) bytes

newline_first : (others : List ℕ) → lines_shown (10 ∷ others) ≡ [] ∷ map (all_moved 1) (lines_shown others)
newline_first others =
    ap (λ z. split [] (record { byte = 10; place = 0 } ∷ uncommented [] 0 0 z)) (unspliced_moved 1 0 0 others)
    ∙ ap (λ z. split [] (record { byte = 10; place = 0 } ∷ z)) (uncommented_moved 1 [] 0 0 (unspliced 0 0 others))
    ∙ ap (λ z. [] ∷ z) (split_moved 1 [] (shown_bytes others))

moved_twice : (n : ℕ) (bytes : List SourceByte) → all_moved 1 (all_moved n bytes) ≡ all_moved (suc n) bytes
moved_twice n [] = refl
moved_twice n (c ∷ bytes) = ap₂ ◌∷◌ (ap (λ p. record { byte = c.byte; place = p }) (omega arith)) (moved_twice n bytes)

blanks_moved : (newline : List ℕ) (n : ℕ) (lines : List (List SourceByte))
    → map (all_moved 1) (blanks newline ++ map (all_moved n) lines) ≡ blanks newline ++ map (all_moved (suc n)) lines
blanks_moved [] n [] = refl
blanks_moved [] n (line ∷ lines) = ap₂ ◌∷◌ (moved_twice n line) (blanks_moved [] n lines)
blanks_moved (b ∷ newline) n lines = ap (λ z. [] ∷ z) (blanks_moved newline n lines)

newlines_first : (part others : List ℕ)
    → lines_shown (newlines_of part ++ others) ≡ blanks (newlines_of part) ++ map (all_moved (length (newlines_of part))) (lines_shown others)
newlines_first [] others = sym (not_moved (lines_shown others))
  where
    byte_stays : (bytes : List SourceByte) → all_moved 0 bytes ≡ bytes
    byte_stays [] = refl
    byte_stays (c ∷ bytes) = ap₂ ◌∷◌ (ap (λ p. record { byte = c.byte; place = p }) (omega arith)) (byte_stays bytes)

    not_moved : (lines : List (List SourceByte)) → map (all_moved 0) lines ≡ lines
    not_moved [] = refl
    not_moved (line ∷ lines) = ap₂ ◌∷◌ (byte_stays line) (not_moved lines)
newlines_first (b ∷ part) others = by (b == 10) refl (newlines_first part others)
  where
    rest : List ℕ
    rest = newlines_of part

    by : (newline : Bool) → (b == 10) ≡ newline → lines_shown (newlines_of part ++ others) ≡ blanks (newlines_of part) ++ map (all_moved (length (newlines_of part))) (lines_shown others)
        → lines_shown (cond newline (b ∷ newlines_of part) (newlines_of part) ++ others)
        ≡ blanks (cond newline (b ∷ newlines_of part) (newlines_of part)) ++ map (all_moved (length (cond newline (b ∷ newlines_of part) (newlines_of part)))) (lines_shown others)
    by true is more =
        ap (λ z. lines_shown (z ∷ newlines_of part ++ others)) (eqb-true b 10 is) ∙ newline_first (newlines_of part ++ others)
        ∙ ap (λ z. [] ∷ map (all_moved 1) z) more
        ∙ ap (λ z. [] ∷ z) (blanks_moved (newlines_of part) (length (newlines_of part)) (lines_shown others))
    by false is more = more

from_blanks : (text other newline : List ℕ) (lines others : List (List SourceByte)) → SameLines text other lines others → SameLines text other lines (blanks newline ++ others)
from_blanks text other [] lines others same = same
from_blanks text other (b ∷ newline) lines others same = empty_line (from_blanks text other newline lines others same)

-- A text and what is left of it.
pub record IsLeftOf (text left : List ℕ) : Type 0 where
  pub lines : SameLines text left (lines_shown text) (lines_shown left)
  pub shorter : length left ≤ length text

fewer_newlines : (part : List ℕ) → length (newlines_of part) ≤ length part
fewer_newlines part = let e = length-filter (λ (b : ℕ). b == 10) part in let l = count_by-le-length (λ (b : ℕ). b == 10) part in omega (arith, e, l)

css_is : (kind : LineKind) → is_css kind ≡ true → kind ≡ kinds.Css
css_is kinds.Text is = absurd cc
css_is kinds.Null is = absurd cc
css_is kinds.Include is = absurd cc
css_is kinds.Define is = absurd cc
css_is kinds.Undef is = absurd cc
css_is kinds.Css is = refl
css_is kinds.Pragma is = absurd cc
css_is kinds.Unknown is = absurd cc

left_one : (text : List ℕ) (css : Bool) → is_css (line_kind (bytes_of (shown_bytes text))) ≡ css → lines_shown text ≡ shown_bytes text ∷ []
    → IsLeftOf text (cond css (newlines_of text) text)
left_one text true is one = record {
  lines =
      subst (λ ls. SameLines text (newlines_of text) ls (lines_shown (newlines_of text))) (sym one)
      (subst (SameLines text (newlines_of text) (shown_bytes text ∷ [])) (sym (ap lines_shown (sym (append-nil (newlines_of text))) ∙ newlines_first text []))
      (directive_line (css_is (line_kind (bytes_of (shown_bytes text))) is)
      (from_blanks text (newlines_of text) (newlines_of text) [] ([] ∷ []) (empty_line no_lines))));
  shorter = fewer_newlines text;
}
left_one text false is one = record {
  lines = subst (λ ls. SameLines text text ls ls) (sym one) (same_line is (own_zip text (shown_bytes text)) no_lines);
  shorter = omega arith;
}

-- A text's first line, and what is left of it and of the rest.
module _ (text : List ℕ) (out : List SourceByte) (nl : SourceByte) (cut : LineCut text out nl) (one : IsOneLine out) (newline : nl.byte ≡ 10) where
  part : List ℕ
  part = cut.before ++ 10 ∷ []

  part_size : length part ≡ length cut.before + 1
  unfolding part
  part_size = length-append cut.before (10 ∷ [])

  part_then : (others : List ℕ) → part ++ others ≡ cut.before ++ 10 ∷ others
  unfolding part
  part_then others = append_assoc cut.before (10 ∷ []) others

  part_shown : (others : List ℕ) → shown_bytes (part ++ others) ≡ out ++ nl ∷ all_moved (length part) (shown_bytes others)
  part_shown others = ap shown_bytes (part_then others) ∙ cut.again others ∙ ap (λ n. out ++ nl ∷ all_moved n (shown_bytes others)) (sym part_size)

  part_lines : (others : List ℕ) → lines_shown (part ++ others) ≡ out ∷ map (all_moved (length part)) (lines_shown others)
  part_lines others =
      ap (split []) (part_shown others) ∙ split_first [] out nl (all_moved (length part) (shown_bytes others)) one newline
      ∙ ap (λ z. out ∷ z) (split_moved (length part) [] (shown_bytes others))

  same_front : (others more : List ℕ) (place : ℕ) → place ≤ nl.place → line_at (part ++ others) place ≡ line_at (part ++ more) place
  same_front others more place few =
      let size = part_size in
      let at = cut.at in
      let within : place ≤ length part = omega (arith, few, size, at) in
      ap (λ z. 1 + newlines z) (take-append-le place part others within ∙ sym (take-append-le place part more within))

  part_zip : (others more : List ℕ) → AllZip (SameByte (part ++ others) (part ++ more)) out out
  part_zip others more =
      first_zip (part ++ others) (part ++ more) 0 (length (part ++ others)) out nl (all_moved (length part) (shown_bytes others))
      (subst (AreBetween 0 (length (part ++ others))) (part_shown others) (shown_between (part ++ others))) (same_front others more)
      (shown_ended (part ++ more) out nl (all_moved (length part) (shown_bytes more)) (part_shown more))

  left_more : (css : Bool) → is_css (line_kind (bytes_of out)) ≡ css → (rest left : List ℕ) → IsLeftOf rest left → IsLeftOf (part ++ rest) (cond css (newlines_of part) part ++ left)
  left_more true is rest left l = record {
    lines =
        subst (λ ls. SameLines (part ++ rest) (newlines_of part ++ left) ls (lines_shown (newlines_of part ++ left))) (sym (part_lines rest))
        (subst (SameLines (part ++ rest) (newlines_of part ++ left) (out ∷ map (all_moved (length part)) (lines_shown rest))) (sym (newlines_first part left))
        (directive_line (css_is (line_kind (bytes_of out)) is)
        (from_blanks (part ++ rest) (newlines_of part ++ left) (newlines_of part) (map (all_moved (length part)) (lines_shown rest))
        (map (all_moved (length (newlines_of part))) (lines_shown left)) (lines_moved part (newlines_of part) rest left (sym (filtered part)) l.lines))));
    shorter =
        let f = fewer_newlines part in let s = l.shorter in let a = length-append part rest in let b = length-append (newlines_of part) left in omega (arith, f, s, a, b);
  }
  left_more false is rest left l = record {
    lines =
        subst (λ ls. SameLines (part ++ rest) (part ++ left) ls (lines_shown (part ++ left))) (sym (part_lines rest))
        (subst (SameLines (part ++ rest) (part ++ left) (out ∷ map (all_moved (length part)) (lines_shown rest))) (sym (part_lines left))
        (same_line is (part_zip rest left) (lines_moved part part rest left refl l.lines)));
    shorter = let s = l.shorter in let a = length-append part rest in let b = length-append part left in omega (arith, s, a, b);
  }

  erased_part : (css : Bool) → is_css (line_kind (bytes_of out)) ≡ css → (others : List ℕ) → erased (part ++ others) ≡ cond css (newlines_of part) part ++ erased others
  unfolding part
  erased_part css is others =
      ap erased (append_assoc cut.before (10 ∷ []) others)
      ∙ erased_first text out nl cut one newline others
      ∙ ap (λ z. z ++ erased others) (kept_by (line_kind (bytes_of out)) (cut.before ++ 10 ∷ []) css is)

  left_by : IsLeftOf cut.behind (erased cut.behind) → IsLeftOf text (erased text)
  left_by rest =
      let css : Bool = is_css (line_kind (bytes_of out)) in
      let whole : text ≡ part ++ cut.behind = cut.parts ∙ sym (part_then cut.behind) in
      subst (λ t. IsLeftOf t (erased t)) (sym whole)
      (subst (IsLeftOf (part ++ cut.behind)) (sym (erased_part css refl cut.behind)) (left_more css refl cut.behind (erased cut.behind) rest))

left_step : (text : List ℕ) → IsOneLine (shown_bytes text) ⊎ FirstNewline (shown_bytes text) → ((t : List ℕ) → length t < length text → IsLeftOf t (erased t)) → IsLeftOf text (erased text)
left_step text (inl one) shorter =
    let kind = line_kind (bytes_of (shown_bytes text)) in
    subst (IsLeftOf text) (sym (erased_one text one ∙ kept_by kind text (is_css kind) refl)) (left_one text (is_css kind) refl (split_one [] (shown_bytes text) one))
left_step text (inr f) shorter =
    let l : LineCut text f.out f.nl = line_cut text f.out f.nl f.rest f.parts f.newline in
    let fewer : length l.behind < length text = let a = ap length l.parts in let b = length-append l.before (10 ∷ l.behind) in omega (arith, a, b) in
    left_by text f.out f.nl l f.before f.newline (shorter l.behind fewer)

left_within : (n : ℕ) (text : List ℕ) → length text ≤ n → IsLeftOf text (erased text)
left_within zero text few = left_step text (first_newline (shown_bytes text)) (λ t less. absurd (omega (arith, few, less)))
left_within (suc n) text few = left_step text (first_newline (shown_bytes text)) (λ t less. left_within n t (omega (arith, few, less)))

pub erased_left : (text : List ℕ) → IsLeftOf text (erased text)
erased_left text = left_within (length text) text (omega arith)
