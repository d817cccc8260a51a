-- A text that stands at another place shows the same.
use Rattle.std.proofs.Common.{◌≡◌, ℕ, zero, suc, ◌+◌, ◌-◌, Bool, true, false, List, [], ◌∷◌, ◌++◌, length, drop, take, map, cond, refl, ap, ap₂, sym, ◌∙◌, arith}
use Rattle.std.specs.Prelude.{slice_range, ◌==◌}
use Rattle.std.proofs.lemmas.List.{map-append, drop-drop, drop_at}
use Rattle.css_lexemes.specs.declared.source.SourceByte.{SourceByte}
use Rattle.css_lexemes.specs.Source.{splice_length, unspliced, bytes_of}
use Rattle.css_lexemes.specs.Comments.{comment_length, constant_behind, front_behind, uncommented}
use Rattle.css_lexemes.specs.LineKinds.{line_kind}
use Rattle.css_lexemes.specs.Lines.{lines_from, kept_of}
use Rattle.css_lexemes.proofs.Erasing.{left_of}

abbrev pub moved : ℕ → SourceByte → SourceByte
moved by c = record { byte = c.byte; place = c.place + by }

abbrev pub all_moved : ℕ → List SourceByte → List SourceByte
all_moved by bytes = map (moved by) bytes

pub moved_bytes : (by : ℕ) (bytes : List SourceByte) → bytes_of (all_moved by bytes) ≡ bytes_of bytes
moved_bytes by [] = refl
moved_bytes by (c ∷ bytes) = ap (λ z. c.byte ∷ z) (moved_bytes by bytes)

unspliced_step : (by place n b : ℕ) (text : List ℕ) → ((m : ℕ) → unspliced (place + 1 + by) m text ≡ all_moved by (unspliced (place + 1) m text))
    → elim n [ zero ↦ record { byte = b; place = place + by } ∷ unspliced (place + by + 1) 0 text | suc m ↦ unspliced (place + by + 1) m text ]
    ≡ all_moved by (elim n [ zero ↦ record { byte = b; place = place } ∷ unspliced (place + 1) 0 text | suc m ↦ unspliced (place + 1) m text ])
unspliced_step by place zero b text rest = ap (λ z. record { byte = b; place = place + by } ∷ z) (ap (λ p. unspliced p 0 text) (omega arith) ∙ rest 0)
unspliced_step by place (suc m) b text rest = ap (λ p. unspliced p m text) (omega arith) ∙ rest m

pub unspliced_moved : (by place spliced : ℕ) (text : List ℕ) → unspliced (place + by) spliced text ≡ all_moved by (unspliced place spliced text)
unspliced_moved by place spliced [] = refl
unspliced_moved by place (suc spliced) (b ∷ text) = ap (λ p. unspliced p spliced text) (omega arith) ∙ unspliced_moved by (place + 1) spliced text
unspliced_moved by place zero (b ∷ text) = unspliced_step by place (splice_length (b ∷ text)) b text (λ m. unspliced_moved by (place + 1) m text)

uncommented_step : (by : ℕ) (front : List ℕ) (n k : ℕ) (c : SourceByte) (text : List SourceByte)
    → ((front : List ℕ) (n k : ℕ) → uncommented front n k (all_moved by text) ≡ all_moved by (uncommented front n k text))
    → elim n [
      | zero ↦ moved by c ∷ uncommented (front_behind front c.byte) 0 k (all_moved by text)
      | suc m ↦ record { byte = 32; place = c.place + by } ∷ uncommented (front_behind front 32) m 0 (all_moved by text)
    ] ≡ all_moved by (elim n [
      | zero ↦ c ∷ uncommented (front_behind front c.byte) 0 k text
      | suc m ↦ record { byte = 32; place = c.place } ∷ uncommented (front_behind front 32) m 0 text
    ])
uncommented_step by front zero k c text rest = ap (λ z. moved by c ∷ z) (rest (front_behind front c.byte) 0 k)
uncommented_step by front (suc m) k c text rest = ap (λ z. record { byte = 32; place = c.place + by } ∷ z) (rest (front_behind front 32) m 0)

pub uncommented_moved : (by : ℕ) (front : List ℕ) (hidden kept : ℕ) (text : List SourceByte) → uncommented front hidden kept (all_moved by text) ≡ all_moved by (uncommented front hidden kept text)
uncommented_moved by front hidden kept [] = refl
uncommented_moved by front (suc hidden) kept (c ∷ text) = uncommented_moved by front hidden kept text
uncommented_moved by front zero (suc kept) (c ∷ text) = ap (λ z. moved by c ∷ z) (uncommented_moved by (front_behind front c.byte) 0 kept text)
uncommented_moved by front zero zero (c ∷ text) =
    let same : bytes_of (all_moved by (c ∷ text)) ≡ bytes_of (c ∷ text) = moved_bytes by (c ∷ text) in
    ap₂ (λ n k. elim n [
      | zero ↦ moved by c ∷ uncommented (front_behind front c.byte) 0 k (all_moved by text)
      | suc m ↦ record { byte = 32; place = c.place + by } ∷ uncommented (front_behind front 32) m 0 (all_moved by text)
    ]) (ap comment_length same) (ap (λ z. constant_behind front z - 1) same)
    ∙ uncommented_step by front (comment_length (bytes_of (c ∷ text))) (constant_behind front (bytes_of (c ∷ text)) - 1) c text (λ f n k. uncommented_moved by f n k text)

-- The part of a text behind another one.
slice_behind : (l r : List ℕ) (from to : ℕ) → slice_range (l ++ r) (from + length l) (to + length l) ≡ slice_range r from to
slice_behind l r from to =
    ap₂ take (omega arith) (ap (λ n. drop n (l ++ r)) (omega arith) ∙ sym (drop-drop from (length l) (l ++ r)) ∙ ap (drop from) (drop_at l r (length l) refl))

part_behind : (l r : List ℕ) (front : List SourceByte) (from to : ℕ)
    → kept_of (line_kind (bytes_of (all_moved (length l) front))) (slice_range (l ++ r) (from + length l) (to + length l)) ≡ kept_of (line_kind (bytes_of front)) (slice_range r from to)
part_behind l r front from to = ap₂ (λ b p. kept_of (line_kind b) p) (moved_bytes (length l) front) (slice_behind l r from to)

-- What is left of the lines of a text that stands behind another one.
pub left_behind : (l r : List ℕ) (from to : ℕ) (front bytes : List SourceByte)
    → left_of (l ++ r) (lines_from (from + length l) (to + length l) (all_moved (length l) front) (all_moved (length l) bytes)) ≡ left_of r (lines_from from to front bytes)
left_behind l r from to front [] = ap (λ z. z ++ []) (part_behind l r front from to)
left_behind l r from to front (c ∷ bytes) =
    by (c.byte == 10) (left_behind l r (c.place + 1) to [] bytes) (left_behind l r from to (front ++ c ∷ []) bytes)
  where
    by : (newline : Bool)
        → left_of (l ++ r) (lines_from (c.place + 1 + length l) (to + length l) [] (all_moved (length l) bytes)) ≡ left_of r (lines_from (c.place + 1) to [] bytes)
        → left_of (l ++ r) (lines_from (from + length l) (to + length l) (all_moved (length l) (front ++ c ∷ [])) (all_moved (length l) bytes)) ≡ left_of r (lines_from from to (front ++ c ∷ []) bytes)
        → left_of (l ++ r) (cond newline
        (record { bytes = all_moved (length l) front; from = from + length l; to = c.place + length l + 1 } ∷ lines_from (c.place + length l + 1) (to + length l) [] (all_moved (length l) bytes))
        (lines_from (from + length l) (to + length l) (all_moved (length l) front ++ moved (length l) c ∷ []) (all_moved (length l) bytes)))
        ≡ left_of r (cond newline (record { bytes = front; from = from; to = c.place + 1 } ∷ lines_from (c.place + 1) to [] bytes) (lines_from from to (front ++ c ∷ []) bytes))
    by true a b =
        ap (λ t. kept_of (line_kind (bytes_of (all_moved (length l) front))) (slice_range (l ++ r) (from + length l) t) ++ left_of (l ++ r) (lines_from t (to + length l) [] (all_moved (length l) bytes))) (omega arith)
        ∙ ap₂ ◌++◌ (part_behind l r front from (c.place + 1)) a
    by false a b = ap (λ f. left_of (l ++ r) (lines_from (from + length l) (to + length l) f (all_moved (length l) bytes))) (sym (map-append (moved (length l)) front (c ∷ []))) ∙ b
