-- Words that are parted by spaces, and lines that are ended by newlines.
use Rattle.std.proofs.Common.{◌≡◌, ◌∙◌, ◌<◌, ℕ, true, false, eqb, List, [], ◌∷◌, ◌++◌, length, All, refl, sym, ap, arith}
use Rattle.std.specs.List.{list_all, join_with_byte, slice_split, AllByRecursion, position_or_len}
use Rattle.std.proofs.lemmas.Bool.{true≢false, and_parts, ltb-true, ne_eqb, eq-eqb}
use Rattle.std.proofs.lemmas.List.Elements.{All-from_recursion}
use Rattle.std.proofs.lemmas.List.Splits.{slice_split_none, slice_split_at}
use Rattle.css_traces.proofs.Numerals.{is_solid}

abbrev pub IsSolid : List ℕ → Type 0
IsSolid word = list_all is_solid word ≡ true

none_passes : (c : ℕ) → c < 33 → (word : List ℕ) → IsSolid word → AllByRecursion (λ b. eqb b c ≡ false) word
none_passes c low [] h = tt
none_passes c low (b ∷ word) h =
    let p = and_parts (is_solid b) (list_all is_solid word) h in
    (ne_eqb b c (λ e. omega (arith, ltb-true 32 b p.0, e, low)), none_passes c low word p.1)

pub no_byte : (c : ℕ) → c < 33 → (word : List ℕ) → IsSolid word → All (λ b. eqb b c ≡ false) word
no_byte c low word h = All-from_recursion (λ b. eqb b c ≡ false) word (none_passes c low word h)

-- words that are joined are parted again
pub split_joined : (word : List ℕ) (words : List (List ℕ)) → IsSolid word → AllByRecursion IsSolid words
    → slice_split (λ b. eqb b 32) (join_with_byte 32 (word ∷ words)) ≡ word ∷ words
split_joined word [] h hs = slice_split_none (λ b. eqb b 32) word (no_byte 32 (omega arith) word h)
split_joined word (next ∷ words) h hs =
    slice_split_at (λ b. eqb b 32) word 32 (join_with_byte 32 (next ∷ words)) (no_byte 32 (omega arith) word h) refl
    ∙ ap (λ (ws : List (List ℕ)). word ∷ ws) (split_joined next words hs.0 hs.1)

-- ---- bytes without a newline

abbrev pub IsInLine : List ℕ → Type 0
IsInLine bytes = AllByRecursion (λ b. eqb b 10 ≡ false) bytes

in_line_append : (a b : List ℕ) → IsInLine a → IsInLine b → IsInLine (a ++ b)
in_line_append [] b h k = k
in_line_append (x ∷ a) b h k = (h.0, in_line_append a b h.1 k)

pub joined_in_line : (word : List ℕ) (words : List (List ℕ)) → IsSolid word → AllByRecursion IsSolid words → IsInLine (join_with_byte 32 (word ∷ words))
joined_in_line word [] h hs = none_passes 10 (omega arith) word h
joined_in_line word (next ∷ words) h hs =
    in_line_append word (32 ∷ join_with_byte 32 (next ∷ words)) (none_passes 10 (omega arith) word h) (refl, joined_in_line next words hs.0 hs.1)

pub place_of_newline : (line rest : List ℕ) → IsInLine line → position_or_len (λ b. eqb b 10) (line ++ 10 ∷ rest) ≡ length line
place_of_newline [] rest h = refl
place_of_newline (b ∷ line) rest h = rw h.0 (omega (arith, place_of_newline line rest h.1))

newline_first : (y : ℕ) → 10 ≡ y → eqb y 10 ≡ false → ⊥
newline_first y e h = true≢false (sym (eq-eqb y 10 (sym e)) ∙ h)

-- two lines at the front of a text are one
pub one_line : (a b r s : List ℕ) → IsInLine a → IsInLine b → a ++ 10 ∷ r ≡ b ++ 10 ∷ s → (a ≡ b) × (r ≡ s)
one_line [] [] r s h k e = (refl, cc)
one_line [] (y ∷ b) r s h k e = absurd (newline_first y (cc) k.0)
one_line (x ∷ a) [] r s h k e = absurd (newline_first x (cc) h.0)
one_line (x ∷ a) (y ∷ b) r s h k e =
    let tail : a ++ 10 ∷ r ≡ b ++ 10 ∷ s = cc in
    let head : x ≡ y = cc in
    let same = one_line a b r s h.1 k.1 tail in
    (cc, same.1)
