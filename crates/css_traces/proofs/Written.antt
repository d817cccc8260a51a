-- Words of a line as they are written, one behind the other.
use Rattle.std.proofs.Common.{◌≡◌, ◌∙◌, ℕ, ◌+◌, List, [], ◌∷◌, ◌++◌, map, sym, ap}
use Rattle.std.specs.List.{flat_map, join_with_byte}
use Rattle.std.specs.Fmt.{decimal}
use Rattle.std.proofs.lemmas.List.{append-nil, append_assoc}
use Rattle.std.proofs.lemmas.List.Concat.{flat_map-append}
use Rattle.css_traces.specs.declared.traces.Generation.{Generation}
use Rattle.css_traces.specs.Lines.{line_text, generation_lines, lines_from}

-- numbers behind a word
pub numbers_behind : (word : List ℕ) (ns : List ℕ) → join_with_byte 32 (word ∷ map decimal ns) ≡ word ++ flat_map (λ n. 32 ∷ decimal n) ns
numbers_behind word [] = sym (append-nil word)
numbers_behind word (n ∷ ns) = ap (λ (bs : List ℕ). word ++ 32 ∷ bs) (numbers_behind (decimal n) ns)

pub listed : (head word : List ℕ) (ns : List ℕ) → (head ++ 32 ∷ (word ++ flat_map (λ n. 32 ∷ decimal n) ns)) ++ 10 ∷ [] ≡ join_with_byte 32 (head ∷ word ∷ map decimal ns) ++ 10 ∷ []
listed head word ns = ap (λ (bs : List ℕ). (head ++ 32 ∷ bs) ++ 10 ∷ []) (sym (numbers_behind word ns))

-- one generation more
pub generation_written : (text : List ℕ) (number : ℕ) (g : Generation) (others : List Generation)
    → (text ++ flat_map line_text (generation_lines number g)) ++ flat_map line_text (lines_from (number + 1) others) ≡ text ++ flat_map line_text (lines_from number (g ∷ others))
generation_written text number g others =
    append_assoc text (flat_map line_text (generation_lines number g)) (flat_map line_text (lines_from (number + 1) others))
    ∙ ap (λ (bs : List ℕ). text ++ bs) (sym (flat_map-append line_text (generation_lines number g) (lines_from (number + 1) others)))
