-- Places of a text's bytes rise, and lie in the text.
use Rattle.std.proofs.Common.{ℕ, zero, suc, ◌+◌, ◌-◌, ◌<◌, ◌≤◌, List, [], ◌∷◌, length, subst, arith, le_trans}
use Rattle.css_lexemes.specs.declared.source.SourceByte.{SourceByte}
use Rattle.css_lexemes.specs.Source.{splice_length, unspliced, bytes_of}
use Rattle.css_lexemes.specs.Lines.{shown_bytes}
pub use Rattle.css_lexemes.specs.Rising.{AreBetween}
use Rattle.css_lexemes.specs.Comments.{comment_length, constant_behind, front_behind, uncommented}

pub from_lower : (low more high : ℕ) (bytes : List SourceByte) → low ≤ more → AreBetween more high bytes → AreBetween low high bytes
from_lower low more high [] l between = le_trans l between
from_lower low more high (c ∷ bytes) l between = (le_trans l between.0, between.1, between.2)

spliced_or_not : (place n : ℕ) (b : ℕ) (text : List ℕ) → ((m : ℕ) → AreBetween (place + 1) (place + 1 + length text) (unspliced (place + 1) m text))
    → AreBetween place (place + length (b ∷ text)) (elim n [ zero ↦ record { byte = b; place = place } ∷ unspliced (place + 1) 0 text | suc m ↦ unspliced (place + 1) m text ])
spliced_or_not place zero b text rest =
    (omega arith, omega arith, subst (λ h. AreBetween (place + 1) h (unspliced (place + 1) 0 text)) (omega arith) (rest 0))
spliced_or_not place (suc m) b text rest =
    from_lower place (place + 1) (place + length (b ∷ text)) (unspliced (place + 1) m text) (omega arith)
    (subst (λ h. AreBetween (place + 1) h (unspliced (place + 1) m text)) (omega arith) (rest m))

pub unspliced_between : (place spliced : ℕ) (text : List ℕ) → AreBetween place (place + length text) (unspliced place spliced text)
unspliced_between place spliced [] = omega arith
unspliced_between place (suc spliced) (b ∷ text) =
    let rest = unspliced_between (place + 1) spliced text in
    from_lower place (place + 1) (place + length (b ∷ text)) (unspliced (place + 1) spliced text) (omega arith)
    (subst (λ h. AreBetween (place + 1) h (unspliced (place + 1) spliced text)) (omega arith) rest)
unspliced_between place zero (b ∷ text) = spliced_or_not place (splice_length (b ∷ text)) b text (λ m. unspliced_between (place + 1) m text)

commented_or_not : (front : List ℕ) (low high n k : ℕ) (c : SourceByte) (text : List SourceByte) → low ≤ c.place → c.place < high
    → ((front : List ℕ) (n k : ℕ) → AreBetween (c.place + 1) high (uncommented front n k text))
    → AreBetween low high (elim n [
      | zero ↦ c ∷ uncommented (front_behind front c.byte) 0 k text
      | suc m ↦ record { byte = 32; place = c.place } ∷ uncommented (front_behind front 32) m 0 text
    ])
commented_or_not front low high zero k c text a b rest = (a, b, rest (front_behind front c.byte) 0 k)
commented_or_not front low high (suc m) k c text a b rest = (a, b, rest (front_behind front 32) m 0)

pub uncommented_between : (front : List ℕ) (hidden kept low high : ℕ) (text : List SourceByte) → AreBetween low high text → AreBetween low high (uncommented front hidden kept text)
uncommented_between front hidden kept low high [] b = b
uncommented_between front (suc hidden) kept low high (c ∷ text) b =
    uncommented_between front hidden kept low high text (from_lower low (c.place + 1) high text (omega (arith, b.0)) b.2)
uncommented_between front zero (suc kept) low high (c ∷ text) b = (b.0, b.1, uncommented_between (front_behind front c.byte) 0 kept (c.place + 1) high text b.2)
uncommented_between front zero zero low high (c ∷ text) b =
    commented_or_not front low high (comment_length (bytes_of (c ∷ text))) (constant_behind front (bytes_of (c ∷ text)) - 1) c text b.0 b.1
    (λ f n k. uncommented_between f n k (c.place + 1) high text b.2)

-- What a text shows has rising places in the text.
pub shown_between : (text : List ℕ) → AreBetween 0 (length text) (shown_bytes text)
shown_between text =
    uncommented_between [] 0 0 0 (length text) (unspliced 0 0 text)
    (subst (λ h. AreBetween 0 h (unspliced 0 0 text)) (omega arith) (unspliced_between 0 0 text))
