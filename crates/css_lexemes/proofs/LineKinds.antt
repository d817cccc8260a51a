-- Kinds of lines.
use Rattle.std.proofs.Common.{◌≡◌, ℕ, true, false, List, [], ◌∷◌, length, drop, ap, sym, ◌∙◌}
use Rattle.std.proofs.lemmas.Bool.{false≢true}
use Rattle.std.specs.Prelude.{codes, bytes_eq}
use Rattle.css_lexemes.specs.LineKinds.{first_word, directive_kind, pragma_kind}

-- A line whose word is `pragma` and no other.
pub pragma_line : (text word rest : List ℕ) → word ≡ first_word text → bytes_eq word (codes "include") ≡ false → bytes_eq word (codes "define") ≡ false
    → bytes_eq word (codes "undef") ≡ false → bytes_eq word (codes "pragma") ≡ true
    → rest ≡ drop (length word) text → directive_kind text ≡ pragma_kind rest
pragma_line text word rest first a b c d is = by text (ap (λ w. bytes_eq w (codes "include")) (sym first) ∙ a) (ap (λ w. bytes_eq w (codes "define")) (sym first) ∙ b) (ap (λ w. bytes_eq w (codes "undef")) (sym first) ∙ c) (ap (λ w. bytes_eq w (codes "pragma")) (sym first) ∙ d) (is ∙ ap (λ w. drop (length w) text) first)
  where
    by : (text : List ℕ) → bytes_eq (first_word text) (codes "include") ≡ false → bytes_eq (first_word text) (codes "define") ≡ false
        → bytes_eq (first_word text) (codes "undef") ≡ false → bytes_eq (first_word text) (codes "pragma") ≡ true
        → rest ≡ drop (length (first_word text)) text → directive_kind text ≡ pragma_kind rest
    by [] a b c d is = absurd (false≢true d)
    by (t ∷ text) a b c d is = rw (directive_kind, a, b, c, d) (ap pragma_kind (sym is))
