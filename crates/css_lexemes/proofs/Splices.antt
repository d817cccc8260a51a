-- A text's bytes without splices, one step at a time.
use Rattle.std.proofs.Common.{◌≡◌, ℕ, zero, suc, ◌+◌, ◌<◌, List, [], ◌∷◌, drop, refl, ap, sym, ◌∙◌, arith}
use Rattle.std.proofs.lemmas.List.{drop-drop}
use Rattle.css_lexemes.specs.Source.{splice_length, unspliced}

-- The bytes of a splice are passed.
pub splice_passed : (place n : ℕ) (text : List ℕ) → unspliced place n text ≡ unspliced (place + n) 0 (drop n text)
splice_passed place zero [] = refl
splice_passed place (suc n) [] = refl
splice_passed place zero (b ∷ text) = ap (λ p. unspliced p 0 (b ∷ text)) (omega arith)
splice_passed place (suc n) (b ∷ text) = splice_passed (place + 1) n text ∙ ap (λ p. unspliced p 0 (drop n text)) (omega arith)

splice_step : (place n : ℕ) (text : List ℕ) → splice_length text ≡ n → 0 < n → unspliced place 0 text ≡ unspliced (place + n) 0 (drop n text)
splice_step place zero text is more = absurd (omega arith)
splice_step place (suc n) [] is more = refl
splice_step place (suc n) (b ∷ text) is more = rw (unspliced, is) (splice_passed place (suc n) (b ∷ text))

-- One splice in a text.
pub past_splice : (place n : ℕ) (text rest : List ℕ) → rest ≡ drop place text → splice_length rest ≡ n → 0 < n
    → unspliced place 0 (drop place text) ≡ unspliced (place + n) 0 (drop (place + n) text)
past_splice place n text rest rest_is is more = splice_step place n (drop place text) (ap splice_length (sym rest_is) ∙ is) more ∙ ap (unspliced (place + n) 0) (drop-drop n place text)
