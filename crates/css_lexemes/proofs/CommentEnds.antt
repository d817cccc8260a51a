-- Where comments and constants end.
use Rattle.std.proofs.Common.{◌≡◌, ℕ, ◌+◌, ◌<◌, false, List, ◌∷◌, length, drop, get_or, refl, ap, sym, ◌∙◌}
use Rattle.std.proofs.lemmas.List.{drop_more}
use Rattle.css_lexemes.specs.declared.source.SourceByte.{SourceByte}
use Rattle.css_lexemes.specs.Source.{begins_with, bytes_of}
use Rattle.css_lexemes.specs.Comments.{length_before}

before_first : (wanted : List ℕ) (c : SourceByte) (text : List SourceByte) → begins_with wanted (bytes_of (c ∷ text)) ≡ false
    → length_before wanted (bytes_of (c ∷ text)) ≡ 1 + length_before wanted (bytes_of text)
before_first wanted c text none = rw (length_before, none) refl

-- One byte more in front of what is looked for.
pub before_more : (wanted : List ℕ) (text rest : List SourceByte) (i : ℕ) → rest ≡ drop i text → i < length text → begins_with wanted (bytes_of rest) ≡ false
    → length_before wanted (bytes_of (drop i text)) ≡ 1 + length_before wanted (bytes_of (drop (i + 1) text))
before_more wanted text rest i is inside none =
    let c : SourceByte = get_or text i (record { byte = 0; place = 0 }) in
    let more : drop i text ≡ c ∷ drop (i + 1) text = drop_more text i (record { byte = 0; place = 0 }) inside in
    ap (λ z. length_before wanted (bytes_of z)) more
    ∙ before_first wanted c (drop (i + 1) text) (ap (λ z. begins_with wanted (bytes_of z)) (sym more ∙ sym is) ∙ none)
