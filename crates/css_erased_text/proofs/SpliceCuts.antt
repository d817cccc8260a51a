-- The bytes of a text up to a newline that is no splice's.
use Rattle.std.proofs.Common.{◌≡◌, ℕ, zero, suc, ◌+◌, List, [], ◌∷◌, ◌++◌, length, drop, get_or, refl, ap, ap₂, sym, ◌∙◌, arith, length-append}
use Rattle.css_lexemes.specs.declared.source.SourceByte.{SourceByte}
use Rattle.css_lexemes.specs.Source.{splice_length, unspliced}
use Rattle.css_lexemes.specs.Lines.{shown_bytes}
use Rattle.css_lexemes.specs.Comments.{uncommented}
use Rattle.css_erased_text.proofs.Cutting.{Cut, cut, same_splice}
use Rattle.css_lexemes.proofs.Shifting.{all_moved, unspliced_moved, uncommented_moved}

pub record SpliceCut (place spliced : ℕ) (text : List ℕ) (out : List SourceByte) (nl : SourceByte) : Type 0 where
  pub before : List ℕ
  pub behind : List ℕ
  pub parts : text ≡ before ++ 10 ∷ behind
  pub at : nl.place ≡ place + length before
  pub again : (others : List ℕ) → unspliced place spliced (before ++ 10 ∷ others) ≡ out ++ nl ∷ unspliced (nl.place + 1) 0 others

no_nil : (out : List SourceByte) (nl : SourceByte) (rest : List SourceByte) → [] ≡ out ++ nl ∷ rest → ⊥
no_nil out nl rest e = let l = length-append out (nl ∷ rest) in let s = ap length e in omega (arith, l, s)

next_splice_cut : (place b : ℕ) (text : List ℕ) (out : List SourceByte) (nl : SourceByte) (rest : List SourceByte) (n : ℕ) → splice_length (b ∷ text) ≡ n
    → elim n [ zero ↦ record { byte = b; place = place } ∷ unspliced (place + 1) 0 text | suc m ↦ unspliced (place + 1) m text ] ≡ out ++ nl ∷ rest
    → nl.byte ≡ 10
    → ((spliced : ℕ) (out : List SourceByte) → unspliced (place + 1) spliced text ≡ out ++ nl ∷ rest → SpliceCut (place + 1) spliced text out nl)
    → SpliceCut place 0 (b ∷ text) out nl
next_splice_cut place b text [] nl rest zero is e newline cuts = record {
  before = [];
  behind = text;
  parts = ap (λ z. z ∷ text) b_is;
  at = ap (λ (c : SourceByte). c.place) (sym first) ∙ omega arith;
  again = λ others. ap₂ (λ c p. c ∷ unspliced (p + 1) 0 others) (ap (λ z. record { byte = z; place = place }) (sym b_is) ∙ first) (ap (λ (c : SourceByte). c.place) first);
}
  where
    first : record { byte = b; place = place } ≡ nl
    first = ap (λ z. get_or z 0 nl) e

    b_is : b ≡ 10
    b_is = ap (λ (c : SourceByte). c.byte) first ∙ newline
next_splice_cut place b text (x ∷ out) nl rest zero is e newline cuts = record {
  before = b ∷ r.before;
  behind = r.behind;
  parts = ap (λ z. b ∷ z) r.parts;
  at = omega (arith, r.at);
  again = again;
}
  where
    r : SpliceCut (place + 1) 0 text out nl
    r = cuts 0 out (ap (drop 1) e)

    none : (others : List ℕ) → splice_length (b ∷ r.before ++ 10 ∷ others) ≡ 0
    none others = same_splice b r.before others r.behind ∙ ap (λ z. splice_length (b ∷ z)) (sym r.parts) ∙ is

    again : (others : List ℕ) → unspliced place 0 (b ∷ r.before ++ 10 ∷ others) ≡ x ∷ out ++ nl ∷ unspliced (nl.place + 1) 0 others
    again others = let none_there = none others in rw (unspliced, none_there) (ap₂ ◌∷◌ (ap (λ z. get_or z 0 x) e) (r.again others))
next_splice_cut place b text out nl rest (suc n) is e newline cuts = record {
  before = b ∷ r.before;
  behind = r.behind;
  parts = ap (λ z. b ∷ z) r.parts;
  at = omega (arith, r.at);
  again = again;
}
  where
    r : SpliceCut (place + 1) n text out nl
    r = cuts n out e

    long : (others : List ℕ) → splice_length (b ∷ r.before ++ 10 ∷ others) ≡ suc n
    long others = same_splice b r.before others r.behind ∙ ap (λ z. splice_length (b ∷ z)) (sym r.parts) ∙ is

    again : (others : List ℕ) → unspliced place 0 (b ∷ r.before ++ 10 ∷ others) ≡ out ++ nl ∷ unspliced (nl.place + 1) 0 others
    again others = let long_there = long others in rw (unspliced, long_there) (r.again others)

pub splice_cut : (place spliced : ℕ) (text : List ℕ) (out : List SourceByte) (nl : SourceByte) (rest : List SourceByte) → unspliced place spliced text ≡ out ++ nl ∷ rest
    → nl.byte ≡ 10 → SpliceCut place spliced text out nl
splice_cut place spliced [] out nl rest e newline = absurd (no_nil out nl rest e)
splice_cut place (suc spliced) (b ∷ text) out nl rest e newline =
    let r = splice_cut (place + 1) spliced text out nl rest e newline in
    record {
      before = b ∷ r.before;
      behind = r.behind;
      parts = ap (λ z. b ∷ z) r.parts;
      at = omega (arith, r.at);
      again = r.again;
    }
splice_cut place zero (b ∷ text) out nl rest e newline =
    next_splice_cut place b text out nl rest (splice_length (b ∷ text)) refl e newline (λ n o e. splice_cut (place + 1) n text o nl rest e newline)

-- The bytes of a text up to a newline that is shown, and what they show whatever follows.
pub record LineCut (text : List ℕ) (out : List SourceByte) (nl : SourceByte) : Type 0 where
  pub before : List ℕ
  pub behind : List ℕ
  pub parts : text ≡ before ++ 10 ∷ behind
  pub at : nl.place ≡ length before
  pub again : (others : List ℕ) → shown_bytes (before ++ 10 ∷ others) ≡ out ++ nl ∷ all_moved (length before + 1) (shown_bytes others)

pub line_cut : (text : List ℕ) (out : List SourceByte) (nl : SourceByte) (rest : List SourceByte) → shown_bytes text ≡ out ++ nl ∷ rest → nl.byte ≡ 10 → LineCut text out nl
line_cut text out nl rest e newline = record {
  before = b.before;
  behind = b.behind;
  parts = b.parts;
  at = b.at ∙ omega arith;
  again = again;
}
  where
    a : Cut [] 0 0 (unspliced 0 0 text) out nl rest
    a = cut [] 0 0 (unspliced 0 0 text) out nl rest e newline tt

    b : SpliceCut 0 0 text a.before nl
    b = splice_cut 0 0 text a.before nl a.behind a.parts newline

    again : (others : List ℕ) → shown_bytes (b.before ++ 10 ∷ others) ≡ out ++ nl ∷ all_moved (length b.before + 1) (shown_bytes others)
    again others =
        ap (uncommented [] 0 0) (b.again others)
        ∙ a.again (unspliced (nl.place + 1) 0 others)
        ∙ ap (λ p. out ++ nl ∷ uncommented [] 0 0 (unspliced p 0 others)) (let at = b.at in omega (arith, at))
        ∙ ap (λ z. out ++ nl ∷ uncommented [] 0 0 z) (unspliced_moved (length b.before + 1) 0 0 others)
        ∙ ap (λ z. out ++ nl ∷ z) (uncommented_moved (length b.before + 1) [] 0 0 (unspliced 0 0 others))
