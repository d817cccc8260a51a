-- A comment that isn't ended is the last that a text shows.
use Rattle.std.proofs.Common.{◌≡◌, ℕ, zero, suc, ◌+◌, ◌-◌, ◌≤◌, min, true, false, ◌&&◌, List, [], ◌∷◌, ◌++◌, length, drop, refl, ap, sym, ◌∙◌, subst, arith, inl, inr, length-append, length-drop}
use Rattle.std.specs.Prelude.{codes, ◌==◌}
use Rattle.std.proofs.lemmas.Bool.{cases_Bool, and_parts, and_left, and_right, cond-true, eqb-true}
use Rattle.std.proofs.lemmas.List.{drop-drop, length-map}
use Rattle.css_lexemes.specs.declared.source.SourceByte.{SourceByte}
use Rattle.css_lexemes.specs.Source.{begins_with, splice_length, unspliced, bytes_of}
use Rattle.css_lexemes.specs.Comments.{length_before, comment_length, constant_behind, front_behind, uncommented}
use Rattle.css_lexemes.specs.Lines.{shown_bytes}
use Rattle.css_lex.specs.Refusals.{is_unended, begins_unended}
use Rattle.css_erased_text.proofs.Alike.{is_unended_at}

-- Each byte with those behind it is what the text shows without splices from the byte's place on.
abbrev AreRests : (text : List ℕ) → List SourceByte → Type 0
AreRests text [] = Unit {0}
AreRests text (c ∷ bytes) = (unspliced c.place 0 (drop c.place text) ≡ c ∷ bytes) × AreRests text bytes

rests_step : (text : List ℕ) (place b : ℕ) (rest : List ℕ) (n : ℕ) → b ∷ rest ≡ drop place text → splice_length (b ∷ rest) ≡ n
    → ((m : ℕ) → AreRests text (unspliced (place + 1) m rest))
    → AreRests text (elim n [ zero ↦ record { byte = b; place = place } ∷ unspliced (place + 1) 0 rest | suc m ↦ unspliced (place + 1) m rest ])
rests_step text place b rest zero is none more = (ap (unspliced place 0) (sym is) ∙ whole, more 0)
  where
    whole : unspliced place 0 (b ∷ rest) ≡ record { byte = b; place = place } ∷ unspliced (place + 1) 0 rest
    whole = rw (unspliced, none) refl
rests_step text place b rest (suc n) is long more = more n

rests : (text : List ℕ) (place spliced : ℕ) (rest : List ℕ) → rest ≡ drop place text → AreRests text (unspliced place spliced rest)
rests text place spliced [] is = tt
rests text place (suc spliced) (b ∷ rest) is =
    rests text (place + 1) spliced rest (ap (drop 1) is ∙ drop-drop 1 place text)
rests text place zero (b ∷ rest) is =
    rests_step text place b rest (splice_length (b ∷ rest)) is refl (λ m. rests text (place + 1) m rest (ap (drop 1) is ∙ drop-drop 1 place text))

-- Each of these bytes that stands for a comment stands for one that is ended.
abbrev pub AreEnded : (text : List ℕ) → List SourceByte → Type 0
AreEnded text [] = Unit {0}
AreEnded text (c ∷ bytes) = (is_unended_at text c ≡ false) × AreEnded text bytes

no_comment : (b : ℕ) (bytes : List ℕ) → ((b == 32) && is_unended (b ∷ bytes)) ≡ false
no_comment b bytes =
    elim (cases_Bool (b == 32)) [
      | inl space ↦ ap (λ x. (b == 32) && is_unended (x ∷ bytes)) (eqb-true b 32 space) ∙ and_right (b == 32) false refl
      | inr other ↦ and_left (b == 32) (is_unended (b ∷ bytes)) other
    ]

-- A byte that stands for itself.
own_ended : (text : List ℕ) (c : SourceByte) (bytes : List SourceByte) → unspliced c.place 0 (drop c.place text) ≡ c ∷ bytes → is_unended_at text c ≡ false
own_ended text c bytes is = ap (λ z. (c.byte == 32) && is_unended (bytes_of z)) is ∙ no_comment c.byte (bytes_of bytes)

all_hidden : (front : List ℕ) (n : ℕ) (bytes : List SourceByte) → length bytes ≤ n → uncommented front n 0 bytes ≡ []
all_hidden front zero [] few = refl
all_hidden front (suc n) [] few = refl
all_hidden front zero (c ∷ bytes) few = absurd (omega (arith, few))
all_hidden front (suc n) (c ∷ bytes) few = all_hidden front n bytes (omega (arith, few))

unended_length : (bytes : List ℕ) → is_unended bytes ≡ true → comment_length bytes ≡ length bytes
unended_length bytes is =
    let both = and_parts (begins_with (codes "/*") bytes) (length_before (codes "*/") (drop 2 bytes) == length (drop 2 bytes)) is in
    let end = eqb-true (length_before (codes "*/") (drop 2 bytes)) (length (drop 2 bytes)) both.1 in
    let rest = length-drop 2 bytes in
    cond-true (begins_with (codes "/*") bytes) (min (length bytes) (4 + length_before (codes "*/") (drop 2 bytes))) _ both.0
    ∙ omega (arith, end, rest)

no_nil : (out : List SourceByte) (nl : SourceByte) (rest : List SourceByte) → [] ≡ out ++ nl ∷ rest → ⊥
no_nil out nl rest e = let l = length-append out (nl ∷ rest) in let s = ap length e in omega (arith, l, s)

comment_ended : (text front : List ℕ) (n : ℕ) (c : SourceByte) (bytes out : List SourceByte) (nl : SourceByte) (rest : List SourceByte)
    → unspliced c.place 0 (drop c.place text) ≡ c ∷ bytes → comment_length (bytes_of (c ∷ bytes)) ≡ suc n → uncommented front n 0 bytes ≡ out ++ nl ∷ rest
    → begins_unended text c.place ≡ false
comment_ended text front n c bytes out nl rest is long more =
    elim (cases_Bool (begins_unended text c.place)) [
      | inl unended ↦
          let all = unended_length (bytes_of (c ∷ bytes)) (sym (ap (λ z. is_unended (bytes_of z)) is) ∙ unended) in
          let l : length (bytes_of bytes) ≡ length bytes = length-map bytes (λ b. b.byte) in
          absurd (no_nil out nl rest (sym (all_hidden front n bytes (omega (arith, all, long, l))) ∙ more))
      | inr ended ↦ ended
    ]

first_byte : (a b : SourceByte) (these those : List SourceByte) → a ∷ these ≡ b ∷ those → (a ≡ b) × (these ≡ those)
first_byte a b these those e = (cc, cc)

ended_step : (text front : List ℕ) (n : ℕ) (c : SourceByte) (bytes out : List SourceByte) (x nl : SourceByte) (rest : List SourceByte)
    → unspliced c.place 0 (drop c.place text) ≡ c ∷ bytes → comment_length (bytes_of (c ∷ bytes)) ≡ n
    → elim n [
      | zero ↦ c ∷ uncommented (front_behind front c.byte) 0 (constant_behind front (bytes_of (c ∷ bytes)) - 1) bytes
      | suc m ↦ record { byte = 32; place = c.place } ∷ uncommented (front_behind front 32) m 0 bytes
    ] ≡ x ∷ out ++ nl ∷ rest
    → ((front : List ℕ) (hidden kept : ℕ) → uncommented front hidden kept bytes ≡ out ++ nl ∷ rest → AreEnded text out)
    → AreEnded text (x ∷ out)
ended_step text front zero c bytes out x nl rest is long e more =
    let k : ℕ = constant_behind front (bytes_of (c ∷ bytes)) - 1 in
    let both = first_byte c x (uncommented (front_behind front c.byte) 0 k bytes) (out ++ nl ∷ rest) e in
    (subst (λ d. is_unended_at text d ≡ false) both.0 (own_ended text c bytes is), more (front_behind front c.byte) 0 k both.1)
ended_step text front (suc n) c bytes out x nl rest is long e more =
    let space : SourceByte = record { byte = 32; place = c.place } in
    let both = first_byte space x (uncommented (front_behind front 32) n 0 bytes) (out ++ nl ∷ rest) e in (
      subst (λ d. is_unended_at text d ≡ false) both.0
          (and_right (space.byte == 32) (begins_unended text c.place) (comment_ended text (front_behind front 32) n c bytes out nl rest is long both.1)),
      more (front_behind front 32) n 0 both.1,
    )

ended : (text front : List ℕ) (hidden kept : ℕ) (bytes out : List SourceByte) (nl : SourceByte) (rest : List SourceByte) → AreRests text bytes
    → uncommented front hidden kept bytes ≡ out ++ nl ∷ rest → AreEnded text out
ended text front hidden kept [] out nl rest are e = absurd (no_nil out nl rest e)
ended text front (suc hidden) kept (c ∷ bytes) out nl rest are e = ended text front hidden kept bytes out nl rest are.1 e
ended text front zero (suc kept) (c ∷ bytes) [] nl rest are e = tt
ended text front zero (suc kept) (c ∷ bytes) (x ∷ out) nl rest are e =
    let both = first_byte c x (uncommented (front_behind front c.byte) 0 kept bytes) (out ++ nl ∷ rest) e in
    (subst (λ d. is_unended_at text d ≡ false) both.0 (own_ended text c bytes are.0), ended text (front_behind front c.byte) 0 kept bytes out nl rest are.1 both.1)
ended text front zero zero (c ∷ bytes) [] nl rest are e = tt
ended text front zero zero (c ∷ bytes) (x ∷ out) nl rest are e =
    ended_step text front (comment_length (bytes_of (c ∷ bytes))) c bytes out x nl rest are.0 refl e (λ f h k more. ended text f h k bytes out nl rest are.1 more)

-- What is shown before another byte.
pub shown_ended : (text : List ℕ) (out : List SourceByte) (nl : SourceByte) (rest : List SourceByte) → shown_bytes text ≡ out ++ nl ∷ rest → AreEnded text out
shown_ended text out nl rest e = ended text [] 0 0 (unspliced 0 0 text) out nl rest (rests text 0 0 text refl) e
