-- A text with spaces in place of its comments, one step at a time.
use Rattle.std.proofs.Common.{◌≡◌, ℕ, zero, suc, ◌+◌, ◌-◌, ◌<◌, List, [], ◌∷◌, ◌++◌, length, drop, get_or, refl, ap, sym, ◌∙◌, arith, append_assoc}
use Rattle.std.proofs.lemmas.List.{drop_more, drop-drop}
use Rattle.css_lexemes.specs.declared.source.SourceByte.{SourceByte}
use Rattle.css_lexemes.specs.Source.{bytes_of}
use Rattle.css_lexemes.specs.Comments.{comment_length, constant_behind, front_behind, uncommented}

-- The bytes of a comment are passed.
pub comment_passed : (front : List ℕ) (hidden kept : ℕ) (text : List SourceByte) → uncommented front hidden kept text ≡ uncommented front 0 kept (drop hidden text)
comment_passed front zero kept [] = refl
comment_passed front zero kept (c ∷ text) = refl
comment_passed front (suc hidden) kept [] = refl
comment_passed front (suc hidden) kept (c ∷ text) = comment_passed front hidden kept text

-- A comment stands next.
pub comment_next : (front : List ℕ) (kept n : ℕ) (c : SourceByte) (others : List SourceByte)
    → (0 < kept → n ≡ 0) → (kept ≡ 0 → n ≡ comment_length (bytes_of (c ∷ others))) → 0 < n
    → uncommented front 0 kept (c ∷ others) ≡ record { byte = 32; place = c.place } ∷ uncommented (front_behind front 32) 0 kept (drop n (c ∷ others))
comment_next front (suc kept) n c others inside outside more = absurd (let none = inside (omega arith) in omega arith)
comment_next front zero zero c others inside outside more = absurd (omega arith)
comment_next front zero (suc n) c others inside outside more =
    let is : comment_length (bytes_of (c ∷ others)) ≡ suc n = sym (outside refl) in
    rw (uncommented, is) (ap (λ z. record { byte = 32; place = c.place } ∷ z) (comment_passed (front_behind front 32) n 0 others))

-- Another byte stands next.
pub byte_next : (front : List ℕ) (kept n next : ℕ) (c : SourceByte) (others : List SourceByte)
    → (kept ≡ 0 → n ≡ comment_length (bytes_of (c ∷ others))) → n ≡ 0
    → (0 < kept → next ≡ kept - 1) → (kept ≡ 0 → next ≡ constant_behind front (bytes_of (c ∷ others)) - 1)
    → uncommented front 0 kept (c ∷ others) ≡ c ∷ uncommented (front_behind front c.byte) 0 next others
byte_next front (suc kept) n next c others hidden none inside outside =
    ap (λ k. c ∷ uncommented (front_behind front c.byte) 0 k others) (let is = inside (omega arith) in omega arith)
byte_next front zero n next c others hidden none inside outside =
    let is : comment_length (bytes_of (c ∷ others)) ≡ 0 = sym (hidden refl) ∙ none in
    rw (uncommented, is) (ap (λ k. c ∷ uncommented (front_behind front c.byte) 0 k others) (sym (outside refl)))

abbrev pub at_place : List SourceByte → ℕ → SourceByte
at_place text place = get_or text place (record { byte = 0; place = 0 })

-- So far these bytes are shown, with this front of their line, and `kept` bytes of a constant are to come.
abbrev pub IsShown : (text shown : List SourceByte) (front : List ℕ) (kept place : ℕ) → Type 0
IsShown text shown front kept place = uncommented [] 0 0 text ≡ shown ++ uncommented front 0 kept (drop place text)

-- One more byte is shown: it stands for the rest's first bytes.
more_shown : (text shown all : List SourceByte) (front next_front : List ℕ) (kept next place to : ℕ) (c : SourceByte) → IsShown text shown front kept place
    → all ≡ shown ++ c ∷ [] → uncommented front 0 kept (drop place text) ≡ c ∷ uncommented next_front 0 next (drop to text)
    → IsShown text all next_front next to
more_shown text shown all front next_front kept next place to c done is step =
    done ∙ ap (λ z. shown ++ z) step
    ∙ sym (append_assoc shown (c ∷ []) (uncommented next_front 0 next (drop to text)))
    ∙ ap (λ z. z ++ uncommented next_front 0 next (drop to text)) (sym is)

pub comment_shown : (text rest shown all : List SourceByte) (front next_front : List ℕ) (kept n place : ℕ) → IsShown text shown front kept place → place < length text
    → rest ≡ drop place text → (0 < kept → n ≡ 0) → (kept ≡ 0 → n ≡ comment_length (bytes_of rest)) → 0 < n
    → all ≡ shown ++ record { byte = 32; place = (at_place text place).place } ∷ [] → next_front ≡ front_behind front 32
    → IsShown text all next_front kept (place + n)
comment_shown text rest shown all front next_front kept n place done inside is kept_some kept_none more all_is front_is =
    let c = at_place text place in
    let first : drop place text ≡ c ∷ drop (place + 1) text = drop_more text place (record { byte = 0; place = 0 }) inside in
    let step = comment_next front kept n c (drop (place + 1) text) kept_some (λ z. kept_none z ∙ ap (λ r. comment_length (bytes_of r)) (is ∙ first)) more in
    let then : uncommented (front_behind front 32) 0 kept (drop n (c ∷ drop (place + 1) text)) ≡ uncommented next_front 0 kept (drop (place + n) text) =
    ap (λ r. uncommented (front_behind front 32) 0 kept (drop n r)) (sym first) ∙ ap (λ r. uncommented (front_behind front 32) 0 kept r) (drop-drop n place text)
    ∙ ap (λ f. uncommented f 0 kept (drop (place + n) text)) (sym front_is) in
    more_shown text shown all front next_front kept kept place (place + n) (record { byte = 32; place = c.place }) done all_is
    (ap (uncommented front 0 kept) first ∙ step ∙ ap (λ r. record { byte = 32; place = c.place } ∷ r) then)

pub byte_shown : (text rest shown all : List SourceByte) (front next_front : List ℕ) (kept n next place : ℕ) → IsShown text shown front kept place → place < length text
    → rest ≡ drop place text → (kept ≡ 0 → n ≡ comment_length (bytes_of rest)) → n ≡ 0
    → (0 < kept → next ≡ kept - 1) → (kept ≡ 0 → next ≡ constant_behind front (bytes_of rest) - 1)
    → all ≡ shown ++ at_place text place ∷ [] → next_front ≡ front_behind front (at_place text place).byte
    → IsShown text all next_front next (place + 1)
byte_shown text rest shown all front next_front kept n next place done inside is hidden none kept_some kept_none all_is front_is =
    let c = at_place text place in
    let first : drop place text ≡ c ∷ drop (place + 1) text = drop_more text place (record { byte = 0; place = 0 }) inside in
    let step = byte_next front kept n next c (drop (place + 1) text) (λ z. hidden z ∙ ap (λ r. comment_length (bytes_of r)) (is ∙ first)) none kept_some
    (λ z. kept_none z ∙ ap (λ r. constant_behind front (bytes_of r) - 1) (is ∙ first)) in
    more_shown text shown all front next_front kept next place (place + 1) c done all_is
    (ap (uncommented front 0 kept) first ∙ step ∙ ap (λ f. c ∷ uncommented f 0 next (drop (place + 1) text)) (sym front_is))
