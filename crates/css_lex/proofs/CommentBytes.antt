-- Comments that aren't ended, one byte at a time.
use Rattle.std.proofs.Common.{◌≡◌, ℕ, suc, ◌+◌, ◌<◌, ◌≤◌, inl, inr, Bool, true, false, not, ◌&&◌, ◌||◌, List, [], ◌∷◌, ◌++◌, length, drop, get_or, refl, sym, ap, ◌∙◌, subst, arith, All, Some, None}
use Rattle.std.specs.Prelude.{◌==◌, nat_eq, codes, map, filter}
use Rattle.std.proofs.lemmas.Bool.{both_ways, cond-true, cond-false, cases_Bool, cases_eq, eqb-true, eqb-false, eq-eqb, ne_eqb, and_from, and_left, and_right, and_cases, or_left}
use Rattle.std.proofs.lemmas.List.{drop_more, drop_all}
use Rattle.std.proofs.lemmas.List.Elements.{All-nil, All-cons, All-map, All-filter, All-weaker}
use Rattle.css_lex.specs.declared.breach.Breach.{Breach}
use Rattle.css_lexemes.specs.declared.source.SourceByte.{SourceByte}
use Rattle.css_base.specs.declared.static_fault.StaticName.TheVariants as names
use Rattle.css_lexemes.specs.Source.{splice_length, unspliced, bytes_of, begins_with}
use Rattle.css_lexemes.specs.Comments.{length_before}
use Rattle.css_lexemes.specs.Rising.{AreBetween}
use Rattle.css_lex.specs.Refusals.{breach, is_bad_byte, is_unended, begins_unended, bad_bytes, unended_comments, byte_breach}
use Rattle.css_lex.specs.Found.{IsFirst}
use Rattle.css_lex.specs.CommentEnd.{plain_bytes, has_end}
use Rattle.css_lexemes.proofs.Shifting.{unspliced_moved, moved_bytes}
use Rattle.css_lexemes.proofs.Splices.{past_splice}
use Rattle.css_lex.proofs.Firsts.{AllFrom, AllBehind, in_front, before_others, behind_others, from_behind}
use Rattle.css_lexemes.proofs.Places.{from_lower}

-- Bytes don't hang on the place where a text stands.
pub plain_moved : (place : ℕ) (text : List ℕ) → bytes_of (unspliced place 0 text) ≡ plain_bytes text
plain_moved place text =
    ap (λ p. bytes_of (unspliced p 0 text)) (omega arith) ∙ (ap bytes_of (unspliced_moved place 0 0 text) ∙ moved_bytes place (unspliced 0 0 text))

pub splice_gone : (place n : ℕ) (text : List ℕ) → splice_length (drop place text) ≡ n → 0 < n → plain_bytes (drop place text) ≡ plain_bytes (drop (place + n) text)
splice_gone place n text is some =
    sym (plain_moved place (drop place text)) ∙ (ap bytes_of (past_splice place n text (drop place text) refl is some) ∙ plain_moved (place + n) (drop (place + n) text))

plain_first : (b : ℕ) (text : List ℕ) → splice_length (b ∷ text) ≡ 0 → plain_bytes (b ∷ text) ≡ b ∷ plain_bytes text
plain_first b text none = rw (unspliced, none) (ap (λ r. b ∷ r) (plain_moved (0 + 1) text))

pub byte_there : (at : ℕ) (text : List ℕ) → at < length text → splice_length (drop at text) ≡ 0
    → plain_bytes (drop at text) ≡ get_or text at 0 ∷ plain_bytes (drop (at + 1) text)
byte_there at text inside none =
    let more = drop_more text at 0 inside in
    ap plain_bytes more ∙ plain_first (get_or text at 0) (drop (at + 1) text) (ap splice_length (sym more) ∙ none)

pub nothing_there : (at : ℕ) (text : List ℕ) → length text ≤ at → plain_bytes (drop at text) ≡ []
nothing_there at text end = ap plain_bytes (drop_all at text end)

pub end_step : (star : Bool) (at b : ℕ) (text : List ℕ) → at < length text → splice_length (drop at text) ≡ 0 → b ≡ get_or text at 0
    → has_end star (plain_bytes (drop at text)) ≡ ((star && (b == 47)) || has_end (b == 42) (plain_bytes (drop (at + 1) text)))
end_step star at b text inside none is =
    ap (has_end star) (byte_there at text inside none ∙ ap (λ c. c ∷ plain_bytes (drop (at + 1) text)) (sym is))

turn : (b k : ℕ) → (b == k) ≡ (nat_eq k b && true)
turn b k =
    elim (cases_eq b k) [
      | inl e ↦ eq-eqb b k e ∙ sym (and_from (nat_eq k b) true (eq-eqb k b (sym e)) refl)
      | inr ne ↦ ne_eqb b k ne ∙ sym (and_left (nat_eq k b) true (ne_eqb k b (λ e. ne (sym e))))
    ]

-- A comment's end behind a star, or later.
ends_behind : (text : List ℕ) → has_end true text ≡ (begins_with (codes "/") text || has_end false text)
ends_behind [] = refl
ends_behind (b ∷ text) = ap (λ s. s || has_end (b == 42) text) (turn b 47)

one_longer : (m n : ℕ) → (1 + m == suc n) ≡ (m == n)
one_longer m n =
    elim (cases_eq m n) [
      | inl e ↦ eq-eqb (1 + m) (suc n) (omega (arith, e)) ∙ sym (eq-eqb m n e)
      | inr ne ↦ ne_eqb (1 + m) (suc n) (λ e. ne (omega (arith, e))) ∙ sym (ne_eqb m n ne)
    ]

pair_first : (b : ℕ) (text : List ℕ) → begins_with (codes "*/") (b ∷ text) ≡ (nat_eq 42 b && begins_with (codes "/") text)
pair_first b text = refl

goes_on_unended : (b : ℕ) (text : List ℕ) → begins_with (codes "*/") (b ∷ text) ≡ false
    → (length_before (codes "*/") (b ∷ text) == suc (length text)) ≡ (length_before (codes "*/") text == length text)
goes_on_unended b text none =
    ap (λ n. n == suc (length text)) (cond-false (begins_with (codes "*/") (b ∷ text)) 0 (1 + length_before (codes "*/") text) none)
    ∙ one_longer (length_before (codes "*/") text) (length text)

pub not_ended : (text : List ℕ) → (length_before (codes "*/") text == length text) ≡ not (has_end false text)
not_ended [] = refl
not_ended (b ∷ text) =
    let rest = not_ended text in
    elim (cases_Bool (b == 42)) [
      | inl star ↦
          let star_is : nat_eq 42 b ≡ true = eq-eqb 42 b (sym (eqb-true b 42 star)) in
          let ends : has_end (b == 42) text ≡ (begins_with (codes "/") text || has_end false text) = ap (λ s. has_end s text) star ∙ ends_behind text in
          elim (cases_Bool (begins_with (codes "/") text)) [
            | inl slash ↦
                ap (λ n. n == suc (length text)) (cond-true (begins_with (codes "*/") (b ∷ text)) 0 (1 + length_before (codes "*/") text) (and_from (nat_eq 42 b) (begins_with (codes "/") text) star_is slash))
                ∙ ne_eqb 0 (suc (length text)) (λ e. omega (arith, e))
                ∙ sym (ap not (ends ∙ or_left (begins_with (codes "/") text) (has_end false text) slash))
            | inr other ↦
                goes_on_unended b text (and_right (nat_eq 42 b) (begins_with (codes "/") text) other)
                ∙ (rest ∙ sym (ap not (ends ∙ ap (λ s. s || has_end false text) other)))
          ]
      | inr other ↦
          let other_is : nat_eq 42 b ≡ false = ne_eqb 42 b (λ e. eqb-false b 42 other (sym e)) in
          goes_on_unended b text (and_left (nat_eq 42 b) (begins_with (codes "/") text) other_is)
          ∙ (rest ∙ sym (ap (λ s. not (has_end s text)) other))
    ]

-- The text from `/*` on.
pub unended_is : (text : List ℕ) → is_unended (47 ∷ 42 ∷ text) ≡ not (has_end false text)
unended_is text = not_ended text

pub no_slash : (text : List ℕ) → begins_with (codes "/") text ≡ false → is_unended text ≡ false
no_slash [] none = refl
no_slash (b ∷ text) none =
    let other : nat_eq 47 b ≡ false =
    elim (and_cases (nat_eq 47 b) true none) [ inl h ↦ h | inr h ↦ absurd (both_ways true h refl) ] in
    and_left (begins_with (codes "/*") (b ∷ text)) (length_before (codes "*/") (drop 2 (b ∷ text)) == length (drop 2 (b ∷ text)))
    (and_left (nat_eq 47 b) (begins_with (codes "*") text) other)

pub no_star : (text : List ℕ) → begins_with (codes "*") text ≡ false → is_unended (47 ∷ text) ≡ false
no_star text none = and_left (begins_with (codes "*") text) (length_before (codes "*/") (drop 1 text) == length (drop 1 text)) none

-- Places of a line are not below its lowest.
pub between_from : (low high : ℕ) (line : List SourceByte) → AreBetween low high line → All (λ c. low ≤ c.place) line
between_from low high [] between = All-nil (λ c. low ≤ c.place)
between_from low high (c ∷ line) between =
    All-cons (λ c. low ≤ c.place) c line between.0
    (between_from low high line (from_lower low (c.place + 1) high line (let l = between.0 in omega (arith, l)) between.2))

marked_from : (low : ℕ) (f : SourceByte → Breach) (p : SourceByte → Bool) (line : List SourceByte) → ((c : SourceByte) → (f c).place ≡ c.place)
    → All (λ c. low ≤ c.place) line → AllFrom low (map f (filter p line))
marked_from low f p line same all =
    All-map (λ (b : Breach). low ≤ b.place) f (filter p line)
    (All-filter p (λ c. low ≤ (f c).place) line (All-weaker (λ c. low ≤ c.place) (λ c. low ≤ (f c).place) (λ c h. let e = same c in omega (arith, e, h)) line all))

bad_from : (low : ℕ) (line : List SourceByte) → All (λ c. low ≤ c.place) line → AllFrom low (bad_bytes line)
bad_from low line all = marked_from low (λ b. breach names.BadByte b.place) (λ b. is_bad_byte b.byte) line (λ c. refl) all

unended_from : (text : List ℕ) (low : ℕ) (line : List SourceByte) → All (λ c. low ≤ c.place) line → AllFrom low (unended_comments text line)
unended_from text low line all =
    marked_from low (λ b. breach names.BadToken b.place) (λ b. (b.byte == 32) && begins_unended text b.place) line (λ c. refl) all

bad_one : (c : SourceByte) (line : List SourceByte) → is_bad_byte c.byte ≡ true → bad_bytes (c ∷ line) ≡ breach names.BadByte c.place ∷ bad_bytes line
bad_one c line bad = ap (map (λ (b : SourceByte). breach names.BadByte b.place)) (cond-true (is_bad_byte c.byte) (c ∷ filter (λ b. is_bad_byte b.byte) line) (filter (λ b. is_bad_byte b.byte) line) bad)

bad_none : (c : SourceByte) (line : List SourceByte) → is_bad_byte c.byte ≡ false → bad_bytes (c ∷ line) ≡ bad_bytes line
bad_none c line good = ap (map (λ (b : SourceByte). breach names.BadByte b.place)) (cond-false (is_bad_byte c.byte) (c ∷ filter (λ b. is_bad_byte b.byte) line) (filter (λ b. is_bad_byte b.byte) line) good)

abbrev shows : (text : List ℕ) → SourceByte → Bool
shows text b = (b.byte == 32) && begins_unended text b.place

unended_one : (text : List ℕ) (c : SourceByte) (line : List SourceByte) → shows text c ≡ true
    → unended_comments text (c ∷ line) ≡ breach names.BadToken c.place ∷ unended_comments text line
unended_one text c line holds = ap (map (λ (b : SourceByte). breach names.BadToken b.place)) (cond-true (shows text c) (c ∷ filter (shows text) line) (filter (shows text) line) holds)

unended_none : (text : List ℕ) (c : SourceByte) (line : List SourceByte) → shows text c ≡ false → unended_comments text (c ∷ line) ≡ unended_comments text line
unended_none text c line fails = ap (map (λ (b : SourceByte). breach names.BadToken b.place)) (cond-false (shows text c) (c ∷ filter (shows text) line) (filter (shows text) line) fails)

some_same : (e d : Breach) → Some e ≡ Some d → e ≡ d
some_same e d is = cc

pub one_breaks : (text : List ℕ) (low high : ℕ) (c : SourceByte) (line : List SourceByte) (b : Breach) → AreBetween low high (c ∷ line) → byte_breach text c ≡ Some b
    → IsFirst b (bad_bytes (c ∷ line) ++ unended_comments text (c ∷ line))
one_breaks text low high c line b between is =
    let behind = between_from (c.place + 1) high line between.2 in
    let from = All-weaker (λ d. c.place + 1 ≤ d.place) (λ d. c.place ≤ d.place) (λ d h. omega (arith, h)) line behind in
    let all : All (λ d. c.place ≤ d.place) (c ∷ line) = All-cons (λ d. c.place ≤ d.place) c line (omega arith) from in
    elim (cases_Bool (is_bad_byte c.byte)) [
      | inl bad ↦
          let first = breach names.BadByte c.place in
          let same : first ≡ b = some_same first b (sym (cond-true (is_bad_byte c.byte) _ _ bad) ∙ is) in
          subst (λ d. IsFirst d (bad_bytes (c ∷ line) ++ unended_comments text (c ∷ line))) same
          (before_others first (bad_bytes (c ∷ line)) (unended_comments text (c ∷ line))
          (subst (IsFirst first) (sym (bad_one c line bad)) (in_front first (bad_bytes line) (bad_from c.place line from)))
          (unended_from text c.place (c ∷ line) all))
      | inr good ↦
          elim (cases_Bool (shows text c)) [
            | inl holds ↦
                let first = breach names.BadToken c.place in
                let same : first ≡ b = some_same first b (sym (cond-false (is_bad_byte c.byte) _ _ good ∙ cond-true (shows text c) _ _ holds) ∙ is) in
                subst (λ d. IsFirst d (bad_bytes (c ∷ line) ++ unended_comments text (c ∷ line))) same
                (behind_others first (bad_bytes (c ∷ line)) (unended_comments text (c ∷ line))
                (subst (AllBehind c.place) (sym (bad_none c line good)) (from_behind c.place (c.place + 1) (bad_bytes line) (omega arith) (bad_from (c.place + 1) line behind)))
                (subst (IsFirst first) (sym (unended_one text c line holds)) (in_front first (unended_comments text line) (unended_from text c.place line from))))
            | inr fails ↦ absurd (let e : None ≡ Some b = sym (cond-false (is_bad_byte c.byte) _ _ good ∙ cond-false (shows text c) _ _ fails) ∙ is in cc)
          ]
    ]

pub none_breaks : (text : List ℕ) (c : SourceByte) (line : List SourceByte) → byte_breach text c ≡ None
    → (bad_bytes (c ∷ line) ≡ bad_bytes line) × (unended_comments text (c ∷ line) ≡ unended_comments text line)
none_breaks text c line is =
    elim (cases_Bool (is_bad_byte c.byte)) [
      | inl bad ↦ absurd (let e : Some (breach names.BadByte c.place) ≡ None = sym (cond-true (is_bad_byte c.byte) _ _ bad) ∙ is in cc)
      | inr good ↦
          elim (cases_Bool (shows text c)) [
            | inl holds ↦
                absurd
                (let e : Some (breach names.BadToken c.place) ≡ None = sym (cond-false (is_bad_byte c.byte) _ _ good ∙ cond-true (shows text c) _ _ holds) ∙ is in cc)
            | inr fails ↦ (bad_none c line good, unended_none text c line fails)
          ]
    ]
