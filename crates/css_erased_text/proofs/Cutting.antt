-- What stands up to a newline that ends a line doesn't depend on what follows it.
use Rattle.std.proofs.Common.{◌≡◌, ℕ, zero, suc, ◌+◌, ◌-◌, ◌<◌, ◌≤◌, min, Bool, true, false, not, ◌&&◌, List, [], ◌∷◌, ◌++◌, length, drop, cond, refl, ap, ap₂, sym, ◌∙◌, subst, arith, length-append, get_or}
use Rattle.std.specs.Prelude.{codes, ◌==◌}
use Rattle.std.proofs.lemmas.List.{map-append, length-map}
use Rattle.std.proofs.lemmas.Bool.{eqb-false}
use Rattle.css_lexemes.proofs.Uncommenting.{comment_passed, comment_next, byte_next}
use Rattle.css_lexemes.specs.declared.source.SourceByte.{SourceByte}
use Rattle.css_lexemes.specs.Source.{begins_with, splice_length, bytes_of}
use Rattle.css_lexemes.specs.Comments.{length_before, comment_length, is_quote, constant_rest, constant_length, passes_over, constant_behind, front_behind, uncommented}

-- Splices.
pub same_splice : (b : ℕ) (m r s : List ℕ) → splice_length (b ∷ m ++ 10 ∷ r) ≡ splice_length (b ∷ m ++ 10 ∷ s)
same_splice b [] r s = refl
same_splice b (c ∷ []) r s = refl
same_splice b (c ∷ d ∷ m) r s = refl

-- Pairs of bytes that hold no newline.
same_slash_star : (b : ℕ) (m r s : List ℕ) → begins_with (codes "/*") (b ∷ m ++ 10 ∷ r) ≡ begins_with (codes "/*") (b ∷ m ++ 10 ∷ s)
same_slash_star b [] r s = refl
same_slash_star b (c ∷ m) r s = refl

same_slashes : (b : ℕ) (m r s : List ℕ) → begins_with (codes "//") (b ∷ m ++ 10 ∷ r) ≡ begins_with (codes "//") (b ∷ m ++ 10 ∷ s)
same_slashes b [] r s = refl
same_slashes b (c ∷ m) r s = refl

same_star_slash : (b : ℕ) (m r s : List ℕ) → begins_with (codes "*/") (b ∷ m ++ 10 ∷ r) ≡ begins_with (codes "*/") (b ∷ m ++ 10 ∷ s)
same_star_slash b [] r s = refl
same_star_slash b (c ∷ m) r s = refl

same_end : (m r s : List ℕ) → length_before (codes "*/") (m ++ 10 ∷ r) < length m
    → length_before (codes "*/") (m ++ 10 ∷ s) ≡ length_before (codes "*/") (m ++ 10 ∷ r)
same_end [] r s few = absurd (omega (arith, few))
same_end (b ∷ m) r s few = by (begins_with (codes "*/") (b ∷ m ++ 10 ∷ r)) (begins_with (codes "*/") (b ∷ m ++ 10 ∷ s)) (same_star_slash b m r s) (same_end m r s) few
  where
    by : (x y : Bool) → x ≡ y
        → (length_before (codes "*/") (m ++ 10 ∷ r) < length m → length_before (codes "*/") (m ++ 10 ∷ s) ≡ length_before (codes "*/") (m ++ 10 ∷ r))
        → cond x 0 (1 + length_before (codes "*/") (m ++ 10 ∷ r)) < length (b ∷ m)
        → cond y 0 (1 + length_before (codes "*/") (m ++ 10 ∷ s)) ≡ cond x 0 (1 + length_before (codes "*/") (m ++ 10 ∷ r))
    by true true e rest l = refl
    by false false e rest l = ap (λ n. 1 + n) (rest (omega (arith, l)))
    by true false e rest l = grind (arith, e)
    by false true e rest l = grind (arith, e)

same_line_end : (m r s : List ℕ) → length_before (codes "\n") (m ++ 10 ∷ r) ≡ length_before (codes "\n") (m ++ 10 ∷ s)
same_line_end [] r s = refl
same_line_end (b ∷ m) r s = ap (λ n. cond (begins_with (codes "\n") (b ∷ m ++ 10 ∷ r)) 0 (1 + n)) (same_line_end m r s)

same_rest : (quote : ℕ) (escaped : Bool) (m r s : List ℕ) → constant_rest quote escaped (m ++ 10 ∷ r) ≡ constant_rest quote escaped (m ++ 10 ∷ s)
same_rest quote escaped [] r s = refl
same_rest quote escaped (b ∷ m) r s =
    ap (λ n. cond (b == 10) 0 (cond ((b == quote) && not escaped) 1 (1 + n))) (same_rest quote ((b == 92) && not escaped) m r s)

same_constant : (b : ℕ) (m r s : List ℕ) → constant_length (b ∷ m ++ 10 ∷ r) ≡ constant_length (b ∷ m ++ 10 ∷ s)
same_constant b m r s = ap (λ n. cond (is_quote b) (1 + n) 0) (same_rest b false m r s)

-- The length of a comment, by its parts.
abbrev length_by : (block line : Bool) (all before_end before_line : ℕ) → ℕ
length_by block line all before_end before_line = cond block (min all (4 + before_end)) (cond line before_line 0)

choose : (p q : Bool) (all others before other_before line other_line n k : ℕ) → (before < k → other_before ≡ before) → line ≡ other_line
    → k + 3 ≤ all → k + 3 ≤ others → length_by p q all before line ≡ n → n ≤ k + 2 → length_by p q others other_before other_line ≡ n
choose true q all others before other_before line other_line n k same same_line l m is few =
    let early : before < k = omega (arith, l, is, few) in
    let e = same early in
    omega (arith, e, l, m, is, few)
choose false true all others before other_before line other_line n k same same_line l m is few = sym same_line ∙ is
choose false false all others before other_before line other_line n k same same_line l m is few = is

choose_short : (p q : Bool) (all others before other_before line other_line n : ℕ) → line ≡ other_line
    → length_by (p && false) q all before line ≡ n → length_by (p && false) q others other_before other_line ≡ n
choose_short true true all others before other_before line other_line n same is = sym same ∙ is
choose_short true false all others before other_before line other_line n same is = is
choose_short false true all others before other_before line other_line n same is = sym same ∙ is
choose_short false false all others before other_before line other_line n same is = is

-- A comment that ends before the newline.
same_comment : (b : ℕ) (m r s : List ℕ) (n : ℕ) → comment_length (b ∷ m ++ 10 ∷ r) ≡ n → n ≤ length m + 1 → comment_length (b ∷ m ++ 10 ∷ s) ≡ n
same_comment b [] r s n is few =
    choose_short (47 == b) (begins_with (codes "//") (b ∷ 10 ∷ r)) (length (b ∷ 10 ∷ r)) (length (b ∷ 10 ∷ s)) (length_before (codes "*/") r) (length_before (codes "*/") s)
    (length_before (codes "\n") (b ∷ 10 ∷ r)) (length_before (codes "\n") (b ∷ 10 ∷ s)) n (same_line_end (b ∷ []) r s) is
same_comment b (d ∷ m) r s n is few =
    choose (begins_with (codes "/*") (b ∷ d ∷ m ++ 10 ∷ r)) (begins_with (codes "//") (b ∷ d ∷ m ++ 10 ∷ r)) (length (b ∷ d ∷ m ++ 10 ∷ r)) (length (b ∷ d ∷ m ++ 10 ∷ s))
    (length_before (codes "*/") (m ++ 10 ∷ r)) (length_before (codes "*/") (m ++ 10 ∷ s)) (length_before (codes "\n") (b ∷ d ∷ m ++ 10 ∷ r)) (length_before (codes "\n") (b ∷ d ∷ m ++ 10 ∷ s))
    n (length m) (same_end m r s) (same_line_end (b ∷ d ∷ m) r s)
    (let l = length-append m (10 ∷ r) in omega (arith, l)) (let l = length-append m (10 ∷ s) in omega (arith, l)) is (omega (arith, few))

-- Among the first bytes there is no newline.
abbrev PlainFor : ℕ → List SourceByte → Type 0
PlainFor zero bytes = Unit {0}
PlainFor (suc k) [] = Unit {0}
PlainFor (suc k) (c ∷ bytes) = (c.byte ≡ 10 → ⊥) × PlainFor k bytes

rest_plain : (quote : ℕ) (escaped : Bool) (bytes : List SourceByte) → PlainFor (constant_rest quote escaped (bytes_of bytes)) bytes
rest_plain quote escaped [] = tt
rest_plain quote escaped (c ∷ bytes) =
    by (c.byte == 10) ((c.byte == quote) && not escaped) refl (rest_plain quote ((c.byte == 92) && not escaped) bytes)
  where
    by : (newline ends : Bool) → (c.byte == 10) ≡ newline → PlainFor (constant_rest quote ((c.byte == 92) && not escaped) (bytes_of bytes)) bytes
        → PlainFor (cond newline 0 (cond ends 1 (1 + constant_rest quote ((c.byte == 92) && not escaped) (bytes_of bytes)))) (c ∷ bytes)
    by true ends is rest = tt
    by false true is rest = (eqb-false c.byte 10 is, tt)
    by false false is rest =
        let both : PlainFor (suc (constant_rest quote ((c.byte == 92) && not escaped) (bytes_of bytes))) (c ∷ bytes) = (eqb-false c.byte 10 is, rest) in
        let one_more : suc (constant_rest quote ((c.byte == 92) && not escaped) (bytes_of bytes)) ≡ 1 + constant_rest quote ((c.byte == 92) && not escaped) (bytes_of bytes) = omega arith in
        subst (λ n. PlainFor n (c ∷ bytes)) one_more both

constant_plain : (front : List ℕ) (c : SourceByte) (bytes : List SourceByte) → PlainFor (constant_behind front (bytes_of (c ∷ bytes)) - 1) bytes
constant_plain front c bytes = by (passes_over front) (is_quote c.byte)
  where
    by : (over quote : Bool) → PlainFor (cond over 0 (cond quote (1 + constant_rest c.byte false (bytes_of bytes)) 0) - 1) bytes
    by true quote = tt
    by false false = tt
    by false true = subst (λ n. PlainFor n bytes) (omega arith) (rest_plain c.byte false bytes)

bytes_cut : (ms vs : List SourceByte) (nl : SourceByte) → nl.byte ≡ 10 → bytes_of (ms ++ nl ∷ vs) ≡ bytes_of ms ++ 10 ∷ bytes_of vs
bytes_cut ms vs nl newline = map-append (λ (c : SourceByte). c.byte) ms (nl ∷ vs) ∙ ap (λ b. bytes_of ms ++ b ∷ bytes_of vs) newline

-- The bytes up to a newline that is shown, and what they show whatever follows.
pub record Cut (front : List ℕ) (hidden kept : ℕ) (bytes out : List SourceByte) (nl : SourceByte) (rest : List SourceByte) : Type 0 where
  pub before : List SourceByte
  pub behind : List SourceByte
  pub parts : bytes ≡ before ++ nl ∷ behind
  pub hidden_before : hidden ≤ length before
  pub again : (others : List SourceByte) → uncommented front hidden kept (before ++ nl ∷ others) ≡ out ++ nl ∷ uncommented [] 0 0 others

no_nil : (out : List SourceByte) (nl : SourceByte) (rest : List SourceByte) → [] ≡ out ++ nl ∷ rest → ⊥
no_nil out nl rest e = let l = length-append out (nl ∷ rest) in let s = ap length e in omega (arith, l, s)

at_newline : (front : List ℕ) (nl : SourceByte) (others : List SourceByte) → nl.byte ≡ 10 → uncommented front 0 0 (nl ∷ others) ≡ nl ∷ uncommented [] 0 0 others
at_newline front nl others newline =
    subst (λ b. uncommented front 0 0 (record { byte = b; place = nl.place } ∷ others) ≡ record { byte = b; place = nl.place } ∷ uncommented [] 0 0 others)
    (sym newline) (by (passes_over front))
  where
    by : (over : Bool) → ◌≡◌ {A = List SourceByte} (record { byte = 10; place = nl.place } ∷ uncommented [] 0 (cond over 0 0 - 1) others) (record { byte = 10; place = nl.place } ∷ uncommented [] 0 0 others)
    by true = refl
    by false = refl

next_cut : (front : List ℕ) (c : SourceByte) (us out : List SourceByte) (nl : SourceByte) (rest : List SourceByte) (n : ℕ) → comment_length (bytes_of (c ∷ us)) ≡ n
    → elim n [
      | zero ↦ c ∷ uncommented (front_behind front c.byte) 0 (constant_behind front (bytes_of (c ∷ us)) - 1) us
      | suc m ↦ record { byte = 32; place = c.place } ∷ uncommented (front_behind front 32) m 0 us
    ] ≡ out ++ nl ∷ rest
    → nl.byte ≡ 10
    → ((front : List ℕ) (hidden kept : ℕ) (out : List SourceByte) → uncommented front hidden kept us ≡ out ++ nl ∷ rest → PlainFor kept (drop hidden us) → Cut front hidden kept us out nl rest)
    → Cut front 0 0 (c ∷ us) out nl rest
next_cut front c us [] nl rest zero is e newline cuts = record {
  before = [];
  behind = us;
  parts = ap (λ z. z ∷ us) (ap (λ z. get_or z 0 c) e);
  hidden_before = omega arith;
  again = λ others. at_newline front nl others newline;
}
next_cut front c us (x ∷ out) nl rest zero is e newline cuts = record {
  before = c ∷ r.before;
  behind = r.behind;
  parts = ap (λ z. c ∷ z) r.parts;
  hidden_before = omega arith;
  again = again;
}
  where
    k : ℕ
    k = constant_behind front (bytes_of (c ∷ us)) - 1

    r : Cut (front_behind front c.byte) 0 k us out nl rest
    r = cuts (front_behind front c.byte) 0 k out (ap (drop 1) e) (constant_plain front c us)

    bytes_are : (others : List SourceByte) → bytes_of (c ∷ r.before ++ nl ∷ others) ≡ c.byte ∷ bytes_of r.before ++ 10 ∷ bytes_of others
    bytes_are others = ap (λ z. c.byte ∷ z) (bytes_cut r.before others nl newline)

    whole : bytes_of (c ∷ us) ≡ c.byte ∷ bytes_of r.before ++ 10 ∷ bytes_of r.behind
    whole = ap (λ z. bytes_of (c ∷ z)) r.parts ∙ bytes_are r.behind

    none : (others : List SourceByte) → comment_length (bytes_of (c ∷ r.before ++ nl ∷ others)) ≡ 0
    none others =
        ap comment_length (bytes_are others)
        ∙ same_comment c.byte (bytes_of r.before) (bytes_of r.behind) (bytes_of others) 0 (ap comment_length (sym whole) ∙ is) (omega arith)

    same_k : (others : List SourceByte) → k ≡ constant_behind front (bytes_of (c ∷ r.before ++ nl ∷ others)) - 1
    same_k others =
        ap (λ z. constant_behind front z - 1) whole
        ∙ ap (λ z. cond (passes_over front) 0 z - 1) (same_constant c.byte (bytes_of r.before) (bytes_of r.behind) (bytes_of others))
        ∙ ap (λ z. constant_behind front z - 1) (sym (bytes_are others))

    again : (others : List SourceByte) → uncommented front 0 0 (c ∷ r.before ++ nl ∷ others) ≡ x ∷ out ++ nl ∷ uncommented [] 0 0 others
    again others =
        byte_next front 0 0 k c (r.before ++ nl ∷ others) (λ z. sym (none others)) refl (λ l. absurd (omega (arith, l))) (λ z. same_k others)
        ∙ ap₂ ◌∷◌ (ap (λ z. get_or z 0 c) e) (r.again others)
next_cut front c us [] nl rest (suc n) is e newline cuts =
    absurd (let h = ap (λ (z : List SourceByte). (get_or z 0 c).byte) e in omega (arith, h, newline))
next_cut front c us (x ∷ out) nl rest (suc n) is e newline cuts = record {
  before = c ∷ r.before;
  behind = r.behind;
  parts = ap (λ z. c ∷ z) r.parts;
  hidden_before = omega arith;
  again = again;
}
  where
    r : Cut (front_behind front 32) n 0 us out nl rest
    r = cuts (front_behind front 32) n 0 out (ap (drop 1) e) tt

    bytes_are : (others : List SourceByte) → bytes_of (c ∷ r.before ++ nl ∷ others) ≡ c.byte ∷ bytes_of r.before ++ 10 ∷ bytes_of others
    bytes_are others = ap (λ z. c.byte ∷ z) (bytes_cut r.before others nl newline)

    long : (others : List SourceByte) → suc n ≡ comment_length (bytes_of (c ∷ r.before ++ nl ∷ others))
    long others =
        sym (ap comment_length (bytes_are others)
        ∙ same_comment c.byte (bytes_of r.before) (bytes_of r.behind) (bytes_of others) (suc n)
        (ap comment_length (sym (bytes_are r.behind)) ∙ ap (λ z. comment_length (bytes_of (c ∷ z))) (sym r.parts) ∙ is)
        (let l : length (bytes_of r.before) ≡ length r.before = length-map r.before (λ b. b.byte) in omega (arith, l, r.hidden_before)))

    again : (others : List SourceByte) → uncommented front 0 0 (c ∷ r.before ++ nl ∷ others) ≡ x ∷ out ++ nl ∷ uncommented [] 0 0 others
    again others =
        comment_next front 0 (suc n) c (r.before ++ nl ∷ others) (λ l. absurd (omega (arith, l))) (λ z. long others) (omega arith)
        ∙ ap (λ z. record { byte = 32; place = c.place } ∷ z) (sym (comment_passed (front_behind front 32) n 0 (r.before ++ nl ∷ others)))
        ∙ ap₂ ◌∷◌ (ap (λ z. get_or z 0 c) e) (r.again others)

pub cut : (front : List ℕ) (hidden kept : ℕ) (us out : List SourceByte) (nl : SourceByte) (rest : List SourceByte) → uncommented front hidden kept us ≡ out ++ nl ∷ rest
    → nl.byte ≡ 10 → PlainFor kept (drop hidden us) → Cut front hidden kept us out nl rest
cut front zero kept [] out nl rest e newline plain = absurd (no_nil out nl rest e)
cut front (suc hidden) kept [] out nl rest e newline plain = absurd (no_nil out nl rest e)
cut front (suc hidden) kept (c ∷ us) out nl rest e newline plain =
    let r = cut front hidden kept us out nl rest e newline plain in
    record {
      before = c ∷ r.before;
      behind = r.behind;
      parts = ap (λ z. c ∷ z) r.parts;
      hidden_before = omega (arith, r.hidden_before);
      again = r.again;
    }
cut front zero (suc kept) (c ∷ us) [] nl rest e newline plain = absurd (plain.0 (ap (λ (z : List SourceByte). (get_or z 0 c).byte) e ∙ newline))
cut front zero (suc kept) (c ∷ us) (x ∷ out) nl rest e newline plain =
    let r = cut (front_behind front c.byte) 0 kept us out nl rest (ap (drop 1) e) newline plain.1 in
    record {
      before = c ∷ r.before;
      behind = r.behind;
      parts = ap (λ z. c ∷ z) r.parts;
      hidden_before = omega arith;
      again = λ others. ap₂ ◌∷◌ (ap (λ z. get_or z 0 c) e) (r.again others);
    }
cut front zero zero (c ∷ us) out nl rest e newline plain =
    next_cut front c us out nl rest (comment_length (bytes_of (c ∷ us))) refl e newline (λ f h k o e p. cut f h k us o nl rest e newline p)
