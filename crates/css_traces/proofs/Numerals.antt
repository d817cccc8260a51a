-- Numbers in decimal, and their bytes.
use Rattle.std.proofs.Common.{◌≡◌, ◌∙◌, ◌+◌, ◌*◌, ◌<◌, ◌≤◌, ◌^◌, ℕ, zero, suc, Bool, true, false, ◌&&◌, ◌||◌, not, eqb, ltb, leb, List, [], ◌∷◌, length, take, get_or, Some, None, refl, sym, ap, subst, inl, inr, arith}
use Rattle.std.specs.List.{list_all}
use Rattle.std.specs.Char.{digit_value}
use Rattle.std.specs.Fmt.{decimal}
use Rattle.std.specs.Int.{IsInRange}
use Rattle.std.specs.Str.Parse.{digits_value}
use Rattle.std.proofs.lemmas.Bool.{true≢false, and_parts, and_from, or_cases, or_left, or_right, ltb-true, lt-ltb, leb-true, le-leb, eqb-true, eq-eqb, ne_eqb, not-true, not_from_false, cond-true}
use Rattle.std.proofs.lemmas.Option.{same_Some}
use Rattle.std.proofs.lemmas.Int.Digits.{digits_value_more}
use Rattle.std.proofs.lemmas.Str.Parse.{IsDigitsTest, IsNumeralModel, numerals_by_value, digits_value-take-le}
use Rattle.std.proofs.lemmas.Fmt.{digits_decimal, digits_value-decimal, decimal_nonempty, first_decimal, decimal_digit, decimal-digits_value}
use Rattle.css_traces.specs.Names.{is_digit}
use Rattle.css_traces.specs.Words.{is_plain, number_below}
use Rattle.css_traces.proofs.Answers.{passed}

digit_range : (b : ℕ) → is_digit b ≡ true → IsInRange 48 57 b
digit_range b h = let p = and_parts (leb 48 b) (leb b 57) h in (leb-true 48 b p.0, leb-true b 57 p.1)

range_digit : (b : ℕ) → IsInRange 48 57 b → is_digit b ≡ true
range_digit b h = and_from (leb 48 b) (leb b 57) (le-leb 48 b h.0) (le-leb b 57 h.1)

tells_digits : IsDigitsTest (λ ds. list_all is_digit ds ≡ true)
tells_digits = record {
  empty = refl;
  parts = λ c cs h. let p = and_parts (is_digit c) (list_all is_digit cs) h in (digit_range c p.0, p.1);
  more = λ c cs r h. and_from (is_digit c) (list_all is_digit cs) (range_digit c r) h;
}

pub own : IsNumeralModel (λ ds. list_all is_digit ds ≡ true) (digits_value 10)
own = numerals_by_value (λ ds. list_all is_digit ds ≡ true) tells_digits

-- ---- numbers below a limit

zero_is : (b : ℕ) → b ≡ 48 → eqb b 48 ≡ false → ⊥
zero_is b z differs = true≢false (sym (eq-eqb b 48 z) ∙ differs)

pub number_takes : (limit : ℕ) (word : List ℕ) (n : ℕ) → limit ≤ 2 ^ 64 → number_below limit word ≡ Some n → (decimal n ≡ word) × (n < limit)
unfolding number_below
number_takes limit word n within e =
    let g = passed (is_plain word && ltb (digits_value 10 word) limit) (Some (digits_value 10 word)) n e in
    let p = and_parts (is_plain word) (ltb (digits_value 10 word) limit) g.0 in
    let value : digits_value 10 word ≡ n = same_Some (digits_value 10 word) n g.1 in
    let below : digits_value 10 word < limit = ltb-true (digits_value 10 word) limit p.1 in
    let q = and_parts (ltb 0 (length word)) ((not (eqb (get_or word 0 0) 48) || eqb (length word) 1) && list_all is_digit word) p.0 in
    let r = and_parts (not (eqb (get_or word 0 0) 48) || eqb (length word) 1) (list_all is_digit word) q.1 in
    let some : 0 < length word = ltb-true 0 (length word) q.0 in
    let needed : get_or word 0 0 ≡ 48 → length word ≡ 1 =
    λ z. elim (or_cases (not (eqb (get_or word 0 0) 48)) (eqb (length word) 1) r.0) [
      | inl differs ↦ absurd (zero_is (get_or word 0 0) z (not-true (eqb (get_or word 0 0) 48) differs))
      | inr one ↦ eqb-true (length word) 1 one
    ] in
    let small : digits_value 10 word < 2 ^ 64 = omega arith in
    (ap decimal (sym value) ∙ decimal-digits_value own word r.1 some needed small, subst (λ (k : ℕ). k < limit) value below)

one_zero : (n : ℕ) → n < 2 ^ 64 → (not (eqb (get_or (decimal n) 0 0) 48) || eqb (length (decimal n)) 1) ≡ true
one_zero zero h = or_right (not (eqb (get_or (decimal 0) 0 0) 48)) (eqb (length (decimal 0)) 1) (ap (λ (ds : List ℕ). eqb (length ds) 1) (decimal_digit 0 (omega arith)))
one_zero (suc n) h =
    let first = first_decimal (suc n) (omega arith) h in
    or_left (not (eqb (get_or (decimal (suc n)) 0 0) 48)) (eqb (length (decimal (suc n))) 1)
    (not_from_false (eqb (get_or (decimal (suc n)) 0 0) 48) (ne_eqb (get_or (decimal (suc n)) 0 0) 48 (λ e. omega (arith, first, e))))

pub number_again : (limit n : ℕ) → n < limit → limit ≤ 2 ^ 64 → number_below limit (decimal n) ≡ Some n
unfolding number_below
number_again limit n lt within =
    let h : n < 2 ^ 64 = omega arith in
    let value : digits_value 10 (decimal n) ≡ n = digits_value-decimal own n h in
    let plain : is_plain (decimal n) ≡ true =
    and_from (ltb 0 (length (decimal n))) ((not (eqb (get_or (decimal n) 0 0) 48) || eqb (length (decimal n)) 1) && list_all is_digit (decimal n))
    (lt-ltb 0 (length (decimal n)) (decimal_nonempty n h))
    (and_from (not (eqb (get_or (decimal n) 0 0) 48) || eqb (length (decimal n)) 1) (list_all is_digit (decimal n)) (one_zero n h) (digits_decimal own n h)) in
    let below : ltb (digits_value 10 (decimal n)) limit ≡ true = lt-ltb (digits_value 10 (decimal n)) limit (subst (λ (k : ℕ). k < limit) (sym value) lt) in
    cond-true (is_plain (decimal n) && ltb (digits_value 10 (decimal n)) limit) (Some (digits_value 10 (decimal n))) None
    (and_from (is_plain (decimal n)) (ltb (digits_value 10 (decimal n)) limit) plain below) ∙ ap (λ (k : ℕ). Some k) value

-- ---- bytes of words

-- a byte that is neither a space nor a newline
abbrev pub is_solid : ℕ → Bool
is_solid b = ltb 32 b

pub all_weaker : (p q : ℕ → Bool) → ((b : ℕ) → p b ≡ true → q b ≡ true) → (bs : List ℕ) → list_all p bs ≡ true → list_all q bs ≡ true
all_weaker p q each [] h = refl
all_weaker p q each (b ∷ bs) h =
    let r = and_parts (p b) (list_all p bs) h in
    and_from (q b) (list_all q bs) (each b r.0) (all_weaker p q each bs r.1)

pub solid_decimal : (n : ℕ) → n < 2 ^ 64 → list_all is_solid (decimal n) ≡ true
solid_decimal n h =
    all_weaker is_digit is_solid (λ b d. lt-ltb 32 b (omega (arith, (digit_range b d).0))) (decimal n) (digits_decimal own n h)

-- ---- the value of digits

pub value_more : (ds : List ℕ) (i v m : ℕ) → i < length ds → v ≡ digits_value 10 (take i ds) → m ≡ v * 10 + digit_value (get_or ds i 0) → m ≡ digits_value 10 (take (i + 1) ds)
value_more ds i v m lt so_far e = e ∙ ap (λ (k : ℕ). k * 10 + digit_value (get_or ds i 0)) so_far ∙ sym (digits_value_more 10 ds i lt)

pub value_over : (ds : List ℕ) (i v : ℕ) → i < length ds → v ≡ digits_value 10 (take i ds) → 2 ^ 64 ≤ v * 10 + digit_value (get_or ds i 0) → 2 ^ 64 ≤ digits_value 10 ds
value_over ds i v lt so_far over =
    let more = value_more ds i v (v * 10 + digit_value (get_or ds i 0)) lt so_far refl in
    omega (arith, over, more, digits_value-take-le 10 ds (i + 1) (omega arith))
