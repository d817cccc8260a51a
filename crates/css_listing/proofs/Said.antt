-- What words say is what was written, and what was written is read again.
use Rattle.std.proofs.Common.{◌≡◌, ◌∙◌, ◌+◌, ◌<◌, ◌≤◌, ◌^◌, ℕ, zero, suc, ℤ, pos, negsuc, Bool, true, false, ◌&&◌, eqb, ltb, leb, cond, List, [], ◌∷◌, ◌++◌, length, map, drop, get_or, codes, Some, None, Result, Ok, Err, All, refl, sym, ap, ap₂, subst, inl, inr, arith, IsTrue, lit≤}
use Rattle.std.specs.Prelude.{neg_ℤ}
use Rattle.std.specs.List.{AllByRecursion, list_all, join_with_byte, slice_split}
use Rattle.std.specs.Str.{bytes_eq}
use Rattle.std.specs.Fmt.{decimal, signed_decimal}
use Rattle.std.proofs.lemmas.Bool.{and_parts, and_from, leb-true, lt-ltb, ltb-true, eqb-true, ne_eqb, cond-true, cond-false, cases_Bool, cases_lt}
use Rattle.std.proofs.lemmas.Option.{same_Some}
use Rattle.std.proofs.lemmas.Fmt.{digits_decimal}
use Rattle.std.proofs.lemmas.Slice.Eq.{bytes_eq-Decides}
use Rattle.std.proofs.lemmas.List.Elements.{All-from_recursion}
use Rattle.std.proofs.lemmas.List.Splits.{slice_split_none, slice_split_at, join_with_byte-slice_split}
use Rattle.std.proofs.lemmas.List.Sums.{list_all-from_AllPass}
use Rattle.hex.specs.Hex.{encode_lower, decode_of, is_hex_digit, IsBytes}
use Rattle.hex.specs.declared.error.FromHexError.{FromHexError}
use Rattle.hex.proofs.HexLemmas.{decode_of-encode_lower, decode_of-ok}
use Rattle.css_base.specs.declared.direction.Direction.{Direction}
use Rattle.css_base.specs.declared.direction.Direction.TheVariants as directions
use Rattle.css_isa.specs.declared.code.ArgShape.{ArgShape}
use Rattle.css_isa.specs.declared.code.ArgShape.TheVariants as shapes
use Rattle.css_isa.specs.declared.space.Width.{Width}
use Rattle.css_isa.specs.declared.space.Width.TheVariants as widths
use Rattle.css_isa.specs.Names.{is_identifier}
use Rattle.css_traces.specs.Names.{is_digit}
use Rattle.css_traces.specs.Words.{◌>>=◌, value_in, number_below, small_of, word_at}
use Rattle.css_traces.proofs.Answers.{bind_some, passed, not_met}
use Rattle.css_traces.proofs.Numerals.{own, is_solid, all_weaker, solid_decimal, number_takes, number_again}
use Rattle.css_traces.proofs.Said.{within_32, value_takes}
use Rattle.css_listing.specs.Lines.{direction_word, dims_word, part_word, high_word, width_word, IsSigned, PartFits}
use Rattle.css_listing.specs.Words.{direction_words, high_words, width_words, negative_of, signed_of, name_of, written_as, bytes_of, window_of, part_of, parts_of, widths_of}

-- ---- so many words

pub one_word : (ws : List (List ℕ)) → eqb (length ws) 1 ≡ true → ws ≡ word_at ws 0 ∷ []
one_word [] e = absurd (omega (arith, eqb-true 0 1 e))
one_word (a ∷ []) e = refl
one_word (a ∷ b ∷ ws) e = absurd (omega (arith, eqb-true (length (a ∷ b ∷ ws)) 1 e))

pub two_words : (ws : List (List ℕ)) → eqb (length ws) 2 ≡ true → ws ≡ word_at ws 0 ∷ word_at ws 1 ∷ []
two_words [] e = absurd (omega (arith, eqb-true 0 2 e))
two_words (a ∷ []) e = absurd (omega (arith, eqb-true (length (a ∷ [])) 2 e))
two_words (a ∷ b ∷ []) e = refl
two_words (a ∷ b ∷ c ∷ ws) e = absurd (omega (arith, eqb-true (length (a ∷ b ∷ c ∷ ws)) 2 e))

three_words : (ws : List (List ℕ)) → eqb (length ws) 3 ≡ true → ws ≡ word_at ws 0 ∷ word_at ws 1 ∷ word_at ws 2 ∷ []
three_words [] e = absurd (omega (arith, eqb-true 0 3 e))
three_words (a ∷ []) e = absurd (omega (arith, eqb-true (length (a ∷ [])) 3 e))
three_words (a ∷ b ∷ []) e = absurd (omega (arith, eqb-true (length (a ∷ b ∷ [])) 3 e))
three_words (a ∷ b ∷ c ∷ []) e = refl
three_words (a ∷ b ∷ c ∷ d ∷ ws) e = absurd (omega (arith, eqb-true (length (a ∷ b ∷ c ∷ d ∷ ws)) 3 e))

pub first_two : (ws : List (List ℕ)) → ltb 1 (length ws) ≡ true → ws ≡ word_at ws 0 ∷ word_at ws 1 ∷ drop 2 ws
first_two [] e = absurd (omega (arith, ltb-true 1 0 e))
first_two (a ∷ []) e = absurd (omega (arith, ltb-true 1 (length (a ∷ [])) e))
first_two (a ∷ b ∷ ws) e = refl

-- ---- tables

-- what is found has what each entry has
pub found_in : {X : Type 0} (P : List ℕ → X → Type 0) (table : List (List ℕ × X)) → AllByRecursion (λ (e : List ℕ × X). P e.0 e.1) table
    → (word : List ℕ) (x : X) → value_in table word ≡ Some x → P word x
found_in P [] h word x e = absurd cc
found_in P (t ∷ table) h word x e =
    elim (cases_Bool (bytes_eq t.0 word)) [
      | inl same ↦
          let found : Some t.1 ≡ Some x = sym (cond-true (bytes_eq t.0 word) (Some t.1) (value_in table word) same) ∙ e in
          let is : t.0 ≡ word = (bytes_eq-Decides t.0 word).0 same in
          subst (λ (w : List ℕ). P w x) is (subst (λ y. P t.0 y) (same_Some t.1 x found) h.0)
      | inr differs ↦ found_in P table h.1 word x (sym (cond-false (bytes_eq t.0 word) (Some t.1) (value_in table word) differs) ∙ e)
    ]

-- ---- numbers with a sign

within_63 : 2 ^ 63 ≤ 2 ^ 64
within_63 = lit≤ tt

within_more : 2 ^ 63 + 1 ≤ 2 ^ 64
within_more = lit≤ tt

minus_first : (word : List ℕ) → eqb (get_or word 0 0) 45 ≡ true → word ≡ 45 ∷ drop 1 word
minus_first [] e = absurd (omega (arith, eqb-true 0 45 e))
minus_first (b ∷ word) e = ap (λ (x : ℕ). x ∷ word) (eqb-true b 45 e)

abbrev pub Signs : ℤ → List ℕ → Type 0
Signs v word = (signed_decimal v ≡ word) × IsSigned v

negative_takes : (word : List ℕ) (n : ℕ) (v : ℤ) → negative_of n ≡ Some v → n < 2 ^ 63 + 1 → decimal n ≡ drop 1 word → word ≡ 45 ∷ drop 1 word → Signs v word
negative_takes word zero v e lt is first = absurd cc
negative_takes word (suc m) v e lt is first =
    let g = not_met (eqb (suc m) 0) (Some (neg_ℤ (pos (suc m)))) v e in
    subst (λ (x : ℤ). Signs x word) (same_Some (negsuc m) v g.1) (ap (λ (bs : List ℕ). 45 ∷ bs) is ∙ sym first, omega arith)

pub signed_takes : (word : List ℕ) (v : ℤ) → signed_of word ≡ Some v → Signs v word
unfolding signed_of
signed_takes word v e =
    elim (cases_Bool (eqb (get_or word 0 0) 45)) [
      | inl minus ↦
          let r = sym (cond-true (eqb (get_or word 0 0) 45) (number_below (2 ^ 63 + 1) (drop 1 word) >>= λ n. negative_of n) (number_below (2 ^ 63) word >>= λ n. Some (pos n)) minus) ∙ e in
          let a = bind_some (number_below (2 ^ 63 + 1) (drop 1 word)) (λ n. negative_of n) v r in
          let t = number_takes (2 ^ 63 + 1) (drop 1 word) a.0 within_more a.1 in
          negative_takes word a.0 v a.2 t.1 t.0 (minus_first word minus)
      | inr plus ↦
          let r = sym (cond-false (eqb (get_or word 0 0) 45) (number_below (2 ^ 63 + 1) (drop 1 word) >>= λ n. negative_of n) (number_below (2 ^ 63) word >>= λ n. Some (pos n)) plus) ∙ e in
          let a = bind_some (number_below (2 ^ 63) word) (λ n. Some (pos n)) v r in
          let t = number_takes (2 ^ 63) word a.0 within_63 a.1 in
          subst (λ (x : ℤ). Signs x word) (same_Some (pos a.0) v a.2) (t.0, t.1)
    ]

digit_bounds : (b : ℕ) → is_digit b ≡ true → (48 ≤ b) × (b ≤ 57)
digit_bounds b h = let p = and_parts (leb 48 b) (leb b 57) h in (leb-true 48 b p.0, leb-true b 57 p.1)

no_minus : (bs : List ℕ) → list_all is_digit bs ≡ true → eqb (get_or bs 0 0) 45 ≡ false
no_minus [] h = refl
no_minus (b ∷ bs) h = let d = digit_bounds b (and_parts (is_digit b) (list_all is_digit bs) h).0 in ne_eqb b 45 (λ e. omega (arith, d.0, e))

pub signed_again : (v : ℤ) → IsSigned v → signed_of (signed_decimal v) ≡ Some v
unfolding signed_of
signed_again (pos n) h =
    let plus = no_minus (decimal n) (digits_decimal own n (omega arith)) in
    rw (plus, number_again (2 ^ 63) n h within_63) refl
signed_again (negsuc m) h =
    let some : eqb (suc m) 0 ≡ false = ne_eqb (suc m) 0 (λ e. omega (arith, e)) in
    rw (number_again (2 ^ 63 + 1) (suc m) (omega arith) within_more, some) refl

pub solid_signed : (v : ℤ) → IsSigned v → list_all is_solid (signed_decimal v) ≡ true
solid_signed (pos n) h = solid_decimal n (omega arith)
solid_signed (negsuc m) h = solid_decimal (suc m) (omega arith)

-- ---- bytes

abbrev pub Writes : List ℕ → List ℕ → Type 0
Writes bytes word = (encode_lower bytes ≡ word) × IsBytes bytes × (1 ≤ length bytes)

written_takes : (word bytes : List ℕ) (r : Result (List ℕ) FromHexError) → decode_of word ≡ r → written_as word r ≡ Some bytes → Writes bytes word
written_takes word bytes (Err f) d e = absurd cc
written_takes word bytes (Ok made) d e =
    let g = passed (ltb 0 (length made) && bytes_eq (encode_lower made) word) (Some made) bytes e in
    let p = and_parts (ltb 0 (length made)) (bytes_eq (encode_lower made) word) g.0 in
    let ok = decode_of-ok word made d in
    subst (λ (bs : List ℕ). Writes bs word) (same_Some made bytes g.1) ((bytes_eq-Decides (encode_lower made) word).0 p.1, ok.3, ltb-true 0 (length made) p.0)

pub bytes_takes : (word bytes : List ℕ) → bytes_of word ≡ Some bytes → Writes bytes word
unfolding bytes_of
bytes_takes word bytes e = written_takes word bytes (decode_of word) refl e

pub bytes_again : (bytes : List ℕ) → IsBytes bytes → 1 ≤ length bytes → bytes_of (encode_lower bytes) ≡ Some bytes
unfolding bytes_of
bytes_again bytes h some =
    let test : (ltb 0 (length bytes) && bytes_eq (encode_lower bytes) (encode_lower bytes)) ≡ true =
    and_from (ltb 0 (length bytes)) (bytes_eq (encode_lower bytes) (encode_lower bytes)) (lt-ltb 0 (length bytes) some) ((bytes_eq-Decides (encode_lower bytes) (encode_lower bytes)).1 refl) in
    ap (written_as (encode_lower bytes)) (decode_of-encode_lower bytes h)
    ∙ cond-true (ltb 0 (length bytes) && bytes_eq (encode_lower bytes) (encode_lower bytes)) (Some bytes) None test

hex_solid : (b : ℕ) → is_hex_digit b ≡ true → is_solid b ≡ true
hex_solid b h =
    elim (cases_lt 32 b) [
      | inl lt ↦ lt-ltb 32 b lt
      | inr le ↦ grind arith
    ]

pub solid_bytes : (bytes : List ℕ) → IsBytes bytes → list_all is_solid (encode_lower bytes) ≡ true
solid_bytes bytes h =
    let ok = decode_of-ok (encode_lower bytes) bytes (decode_of-encode_lower bytes h) in
    all_weaker is_hex_digit is_solid hex_solid (encode_lower bytes) (list_all-from_AllPass is_hex_digit (encode_lower bytes) ok.1)

-- ---- names

pub name_takes : (word name : List ℕ) → name_of word ≡ Some name → (name ≡ word) × IsTrue (is_identifier name)
unfolding name_of
name_takes word name e =
    let g = passed (is_identifier word) (Some word) name e in
    let is : word ≡ name = same_Some word name g.1 in
    (sym is, subst (λ (w : List ℕ). IsTrue (is_identifier w)) is g.0)

pub name_again : (name : List ℕ) → IsTrue (is_identifier name) → name_of name ≡ Some name
unfolding name_of
name_again name h = let is : is_identifier name ≡ true = h in rw is refl

-- ---- widths

pub widths_takes : (ws : List (List ℕ)) (all : List Width) → widths_of ws ≡ Some all → map width_word all ≡ ws
unfolding widths_of
widths_takes [] all e = ap (map width_word) (sym (same_Some [] all e))
widths_takes (w ∷ ws) all e =
    let a = bind_some (value_in width_words w) (λ width. widths_of ws >>= λ others. Some (width ∷ others)) all e in
    let b = bind_some (widths_of ws) (λ others. Some (a.0 ∷ others)) all a.2 in
    let t = value_takes width_word width_words (refl, (refl, (refl, (refl, tt)))) w a.0 a.1 in
    subst (λ (ms : List Width). map width_word ms ≡ w ∷ ws) (same_Some (a.0 ∷ b.0) all b.2)
    (ap₂ (λ (x : List ℕ) (xs : List (List ℕ)). x ∷ xs) t (widths_takes ws b.0 b.1))

width_again : (w : Width) → value_in width_words (width_word w) ≡ Some w
width_again widths.W8 = refl
width_again widths.W16 = refl
width_again widths.W32 = refl
width_again widths.W64 = refl

pub widths_again : (all : List Width) → widths_of (map width_word all) ≡ Some all
unfolding widths_of
widths_again [] = refl
widths_again (w ∷ all) = rw (width_again w, widths_again all) refl

-- ---- parts

no_colons : (word : List ℕ) → list_all is_digit word ≡ true → AllByRecursion (λ b. eqb b 58 ≡ false) word
no_colons [] h = tt
no_colons (b ∷ word) h =
    let p = and_parts (is_digit b) (list_all is_digit word) h in
    (ne_eqb b 58 (λ e. omega (arith, (digit_bounds b p.0).1, e)), no_colons word p.1)

no_colon : (word : List ℕ) → AllByRecursion (λ b. eqb b 58 ≡ false) word → All (λ b. eqb b 58 ≡ false) word
no_colon word h = All-from_recursion (λ b. eqb b 58 ≡ false) word h

decimal_no_colon : (n : ℕ) → n < 2 ^ 32 → AllByRecursion (λ b. eqb b 58 ≡ false) (decimal n)
decimal_no_colon n h = no_colons (decimal n) (digits_decimal own n (omega arith))

direction_no_colon : (d : Direction) → AllByRecursion (λ b. eqb b 58 ≡ false) (direction_word d)
direction_no_colon directions.In = (refl, (refl, tt))
direction_no_colon directions.Out = (refl, (refl, (refl, tt)))
direction_no_colon directions.InOut = (refl, (refl, (refl, (refl, (refl, tt)))))

parted : (a b c : List ℕ) → AllByRecursion (λ x. eqb x 58 ≡ false) a → AllByRecursion (λ x. eqb x 58 ≡ false) b → AllByRecursion (λ x. eqb x 58 ≡ false) c
    → slice_split (λ x. eqb x 58) (join_with_byte 58 (a ∷ b ∷ c ∷ [])) ≡ a ∷ b ∷ c ∷ []
parted a b c h k l =
    slice_split_at (λ x. eqb x 58) a 58 (join_with_byte 58 (b ∷ c ∷ [])) (no_colon a h) refl
    ∙ ap (λ (ws : List (List ℕ)). a ∷ ws) (slice_split_at (λ x. eqb x 58) b 58 c (no_colon b k) refl ∙ ap (λ (ws : List (List ℕ)). b ∷ ws) (slice_split_none (λ x. eqb x 58) c (no_colon c l)))

abbrev pub Shapes : ArgShape → List ℕ → Type 0
Shapes part word = (part_word part ≡ word) × PartFits part

abbrev colons : List (List ℕ) → List ℕ
colons ws = join_with_byte 58 ws

window_takes : (ws : List (List ℕ)) (part : ArgShape) → window_of ws ≡ Some part → Shapes part (colons ws)
unfolding window_of
window_takes ws part e =
    let g = passed (eqb (length ws) 3) (value_in direction_words (word_at ws 0) >>= λ direction. small_of (word_at ws 1) >>= λ element.
    cond (bytes_eq (word_at ws 2) (codes "s")) (Some (shapes.Window direction element 3 true))
    (small_of (word_at ws 2) >>= λ dims. Some (shapes.Window direction element dims false))) part e in
    let a = bind_some (value_in direction_words (word_at ws 0)) (λ direction. small_of (word_at ws 1) >>= λ element.
    cond (bytes_eq (word_at ws 2) (codes "s")) (Some (shapes.Window direction element 3 true))
    (small_of (word_at ws 2) >>= λ dims. Some (shapes.Window direction element dims false))) part g.1 in
    let b = bind_some (small_of (word_at ws 1)) (λ element.
    cond (bytes_eq (word_at ws 2) (codes "s")) (Some (shapes.Window a.0 element 3 true))
    (small_of (word_at ws 2) >>= λ dims. Some (shapes.Window a.0 element dims false))) part a.2 in
    let t = value_takes direction_word direction_words (refl, (refl, (refl, tt))) (word_at ws 0) a.0 a.1 in
    let u = number_takes (2 ^ 32) (word_at ws 1) b.0 within_32 b.1 in
    let whole = three_words ws g.0 in
    elim (cases_Bool (bytes_eq (word_at ws 2) (codes "s"))) [
      | inl same ↦
          let r = sym (cond-true (bytes_eq (word_at ws 2) (codes "s")) (Some (shapes.Window a.0 b.0 3 true)) (small_of (word_at ws 2) >>= λ dims. Some (shapes.Window a.0 b.0 dims false)) same) ∙ b.2 in
          let is : codes "s" ≡ word_at ws 2 = sym ((bytes_eq-Decides (word_at ws 2) (codes "s")).0 same) in
          let made : direction_word a.0 ∷ decimal b.0 ∷ codes "s" ∷ [] ≡ ws = rw (t, u.0, is) (sym whole) in
          subst (λ (x : ArgShape). Shapes x (colons ws)) (same_Some (shapes.Window a.0 b.0 3 true) part r) (ap colons made, (u.1, refl))
      | inr differs ↦
          let r = sym (cond-false (bytes_eq (word_at ws 2) (codes "s")) (Some (shapes.Window a.0 b.0 3 true)) (small_of (word_at ws 2) >>= λ dims. Some (shapes.Window a.0 b.0 dims false)) differs) ∙ b.2 in
          let c = bind_some (small_of (word_at ws 2)) (λ dims. Some (shapes.Window a.0 b.0 dims false)) part r in
          let v = number_takes (2 ^ 32) (word_at ws 2) c.0 within_32 c.1 in
          let made : direction_word a.0 ∷ decimal b.0 ∷ decimal c.0 ∷ [] ≡ ws = rw (t, u.0, v.0) (sym whole) in
          subst (λ (x : ArgShape). Shapes x (colons ws)) (same_Some (shapes.Window a.0 b.0 c.0 false) part c.2) (ap colons made, (u.1, v.1))
    ]

part_takes : (word : List ℕ) (part : ArgShape) → part_of word ≡ Some part → Shapes part word
unfolding part_of
part_takes word part e =
    elim (cases_Bool (bytes_eq word (codes "s"))) [
      | inl same ↦
          let r = sym (cond-true (bytes_eq word (codes "s")) (Some shapes.Scalar) (window_of (slice_split (λ b. eqb b 58) word)) same) ∙ e in
          subst (λ (x : ArgShape). Shapes x word) (same_Some shapes.Scalar part r) (sym ((bytes_eq-Decides word (codes "s")).0 same), tt)
      | inr differs ↦
          let r = sym (cond-false (bytes_eq word (codes "s")) (Some shapes.Scalar) (window_of (slice_split (λ b. eqb b 58) word)) differs) ∙ e in
          let t = window_takes (slice_split (λ b. eqb b 58) word) part r in
          (t.0 ∙ join_with_byte-slice_split 58 word, t.1)
    ]

pub parts_takes : (ws : List (List ℕ)) (all : List ArgShape) → parts_of ws ≡ Some all → (map part_word all ≡ ws) × AllByRecursion PartFits all
unfolding parts_of
parts_takes [] all e = subst (λ (ms : List ArgShape). (map part_word ms ≡ []) × AllByRecursion PartFits ms) (same_Some [] all e) (refl, tt)
parts_takes (w ∷ ws) all e =
    let a = bind_some (part_of w) (λ part. parts_of ws >>= λ parts. Some (part ∷ parts)) all e in
    let b = bind_some (parts_of ws) (λ parts. Some (a.0 ∷ parts)) all a.2 in
    let t = part_takes w a.0 a.1 in
    let u = parts_takes ws b.0 b.1 in
    subst (λ (ms : List ArgShape). (map part_word ms ≡ w ∷ ws) × AllByRecursion PartFits ms) (same_Some (a.0 ∷ b.0) all b.2)
    (ap₂ (λ (x : List ℕ) (xs : List (List ℕ)). x ∷ xs) t.0 u.0, (t.1, u.1))

direction_again : (d : Direction) → value_in direction_words (direction_word d) ≡ Some d
direction_again directions.In = refl
direction_again directions.Out = refl
direction_again directions.InOut = refl

not_s : (bs : List ℕ) → list_all is_digit bs ≡ true → bytes_eq bs (codes "s") ≡ false
not_s [] h = refl
not_s (b ∷ bs) h =
    elim (cases_Bool (bytes_eq (b ∷ bs) (codes "s"))) [
      | inl same ↦
          let is : b ∷ bs ≡ 115 ∷ [] = (bytes_eq-Decides (b ∷ bs) (codes "s")).0 same in
          let head : b ≡ 115 = ap (λ (xs : List ℕ). get_or xs 0 0) is in
          absurd (omega (arith, head, (digit_bounds b (and_parts (is_digit b) (list_all is_digit bs) h).0).1))
      | inr differs ↦ differs
    ]

window_again : (d : Direction) (element dims : ℕ) (strided : Bool) → PartFits (shapes.Window d element dims strided)
    → window_of (direction_word d ∷ decimal element ∷ dims_word strided dims ∷ []) ≡ Some (shapes.Window d element dims strided)
unfolding window_of
window_again d element dims true h = rw (direction_again d, number_again (2 ^ 32) element h.0 within_32, h.1) refl
window_again d element dims false h =
    let other = not_s (decimal dims) (digits_decimal own dims (omega (arith, h.1))) in
    rw (direction_again d, number_again (2 ^ 32) element h.0 within_32, other, number_again (2 ^ 32) dims h.1 within_32) refl

dims_no_colon : (strided : Bool) (dims : ℕ) (d : Direction) (element : ℕ) → PartFits (shapes.Window d element dims strided) → AllByRecursion (λ b. eqb b 58 ≡ false) (dims_word strided dims)
dims_no_colon true dims d element h = (refl, tt)
dims_no_colon false dims d element h = decimal_no_colon dims h.1

element_fits : (strided : Bool) (dims : ℕ) (d : Direction) (element : ℕ) → PartFits (shapes.Window d element dims strided) → element < 2 ^ 32
element_fits true dims d element h = h.0
element_fits false dims d element h = h.0

no_scalar : (d : Direction) (bs : List ℕ) → bytes_eq (direction_word d ++ 58 ∷ bs) (codes "s") ≡ false
no_scalar directions.In bs = refl
no_scalar directions.Out bs = refl
no_scalar directions.InOut bs = refl

part_again : (part : ArgShape) → PartFits part → part_of (part_word part) ≡ Some part
unfolding part_of
part_again shapes.Scalar h = refl
part_again (shapes.Window d element dims strided) h =
    let split = parted (direction_word d) (decimal element) (dims_word strided dims) (direction_no_colon d) (decimal_no_colon element (element_fits strided dims d element h)) (dims_no_colon strided dims d element h) in
    cond-false (bytes_eq (part_word (shapes.Window d element dims strided)) (codes "s")) (Some shapes.Scalar) (window_of (slice_split (λ b. eqb b 58) (part_word (shapes.Window d element dims strided)))) (no_scalar d _)
    ∙ ap window_of split ∙ window_again d element dims strided h

pub parts_again : (all : List ArgShape) → AllByRecursion PartFits all → parts_of (map part_word all) ≡ Some all
unfolding parts_of
parts_again [] h = refl
parts_again (part ∷ all) h = rw (part_again part h.0, parts_again all h.1) refl

pub high_again : (high : Bool) → value_in high_words (high_word high) ≡ Some high
high_again true = refl
high_again false = refl
