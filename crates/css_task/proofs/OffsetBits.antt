-- The bits of a set of offsets, and how many there are.
use Rattle.std.proofs.Common.{◌≡◌, ◌≢◌, ℕ, zero, suc, ◌+◌, ◌-◌, ◌*◌, ◌/◌, ◌%◌, ◌^◌, ◌<◌, ◌≤◌, Bool, true, false, not, ◌&&◌, ◌||◌, List, length, set, replicate, get_or, ◌==◌, bit_and, bit_or, ◌⊎◌, inl, inr, refl, ap, sym, ◌∙◌, arith, if◌then◌else◌}
use Rattle.std.specs.Int.{bit_at, bit_not}
use Rattle.std.proofs.lemmas.Nat.Bits.{bit_at_set_same, bit_at_set_other, bit_at_clear_same, bit_at_clear_other, bit_at-zero}
use Rattle.std.proofs.lemmas.Grind.{get_or_default_zero}
use Rattle.std.proofs.Common.{w64}
use Rattle.std.proofs.lemmas.Bool.{eqb-true, eq-eqb, cases_lt}
use Rattle.std.proofs.lemmas.List.{length-set, length-replicate, get_or-replicate, get_or-set_same, get_or-set_other, get_or_past}
use Rattle.std.proofs.Math.Nat.{div-add-mod}
use Rattle.css_task.specs.OffsetSets.{has_bit, members}

pub not_both : (b : Bool) → b ≡ false → b ≡ true → ⊥
not_both b out held = absurd (cc)

-- ---- how many there are

none_by : (b : Bool) (n : ℕ) → (if b then suc n else n) ≡ 0 → (b ≡ false) × (n ≡ 0)
none_by true n is = absurd (omega (arith, is))
none_by false n is = (refl, is)

last_or_before : (has : ℕ → Bool) (n k : ℕ) (b : Bool) → (k == n) ≡ b → k < suc n → has n ≡ false → (k < n → has k ≡ false) → has k ≡ false
last_or_before has n k true same below last before = ap has (eqb-true k n same) ∙ last
last_or_before has n k false other below last before =
    let apart : k ≢ n = λ is. not_both (k == n) other (eq-eqb k n is) in
    before (omega (arith, below, apart))

pub none_there : (has : ℕ → Bool) (n : ℕ) → members has n ≡ 0 → (k : ℕ) → k < n → has k ≡ false
none_there has zero is k below = absurd (omega (arith, below))
none_there has (suc n) is k below =
    let parts = none_by (has n) (members has n) is in
    last_or_before has n k (k == n) refl below parts.0 (λ under. none_there has n parts.1 k under)

some_by : (has : ℕ → Bool) (n : ℕ) (b : Bool) → has n ≡ b → ((members has n ≡ 0 → ⊥) → (k : ℕ) × (k < n) × (has k ≡ true)) → ((if b then suc (members has n) else members has n) ≡ 0 → ⊥)
    → (k : ℕ) × (k < suc n) × (has k ≡ true)
some_by has n true is before some = (n, omega arith, is)
some_by has n false is before some =
    let found = before some in
    (found.0, omega (arith, found.1), found.2)

pub some_there : (has : ℕ → Bool) (n : ℕ) → (members has n ≡ 0 → ⊥) → (k : ℕ) × (k < n) × (has k ≡ true)
some_there has zero some = absurd (some refl)
some_there has (suc n) some = some_by has n (has n) refl (some_there has n) some

pub members_same : (f g : ℕ → Bool) (n : ℕ) → ((k : ℕ) → k < n → f k ≡ g k) → members f n ≡ members g n
members_same f g zero each = refl
members_same f g (suc n) each =
    ap (λ b. if b then suc (members f n) else members f n) (each n (omega arith))
    ∙ ap (λ m. if g n then suc m else m) (members_same f g n (λ k below. each k (omega (arith, below))))

one_more_by : (b : Bool) (m n : ℕ) → m ≡ suc n → (if b then suc m else m) ≡ suc (if b then suc n else n)
one_more_by true m n is = ap suc is
one_more_by false m n is = is

one_more_at : (f g : ℕ → Bool) (offset n : ℕ) (b : Bool) → (offset == n) ≡ b → offset < suc n → f offset ≡ false → g offset ≡ true → ((k : ℕ) → k ≢ offset → g k ≡ f k)
    → (offset < n → members g n ≡ suc (members f n)) → members g (suc n) ≡ suc (members f (suc n))
one_more_at f g offset n true same below out in_now others rest =
    let is = eqb-true offset n same in
    let before : members g n ≡ members f n = members_same g f n (λ k under. others k (λ e. absurd (omega (arith, e, is, under)))) in
    let last : g n ≡ true = ap g (sym is) ∙ in_now in
    let first : f n ≡ false = ap f (sym is) ∙ out in
    rw (last, first) (ap suc before)
one_more_at f g offset n false other below out in_now others rest =
    let apart : n ≢ offset = λ is. not_both (offset == n) other (eq-eqb offset n (sym is)) in
    ap (λ b. if b then suc (members g n) else members g n) (others n apart)
    ∙ one_more_by (f n) (members g n) (members f n) (rest (omega (arith, below, apart)))

-- one has one more than the other
pub one_more : (f g : ℕ → Bool) (offset n : ℕ) → offset < n → f offset ≡ false → g offset ≡ true → ((k : ℕ) → k ≢ offset → g k ≡ f k) → members g n ≡ suc (members f n)
one_more f g offset zero below out in_now others = absurd (omega (arith, below))
one_more f g offset (suc n) below out in_now others =
    one_more_at f g offset n (offset == n) refl below out in_now others (λ under. one_more f g offset n under out in_now others)

-- ---- a word that is put in the place of another

same_offset : (k offset : ℕ) → k / 64 ≡ offset / 64 → k % 64 ≡ offset % 64 → k ≡ offset
same_offset k offset words bits = omega (arith, words, bits, div-add-mod k 64, div-add-mod offset 64)

module _ (words : List ℕ) (offset v : ℕ) (within : offset < 64 * length words) where
  word_within : offset / 64 < length words
  word_within = omega (arith, within, div-add-mod offset 64)

  put_same : has_bit (set words (offset / 64) v) offset ≡ (bit_at v (offset % 64) == 1)
  put_same = ap (λ w. bit_at w (offset % 64) == 1) (get_or-set_same words (offset / 64) v 0 word_within)

  module _ (others : (i : ℕ) → i < 64 → i ≢ offset % 64 → bit_at v i ≡ bit_at (get_or words (offset / 64) 0) i) where
    put_by : (k : ℕ) → k ≢ offset → (b : Bool) → (k / 64 == offset / 64) ≡ b → has_bit (set words (offset / 64) v) k ≡ has_bit words k
    put_by k apart true same =
        let word = eqb-true (k / 64) (offset / 64) same in
        let bit : k % 64 ≢ offset % 64 = λ is. apart (same_offset k offset word is) in
        let small : k % 64 < 64 = omega arith in
        ap (λ w. bit_at (get_or (set words (offset / 64) v) w 0) (k % 64) == 1) word
        ∙ ap (λ w. bit_at w (k % 64) == 1) (get_or-set_same words (offset / 64) v 0 word_within)
        ∙ ap (λ b. b == 1) (others (k % 64) small bit)
        ∙ ap (λ w. bit_at (get_or words w 0) (k % 64) == 1) (sym word)
    put_by k apart false other =
        let word : k / 64 ≢ offset / 64 = λ is. not_both (k / 64 == offset / 64) other (eq-eqb (k / 64) (offset / 64) is) in
        ap (λ w. bit_at w (k % 64) == 1) (get_or-set_other words (offset / 64) (k / 64) v 0 word)

    pub put_other : (k : ℕ) → k ≢ offset → has_bit (set words (offset / 64) v) k ≡ has_bit words k
    put_other k apart = put_by k apart (k / 64 == offset / 64) refl

-- with one offset more
module _ (words : List ℕ) (offset word : ℕ) (within : offset < 64 * length words) (is : word ≡ get_or words (offset / 64) word) where
  word_is : word ≡ get_or words (offset / 64) 0
  word_is = is ∙ get_or_default_zero words (offset / 64) word (omega (arith, within, div-add-mod offset 64))

  abbrev bit : ℕ
  bit = 1 * 2 ^ (offset % 64) % 18446744073709551616

  abbrev with : List ℕ
  with = set words (offset / 64) (bit_or word bit)

  abbrev without : List ℕ
  without = set words (offset / 64) (bit_and word (bit_not w64 bit))

  bit_within : offset % 64 < 64
  bit_within = omega arith

  pub with_same : has_bit with offset ≡ true
  with_same = put_same words offset (bit_or word bit) within ∙ ap (λ b. b == 1) (bit_at_set_same w64 word (offset % 64) bit_within)

  pub with_other : (k : ℕ) → k ≢ offset → has_bit with k ≡ has_bit words k
  with_other k apart = put_other words offset (bit_or word bit) within
      (λ i small other. bit_at_set_other w64 word (offset % 64) bit_within i other ∙ ap (λ w. bit_at w i) word_is) k apart

  pub without_same : has_bit without offset ≡ false
  without_same = put_same words offset (bit_and word (bit_not w64 bit)) within ∙ ap (λ b. b == 1) (bit_at_clear_same w64 word (offset % 64) bit_within)

  pub without_other : (k : ℕ) → k ≢ offset → has_bit without k ≡ has_bit words k
  without_other k apart = put_other words offset (bit_and word (bit_not w64 bit)) within
      (λ i small other. bit_at_clear_other w64 word (offset % 64) bit_within i small other ∙ ap (λ w. bit_at w i) word_is) k apart

  with_by : (k : ℕ) (b : Bool) → (k == offset) ≡ b → has_bit with k ≡ (b || has_bit words k)
  with_by k true same = ap (has_bit with) (eqb-true k offset same) ∙ with_same
  with_by k false other = with_other k (λ is. not_both (k == offset) other (eq-eqb k offset is))

  pub with_is : (k : ℕ) → has_bit with k ≡ ((k == offset) || has_bit words k)
  with_is k = with_by k (k == offset) refl

  without_by : (k : ℕ) (b : Bool) → (k == offset) ≡ b → has_bit without k ≡ (not b && has_bit words k)
  without_by k true same = ap (has_bit without) (eqb-true k offset same) ∙ without_same
  without_by k false other = without_other k (λ is. not_both (k == offset) other (eq-eqb k offset is))

  pub without_is : (k : ℕ) → has_bit without k ≡ (not (k == offset) && has_bit words k)
  without_is k = without_by k (k == offset) refl

  pub counted_with : has_bit words offset ≡ false → members (has_bit with) (64 * length words) ≡ suc (members (has_bit words) (64 * length words))
  counted_with out = one_more (has_bit words) (has_bit with) offset (64 * length words) within out with_same with_other

  pub counted_without : has_bit words offset ≡ true → members (has_bit words) (64 * length words) ≡ suc (members (has_bit without) (64 * length words))
  counted_without held = one_more (has_bit without) (has_bit words) offset (64 * length words) within without_same held (λ k apart. sym (without_other k apart))

  pub length_with : length with ≡ length words
  length_with = length-set words (offset / 64) (bit_or word bit)

  pub length_without : length without ≡ length words
  length_without = length-set words (offset / 64) (bit_and word (bit_not w64 bit))

  pub one_added : (count : ℕ) → count ≡ members (has_bit words) (64 * length words) → has_bit words offset ≡ false → count + 1 ≡ members (has_bit with) (64 * length with)
  one_added count counts out =
      let more : count + 1 ≡ suc count = omega arith in
      more ∙ ap suc counts ∙ sym (counted_with out) ∙ ap (λ n. members (has_bit with) (64 * n)) (sym length_with)

  pub one_taken : (count : ℕ) → count ≡ members (has_bit words) (64 * length words) → has_bit words offset ≡ true → count - 1 ≡ members (has_bit without) (64 * length without)
  one_taken count counts held =
      let less : count - 1 ≡ members (has_bit without) (64 * length words) = omega (arith, counts, counted_without held) in
      less ∙ ap (λ n. members (has_bit without) (64 * n)) (sym length_without)

kept_by : (f : ℕ → Bool) (offset k : ℕ) (b : Bool) → (k == offset) ≡ b → f offset ≡ true → f k ≡ (b || f k)
kept_by f offset k true same held = ap f (eqb-true k offset same) ∙ held
kept_by f offset k false other held = refl

-- an offset that is there already
pub there_already : (f : ℕ → Bool) (offset k : ℕ) → f offset ≡ true → f k ≡ ((k == offset) || f k)
there_already f offset k held = kept_by f offset k (k == offset) refl held

gone_by : (f : ℕ → Bool) (offset k : ℕ) (b : Bool) → (k == offset) ≡ b → f offset ≡ false → f k ≡ (not b && f k)
gone_by f offset k true same out = ap f (eqb-true k offset same) ∙ out
gone_by f offset k false other out = refl

pub gone_already : (f : ℕ → Bool) (offset k : ℕ) → f offset ≡ false → f k ≡ (not (k == offset) && f k)
gone_already f offset k out = gone_by f offset k (k == offset) refl out

most_by : (b : Bool) (m n : ℕ) → m ≤ n → (if b then suc m else m) ≤ suc n
most_by true m n below = omega (arith, below)
most_by false m n below = omega (arith, below)

pub at_most : (f : ℕ → Bool) (n : ℕ) → members f n ≤ n
at_most f zero = omega arith
at_most f (suc n) = most_by (f n) (members f n) n (at_most f n)

pub members_none : (has : ℕ → Bool) (n : ℕ) → ((k : ℕ) → has k ≡ false) → members has n ≡ 0
members_none has zero none = refl
members_none has (suc n) none = rw (none n) (members_none has n none)

-- no word has an offset that there is no room for
past : (words : List ℕ) (k : ℕ) → 64 * length words ≤ k → has_bit words k ≡ false
past words k above =
    let word : length words ≤ k / 64 = omega (arith, above, div-add-mod k 64) in
    ap (λ w. bit_at w (k % 64) == 1) (get_or_past words (k / 64) 0 word) ∙ ap (λ b. b == 1) (bit_at-zero (k % 64))

everywhere_by : (words : List ℕ) (k : ℕ) → members (has_bit words) (64 * length words) ≡ 0 → (k < 64 * length words) ⊎ (64 * length words ≤ k) → has_bit words k ≡ false
everywhere_by words k none (inl below) = none_there (has_bit words) (64 * length words) none k below
everywhere_by words k none (inr above) = past words k above

pub none_everywhere : (words : List ℕ) → members (has_bit words) (64 * length words) ≡ 0 → (k : ℕ) → has_bit words k ≡ false
none_everywhere words none k = everywhere_by words k none (cases_lt k (64 * length words))

zero_word : (n w : ℕ) → (w < n) ⊎ (n ≤ w) → get_or (replicate {A = ℕ} n 0) w 0 ≡ 0
zero_word n w (inl below) = get_or-replicate n w 0 0 below
zero_word n w (inr above) = get_or_past (replicate {A = ℕ} n 0) w 0 (omega (arith, above, length-replicate {A = ℕ} n 0))

-- zeros have no bit
pub no_bits : (words : List ℕ) (n : ℕ) → words ≡ replicate {A = ℕ} n 0 → (k : ℕ) → has_bit words k ≡ false
no_bits words n zeros k =
    ap (λ ws. bit_at (get_or ws (k / 64) 0) (k % 64) == 1) zeros
    ∙ ap (λ w. bit_at w (k % 64) == 1) (zero_word n (k / 64) (cases_lt (k / 64) n)) ∙ ap (λ b. b == 1) (bit_at-zero (k % 64))
