-- What words say is what was written, and what was written is read again.
use Rattle.std.proofs.Common.{◌≡◌, ◌∙◌, ◌<◌, ◌≤◌, ◌^◌, ℕ, true, false, eqb, List, [], ◌∷◌, length, map, drop, Option, Some, None, refl, sym, ap, ap₂, subst, inl, inr, arith, IsTrue, lit≤}
use Rattle.std.specs.List.{AllByRecursion}
use Rattle.std.specs.Str.{bytes_eq}
use Rattle.std.specs.Fmt.{decimal}
use Rattle.std.proofs.lemmas.Bool.{eqb-true, eqb-false, ne_eqb, cond-true, cond-false, cases_Bool}
use Rattle.std.proofs.lemmas.Option.{same_Some}
use Rattle.std.proofs.lemmas.Slice.Eq.{bytes_eq-Decides}
use Rattle.css_base.specs.declared.ending.Stop.{Stop}
use Rattle.css_base.specs.declared.ending.Stop.TheVariants as stops
use Rattle.css_base.specs.declared.ending.FaultKind.TheVariants as kinds
use Rattle.css_base.specs.declared.rule.Rule.TheVariants as rules_of
use Rattle.css_traces.specs.Names.{is_identifier}
use Rattle.css_traces.specs.Lines.{stop_word}
use Rattle.css_traces.specs.Words.{◌>>=◌, value_in, stop_words, number_of, small_of, from_one, line_number_of, numbers_of, name_of, word_at, only_number, only_small, small_and_number, small_and_numbers, number_and_name}
use Rattle.css_traces.proofs.Answers.{bind_some, passed, not_met}
use Rattle.css_traces.proofs.Numerals.{number_takes, number_again}

pub within_64 : 2 ^ 64 ≤ 2 ^ 64
within_64 = lit≤ tt

pub within_32 : 2 ^ 32 ≤ 2 ^ 64
within_32 = lit≤ tt

-- ---- tables

-- what is found stands beside the word
pub value_takes : {X : Type 0} (word_of : X → List ℕ) (table : List (List ℕ × X)) → AllByRecursion (λ (e : List ℕ × X). word_of e.1 ≡ e.0) table
    → (word : List ℕ) (x : X) → value_in table word ≡ Some x → word_of x ≡ word
value_takes word_of [] h word x e = absurd cc
value_takes word_of (t ∷ table) h word x e =
    elim (cases_Bool (bytes_eq t.0 word)) [
      | inl same ↦
          let found : Some t.1 ≡ Some x = sym (cond-true (bytes_eq t.0 word) (Some t.1) (value_in table word) same) ∙ e in
          ap word_of (sym (same_Some t.1 x found)) ∙ h.0 ∙ (bytes_eq-Decides t.0 word).0 same
      | inr differs ↦ value_takes word_of table h.1 word x (sym (cond-false (bytes_eq t.0 word) (Some t.1) (value_in table word) differs) ∙ e)
    ]

pub stop_takes : (word : List ℕ) (s : Stop) → value_in stop_words word ≡ Some s → stop_word s ≡ word
stop_takes = value_takes stop_word stop_words (refl, (refl, (refl, (refl, (refl, (refl, (refl, (refl, (refl, (refl, (refl, (refl, (refl, (refl, (refl, (refl, (refl, (refl, tt))))))))))))))))))

pub stop_again : (s : Stop) → value_in stop_words (stop_word s) ≡ Some s
stop_again (stops.Fault kinds.DivideByZero) = refl
stop_again (stops.Fault kinds.OutsideMemory) = refl
stop_again (stops.Rule rules_of.StartTwice) = refl
stop_again (stops.Rule rules_of.FinishWithout) = refl
stop_again (stops.Rule rules_of.Dimension) = refl
stop_again (stops.Rule rules_of.TooLarge) = refl
stop_again (stops.Rule rules_of.DeadArgument) = refl
stop_again (stops.Rule rules_of.PartialOverlap) = refl
stop_again (stops.Rule rules_of.AliasedArguments) = refl
stop_again (stops.Rule rules_of.Unsynchronised) = refl
stop_again (stops.Rule rules_of.OutsideArguments) = refl
stop_again (stops.Rule rules_of.WroteInput) = refl
stop_again (stops.Rule rules_of.ReadUnwritten) = refl
stop_again (stops.Rule rules_of.LeftUnwritten) = refl
stop_again (stops.Rule rules_of.TaskStack) = refl
stop_again (stops.Rule rules_of.MainStack) = refl
stop_again (stops.Rule rules_of.Units) = refl
stop_again (stops.Rule rules_of.BadWait) = refl

-- ---- so many words

pub no_word : (ws : List (List ℕ)) → eqb (length ws) 0 ≡ true → ws ≡ []
no_word [] e = refl
no_word (a ∷ ws) e = absurd (omega (arith, eqb-true (length (a ∷ ws)) 0 e))

pub first_word : (ws : List (List ℕ)) → eqb (length ws) 0 ≡ false → ws ≡ word_at ws 0 ∷ drop 1 ws
first_word [] e = absurd (eqb-false 0 0 e refl)
first_word (a ∷ ws) e = refl

one_word : (ws : List (List ℕ)) → eqb (length ws) 1 ≡ true → ws ≡ word_at ws 0 ∷ []
one_word [] e = absurd (omega (arith, eqb-true 0 1 e))
one_word (a ∷ []) e = refl
one_word (a ∷ b ∷ ws) e = absurd (omega (arith, eqb-true (length (a ∷ b ∷ ws)) 1 e))

two_words : (ws : List (List ℕ)) → eqb (length ws) 2 ≡ true → ws ≡ word_at ws 0 ∷ word_at ws 1 ∷ []
two_words [] e = absurd (omega (arith, eqb-true 0 2 e))
two_words (a ∷ []) e = absurd (omega (arith, eqb-true (length (a ∷ [])) 2 e))
two_words (a ∷ b ∷ []) e = refl
two_words (a ∷ b ∷ c ∷ ws) e = absurd (omega (arith, eqb-true (length (a ∷ b ∷ c ∷ ws)) 2 e))

pub four_words : (ws : List (List ℕ)) → eqb (length ws) 4 ≡ true → ws ≡ word_at ws 0 ∷ word_at ws 1 ∷ word_at ws 2 ∷ word_at ws 3 ∷ []
four_words [] e = absurd (omega (arith, eqb-true 0 4 e))
four_words (a ∷ []) e = absurd (omega (arith, eqb-true (length (a ∷ [])) 4 e))
four_words (a ∷ b ∷ []) e = absurd (omega (arith, eqb-true (length (a ∷ b ∷ [])) 4 e))
four_words (a ∷ b ∷ c ∷ []) e = absurd (omega (arith, eqb-true (length (a ∷ b ∷ c ∷ [])) 4 e))
four_words (a ∷ b ∷ c ∷ d ∷ []) e = refl
four_words (a ∷ b ∷ c ∷ d ∷ f ∷ ws) e = absurd (omega (arith, eqb-true (length (a ∷ b ∷ c ∷ d ∷ f ∷ ws)) 4 e))

-- ---- numbers

pub only_number_takes : (ws : List (List ℕ)) (n : ℕ) → only_number ws ≡ Some n → (decimal n ∷ [] ≡ ws) × (n < 2 ^ 64)
unfolding only_number
only_number_takes ws n e =
    let g = passed (eqb (length ws) 1) (number_of (word_at ws 0)) n e in
    let t = number_takes (2 ^ 64) (word_at ws 0) n within_64 g.1 in
    (ap (λ (w : List ℕ). w ∷ []) t.0 ∙ sym (one_word ws g.0), t.1)

pub only_number_again : (n : ℕ) → n < 2 ^ 64 → only_number (decimal n ∷ []) ≡ Some n
unfolding only_number
only_number_again n h = number_again (2 ^ 64) n h within_64

pub only_small_takes : (ws : List (List ℕ)) (n : ℕ) → only_small ws ≡ Some n → (decimal n ∷ [] ≡ ws) × (n < 2 ^ 32)
unfolding only_small
only_small_takes ws n e =
    let g = passed (eqb (length ws) 1) (small_of (word_at ws 0)) n e in
    let t = number_takes (2 ^ 32) (word_at ws 0) n within_32 g.1 in
    (ap (λ (w : List ℕ). w ∷ []) t.0 ∙ sym (one_word ws g.0), t.1)

pub only_small_again : (n : ℕ) → n < 2 ^ 32 → only_small (decimal n ∷ []) ≡ Some n
unfolding only_small
only_small_again n h = number_again (2 ^ 32) n h within_32

pub small_and_number_takes : (ws : List (List ℕ)) (p : ℕ × ℕ) → small_and_number ws ≡ Some p
    → (decimal p.0 ∷ decimal p.1 ∷ [] ≡ ws) × ((p.0 < 2 ^ 32) × (p.1 < 2 ^ 64))
unfolding small_and_number
small_and_number_takes ws p e =
    let g = passed (eqb (length ws) 2) (small_of (word_at ws 0) >>= λ a. number_of (word_at ws 1) >>= λ b. Some (a, b)) p e in
    let a = bind_some (small_of (word_at ws 0)) (λ a. number_of (word_at ws 1) >>= λ b. Some (a, b)) p g.1 in
    let b = bind_some (number_of (word_at ws 1)) (λ b. Some (a.0, b)) p a.2 in
    let t = number_takes (2 ^ 32) (word_at ws 0) a.0 within_32 a.1 in
    let u = number_takes (2 ^ 64) (word_at ws 1) b.0 within_64 b.1 in
    let made : ℕ × ℕ = (a.0, b.0) in
    subst (λ (q : ℕ × ℕ). (decimal q.0 ∷ decimal q.1 ∷ [] ≡ ws) × ((q.0 < 2 ^ 32) × (q.1 < 2 ^ 64))) (same_Some made p b.2)
    (ap₂ (λ (x y : List ℕ). x ∷ y ∷ []) t.0 u.0 ∙ sym (two_words ws g.0), (t.1, u.1))

pub small_and_number_again : (a b : ℕ) → a < 2 ^ 32 → b < 2 ^ 64 → small_and_number (decimal a ∷ decimal b ∷ []) ≡ Some (a, b)
unfolding small_and_number
small_and_number_again a b h k = rw (number_again (2 ^ 32) a h within_32, number_again (2 ^ 64) b k within_64) refl

numbers_takes : (ws : List (List ℕ)) (ns : List ℕ) → numbers_of ws ≡ Some ns → (map decimal ns ≡ ws) × AllByRecursion (λ n. n < 2 ^ 64) ns
unfolding numbers_of
numbers_takes [] ns e = subst (λ (ms : List ℕ). (map decimal ms ≡ []) × AllByRecursion (λ n. n < 2 ^ 64) ms) (same_Some [] ns e) (refl, tt)
numbers_takes (w ∷ ws) ns e =
    let a = bind_some (number_of w) (λ n. numbers_of ws >>= λ ms. Some (n ∷ ms)) ns e in
    let b = bind_some (numbers_of ws) (λ ms. Some (a.0 ∷ ms)) ns a.2 in
    let t = number_takes (2 ^ 64) w a.0 within_64 a.1 in
    let u = numbers_takes ws b.0 b.1 in
    subst (λ (ms : List ℕ). (map decimal ms ≡ w ∷ ws) × AllByRecursion (λ n. n < 2 ^ 64) ms) (same_Some (a.0 ∷ b.0) ns b.2)
    (ap₂ (λ (x : List ℕ) (xs : List (List ℕ)). x ∷ xs) t.0 u.0, (t.1, u.1))

numbers_again : (ns : List ℕ) → AllByRecursion (λ n. n < 2 ^ 64) ns → numbers_of (map decimal ns) ≡ Some ns
unfolding numbers_of
numbers_again [] h = refl
numbers_again (n ∷ ns) h = rw (number_again (2 ^ 64) n h.0 within_64, numbers_again ns h.1) refl

pub small_and_numbers_takes : (ws : List (List ℕ)) (p : ℕ × List ℕ) → small_and_numbers ws ≡ Some p
    → (decimal p.0 ∷ map decimal p.1 ≡ ws) × ((p.0 < 2 ^ 32) × AllByRecursion (λ n. n < 2 ^ 64) p.1)
unfolding small_and_numbers
small_and_numbers_takes ws p e =
    let g = not_met (eqb (length ws) 0) (small_of (word_at ws 0) >>= λ a. numbers_of (drop 1 ws) >>= λ b. Some (a, b)) p e in
    let a = bind_some (small_of (word_at ws 0)) (λ a. numbers_of (drop 1 ws) >>= λ b. Some (a, b)) p g.1 in
    let b = bind_some (numbers_of (drop 1 ws)) (λ b. Some (a.0, b)) p a.2 in
    let t = number_takes (2 ^ 32) (word_at ws 0) a.0 within_32 a.1 in
    let u = numbers_takes (drop 1 ws) b.0 b.1 in
    let made : ℕ × List ℕ = (a.0, b.0) in
    subst (λ (q : ℕ × List ℕ). (decimal q.0 ∷ map decimal q.1 ≡ ws) × ((q.0 < 2 ^ 32) × AllByRecursion (λ n. n < 2 ^ 64) q.1)) (same_Some made p b.2)
    (ap₂ (λ (x : List ℕ) (xs : List (List ℕ)). x ∷ xs) t.0 u.0 ∙ sym (first_word ws g.0), (t.1, u.1))

pub small_and_numbers_again : (a : ℕ) (ns : List ℕ) → a < 2 ^ 32 → AllByRecursion (λ n. n < 2 ^ 64) ns → small_and_numbers (decimal a ∷ map decimal ns) ≡ Some (a, ns)
unfolding small_and_numbers
small_and_numbers_again a ns h k =
    let more : eqb (length (decimal a ∷ map decimal ns)) 0 ≡ false = ne_eqb (length (decimal a ∷ map decimal ns)) 0 (λ e. omega (arith, e)) in
    rw (more, number_again (2 ^ 32) a h within_32, numbers_again ns k) refl

pub number_and_name_takes : (ws : List (List ℕ)) (p : ℕ × List ℕ) → number_and_name ws ≡ Some p
    → (decimal p.0 ∷ p.1 ∷ [] ≡ ws) × ((p.0 < 2 ^ 64) × IsTrue (is_identifier p.1))
unfolding number_and_name name_of
number_and_name_takes ws p e =
    let g = passed (eqb (length ws) 2) (number_of (word_at ws 0) >>= λ a. name_of (word_at ws 1) >>= λ b. Some (a, b)) p e in
    let a = bind_some (number_of (word_at ws 0)) (λ a. name_of (word_at ws 1) >>= λ b. Some (a, b)) p g.1 in
    let b = bind_some (name_of (word_at ws 1)) (λ b. Some (a.0, b)) p a.2 in
    let t = number_takes (2 ^ 64) (word_at ws 0) a.0 within_64 a.1 in
    let u = passed (is_identifier (word_at ws 1)) (Some (word_at ws 1)) b.0 b.1 in
    let is : word_at ws 1 ≡ b.0 = same_Some (word_at ws 1) b.0 u.1 in
    let made : ℕ × List ℕ = (a.0, b.0) in
    subst (λ (q : ℕ × List ℕ). (decimal q.0 ∷ q.1 ∷ [] ≡ ws) × ((q.0 < 2 ^ 64) × IsTrue (is_identifier q.1))) (same_Some made p b.2)
    (ap₂ (λ (x y : List ℕ). x ∷ y ∷ []) t.0 (sym is) ∙ sym (two_words ws g.0), (t.1, subst (λ (w : List ℕ). IsTrue (is_identifier w)) is u.0))

pub number_and_name_again : (a : ℕ) (name : List ℕ) → a < 2 ^ 64 → IsTrue (is_identifier name) → number_and_name (decimal a ∷ name ∷ []) ≡ Some (a, name)
unfolding number_and_name name_of
number_and_name_again a name h k =
    let is : is_identifier name ≡ true = k in
    rw (number_again (2 ^ 64) a h within_64, is) refl

-- ---- numbers of lines

from_one_takes : (o : Option ℕ) (n : ℕ) → from_one o ≡ Some n → (o ≡ Some n) × (1 ≤ n)
from_one_takes None n e = absurd cc
from_one_takes (Some m) n e =
    let g = not_met (eqb m 0) (Some m) n e in
    let same : m ≡ n = same_Some m n g.1 in
    (ap (λ (k : ℕ). Some k) same, omega (arith, same, eqb-false m 0 g.0))

pub line_number_takes : (word : List ℕ) (n : ℕ) → line_number_of word ≡ Some n → (decimal n ≡ word) × ((1 ≤ n) × (n < 2 ^ 32))
unfolding line_number_of
line_number_takes word n e =
    let g = from_one_takes (small_of word) n e in
    let t = number_takes (2 ^ 32) word n within_32 g.0 in
    (t.0, (g.1, t.1))

pub line_number_again : (n : ℕ) → 1 ≤ n → n < 2 ^ 32 → line_number_of (decimal n) ≡ Some n
unfolding line_number_of
line_number_again n h k =
    let some : eqb n 0 ≡ false = ne_eqb n 0 (λ e. omega (arith, e)) in
    rw (number_again (2 ^ 32) n k within_32, some) refl
