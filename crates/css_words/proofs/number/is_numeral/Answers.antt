use Rattle.std.proofs.Common.{◌≡◌, ◌∙◌, ◌<◌, ◌==◌, ℕ, false, List, length, All, refl, sym, subst, arith, true≢false}
use Rattle.std.specs.Char.{digit_value}
use Rattle.std.specs.Str.Parse.{IsNumeral}
use Rattle.std.proofs.lemmas.Bool.Decides.{nat_tests}
use Rattle.std.proofs.lemmas.List.{take_all}
use Rattle.std.proofs.lemmas.List.Elements.{All-more}
use Rattle.css_words.proofs.Numbers.{digits_from_all, no_digit}
use Rattle.css_words.proofs.number.is_numeral.Goals as goal

pub returns-then-not-is_ascii_digit : goal.returns-then-not-is_ascii_digit
returns-then-not-is_ascii_digit c = (
  λ e. absurd (true≢false (sym e)),
  λ n. absurd (no_digit c.as_bytes-byte-items.result.now c.loop-byte.byte-index c.loop-byte-test.true c.if-not-is_ascii_digit.ensures.cases
      (subst (λ (ds : List ℕ). IsNumeral 10 ds) (sym c.as_bytes-byte-items.ensures.value) n.0)),
)

pub loop-byte-preserved : goal.loop-byte-preserved
loop-byte-preserved c =
    All-more (λ b. digit_value b < 10) c.as_bytes-byte-items.result.now c.loop-byte.byte-index 0 c.loop-byte-test.true c.loop-byte.invariant c.if-not-is_ascii_digit.ensures.bound

pub returns : goal.returns
returns c =
    let all : All (λ b. digit_value b < 10) c.as_bytes-byte-items.result.now =
    subst (λ (bs : List ℕ). All (λ b. digit_value b < 10) bs) (take_all c.loop-byte.byte-index c.as_bytes-byte-items.result.now c.loop-byte-test.false) c.loop-byte.invariant in
    let empty : (length c.args.text.now == 0) ≡ false = sym c.is_empty.ensures ∙ c.if-is_empty.false in
    let some : 0 < length c.args.text.now = grind (arith, nat_tests, empty) in
    (λ _. ((some, digits_from_all c.args.text.now (subst (λ (bs : List ℕ). All (λ b. digit_value b < 10) bs) c.as_bytes-byte-items.ensures.value all)), c.if-text-gt20.false), λ _. refl)
