-- The range of a number, as the parser of a command line's value tests it.
use Rattle.std.proofs.Common.{◌≡◌, ◌∙◌, ◌<◌, ◌≤◌, ◌&&◌, ◌^◌, ℕ, Bool, true, false, nat_lt, nat_le, List, [], ◌∷◌, codes, refl, sym, ap, arith, Decides, if◌then◌else◌, Some, IsTrue, ◌↔◌, true≢false}
use Rattle.std.specs.Str.Parse.{IsNumeral, digits_value}
use Rattle.clap.specs.Words.{App, Rule, Text, new_app, new_rule, with_rule, fault_of, is_simple_and_free, Kinds, IsAmong}
use Rattle.clap.specs.Kinds.{or_else}
use Rattle.std.proofs.lemmas.Bool.Decides.{Decides-and, Decides-at, Decides-ltb, nat_tests}
use Rattle.clap.specs.ValueTests.{accepts, is_numeral}
use Rattle.clap.specs.declared.builder.value_parser.ValueParser.TheVariants as vp
use Rattle.clap.specs.declared.error.kind.ErrorKind.{ErrorKind}
use Rattle.clap.specs.declared.error.kind.ErrorKind.TheVariants.{ValueValidation}
use Rattle.clap.proofs.OnLiterals.{clap_on_literals}
use Rattle.css_words.proofs.Numbers.{no_plus, numeral_passes}

abbrev pub value_rule : ℕ → ℕ → Rule
value_rule least most = record (new_rule (codes "value")) { parser = Some (vp.Unsigned least most) }

abbrev pub number_app : ℕ → ℕ → App
number_app least most = with_rule (new_app (codes "number")) (value_rule least most)

pub number_is_simple : (least most : ℕ) → is_simple_and_free (number_app least most) ≡ true
unfolding clap_on_literals
number_is_simple least most = refl

-- what is wrong with a value, if it is right or wrong
abbrev pub faults_at : Bool → Kinds
faults_at passes = or_else (or_else (if passes then [] else ValueValidation ∷ []) []) []

pub number_fault : (least most : ℕ) (text : Text)
    → fault_of (number_app least most) (codes "number" ∷ codes "--" ∷ text ∷ []) ≡ faults_at (accepts false (vp.Unsigned least most) text)
unfolding clap_on_literals
number_fault least most text = refl

pub passes_without_faults : (b : Bool) → faults_at b ≡ [] → b ≡ true
passes_without_faults true e = refl
passes_without_faults false e = cc

pub fails_with_fault : (b : Bool) (kind : ErrorKind) → IsAmong kind (faults_at b) → b ≡ false
fails_with_fault true kind h = absurd h
fails_with_fault false kind h = refl

le_Decides : (a b : ℕ) → Decides (nat_le a b) (a ≤ b)
le_Decides a b = (λ e. grind (arith, nat_tests), λ h. grind (arith, nat_tests))

-- the number is in the range
abbrev pub Lies : ℕ → ℕ → Text → Type 0
Lies least most text = (digits_value 10 text < 2 ^ 64) × (least ≤ digits_value 10 text) × (digits_value 10 text ≤ most)

abbrev tests : ℕ → ℕ → List ℕ → Bool
tests least most text = nat_lt (digits_value 10 text) (2 ^ 64) && (nat_le least (digits_value 10 text) && nat_le (digits_value 10 text) most)

tests_Decides : (least most : ℕ) (text : Text) → Decides (tests least most text) (Lies least most text)
tests_Decides least most text =
    let n = digits_value 10 text in
    let d = Decides-and (nat_lt n (2 ^ 64)) (nat_le least n && nat_le n most) (Decides-ltb n (2 ^ 64))
    (Decides-and (nat_le least n) (nat_le n most) (le_Decides least n) (le_Decides n most)) in
    (λ e. let p = d.0 e in (p.0, p.1.0, p.1.1), λ p. d.1 (p.0, (p.1, p.2)))

pub accepts_Decides : (least most : ℕ) (text : Text) → IsNumeral 10 text → Decides (accepts false (vp.Unsigned least most) text) (Lies least most text)
accepts_Decides least most text h =
    Decides-at (accepts false (vp.Unsigned least most) text) (tests least most text)
    (ap (λ (ds : List ℕ). is_numeral ds && tests least most ds) (no_plus text h) ∙ ap (λ (b : Bool). b && tests least most text) (numeral_passes text h))
    (tests_Decides least most text)

pub is_passed : (b : Bool) (P : Type 0) → Decides b P → b ≡ true → IsTrue true ↔ P
is_passed b P d e = (λ _. d.0 e, λ _. refl)

pub is_refused : (b : Bool) (P : Type 0) → Decides b P → b ≡ false → IsTrue false ↔ P
is_refused b P d e = (λ t. absurd (true≢false (sym t)), λ p. absurd (true≢false (sym (d.1 p) ∙ e)))
