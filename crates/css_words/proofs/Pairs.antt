-- Options that are given, one after the other.
use Rattle.std.proofs.Common.{◌≡◌, ◌∙◌, ◌<◌, ◌+◌, ℕ, Bool, true, false, List, [], ◌∷◌, Some, All, Contains, IsSome, IsTrue, IfOk, Result, Ok, Err, ◌↔◌, length, drop, get_or, ap, if◌then◌else◌}
use Rattle.std.proofs.lemmas.List.{drop_more}
use Rattle.std.proofs.lemmas.List.Elements.{All-nil, All-cons, All-head, All-tail, All-get_or}
use Rattle.css_words.specs.declared.options.OptionName.{OptionName}
use Rattle.css_words.specs.declared.part.Given.{Given as GivenOption}
use Rattle.css_words.specs.declared.built.Built.{Built}
use Rattle.css_words.specs.declared.command.Command.{Command}
use Rattle.css_words.specs.Options.{Text, kind_of}
use Rattle.css_words.specs.Items.{Given}
use Rattle.css_words.specs.KeptWords.{pair_of, pairs}
use Rattle.css_words.specs.Reading.{value_of, is_option, AreOnce, IsAllowed, IsOptionOf, IsOperandOf, IsValue, Wants}

-- what holds of all pairs, and of all that the code keeps
pub all_pairs : (P : Given → Type 0) (gs : List GivenOption) → All (λ g. P (pair_of g)) gs → All P (pairs gs)
all_pairs P [] h = All-nil P
all_pairs P (g ∷ gs) h = All-cons P (pair_of g) (pairs gs) (All-head (λ x. P (pair_of x)) g gs h) (all_pairs P gs (All-tail (λ x. P (pair_of x)) g gs h))

pub all_kept : (P : Given → Type 0) (gs : List GivenOption) → All P (pairs gs) → All (λ g. P (pair_of g)) gs
all_kept P [] h = All-nil (λ g. P (pair_of g))
all_kept P (g ∷ gs) h = All-cons (λ x. P (pair_of x)) g gs (All-head P (pair_of g) (pairs gs) h) (all_kept P gs (All-tail P (pair_of g) (pairs gs) h))

pub not_all : (P : Given → Type 0) (gs : List GivenOption) (i : ℕ) (d : GivenOption) → i < length gs → (P (pair_of (get_or gs i d)) → ⊥) → All P (pairs gs) → ⊥
not_all P gs i d lt refused h = refused (All-get_or (λ g. P (pair_of g)) gs i d lt (all_kept P gs h))

-- the value of an option among those from a place on
pub value_there : (o : OptionName) (gs : List GivenOption) (i : ℕ) (d : GivenOption) → i < length gs → is_option o (get_or gs i d).option ≡ true
    → value_of o (pairs (drop i gs)) ≡ Some (get_or gs i d).value.now
value_there o gs i d lt e =
    ap (λ l. value_of o (pairs l)) (drop_more gs i d lt)
    ∙ ap (λ (b : Bool). if b then Some (get_or gs i d).value.now else value_of o (pairs (drop (i + 1) gs))) e

pub value_behind : (o : OptionName) (gs : List GivenOption) (i : ℕ) (d : GivenOption) → i < length gs → is_option o (get_or gs i d).option ≡ false
    → value_of o (pairs (drop i gs)) ≡ value_of o (pairs (drop (i + 1) gs))
value_behind o gs i d lt e =
    ap (λ l. value_of o (pairs l)) (drop_more gs i d lt)
    ∙ ap (λ (b : Bool). if b then Some (get_or gs i d).value.now else value_of o (pairs (drop (i + 1) gs))) e

-- what is allowed but for its values is allowed where those are
pub allowed_by_values : {E : Type 0} (built : Built) (command : Command) (operand : Text) (given : List Given) (r : Result Bool E)
    → Contains built.commands.now command → All (λ g. IsOptionOf built command g.0) given → AreOnce given
    → ((option : OptionName) → Wants command option → IsSome (value_of option given)) → IsOperandOf command operand
    → IfOk r (λ yes. IsTrue yes ↔ All (λ g. IsValue (kind_of g.0) g.1) given) → IfOk r (λ yes. IsTrue yes ↔ IsAllowed built command operand given)
allowed_by_values built command operand given (Ok fits) is belong once wanted of h =
    (λ t. record { is_built = is; options = belong; once = once; values = h.0 t; wanted = wanted; of_command = of }, λ a. h.1 a.values)
allowed_by_values built command operand given (Err e) is belong once wanted of h = h
