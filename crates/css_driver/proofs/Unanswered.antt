-- No request that is served is without an answer.
use Rattle.std.proofs.Common.{◌≡◌, ℕ, ◌<◌, ◌≤◌, ◌⊎◌, inl, inr, List, length, refl, sym, subst}
use Rattle.std.proofs.lemmas.Bool.{cases_lt}
use Rattle.css_base.specs.declared.static_fault.StaticFault.{StaticFault}
use Rattle.css_lex.specs.Lexing.{longest_text}
use Rattle.css_lexemes.specs.Lines.{erased}
use Rattle.css_small.specs.Tree.{Program}
use Rattle.css_small.specs.Texts.{Spells, IsRefused}
use Rattle.css_words.specs.declared.command.Command.{Command}
use Rattle.css_words.specs.declared.command.Command.TheVariants.{Check, Erased, Run}
use Rattle.css_words.specs.declared.request.Request.{Request}
use Rattle.css_driver.specs.Request.{whole, Asks, IsServed}
use Rattle.css_driver.specs.Answer.{Answer, IsRefusedBy, IsTextAnswer, Refused, IsAnswer, Asked, refusal, too_long}
use Rattle.css_driver.proofs.Commands.{by_command}
use Rattle.css_driver.proofs.Words.{asks_served}

-- no text is neither spelled nor refused
abbrev pub NeverNeither : Type 0
NeverNeither = (text : List ℕ) → ((p : Program) → Spells text p → ⊥) → ((f : StaticFault) → IsRefused text f → ⊥) → ⊥

-- what a request and a text have
abbrev pub Have : Request → List ℕ → Type 0
Have request text = (a : Answer) × IsTextAnswer request text a

-- no request that is served is without an answer
abbrev pub NeverUnanswered : Type 0
NeverUnanswered = (request : Request) (text : List ℕ) → IsServed request.command → ((a : Answer) → IsTextAnswer request text a → ⊥) → ⊥

module _ (neither : NeverNeither)
    (check : (request : Request) (text : List ℕ) (p : Program) → request.command ≡ Check → Spells text p → Have request text)
    (erase : (request : Request) (text : List ℕ) (p : Program) → request.command ≡ Erased → length text ≤ longest_text → Spells (erased text) p → Have request text)
    (run : (request : Request) (text : List ℕ) (p : Program) → request.command ≡ Run → Spells text p → Have request text) where
  module _ (request : Request) (text : List ℕ) (none : (a : Answer) → IsTextAnswer request text a → ⊥) where
    -- a text that the request's command refuses has an answer
    not_refused : (command : Command) → request.command ≡ command → (fault : StaticFault) → IsRefusedBy command text fault → ⊥
    not_refused command is fault refused =
        none (refusal fault) (Refused fault (subst (λ c. IsRefusedBy c text fault) (sym is) refused) refl)

    -- and so has one that spells a program
    not_given : Have request text → ⊥
    not_given one = none one.0 one.1

    by_length : request.command ≡ Erased → (longest_text < length text) ⊎ (length text ≤ longest_text) → ⊥
    by_length is (inl long) = not_refused Erased is too_long (inl (long, refl))
    by_length is (inr short) =
        neither (erased text) (λ p spells. not_given (erase request text p is short spells)) (λ fault refused. not_refused Erased is fault (inr (short, refused)))

    abbrev Never : Command → Type 0
    Never command = request.command ≡ command → IsServed command → ⊥

    never : (command : Command) → Never command
    never =
        by_command Never (λ is served. neither text (λ p spells. not_given (check request text p is spells)) (not_refused Check is))
        (λ is served. by_length is (cases_lt longest_text (length text)))
        (λ is served. neither text (λ p spells. not_given (run request text p is spells)) (not_refused Run is))
        (λ command other is served. other.unserved served)

  pub served_answered : NeverUnanswered
  served_answered request text served none = never request text none request.command refl served

-- no words that ask for something are without an answer
pub asked_answered : NeverUnanswered → (words : List (List ℕ)) (request : Request) (text : List ℕ) → Asks whole words request → ((a : Answer) → IsAnswer whole words text a → ⊥) → ⊥
asked_answered never words request text asks none =
    never request text (asks_served words request asks) (λ a answer. none a (Asked request asks answer))
