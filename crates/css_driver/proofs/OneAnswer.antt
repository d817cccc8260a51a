-- Words and a text have one answer.
use Rattle.std.proofs.Common.{◌≡◌, ℕ, ◌+◌, ◌≤◌, ◌⊎◌, inl, inr, List, length, Some, refl, sym, ap, ◌∙◌, subst, arith}
use Rattle.css_base.specs.declared.limits.Limits.{Limits}
use Rattle.css_main_side.specs.Playing.{begins}
use Rattle.css_semantics.specs.Flat.{FlatState}
use Rattle.css_semantics.specs.Verdict.{Verdict, verdict, judged_in}
use Rattle.css_lex.specs.Lexing.{longest_text}
use Rattle.css_lexemes.specs.Lines.{erased}
use Rattle.css_small.specs.Tree.{Program}
use Rattle.css_small.specs.Texts.{Spells}
use Rattle.css_small.specs.Numbers.{HasNumbers}
use Rattle.css_small_code.specs.Meaning.{source}
use Rattle.css_words.specs.declared.command.Command.{Command}
use Rattle.css_words.specs.declared.command.Command.TheVariants as commands
use Rattle.css_words.specs.declared.request.Request.{Request}
use Rattle.css_driver.specs.Request.{Offer}
use Rattle.css_driver.specs.Answer.{Answer, IsProgramAnswer, IsTextAnswer, Refused, Given, IsAnswer, WordsRefused, Asked, accepted, refusal}
use Rattle.css_driver.proofs.Fuel.{MoreFuel, EnoughFuel}
use Rattle.css_driver.proofs.Runs.{run_answer, IsRunStatus}
use Rattle.css_driver.proofs.TaskRuns.{OneVerdict, task_answer}
use Rattle.css_driver.proofs.Commands.{OneProgram, OneFault, AreApart, one_given, given_status, one_refusal, given_apart}
use Rattle.css_driver.proofs.Words.{asks_nothing, one_request}

-- a request and a text have at most one answer
abbrev pub OneTextAnswer : Type 0
OneTextAnswer = (request : Request) (text : List ℕ) (a b : Answer) → IsTextAnswer request text a → IsTextAnswer request text b → a ≡ b

pub one_text_answer_lem : OneProgram → AreApart → OneFault → MoreFuel → OneVerdict → OneTextAnswer
one_text_answer_lem programs apart faults more_fuel verdicts request text a b (Refused f one is) (Refused g two is') =
    is ∙ ap refusal (one_refusal faults request.command text f g one two) ∙ sym is'
one_text_answer_lem programs apart faults more_fuel verdicts request text a b (Refused f one is) (Given two) =
    absurd (given_apart apart request.command request.limits text b f two one)
one_text_answer_lem programs apart faults more_fuel verdicts request text a b (Given one) (Refused g two is') =
    absurd (given_apart apart request.command request.limits text a g one two)
one_text_answer_lem programs apart faults more_fuel verdicts request text a b (Given one) (Given two) =
    one_given programs more_fuel verdicts request.command request.limits text a b one two

-- words and a text have at most one answer
abbrev pub OnlyOneAnswer : Type 0
OnlyOneAnswer = (offer : Offer) (words : List (List ℕ)) (text : List ℕ) (a b : Answer) → IsAnswer offer words text a → IsAnswer offer words text b → a ≡ b

pub one_answer_lem : OneTextAnswer → OnlyOneAnswer
one_answer_lem only offer words text a b (WordsRefused refused is) (WordsRefused refused' is') = is ∙ sym is'
one_answer_lem only offer words text a b (WordsRefused refused is) (Asked request asks answer) = absurd (asks_nothing offer words request refused asks)
one_answer_lem only offer words text a b (Asked request asks answer) (WordsRefused refused is) = absurd (asks_nothing offer words request refused asks)
one_answer_lem only offer words text a b (Asked request asks answer) (Asked request' asks' answer') =
    only request text a b answer (subst (λ (r : Request). IsTextAnswer r text b) (one_request offer words request' request asks' asks) answer')

-- ---- programs have answers

abbrev pub NumbersFit : Type 0
NumbersFit = (text : List ℕ) (p : Program) → Spells text p → HasNumbers p

abbrev pub HaveVerdicts : Type 0
HaveVerdicts = (limits : Limits) (start : FlatState) (p : Program) → HasNumbers p → (v : Verdict) × (verdict start.memory (source (judged_in limits start) (limits.main_units + limits.task_units + 2) p) ≡ Some v)

-- what a command gives is an answer of a request for it
pub answer_given : (request : Request) (text : List ℕ) (command : Command) (a : Answer) → request.command ≡ command → IsProgramAnswer command request.limits text a → IsTextAnswer request text a
answer_given request text command a is one = Given (subst (λ c. IsProgramAnswer c request.limits text a) (sym is) one)

module _ (request : Request) (text : List ℕ) (p : Program) where
  pub check_has_answer : request.command ≡ commands.Check → Spells text p → (a : Answer) × IsTextAnswer request text a
  check_has_answer is spells = (accepted, answer_given request text commands.Check accepted is (p, spells, refl))

  pub erased_has_answer : EnoughFuel → NumbersFit → request.command ≡ commands.Erased → length text ≤ longest_text → Spells (erased text) p → (a : Answer) × IsTextAnswer request text a
  erased_has_answer enough numbers is short spells =
      let one = run_answer enough request.limits p (numbers (erased text) p spells) in
      (one.0, answer_given request text commands.Erased one.0 is (p, short, spells, one.1))

  pub run_has_answer : HaveVerdicts → NumbersFit → request.command ≡ commands.Run → Spells text p → (a : Answer) × IsTextAnswer request text a
  run_has_answer verdicts numbers is spells =
      let known = verdicts request.limits (begins request.limits) p (numbers text p spells) in
      let one = task_answer request.limits p known.0 (_, known.1) in
      (one.0, answer_given request text commands.Run one.0 is (p, spells, one.1))

-- ---- statuses

-- the status of a text's answer
pub text_answer_status : (request : Request) (text : List ℕ) (a : Answer) → IsTextAnswer request text a → (a.status ≡ 3) ⊎ IsRunStatus a.status
text_answer_status request text a (Refused f one is) = inl (ap (λ (x : Answer). x.status) is)
text_answer_status request text a (Given one) = inr (given_status request.command request.limits text a one)

at_most_five : (status : ℕ) → (status ≡ 3) ⊎ IsRunStatus status → status ≤ 5
at_most_five status (inl three) = omega arith
at_most_five status (inr (inl low)) = omega arith
at_most_five status (inr (inr high)) = high.1

-- the status of an answer
pub answer_status : (offer : Offer) (words : List (List ℕ)) (text : List ℕ) (a : Answer) → IsAnswer offer words text a → a.status ≤ 5
answer_status offer words text a (WordsRefused refused is) = let e : a.status ≡ 2 = ap (λ (x : Answer). x.status) is in omega arith
answer_status offer words text a (Asked request asks answer) = at_most_five a.status (text_answer_status request text a answer)
