-- What the commands give and refuse, by each.
use Rattle.std.proofs.Common.{◌≡◌, ℕ, ◌<◌, ◌≤◌, ◌⊎◌, inl, inr, List, length, refl, sym, ap, ◌∙◌, subst, arith}
use Rattle.css_base.specs.declared.limits.Limits.{Limits}
use Rattle.css_base.specs.declared.static_fault.StaticFault.{StaticFault}
use Rattle.css_lex.specs.Lexing.{longest_text}
use Rattle.css_lexemes.specs.Lines.{erased}
use Rattle.css_small.specs.Tree.{Program}
use Rattle.css_small.specs.Texts.{Spells, IsRefused, Unlexed}
use Rattle.css_words.specs.declared.command.Command.{Command}
use Rattle.css_words.specs.declared.command.Command.TheVariants.{Check, Code, Erased, Run, Sim, Graph, Make, Audit, Plan, Save, Resume}
use Rattle.css_driver.specs.Request.{IsServed}
use Rattle.css_driver.specs.Answer.{Answer, IsRunAnswer, IsTaskAnswer, IsProgramAnswer, IsRefusedBy, too_long}
use Rattle.css_driver.proofs.Fuel.{MoreFuel}
use Rattle.css_driver.proofs.Runs.{IsRunStatus, one_run_answer, run_answer_status}
use Rattle.css_driver.proofs.TaskRuns.{OneVerdict, one_task_answer, task_answer_status}

-- a command that gives nothing, and refuses texts as they are
pub record IsOther (command : Command) : Type 0 where
  pub gives_nothing : (limits : Limits) (text : List ℕ) (a : Answer) → IsProgramAnswer command limits text a → ⊥
  pub refused : (text : List ℕ) (fault : StaticFault) → IsRefusedBy command text fault → IsRefused text fault
  pub unserved : IsServed command → ⊥
  pub refuses : (text : List ℕ) (fault : StaticFault) → IsRefused text fault → IsRefusedBy command text fault

-- what holds of `check`, `erased` and `run`, and of each other command, holds of all
pub by_command : (P : Command → Type 0) → P Check → P Erased → P Run → ((command : Command) → IsOther command → P command) → (command : Command) → P command
by_command P check erase run other Check = check
by_command P check erase run other Erased = erase
by_command P check erase run other Run = run
by_command P check erase run other Code = other Code (record { gives_nothing = λ l t a h. h; refused = λ t f h. h; unserved = λ h. h; refuses = λ t f h. h })
by_command P check erase run other Sim = other Sim (record { gives_nothing = λ l t a h. h; refused = λ t f h. h; unserved = λ h. h; refuses = λ t f h. h })
by_command P check erase run other Graph = other Graph (record { gives_nothing = λ l t a h. h; refused = λ t f h. h; unserved = λ h. h; refuses = λ t f h. h })
by_command P check erase run other Make = other Make (record { gives_nothing = λ l t a h. h; refused = λ t f h. h; unserved = λ h. h; refuses = λ t f h. h })
by_command P check erase run other Audit = other Audit (record { gives_nothing = λ l t a h. h; refused = λ t f h. h; unserved = λ h. h; refuses = λ t f h. h })
by_command P check erase run other Plan = other Plan (record { gives_nothing = λ l t a h. h; refused = λ t f h. h; unserved = λ h. h; refuses = λ t f h. h })
by_command P check erase run other Save = other Save (record { gives_nothing = λ l t a h. h; refused = λ t f h. h; unserved = λ h. h; refuses = λ t f h. h })
by_command P check erase run other Resume = other Resume (record { gives_nothing = λ l t a h. h; refused = λ t f h. h; unserved = λ h. h; refuses = λ t f h. h })

abbrev IsErasedWhereServed : Command → Type 0
IsErasedWhereServed command = IsServed command → (command ≡ Check → ⊥) → (command ≡ Run → ⊥) → command ≡ Erased

-- what is served is `erased`, where it isn't another
pub served_erased : (command : Command) → IsErasedWhereServed command
served_erased =
    by_command IsErasedWhereServed (λ served no_check no_run. absurd (no_check refl)) (λ served no_check no_run. refl)
    (λ served no_check no_run. absurd (no_run refl)) (λ command other served no_check no_run. absurd (other.unserved served))

-- a text spells one program, is refused with one fault, and isn't both
abbrev pub OneProgram : Type 0
OneProgram = (text : List ℕ) (p q : Program) → Spells text p → Spells text q → p ≡ q

abbrev pub OneFault : Type 0
OneFault = (text : List ℕ) (f g : StaticFault) → IsRefused text f → IsRefused text g → f ≡ g

abbrev pub AreApart : Type 0
AreApart = (text : List ℕ) (p : Program) (f : StaticFault) → Spells text p → IsRefused text f → ⊥

-- ---- what is given

-- what `erased` and `run` give for a text is what they give for its program
pub erased_back : OneProgram → (limits : Limits) (text : List ℕ) (p : Program) → Spells (erased text) p → (a : Answer) → IsProgramAnswer Erased limits text a → IsRunAnswer limits p a
erased_back only limits text p spells a (q, short, also, one) = subst (λ x. IsRunAnswer limits x a) (only (erased text) q p also spells) one

pub run_back : OneProgram → (limits : Limits) (text : List ℕ) (p : Program) → Spells text p → (a : Answer) → IsProgramAnswer Run limits text a → IsTaskAnswer limits p a
run_back only limits text p spells a (q, also, one) = subst (λ x. IsTaskAnswer limits x a) (only text q p also spells) one

abbrev HasOne : Command → Type 0
HasOne command = (limits : Limits) (text : List ℕ) (a b : Answer) → IsProgramAnswer command limits text a → IsProgramAnswer command limits text b → a ≡ b

-- a command gives one answer for a text
pub one_given : OneProgram → MoreFuel → OneVerdict → (command : Command) → HasOne command
one_given only more_fuel verdicts = by_command HasOne check erase run (λ command other limits text a b one two. absurd (other.gives_nothing limits text a one))
  where
    check : HasOne Check
    check limits text a b (p, spells, is) (q, also, is') = is ∙ sym is'

    erase : HasOne Erased
    erase limits text a b (p, short, spells, one) two = one_run_answer more_fuel limits p a b one (erased_back only limits text p spells b two)

    run : HasOne Run
    run limits text a b (p, spells, one) two = one_task_answer verdicts limits p a b one (run_back only limits text p spells b two)

abbrev HasStatus : Command → Type 0
HasStatus command = (limits : Limits) (text : List ℕ) (a : Answer) → IsProgramAnswer command limits text a → IsRunStatus a.status

-- the status of what a command gives
pub given_status : (command : Command) → HasStatus command
given_status = by_command HasStatus check erase run (λ command other limits text a one. absurd (other.gives_nothing limits text a one))
  where
    check : HasStatus Check
    check limits text a (p, spells, is) = inl (let none : a.status ≡ 0 = ap (λ (x : Answer). x.status) is in omega arith)

    erase : HasStatus Erased
    erase limits text a (p, short, spells, one) = run_answer_status limits p a one

    run : HasStatus Run
    run limits text a (p, spells, one) = task_answer_status limits p a one

-- ---- what is refused

abbrev HasOneFault : Command → Type 0
HasOneFault command = (text : List ℕ) (f g : StaticFault) → IsRefusedBy command text f → IsRefusedBy command text g → f ≡ g

-- a command refuses a text with one fault
pub one_refusal : OneFault → (command : Command) → HasOneFault command
one_refusal only = by_command HasOneFault only erase only (λ command other text f g one two. only text f g (other.refused text f one) (other.refused text g two))
  where
    erase : HasOneFault Erased
    erase text f g (inl (long, is)) (inl (also, is')) = is ∙ sym is'
    erase text f g (inl (long, is)) (inr (short, refused)) = absurd (omega arith)
    erase text f g (inr (short, refused)) (inl (long, is)) = absurd (omega arith)
    erase text f g (inr (short, one)) (inr (short', two)) = only (erased text) f g one two

-- `erased` refuses no text of which it reads a program
pub erased_reads : AreApart → (text : List ℕ) (p : Program) → length text ≤ longest_text → Spells (erased text) p → (fault : StaticFault) → IsRefusedBy Erased text fault → ⊥
erased_reads apart text p short spells fault (inl (long, is)) = omega arith
erased_reads apart text p short spells fault (inr (short', refused)) = apart (erased text) p fault spells refused

abbrev IsApart : Command → Type 0
IsApart command = (limits : Limits) (text : List ℕ) (a : Answer) (f : StaticFault) → IsProgramAnswer command limits text a → IsRefusedBy command text f → ⊥

-- a command gives nothing for what it refuses
pub given_apart : AreApart → (command : Command) → IsApart command
given_apart apart = by_command IsApart check erase run (λ command other limits text a f one refused. other.gives_nothing limits text a one)
  where
    check : IsApart Check
    check limits text a f (p, spells, is) refused = apart text p f spells refused

    erase : IsApart Erased
    erase limits text a f (p, short, spells, one) refused = erased_reads apart text p short spells f refused

    run : IsApart Run
    run limits text a f (p, spells, one) refused = apart text p f spells refused

-- what the front end says of a text that is too long
long_refused : (text : List ℕ) → longest_text < length text → IsRefused text too_long
long_refused text long = Unlexed (inl (long, refl))

abbrev RefusesLong : Command → Type 0
RefusesLong command = (text : List ℕ) → longest_text < length text → IsRefusedBy command text too_long

-- every command refuses a text that is too long with S1 in line 1
pub long_refused_by : (command : Command) → RefusesLong command
long_refused_by = by_command RefusesLong long_refused (λ text long. inl (long, refl)) long_refused (λ command other text long. other.refuses text too_long (long_refused text long))
