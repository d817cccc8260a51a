-- What the program answers: a definition for all words and files.
use Rattle.std.specs.Prelude.{◌≡◌, ℕ, zero, ℤ, pos, ◌≤◌, ◌<◌, ◌⊎◌, List, [], length, codes, Option, Some, None}
use Rattle.css_base.specs.declared.static_fault.StaticFault.{StaticFault}
use Rattle.css_base.specs.declared.static_fault.StaticName.TheVariants as names
use Rattle.css_base.specs.declared.ending.Ending.{Ending}
use Rattle.css_base.specs.declared.ending.Ending.TheVariants as endings
use Rattle.css_base.specs.declared.ending.Stop.{Stop}
use Rattle.css_base.specs.declared.ending.Stop.TheVariants as stops
use Rattle.css_base.specs.declared.ending.Who.TheVariants as whose
use Rattle.css_base.specs.declared.limits.Limits.{Limits}
use Rattle.css_semantics.specs.Dialogue.{Outcome, Goes, Stops, Stopped, Tired, tape_of, output}
use Rattle.css_semantics.specs.Flat.{flat}
use Rattle.css_main_side.specs.Playing.{begins}
use Rattle.css_semantics.specs.Verdict.{Verdict, verdict, judged_in}
use Rattle.css_lex.specs.Lexing.{longest_text}
use Rattle.css_lexemes.specs.Lines.{erased}
use Rattle.css_small.specs.Tree.{Program}
use Rattle.css_small.specs.Texts.{Spells, IsRefused}
use Rattle.css_small_code.specs.Meaning.{source}
use Rattle.css_words.specs.declared.command.Command.{Command}
use Rattle.css_words.specs.declared.command.Command.TheVariants.{Check, Erased, Run}
use Rattle.css_words.specs.declared.request.Request.{Request}
use Rattle.css_report.specs.Endings.{ending_line, static_line}
use Rattle.css_driver.specs.Request.{Offer, Asks, AreRefused}

-- The bytes of standard output and of the report, and the status.
pub record Answer : Type 0 where
  pub out : List ℕ
  pub report : List ℕ
  pub status : ℕ

abbrev pub words_refused : List ℕ
words_refused = codes "words refused\n"

abbrev pub read_fault : List ℕ
read_fault = codes "read fault\n"

abbrev pub no_memory : List ℕ
no_memory = codes "no memory\n"

abbrev pub stop_status : Stop → ℕ
stop_status (stops.Fault kind) = 4
stop_status (stops.Rule rule) = 5

-- The status of an ending: 0 at the result 0, 1 at another, 4 at a fault, 5 at a rule.
abbrev pub ending_status : Ending → ℕ
ending_status (endings.Result (pos zero)) = 0
ending_status (endings.Result _) = 1
ending_status (endings.Stopped s line w) = stop_status s

-- How main ends, if the fuel doesn't end it.
abbrev pub ending_of : Outcome ℤ → Option Ending
ending_of (Goes v tape) = Some (endings.Result v)
ending_of (Stops (Stopped stop line) tape) = Some (endings.Stopped stop line whose.Main)
ending_of (Stops Tired tape) = None

-- What a program does in a flat memory and with main's units of these limits: its output and its ending. More fuel than is
-- enough changes nothing.
pub record Runs (limits : Limits) (p : Program) (out : List ℕ) (ending : Ending) : Type 0 where
  pub fuel : ℕ
  pub ending_is : ending_of (source (flat (begins limits) limits.main_units) fuel p) ≡ Some ending
  pub out_is : out ≡ output (tape_of (source (flat (begins limits) limits.main_units) fuel p))

-- ---- what each command gives

-- The answer of a program's run without tasks.
pub record IsRunAnswer (limits : Limits) (p : Program) (a : Answer) : Type 0 where
  pub ending : Ending
  pub runs : Runs limits p a.out ending
  pub report_is : a.report ≡ ending_line ending
  pub status_is : a.status ≡ ending_status ending

-- The verdict on a program under the rules and with these limits. More fuel than is enough changes nothing.
abbrev pub HasVerdict : Limits → Program → Verdict → Type 0
HasVerdict limits p v = (fuel : ℕ) × (verdict (begins limits).memory (source (judged_in limits (begins limits)) fuel p) ≡ Some v)

-- The answer of a program's run with its tasks: its verdict's output and ending.
pub record IsTaskAnswer (limits : Limits) (p : Program) (a : Answer) : Type 0 where
  pub v : Verdict
  pub has : HasVerdict limits p v
  pub out_is : a.out ≡ v.output
  pub report_is : a.report ≡ ending_line v.ending
  pub status_is : a.status ≡ ending_status v.ending

-- The text is accepted.
abbrev pub accepted : Answer
accepted = record { out = []; report = codes "accepted\n"; status = 0 }

-- What a command gives for a text that spells a program: `check` and `run` take it as it is, `erased` without its directives.
abbrev pub IsProgramAnswer : Command → Limits → List ℕ → Answer → Type 0
IsProgramAnswer Check limits text a = (p : Program) × Spells text p × (a ≡ accepted)
IsProgramAnswer Erased limits text a = (p : Program) × (length text ≤ longest_text) × Spells (erased text) p × IsRunAnswer limits p a
IsProgramAnswer Run limits text a = (p : Program) × Spells text p × IsTaskAnswer limits p a
IsProgramAnswer command limits text a = ⊥

-- ---- refusals

-- S1 with line 1
abbrev pub too_long : StaticFault
too_long = record { name = names.TooLong; line = 1 }

-- How a command refuses a text: `erased` by the length of the text, and else as the text without its directives is refused.
abbrev pub IsRefusedBy : Command → List ℕ → StaticFault → Type 0
IsRefusedBy Erased text fault =
    ((longest_text < length text) × (fault ≡ too_long)) ⊎ ((length text ≤ longest_text) × IsRefused (erased text) fault)
IsRefusedBy command text fault = IsRefused text fault

-- the answer to a text that is refused with a fault
abbrev pub refusal : StaticFault → Answer
refusal fault = record { out = []; report = static_line fault.name fault.line; status = 3 }

-- ---- answers

-- The answer to a text.
pub data IsTextAnswer (request : Request) (text : List ℕ) (a : Answer) : Type 0 where
  Refused : (fault : StaticFault) → IsRefusedBy request.command text fault → a ≡ refusal fault → IsTextAnswer request text a
  Given : IsProgramAnswer request.command request.limits text a → IsTextAnswer request text a

-- The answer to words, where the file that they name has this text, of what is offered.
pub data IsAnswer (offer : Offer) (words : List (List ℕ)) (text : List ℕ) (a : Answer) : Type 0 where
  WordsRefused : AreRefused offer words → a ≡ record { out = []; report = words_refused; status = 2 } → IsAnswer offer words text a
  Asked : (request : Request) → Asks offer words request → IsTextAnswer request text a → IsAnswer offer words text a
