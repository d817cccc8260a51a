-- A run's answer is a verdict's, which is that of the text without its directives.
use Rattle.std.proofs.Common.{◌≡◌, ◌≤◌, ℕ, inl, inr, List, [], ◌++◌, map, Option, Some, refl, ap, subst, arith}
use Rattle.css_base.specs.declared.limits.Limits.{Limits}
use Rattle.css_semantics.specs.Dialogue.{Tape, tape_of}
use Rattle.css_semantics.specs.Flat.{FlatState, flat}
use Rattle.css_main_side.specs.Playing.{begins}
use Rattle.css_semantics.specs.Verdict.{Verdict, verdict, judged_in}
use Rattle.css_lexemes.specs.Lines.{erased}
use Rattle.css_small.specs.Tree.{Program}
use Rattle.css_small.specs.Texts.{Spells}
use Rattle.css_small_code.specs.Meaning.{source}
use Rattle.css_erasing.specs.Unmarked.{unmarked}
use Rattle.css_semantics.specs.Plain.{entries}
use Rattle.css_semantics.specs.Erased.{IsPassed, Answers}
use Rattle.css_semantics.specs.Points.{points, erased_image}
use Rattle.css_words.specs.declared.command.Command.{Command}
use Rattle.css_words.specs.declared.command.Command.TheVariants.{Run}
use Rattle.css_words.specs.declared.request.Request.{Request}
use Rattle.css_io.specs.Changes.{Change, Got}
use Rattle.css_driver.specs.Request.{Offer, Asks}
use Rattle.css_driver.specs.Answer.{Answer, IsTaskAnswer, IsProgramAnswer, IsTextAnswer, Refused, Given, IsAnswer, WordsRefused, Asked, no_memory, read_fault}
use Rattle.css_driver.specs.Ends.{Whole, Cut, Starved, Finishes, Written, CutLine, CallEnds, Answered, Unread, Unheard}
use Rattle.css_driver.specs.Headline.{IsErasedRun, IsOfRun}
use Rattle.css_driver.proofs.Clauses.{told_text}
use Rattle.css_driver.proofs.Words.{asks_nothing, one_request}

-- what css_erasing says of a program under the rules and of the program without its directives
pub record ErasingLaws : Type 0 where
  pub verdicts : (limits : Limits) (start : FlatState) (fuel enough n : ℕ) (p : Program) (v : Verdict) → verdict start.memory (source (judged_in limits start) fuel p) ≡ Some v → entries (tape_of (source (judged_in limits start) fuel p)) ≤ n → fuel ≤ enough → Answers v.ending v.output (source (flat start n) enough (unmarked p))
  pub passed : (limits : Limits) (start : FlatState) (fuel enough n : ℕ) (p : Program) (newer tape : Tape) → tape_of (source (judged_in limits start) fuel p) ≡ newer ++ tape → entries (tape_of (source (judged_in limits start) fuel p)) ≤ n → fuel ≤ enough → IsPassed tape (tape_of (source (flat start n) enough (unmarked p)))
  pub images : (limits : Limits) (start : FlatState) (fuel : ℕ) (p : Program) (v : Verdict) → verdict start.memory (source (judged_in limits start) fuel p) ≡ Some v → v.images ≡ map (erased_image start.memory) (points (tape_of (source (judged_in limits start) fuel p)))

-- the text without its directives spells that program
abbrev pub SpellsUnmarked : Type 0
SpellsUnmarked = (text : List ℕ) (p : Program) → Spells text p → Spells (erased text) (unmarked p)

erased_run : ErasingLaws → SpellsUnmarked → (limits : Limits) (text : List ℕ) (p : Program) (a : Answer) → Spells text p → IsTaskAnswer limits p a → IsErasedRun limits text a
erased_run laws spelled limits text p a spells one =
    record {
      marked = p;
      plain = unmarked p;
      spells = spells;
      spells_erased = spelled text p spells;
      fuel = one.has.0;
      v = one.v;
      has = one.has.1;
      out_is = one.out_is;
      report_is = one.report_is;
      status_is = one.status_is;
      answers = λ units enough few less. laws.verdicts limits (begins limits) one.has.0 enough units p one.v one.has.1 few less;
      passed = λ units enough few less. laws.passed limits (begins limits) one.has.0 enough units p [] (tape_of (source (judged_in limits (begins limits)) one.has.0 p)) refl few less;
      images = laws.images limits (begins limits) one.has.0 p one.v one.has.1;
    }

given_run : ErasingLaws → SpellsUnmarked → (limits : Limits) (text : List ℕ) (a : Answer) → IsProgramAnswer Run limits text a → IsErasedRun limits text a
given_run laws spelled limits text a (p, spells, one) = erased_run laws spelled limits text p a spells one

no_run_status : (status n : ℕ) → 6 ≤ n → status ≡ n → IsOfRun status → ⊥
no_run_status status n more is (inl low) = absurd (omega arith)
no_run_status status n more is (inr high) = absurd (omega (arith, high.1))

low_no_run : (status : ℕ) → IsOfRun status → (status ≡ 2 → ⊥) × (status ≡ 3 → ⊥)
low_no_run status (inl low) = (λ two. omega arith, λ three. omega arith)
low_no_run status (inr high) = (λ two. omega (arith, high.0), λ three. omega (arith, high.0))

-- a call that ends with another line than a run's gives no run's status
not_finished : (report : Change) (line : List ℕ) (n status : ℕ) → 6 ≤ n → Finishes report line n status → IsOfRun status → ⊥
not_finished report line n status more (Written is got) of_run = no_run_status status n more is of_run
not_finished report line n status more (CutLine is failed got) of_run = no_run_status status 7 (omega arith) is of_run

module _ (laws : ErasingLaws) (spelled : SpellsUnmarked) (offer : Offer) (words : List (List ℕ)) (request : Request) (asks : Asks offer words request) (runs : request.command ≡ Run) (text : List ℕ) where
  text_run : (a : Answer) → IsTextAnswer request text a → IsOfRun a.status → IsErasedRun request.limits text a
  text_run a (Refused fault refused is) of_run = absurd ((low_no_run a.status of_run).1 (ap (λ (x : Answer). x.status) is))
  text_run a (Given one) of_run = given_run laws spelled request.limits text a (subst (λ (c : Command). IsProgramAnswer c request.limits text a) runs one)

  answer_run : (a : Answer) → IsAnswer offer words text a → IsOfRun a.status → IsErasedRun request.limits text a
  answer_run a (WordsRefused refused is) of_run = absurd (asks_nothing offer words request refused asks)
  answer_run a (Asked other also answer) of_run =
      text_run a (subst (λ (r : Request). IsTextAnswer r text a) (one_request offer words other request also asks) answer) of_run

  -- a run that ended gave that answer
  pub run_answered : (told : List ℕ → Option (List ℕ)) (before after : List ℕ → ℕ) (out report : Change) (status : ℕ) → CallEnds offer words told before after out report status
      → told request.file ≡ Some text → IsOfRun status
      → (a : Answer) × (status ≡ a.status) × Got out a.out × Got report a.report × IsErasedRun request.limits text a
  run_answered told before after out report status (Answered other is (Whole a one same got_out got)) told_is of_run =
      let one' = subst (λ t. IsAnswer offer words t a) (told_text offer words told request text other asks told_is is) one in
      (a, same, got_out, got, answer_run a one' (subst IsOfRun same of_run))
  run_answered told before after out report status (Answered other is (Cut seven cut)) told_is of_run = absurd (no_run_status status 7 (omega arith) seven of_run)
  run_answered told before after out report status (Answered other is (Starved eight prefix got)) told_is of_run = absurd (no_run_status status 8 (omega arith) eight of_run)
  run_answered told before after out report status (Unread rose same finishes) told_is of_run = absurd (not_finished report read_fault 6 status (omega arith) finishes of_run)
  run_answered told before after out report status (Unheard same finishes) told_is of_run = absurd (not_finished report no_memory 8 status (omega arith) finishes of_run)
