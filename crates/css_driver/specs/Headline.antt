-- What a run with tasks gives, in the words of the text without its directives.
use Rattle.std.specs.Prelude.{◌≡◌, ◌≤◌, ◌⊎◌, ℕ, List, map, Some}
use Rattle.css_base.specs.declared.limits.Limits.{Limits}
use Rattle.css_semantics.specs.Dialogue.{tape_of}
use Rattle.css_semantics.specs.Flat.{flat}
use Rattle.css_main_side.specs.Playing.{begins}
use Rattle.css_semantics.specs.Verdict.{Verdict, verdict, judged_in}
use Rattle.css_lexemes.specs.Lines.{erased}
use Rattle.css_small.specs.Tree.{Program}
use Rattle.css_small.specs.Texts.{Spells}
use Rattle.css_small_code.specs.Meaning.{source}
use Rattle.css_semantics.specs.Plain.{entries}
use Rattle.css_semantics.specs.Erased.{IsPassed, Answers}
use Rattle.css_semantics.specs.Points.{points, erased_image}
use Rattle.css_report.specs.Endings.{ending_line}
use Rattle.css_driver.specs.Answer.{Answer, ending_status}

-- The answer is a verdict's: its output, and its ending's report and status. The text without its directives spells a program. With each
-- number of units that is at least the entries on the verdict's tape, and each fuel that is at least the verdict's, that program in a
-- flat memory comes to the same result or fault, with the same output, or goes on from it where a rule ended the run. The verdict's
-- tape without what it says of tasks is a front of that program's, and the images are of that program's memory at points of it.
pub record IsErasedRun (limits : Limits) (text : List ℕ) (a : Answer) : Type 0 where
  pub marked : Program
  pub plain : Program
  pub spells : Spells text marked
  pub spells_erased : Spells (erased text) plain
  pub fuel : ℕ
  pub v : Verdict
  pub has : verdict (begins limits).memory (source (judged_in limits (begins limits)) fuel marked) ≡ Some v
  pub out_is : a.out ≡ v.output
  pub report_is : a.report ≡ ending_line v.ending
  pub status_is : a.status ≡ ending_status v.ending
  pub answers : (units enough : ℕ) → entries (tape_of (source (judged_in limits (begins limits)) fuel marked)) ≤ units → fuel ≤ enough
      → Answers v.ending v.output (source (flat (begins limits) units) enough plain)
  pub passed : (units enough : ℕ) → entries (tape_of (source (judged_in limits (begins limits)) fuel marked)) ≤ units → fuel ≤ enough
      → IsPassed (tape_of (source (judged_in limits (begins limits)) fuel marked)) (tape_of (source (flat (begins limits) units) enough plain))
  pub images : v.images ≡ map (erased_image (begins limits).memory) (points (tape_of (source (judged_in limits (begins limits)) fuel marked)))

-- the status of a run that ended
abbrev pub IsOfRun : ℕ → Type 0
IsOfRun status = (status ≤ 1) ⊎ ((4 ≤ status) × (status ≤ 5))
