-- What main has is as it was while a task's body asks, and behind its return.
use Rattle.std.specs.Prelude.{◌≡◌, ◌++◌, ℕ, ◌∷◌}
use Rattle.css_semantics.specs.Dialogue.{Returns, Tape, item}
use Rattle.css_semantics.specs.Dialogue as dialogue
use Rattle.css_semantics.specs.Memory.{Memory}
use Rattle.css_semantics.specs.Tasks.{is_started, main_units}
use Rattle.css_semantics.specs.Tasks as tasks
use Rattle.css_semantics.specs.Pending as objects
use Rattle.css_semantics.specs.Verdict as verdict

-- What main has asked and been shown, and what is pending, is behind a later tape as it was.
pub record StaysMain (start : Memory) (tape later : Tape) : Type 0 where
  pub pending : objects.pending later ≡ objects.pending tape
  pub units : main_units later ≡ main_units tape
  pub started : is_started later ≡ is_started tape
  pub called : tasks.called later ≡ tasks.called tape
  pub output : dialogue.output later ≡ dialogue.output tape
  pub calls : verdict.calls later ≡ verdict.calls tape
  pub images : verdict.images start later ≡ verdict.images start tape

-- while a task's body asks, and behind its return
pub record LeavesMain (start : Memory) (tape asked : Tape) : Type 0 where
  pub inside : tasks.inside (asked ++ tape) ≡ tasks.inside tape
  pub body : StaysMain start tape (asked ++ tape)
  pub behind : (line : ℕ) → StaysMain start tape (item Returns line ∷ asked ++ tape)
