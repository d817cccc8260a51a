-- What main does at an event.
use Rattle.std.specs.Prelude.{◌≡◌, ℕ, Bool, true, false, List, [], if◌then◌else◌}
use Rattle.css_base.specs.declared.ending.Ending.{Ending}
use Rattle.css_base.specs.declared.ending.Ending.TheVariants as endings
use Rattle.css_base.specs.declared.ending.FaultKind.TheVariants.{OutsideMemory}
use Rattle.css_base.specs.declared.ending.Stop.TheVariants as stops
use Rattle.css_base.specs.declared.ending.Who.TheVariants.{Main}
use Rattle.css_base.specs.declared.rule.Rule.TheVariants as rules
use Rattle.css_io.specs.Changes.{Change}
use Rattle.css_judged.specs.Judged.{Judged, main_reply, main_place}
use Rattle.css_semantics.specs.Dialogue.{Leave, Reply, Says, Fails, Refuses}
use Rattle.css_semantics.specs.Units.{with_units}
use Rattle.css_vm.specs.declared.code.MarkKind.{MarkKind}
use Rattle.css_vm.specs.declared.code.MarkKind.TheVariants as marks
use Rattle.css_vm.specs.Cells.{int_of, truth}
use Rattle.css_vm.specs.Code.{Code}
use Rattle.css_vm.specs.Machine.{answered}
use Rattle.css_main_side.specs.Playing.{Side, main_frame}
use Rattle.css_main_side.specs.Ran.{RanAs}
use Rattle.css_main_side.specs.declared.ran.Ran.{Ran}

-- the machine resumes with an answer
abbrev pub with_answer : ℕ → Side → Side
with_answer value side = record { machine = answered value side.machine; space = side.space; is_started = side.is_started; called = side.called }

-- nothing is pending
abbrev pub emptied : Judged → Judged
emptied s = record { memory = s.memory; objects = [] }

abbrev pub waited : Bool → Side → Side
waited is_started side = record { machine = side.machine; space = with_units (emptied side.space.state) side.space.units; is_started = is_started; called = side.called }

abbrev pub begun : Side → Side
begun side = record { machine = side.machine; space = side.space; is_started = true; called = side.called }

-- behind a mark that breaks no rule
abbrev pub Marked : MarkKind → Side → Side → Type 0
Marked marks.Started old new = new ≡ with_answer (truth old.is_started) old
Marked marks.Start old new = (old.is_started ≡ false) × (new ≡ begun old)
Marked marks.Finish old new = (old.is_started ≡ true) × (new ≡ waited false old)
Marked marks.Barrier old new = new ≡ waited old.is_started old

-- a mark that breaks a rule: to start twice, and to finish without a start
abbrev pub MarkEnds : MarkKind → (line : ℕ) → Side → (pending : List ℕ) → Change → Ran → Type 0
MarkEnds marks.Start line old pending c ran = (old.is_started ≡ true) × RanAs (endings.Stopped (stops.Rule rules.StartTwice) line Main) pending c ran
MarkEnds marks.Finish line old pending c ran = (old.is_started ≡ false) × RanAs (endings.Stopped (stops.Rule rules.FinishWithout) line Main) pending c ran
MarkEnds kind line old pending c ran = ⊥

-- How main ends with a cell in a line, by the reply as it leaves its frame.
abbrev pub left_with : Reply → (cell line : ℕ) → Ending
left_with (Says r) cell line = endings.Result (int_of cell)
left_with Fails cell line = endings.Stopped (stops.Fault OutsideMemory) line Main
left_with (Refuses rule) cell line = endings.Stopped (stops.Rule rule) line Main

-- at main's end all tasks are waited for, where calls make tasks
abbrev pub finished_space : Bool → Judged → Judged
finished_space is_started s = if is_started then emptied s else s

-- the reply as main leaves its frame, which is the innermost
abbrev pub reply_to_leaving : Code → Judged → Reply
reply_to_leaving code s = main_reply s (Leave (main_place s) (main_frame code))
