-- What fuel does: it only ends what would go on.
use Rattle.std.specs.Prelude.{◌≡◌, ◌++◌}
use Rattle.css_semantics.specs.Dialogue.{Outcome, Goes, Stops, Stopped, Tired, Tape, tape_of}

-- What ends with less fuel ends so with more; what the fuel ends goes on behind the same tape.
abbrev pub Extends : {A : Type 0} → Outcome A → Outcome A → Type 0
Extends (Goes value tape) more = more ≡ Goes value tape
Extends (Stops (Stopped stop line) tape) more = more ≡ Stops (Stopped stop line) tape
Extends (Stops Tired tape) more = (newer : Tape) × (tape_of more ≡ newer ++ tape)
