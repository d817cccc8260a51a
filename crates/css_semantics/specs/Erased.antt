-- What comes of a program without its directives, by what comes of the program under the rules.
use Rattle.std.specs.Prelude.{◌≡◌, ℕ, ℤ, List, ◌++◌}
use Rattle.css_base.specs.declared.ending.Stop.TheVariants as stops
use Rattle.css_base.specs.declared.ending.Ending.{Ending}
use Rattle.css_base.specs.declared.ending.Ending.TheVariants as endings
use Rattle.css_semantics.specs.Dialogue.{Tape, Outcome, Goes, Stops, Stopped, Tired, tape_of, output}
use Rattle.css_semantics.specs.Plain.{plain}

-- a tape has the plain tape of another behind it, and maybe more
abbrev pub IsPassed : Tape → (erased : Tape) → Type 0
IsPassed tape erased = (newer : Tape) × (erased ≡ newer ++ plain tape)

-- Where the one goes on, so does the other, with the same value and the plain tape. Where the one is at fault, so is the other, with the
-- same fault in the same line and the plain tape. Where the one is stopped by a rule or by the fuel, the other has passed the plain tape.
abbrev pub IsErased : {A : Type 0} → Outcome A → (erased : Outcome A) → Type 0
IsErased (Goes value tape) erased = erased ≡ Goes value (plain tape)
IsErased (Stops (Stopped (stops.Fault kind) line) tape) erased = erased ≡ Stops (Stopped (stops.Fault kind) line) (plain tape)
IsErased (Stops (Stopped (stops.Rule rule) line) tape) erased = IsPassed tape (tape_of erased)
IsErased (Stops Tired tape) erased = IsPassed tape (tape_of erased)

-- The same in the words of a verdict: a result or a fault is the erased program's, and so is what was written before it; what was
-- written before a rule's stop is a front of what the erased program writes.
abbrev pub Answers : Ending → (written : List ℕ) → (erased : Outcome ℤ) → Type 0
Answers (endings.Result value) written erased = (tape : Tape) × (erased ≡ Goes value tape) × (output tape ≡ written)
Answers (endings.Stopped (stops.Fault kind) line who) written erased =
    (tape : Tape) × (erased ≡ Stops (Stopped (stops.Fault kind) line) tape) × (output tape ≡ written)
Answers (endings.Stopped (stops.Rule rule) line who) written erased = (later : List ℕ) × (output (tape_of erased) ≡ written ++ later)
