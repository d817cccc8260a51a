-- What the static rules make of a construct: its meaning, or the rule that it breaks first in order of text, with the line.
use Rattle.std.specs.Prelude.{ℕ, Bool, if◌then◌else◌, Option, Some, None, Result, Ok, Err}
use Rattle.css_base.specs.declared.static_fault.StaticName.{StaticName}
use Rattle.css_base.specs.declared.static_fault.StaticFault.{StaticFault}

abbrev pub Judged : Type 0 → Type 0
Judged A = Result A StaticFault

abbrev pub broken : {A : Type 0} → StaticName → (line : ℕ) → Judged A
broken rule line = Err (record { name = rule; line = line })

-- The one way to put constructs together: what comes later in the text is judged only where what comes before breaks no rule.
abbrev pub after : {A B : Type 0} → Judged A → (A → Judged B) → Judged B
after (Ok a) next = next a
after (Err fault) next = Err fault

-- what breaks the rule unless this holds
abbrev pub provided : {A : Type 0} → Bool → StaticName → (line : ℕ) → Judged A → Judged A
provided holds rule line judged = if holds then judged else broken rule line

-- what is there, and where nothing is the rule that is broken
abbrev pub expected : {A : Type 0} → StaticName → (line : ℕ) → Option A → Judged A
expected rule line (Some a) = Ok a
expected rule line None = broken rule line
