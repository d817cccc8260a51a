-- Outcomes of which one goes on where the other ends, and worlds of which one replies as another does.
use Rattle.std.specs.Prelude.{◌≡◌, ℕ, ◌∷◌, ◌++◌}
use Rattle.css_base.specs.declared.ending.Stop.TheVariants as stops
use Rattle.css_semantics.specs.Dialogue.{Item, Tape, Says, Fails, World, Outcome, Goes, Stops, Stopped, Tired, tape_of}

-- the outcome's tape has this one behind it
abbrev pub Grows : {A : Type 0} → Tape → Outcome A → Type 0
Grows tape o = (newer : Tape) × (tape_of o ≡ newer ++ tape)

-- What ends with less fuel, or fewer steps, ends so with more; what these end goes on behind the same tape.
abbrev pub Extends : {A : Type 0} → Outcome A → Outcome A → Type 0
Extends (Goes value tape) more = more ≡ Goes value tape
Extends (Stops (Stopped stop line) tape) more = more ≡ Stops (Stopped stop line) tape
Extends (Stops Tired tape) more = Grows tape more

-- On the tapes that come, what the first world goes on with or lets fail, the second does too. What it refuses, the other may do or refuse.
pub record RepliesAs (w w' : World) (Comes : Tape → Type 0) : Type 0 where
  pub says : (i : Item) (tape : Tape) (value : ℕ) → Comes tape → w tape i ≡ Says value → (w' tape i ≡ Says value) × Comes (i ∷ tape)
  pub fails : (i : Item) (tape : Tape) → Comes tape → w tape i ≡ Fails → (w' tape i ≡ Fails) × Comes (i ∷ tape)

-- Where the one goes on or is at fault, so is the other, behind the same tape. Where it is stopped by a rule, or by its fuel or its
-- steps, the other has passed the tape.
abbrev pub IsFront : {A : Type 0} → Outcome A → Outcome A → Type 0
IsFront (Goes value tape) whole = whole ≡ Goes value tape
IsFront (Stops (Stopped (stops.Fault kind) line) tape) whole = whole ≡ Stops (Stopped (stops.Fault kind) line) tape
IsFront (Stops (Stopped (stops.Rule rule) line) tape) whole = Grows tape whole
IsFront (Stops Tired tape) whole = Grows tape whole
