-- Units: each entry of a function and each entry of a loop's body takes one.
use Rattle.std.specs.Prelude.{ℕ, zero, ◌-◌}
use Rattle.css_base.specs.declared.rule.Rule.TheVariants as rules
use Rattle.css_semantics.specs.Dialogue.{Action, Reply, Says, Refuses}
use Rattle.css_semantics.specs.Actions.{Taking, OnEntry, OnTurn, NoUnit, taking_of}

-- a state, and the units that are left
pub record Metered (S : Type 0) : Type 0 where
  pub state : S
  pub units : ℕ

abbrev pub with_units : {S : Type 0} → S → ℕ → Metered S
with_units state units = record { state = state; units = units }

-- with so many units left, the reply to what takes a unit: where none is left the rule on units refuses it, but only what no other
-- rule refuses
abbrev pub within : ℕ → Reply → Reply
within zero (Says value) = Refuses rules.Units
within units reply = reply

-- the state replies to an entry, and to what takes no unit; the units alone to a turn
abbrev pub metered_by : Taking → (units : ℕ) → Reply → Reply
metered_by OnEntry units reply = within units reply
metered_by OnTurn units reply = within units (Says 0)
metered_by NoUnit units reply = reply

abbrev pub metered : {S : Type 0} → (S → Action → Reply) → Metered S → Action → Reply
metered reply m action = metered_by (taking_of action) m.units (reply m.state action)

-- an entry takes a unit, and so does a turn, which does nothing to the state
abbrev pub spending_by : {S : Type 0} → Taking → (old new : S) → (units : ℕ) → Metered S
spending_by OnEntry old new units = with_units new (units - 1)
spending_by OnTurn old new units = with_units old (units - 1)
spending_by NoUnit old new units = with_units new units

abbrev pub spending : {S : Type 0} → (S → Action → S) → Metered S → Action → Metered S
spending learn m action = spending_by (taking_of action) m.state (learn m.state action) m.units
