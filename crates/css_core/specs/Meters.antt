-- Worlds that end by their units.
use Rattle.std.specs.Prelude.{◌≡◌, ℕ, ◌+◌, ◌-◌, ◌≤◌, ◌∷◌, true, false, Some, None}
use Rattle.css_semantics.specs.Dialogue.{Reply, Says, Item, Tape, World}
use Rattle.css_semantics.specs.Actions.{Taking, OnEntry, OnTurn, NoUnit, taking_of}
use Rattle.css_semantics.specs.Tasks.{unit_of, body, main_units}
use Rattle.css_semantics.specs.Units.{within}
use Rattle.css_semantics.specs.Actions.{is_of_calls}
use Rattle.css_semantics.specs.Tasks.{is_inside}

-- A world ends by the units that it has at a tape: nothing that it lets go on gives any, and each entry takes one.
pub record Spends (w : World) (units_at : Tape → ℕ) : Type 0 where
  pub asks : (i : Item) (tape : Tape) (value : ℕ) → w tape i ≡ Says value → units_at (i ∷ tape) + unit_of i.action ≤ units_at tape

-- The same where main and each task have units of their own: a task's call begins with at most so many.
pub record SpendsApart (w : World) (main_units task_units : Tape → ℕ) (most : ℕ) : Type 0 where
  -- outside of tasks main spends
  pub asks : (i : Item) (tape : Tape) (value : ℕ) → is_inside tape ≡ false → w tape i ≡ Says value → main_units (i ∷ tape) + unit_of i.action ≤ main_units tape
  pub begins : (i : Item) (tape : Tape) (value : ℕ) → is_inside tape ≡ false → is_inside (i ∷ tape) ≡ true → w tape i ≡ Says value → task_units (i ∷ tape) ≤ most
  -- inside of one the task does, up to its return, and main gets none
  pub asks_inside : (i : Item) (tape : Tape) (value : ℕ) → is_of_calls i.action ≡ false → is_inside tape ≡ true → w tape i ≡ Says value → task_units (i ∷ tape) + unit_of i.action ≤ task_units tape
  pub keeps_inside : (i : Item) (tape : Tape) (value : ℕ) → is_inside tape ≡ true → w tape i ≡ Says value → main_units (i ∷ tape) ≤ main_units tape

-- ---- a world in which main and each task have so many units

-- what is left to the task that runs, or to main
abbrev pub units_left : (main task : ℕ) → Tape → ℕ
units_left main task tape =
    elim (body tape) [
      | None ↦ main - main_units tape
      | Some b ↦ task - b.units
    ]

abbrev pub allowed_by : Taking → (units : ℕ) → Reply → Reply
allowed_by OnEntry units reply = within units reply
allowed_by OnTurn units reply = within units reply
allowed_by NoUnit units reply = reply

-- it refuses what takes a unit and another one lets go on, where no unit is left
abbrev pub metering : (main task : ℕ) → World → World
metering main task w tape i = allowed_by (taking_of i.action) (units_left main task tape) (w tape i)
