-- Worlds of which the second replies to a program without tasks as the first does to the program with them.
use Rattle.std.specs.Prelude.{◌≡◌, ℕ, ℤ, List, true, false, ◌∷◌, ◌++◌, Option, Some}
use Rattle.css_base.specs.declared.rule.Rule.{Rule}
use Rattle.css_semantics.specs.Dialogue.{Call, Says, Fails, Refuses, Action, Item, Calls, WaitFault, DimFault, item, item_in, Waiting, Measuring, Tape, World}
use Rattle.css_semantics.specs.Tasks.{makes_tasks}
use Rattle.css_semantics.specs.Rules.{judged_reply}
use Rattle.css_semantics.specs.Plain.{is_of_tasks, plain}

-- On the tapes that come, of which each older one comes too, what the first world goes on with or lets fail, the second does behind the
-- plain tape. In the first world a task's body is run, no item of tasks fails, and a fault aside is refused where calls make tasks:
-- nowhere else is anything asked aside.
pub record Erases (w w' : World) (Comes : Tape → Type 0) : Type 0 where
  pub older : (newer tape : Tape) → Comes (newer ++ tape) → Comes tape
  pub says : (action : Action) (line value : ℕ) (tape : Tape) → Comes (item action line ∷ tape) → is_of_tasks action ≡ false
      → w tape (item action line) ≡ Says value → w' (plain tape) (item action line) ≡ Says value
  pub fails : (action : Action) (line : ℕ) (tape : Tape) → Comes (item action line ∷ tape) → is_of_tasks action ≡ false
      → w tape (item action line) ≡ Fails → w' (plain tape) (item action line) ≡ Fails
  pub told : (action : Action) (line : ℕ) (tape : Tape) → is_of_tasks action ≡ true → w tape (item action line) ≡ Fails → ⊥
  pub runs : (call : Call) (line : ℕ) (tape : Tape) → w tape (item (Calls call) line) ≡ Says 0 → ⊥
  pub waits : (line : ℕ) (tape : Tape) → makes_tasks tape ≡ true → (rule : Rule) × (w tape (item_in Waiting WaitFault line) ≡ Refuses rule)
  pub measures : (arguments : List ℤ) (line : ℕ) (tape : Tape) → makes_tasks tape ≡ true
      → (rule : Rule) × (w tape (item_in (Measuring arguments) DimFault line) ≡ Refuses rule)

-- ---- worlds under any rules

-- a world that refuses what breaks a rule, and replies as another one to all else
abbrev pub judging : (broken : Tape → Item → Option Rule) → World → World
judging broken w tape i = judged_reply (broken tape i) (w tape i)

-- a fault aside breaks a rule where calls make tasks
pub record RefusesAside (broken : Tape → Item → Option Rule) : Type 0 where
  pub waits : (line : ℕ) (tape : Tape) → makes_tasks tape ≡ true → (rule : Rule) × (broken tape (item_in Waiting WaitFault line) ≡ Some rule)
  pub measures : (arguments : List ℤ) (line : ℕ) (tape : Tape) → makes_tasks tape ≡ true
      → (rule : Rule) × (broken tape (item_in (Measuring arguments) DimFault line) ≡ Some rule)
