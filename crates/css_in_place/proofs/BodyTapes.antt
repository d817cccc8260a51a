-- What a task's body asks changes nothing that main has.
use Rattle.std.proofs.Common.{◌≡◌, ℕ, ◌+◌, ◌-◌, false, ◌||◌, IsTrue, List, [], ◌∷◌, ◌++◌, Option, Some, None, is_none, option_map, refl, ap, ◌∙◌, if◌then◌else◌}
use Rattle.std.proofs.lemmas.List.{append-nil}
use Rattle.css_semantics.specs.Dialogue.{Action, Enter, Turn, Leave, Load, Store, Out, In, Malloc, Calls, Returns, Start, Finish, Barrier, Wait, WaitFault, DimFault, Fault, End, Tape, item, output}
use Rattle.css_semantics.specs.Worlds.{is_of_machine, is_fault, AreOfMachine}
use Rattle.css_semantics.specs.Memory.{Memory}
use Rattle.css_semantics.specs.Tasks.{Body, body, body_after, unit_of, main_units, called, called_after}
use Rattle.css_semantics.specs.Pending.{Object, pending, pending_after}
use Rattle.css_semantics.specs.Verdict.{calls, calls_by, images, images_by}
use Rattle.css_semantics.proofs.Following.{same_output, same_started}
use Rattle.css_in_place.specs.Main.{StaysMain, LeavesMain}

-- an action that a task's body leaves main as it is by
record IsQuiet (action : Action) : Type 0 where
  pends : (objects : List Object) → pending_after false objects action ≡ objects
  counts : (n : ℕ) → called_after n action ≡ n
  calls_none : (line : ℕ) → calls_by (item action line) ≡ []
  shows_none : (start : Memory) (tape : Tape) (line : ℕ) → images_by start tape action line ≡ []
  goes_on : (b : Body) → is_none (body_after (Some b) action) ≡ false

are_quiet : (action : Action) → IsTrue (is_of_machine action || is_fault action) → IsQuiet action
are_quiet (Enter size) h = record { pends = λ objects. refl; counts = λ n. refl; calls_none = λ line. refl; shows_none = λ start tape line. refl; goes_on = λ b. refl }
are_quiet Turn h = record { pends = λ objects. refl; counts = λ n. refl; calls_none = λ line. refl; shows_none = λ start tape line. refl; goes_on = λ b. refl }
are_quiet (Leave base size) h = record { pends = λ objects. refl; counts = λ n. refl; calls_none = λ line. refl; shows_none = λ start tape line. refl; goes_on = λ b. refl }
are_quiet (Load address width) h = record { pends = λ objects. refl; counts = λ n. refl; calls_none = λ line. refl; shows_none = λ start tape line. refl; goes_on = λ b. refl }
are_quiet (Store address bytes) h = record { pends = λ objects. refl; counts = λ n. refl; calls_none = λ line. refl; shows_none = λ start tape line. refl; goes_on = λ b. refl }
are_quiet (Fault kind) h = record { pends = λ objects. refl; counts = λ n. refl; calls_none = λ line. refl; shows_none = λ start tape line. refl; goes_on = λ b. refl }
are_quiet (Out bytes) h = absurd (cc)
are_quiet In h = absurd (cc)
are_quiet (Malloc size) h = absurd (cc)
are_quiet (Calls call) h = absurd (cc)
are_quiet Returns h = absurd (cc)
are_quiet Start h = absurd (cc)
are_quiet Finish h = absurd (cc)
are_quiet Barrier h = absurd (cc)
are_quiet (Wait address) h = absurd (cc)
are_quiet WaitFault h = absurd (cc)
are_quiet DimFault h = absurd (cc)
are_quiet (End result) h = absurd (cc)

still_some : (o : Option Body) (action : Action) → IsQuiet action → is_none o ≡ false → is_none (body_after o action) ≡ false
still_some None action quiet some = absurd (cc)
still_some (Some b) action quiet some = quiet.goes_on b

-- a number that doesn't depend on the body
one_inside : (o p : Option Body) (m n : ℕ) → is_none o ≡ false → is_none p ≡ false → m ≡ n → option_map (λ b. m - 1) o ≡ option_map (λ b. n - 1) p
one_inside None p m n some other same = absurd (cc)
one_inside (Some b) None m n some other same = absurd (cc)
one_inside (Some b) (Some b') m n some other same = ap (λ k. Some (k - 1)) same

module _ (start : Memory) (tape : Tape) (in_body : is_none (body tape) ≡ false) where
  pub body_stays : (asked : Tape) → AreOfMachine asked → is_none (body (asked ++ tape)) ≡ false
  body_stays [] machine = in_body
  body_stays (i ∷ asked) machine = still_some (body (asked ++ tape)) i.action (are_quiet i.action machine.0) (body_stays asked machine.1)

  pending_stays : (asked : Tape) → AreOfMachine asked → pending (asked ++ tape) ≡ pending tape
  pending_stays [] machine = refl
  pending_stays (i ∷ asked) machine =
      ap (λ b. pending_after b (pending (asked ++ tape)) i.action) (body_stays asked machine.1)
      ∙ (are_quiet i.action machine.0).pends (pending (asked ++ tape)) ∙ pending_stays asked machine.1

  units_stay : (asked : Tape) → AreOfMachine asked → main_units (asked ++ tape) ≡ main_units tape
  units_stay [] machine = refl
  units_stay (i ∷ asked) machine =
      ap (λ b. if b then main_units (asked ++ tape) + unit_of i.action else main_units (asked ++ tape)) (body_stays asked machine.1) ∙ units_stay asked machine.1

  called_stays : (asked : Tape) → AreOfMachine asked → called (asked ++ tape) ≡ called tape
  called_stays [] machine = refl
  called_stays (i ∷ asked) machine = (are_quiet i.action machine.0).counts (called (asked ++ tape)) ∙ called_stays asked machine.1

  calls_stay : (asked : Tape) → AreOfMachine asked → calls (asked ++ tape) ≡ calls tape
  calls_stay [] machine = refl
  calls_stay (i ∷ asked) machine =
      ap (λ more. calls (asked ++ tape) ++ more) ((are_quiet i.action machine.0).calls_none i.line) ∙ append-nil (calls (asked ++ tape)) ∙ calls_stay asked machine.1

  images_stay : (asked : Tape) → AreOfMachine asked → images start (asked ++ tape) ≡ images start tape
  images_stay [] machine = refl
  images_stay (i ∷ asked) machine =
      ap (λ more. images start (asked ++ tape) ++ more) ((are_quiet i.action machine.0).shows_none start (asked ++ tape) i.line) ∙ append-nil (images start (asked ++ tape)) ∙ images_stay asked machine.1

  stays_main : (asked : Tape) → AreOfMachine asked → StaysMain start tape (asked ++ tape)
  stays_main asked machine = record {
    pending = pending_stays asked machine;
    units = units_stay asked machine;
    started = same_started asked tape machine;
    called = called_stays asked machine;
    output = same_output asked tape machine;
    calls = calls_stay asked machine;
    images = images_stay asked machine;
  }

  behind_return : (line : ℕ) (later : Tape) → is_none (body later) ≡ false → StaysMain start tape later → StaysMain start tape (item Returns line ∷ later)
  behind_return line later in_it stays = record {
    pending = ap (λ b. pending_after b (pending later) Returns) in_it ∙ stays.pending;
    units = ap (λ b. if b then main_units later + unit_of Returns else main_units later) in_it ∙ stays.units;
    started = stays.started;
    called = stays.called;
    output = append-nil (output later) ∙ stays.output;
    calls = append-nil (calls later) ∙ stays.calls;
    images = append-nil (images start later) ∙ stays.images;
  }

  pub leaves_main : (asked : Tape) → AreOfMachine asked → LeavesMain start tape asked
  leaves_main asked machine = record {
    inside = one_inside (body (asked ++ tape)) (body tape) (called (asked ++ tape)) (called tape) (body_stays asked machine) in_body (called_stays asked machine);
    body = stays_main asked machine;
    behind = λ line. behind_return line (asked ++ tape) (body_stays asked machine) (stays_main asked machine);
  }
