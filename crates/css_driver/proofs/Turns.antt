-- Main's run in the flat memory, from event to event.
use Rattle.std.proofs.Common.{◌≡◌, ℕ, suc, ℤ, pos, ◌+◌, ◌≤◌, List, [], ◌∷◌, ◌++◌, length, Bool, false, if◌then◌else◌, Option, Some, slice_get, refl, sym, ap, ◌∙◌, subst, append_assoc, arith}
use Rattle.std.proofs.lemmas.List.{append-nil}
use Rattle.css_base.specs.declared.ending.Ending.{Ending}
use Rattle.css_base.specs.declared.ending.Ending.TheVariants as endings
use Rattle.css_base.specs.declared.ending.FaultKind.TheVariants.{OutsideMemory}
use Rattle.css_base.specs.declared.ending.Stop.{Stop}
use Rattle.css_base.specs.declared.ending.Stop.TheVariants as stops
use Rattle.css_base.specs.declared.ending.Who.TheVariants.{Main}
use Rattle.css_semantics.specs.Dialogue.{Leave, Out, Finish, Fault, End, Tape, Reply, Says, Fails, Refuses, World, Outcome, Goes, Stops, Stopped, Tired, item, then_do, replied, ask, tape_of, output}
use Rattle.css_semantics.specs.Worlds.{state_after, AreOfMachine, Follows}
use Rattle.css_semantics.specs.Memory.{Memory, stack_place, after}
use Rattle.css_semantics.specs.Tasks.{is_started}
use Rattle.css_semantics.specs.Units.{Metered, with_units, metered, spending}
use Rattle.css_semantics.specs.Flat.{FlatState, flat, memory_reply}
use Rattle.css_semantics.proofs.FlatWorld.{flat-follows, memory_along}
use Rattle.css_semantics.proofs.Following.{after_both, same_output, same_started}
use Rattle.css_vm.specs.declared.code.MarkKind.{MarkKind}
use Rattle.css_vm.specs.declared.code.MarkKind.TheVariants as marks
use Rattle.css_vm.specs.declared.machine.Event.{Event}
use Rattle.css_vm.specs.declared.machine.Event.TheVariants as events
use Rattle.css_vm.specs.Code.{Code}
use Rattle.css_vm.specs.Cells.{int_of, truth}
use Rattle.css_vm.specs.Machine.{State, Begin, At, Halt, Finished, exec, main_ends, entry_line, answered}
use Rattle.css_vm.specs.Spaces.{IsRefusal}
use Rattle.css_vm.specs.Events.{Reaches, IsInside, IsStacked, base_of, Does}
use Rattle.css_small_code.specs.Marks.{HasNoMarks}
use Rattle.css_driver.specs.Answer.{ending_of}
use Rattle.css_io.specs.Changes.{Change, change}
use Rattle.css_main_side.specs.OutputBuffer.{Passes}
use Rattle.css_driver.specs.Running.{halted, main_frame, Running, ComesTo, GoesOn, left_with, reply_to_leaving}
use Rattle.css_driver.proofs.Exec.{IsSettled, IsAny, target-more, target-extends, Extends, output-extends}
use Rattle.css_main_side.proofs.Sinks.{Appends-nothing}

-- ---- outcomes

tape_of-halted : (o : Outcome ℤ) → tape_of (halted o) ≡ tape_of o
tape_of-halted (Goes v tape) = refl
tape_of-halted (Stops why tape) = refl

halted-same : (o q : Outcome ℤ) → halted o ≡ halted q → o ≡ q
halted-same (Goes v tape) (Goes v' tape') e = cc
halted-same (Goes v tape) (Stops why tape') e = cc
halted-same (Stops why tape) (Goes v' tape') e = cc
halted-same (Stops why tape) (Stops why' tape') e = cc

-- an outcome with an ending isn't for want of fuel
settled : (o : Outcome ℤ) (ending : Ending) → ending_of o ≡ Some ending → IsSettled (halted o)
settled (Goes v tape) ending e = record { never = λ t same. cc }
settled (Stops (Stopped stop line) tape) ending e = record { never = λ t same. cc }
settled (Stops Tired tape) ending e = absurd (cc)

-- what an outcome that is known says
ended_as : (o q : Outcome ℤ) (ending last : Ending) (written : List ℕ) → halted o ≡ halted q → ending_of o ≡ Some ending
    → ending_of q ≡ Some last → output (tape_of q) ≡ written → (last ≡ ending) × (output (tape_of o) ≡ written)
ended_as o q ending last written same is last_is wrote =
    let e = halted-same o q same in
    let some : Some last ≡ Some ending = sym last_is ∙ ap ending_of (sym e) ∙ is in
    (cc, ap (λ x. output (tape_of x)) e ∙ wrote)

-- ---- main's end

module _ (cell base frame line : ℕ) (later : Tape) where
  -- what comes of a reply to main's leaving
  left : Reply → Outcome ℤ
  left (Says r) = Goes (int_of cell) (item (End (int_of cell)) line ∷ item (Leave base frame) line ∷ later)
  left Fails = Stops (Stopped (stops.Fault OutsideMemory) line) (item (Fault OutsideMemory) line ∷ item (Leave base frame) line ∷ later)
  left (Refuses rule) = Stops (Stopped (stops.Rule rule) line) later

  left_ending : (reply : Reply) → ending_of (left reply) ≡ Some (left_with reply cell line)
  unfolding left
  left_ending (Says r) = refl
  left_ending Fails = refl
  left_ending (Refuses rule) = refl

  left_output : (reply : Reply) → output (tape_of (left reply)) ≡ output later
  unfolding left
  left_output (Says r) = append-nil (output later ++ []) ∙ append-nil (output later)
  left_output Fails = append-nil (output later ++ []) ∙ append-nil (output later)
  left_output (Refuses rule) = refl

  module _ (start : FlatState) (units : ℕ) where
    abbrev w : World
    w = flat start units

    left_by : (reply : Reply) → then_do (replied reply (item (Leave base frame) line) later) (λ r t. then_do (ask w (End (int_of cell)) line t) (λ r' t'. Goes (Some (int_of cell)) t')) ≡ halted (left reply)
    unfolding left
    left_by (Says r) = refl
    left_by Fails = refl
    left_by (Refuses rule) = refl

    -- without tasks main only leaves its frame
    main_left : (reply : Reply) → is_started later ≡ false → w later (item (Leave base frame) line) ≡ reply → main_ends w frame (Finished cell base line) later ≡ halted (left reply)
    main_left reply none is =
        ap (λ b. then_do (if b then ask w Finish line later else Goes 0 later)
        (λ r t. then_do (ask w (Leave base frame) line t) (λ r' t'. then_do (ask w (End (int_of cell)) line t') (λ r'' t''. Goes (Some (int_of cell)) t'')))) none
        ∙ ap (λ q. then_do (replied q (item (Leave base frame) line) later) (λ r t. then_do (ask w (End (int_of cell)) line t) (λ r' t'. Goes (Some (int_of cell)) t'))) is
        ∙ left_by reply

-- ---- a run on its way

module _ (code : Code) (plain : HasNoMarks code) (start : FlatState) (units : ℕ) (o : Outcome ℤ) where
  -- what a run on its way still writes
  pub output-running : (s : State) (space : Metered Memory) (written : List ℕ) → Running start units code o s space written → (more : List ℕ) × (output (tape_of o) ≡ written ++ more)
  output-running s space written run =
      let world = flat start units in
      let whole = then_do (exec world code run.steps s run.so_far) (main_ends world (main_frame code)) in
      let last : tape_of whole ≡ tape_of o = ap tape_of run.goes ∙ tape_of-halted o in
      let grown : Extends IsAny run.so_far (tape_of o) = subst (λ t. Extends IsAny run.so_far t) last (target-extends world code plain (main_frame code) run.steps s run.so_far) in
      (output grown.news, output-extends grown ∙ ap (λ bytes. bytes ++ output grown.news) run.written_is)

  module _ (ending : Ending) (is : ending_of o ≡ Some ending) (old new : State) (space space' : Metered Memory) (written : List ℕ) where
    -- the steps to an event, and then those of a run on its way
    ran_further : (steps : ℕ) → (run : Running start units code o old space written)
        → then_do (exec (flat start units) code (steps + suc run.steps) old run.so_far) (main_ends (flat start units) (main_frame code)) ≡ halted o
    ran_further steps run =
        let world = flat start units in
        let e : run.steps + suc steps ≡ steps + suc run.steps = omega arith in
        subst (λ n. then_do (exec world code n old run.so_far) (main_ends world (main_frame code)) ≡ halted o) e
        (target-more world code (main_ends world (main_frame code)) (halted o) (settled o ending is) run.steps (suc steps) old run.so_far run.goes)

    -- the machine alone adds to the tape up to an event, writes nothing and makes no tasks
    pub record Comes (e : Event) (run : Running start units code o old space written) : Type 0 where
      pub later : Tape
      pub does : Does (flat start units) code old e new run.so_far later
      pub wrote : output later ≡ written
      pub none : is_started later ≡ false

    comes : (e : Event) → (reaches : Reaches (metered memory_reply) (spending after) code old space e new space') → (run : Running start units code o old space written)
        → (c : Comes e run) × (state_after (spending after) (with_units start.memory units) c.later ≡ reaches.end)
    comes e reaches run =
        let from = with_units start.memory units in
        let follows : Follows (flat start units) (metered memory_reply) (spending after) run.so_far space =
        subst (λ s. Follows (flat start units) (metered memory_reply) (spending after) run.so_far s) run.space_is (flat-follows start units run.so_far) in
        let there = reaches.does (flat start units) run.so_far follows in
        let more = there.0 in (
          record {
            later = more ++ run.so_far;
            does = there.3;
            wrote = same_output more run.so_far there.1 ∙ run.written_is;
            none = same_started more run.so_far there.1 ∙ run.no_tasks;
          },
          after_both (spending after) from more run.so_far ∙ ap (λ s. state_after (spending after) s more) run.space_is ∙ there.2,
        )

    -- at main's return the run ends as main's leaving says, and writes no more
    pub running_ended : (value line : ℕ) → Reaches (metered memory_reply) (spending after) code old space (events.Ended value line) new space' → base_of new ≡ stack_place space'.state
        → Running start units code o old space written → (left_with (reply_to_leaving code space'.state) value line ≡ ending) × (output (tape_of o) ≡ written)
    running_ended value line reaches at_place run =
        let there = comes (events.Ended value line) reaches run in
        let c = there.0 in
        let base = base_of new in
        let frame = main_frame code in
        let steps = c.does.0 in
        let world = flat start units in
        let reply = reply_to_leaving code space'.state in
        let replies : world c.later (item (Leave base frame) line) ≡ reply =
        ap (λ (s : Metered Memory). memory_reply s.state (Leave base frame)) (memory_along (with_units start units) c.later ∙ there.1 ∙ reaches.is_left) ∙ ap (λ b. memory_reply space'.state (Leave b frame)) at_place in
        let ended : halted o ≡ halted (left value base frame line c.later reply) =
        sym (ran_further steps run) ∙ ap (λ q. then_do q (main_ends world frame)) (c.does.1 run.steps) ∙ main_left value base frame line c.later start units reply c.none replies in
        ended_as o (left value base frame line c.later reply) ending (left_with reply value line) written ended is
        (left_ending value base frame line c.later reply) (left_output value base frame line c.later reply ∙ c.wrote)

    -- at a stop the run has it, and writes no more
    pub running_stopped : (stop : Stop) (line : ℕ) → Reaches (metered memory_reply) (spending after) code old space (events.Stopped stop line) new space' → Running start units code o old space written
        → (endings.Stopped stop line Main ≡ ending) × (output (tape_of o) ≡ written)
    running_stopped stop line reaches run =
        let c = (comes (events.Stopped stop line) reaches run).0 in
        let last : Outcome ℤ = Stops (Stopped stop line) c.later in
        let ended : halted o ≡ halted last = sym (ran_further c.does.0 run) ∙ ap (λ q. then_do q (main_ends (flat start units) (main_frame code))) (c.does.1 run.steps) in
        ended_as o last ending (endings.Stopped stop line Main) written ended is refl c.wrote

    -- after an output the run goes on, with its bytes written
    pub running_out : (bytes : List ℕ) → Reaches (metered memory_reply) (spending after) code old space (events.Out bytes) new space' → Running start units code o old space written
        → Running start units code o (answered (length bytes) new) space' (written ++ bytes)
    running_out bytes reaches run =
        let there = comes (events.Out bytes) reaches run in
        let c = there.0 in
        record {
          steps = run.steps;
          so_far = item (Out bytes) c.does.1 ∷ c.later;
          goes = ap (λ q. then_do q (main_ends (flat start units) (main_frame code))) (sym (c.does.2 run.steps)) ∙ ran_further c.does.0 run;
          space_is = there.1 ∙ reaches.is_left;
          written_is = ap (λ b. b ++ bytes) c.wrote;
          no_tasks = c.none;
        }

    -- asked whether tasks are made, the run goes on with 0
    pub running_asked : (line : ℕ) → Reaches (metered memory_reply) (spending after) code old space (events.Mark marks.Started line) new space' → Running start units code o old space written
        → Running start units code o (answered 0 new) space' written
    running_asked line reaches run =
        let there = comes (events.Mark marks.Started line) reaches run in
        let c = there.0 in
        let world = flat start units in
        let does : exec world code (c.does.0 + suc run.steps) old run.so_far ≡ exec world code run.steps (answered 0 new) c.later =
        c.does.1 run.steps ∙ ap (λ b. exec world code run.steps (answered (truth b) new) c.later) c.none in
        record {
          steps = run.steps;
          so_far = c.later;
          goes = ap (λ q. then_do q (main_ends world (main_frame code))) (sym does) ∙ ran_further c.does.0 run;
          space_is = there.1 ∙ reaches.is_left;
          written_is = c.wrote;
          no_tasks = c.none;
        }

-- a whole run is on its way from main's entry
pub running_begun : (start : FlatState) (units : ℕ) (code : Code) (o : Outcome ℤ) (line : ℕ) → line ≡ entry_line (slice_get code.functions code.main) → ComesTo start units code o
    → Running start units code o (Begin code.main [] line) (with_units start.memory units) []
running_begun start units code o line is (n, goes) =
    let w = flat start units in
    record {
      steps = n;
      so_far = [];
      goes = subst (λ l. then_do (exec w code n (Begin code.main [] l) []) (main_ends w (main_frame code)) ≡ halted o) (sym is) goes;
      space_is = refl;
      written_is = refl;
      no_tasks = refl;
    }

-- ---- the parts of a run up to an event and its answer

-- up to an output, whose bytes pass through the buffer
pub turn_out : (code : Code) → HasNoMarks code → (old new : State) (space space' : Metered Memory) (bytes pending pending' : List ℕ) (c : Change)
    → Reaches (metered memory_reply) (spending after) code old space (events.Out bytes) new space'
    → Passes c (pending ++ bytes) pending' → c.faults_before ≤ c.faults_after → GoesOn code old space (answered (length bytes) new) space' pending pending' c
turn_out code plain old new space space' bytes pending pending' c reaches (front, parts, got) never_fell =
    record {
      front = front;
      got = got;
      running = λ start units o ending written is run.
          let wrote : (written ++ pending) ++ bytes ≡ (written ++ front) ++ pending' =
          append_assoc written pending bytes ∙ ap (λ b. written ++ b) parts ∙ sym (append_assoc written front pending') in
          subst (λ b. Running start units code o (answered (length bytes) new) space' b) wrote
          (running_out code plain start units o ending is old new space space' (written ++ pending) bytes reaches run);
      never_fell = never_fell;
    }

-- up to a question whether tasks are made
pub turn_asked : {S : Type 0} (told : S → Option (List ℕ)) (faults : S → ℕ) (code : Code) → HasNoMarks code → (old new : State) (space space' : Metered Memory) (kind : MarkKind) (line : ℕ) (pending : List ℕ) (out : S)
    → Reaches (metered memory_reply) (spending after) code old space (events.Mark kind line) new space' → kind ≡ marks.Started
    → GoesOn code old space (answered 0 new) space' pending pending (change told faults out out)
turn_asked told faults code plain old new space space' kind line pending out reaches asks =
    record {
      front = [];
      got = Appends-nothing (told out);
      running = λ start units o ending written is run.
          let asked = subst (λ k. Reaches (metered memory_reply) (spending after) code old space (events.Mark k line) new space') asks reaches in
          subst (λ b. Running start units code o (answered 0 new) space' (b ++ pending)) (sym (append-nil written))
          (running_asked code plain start units o ending is old new space space' (written ++ pending) line asked run);
      never_fell = omega arith;
    }

-- a machine inside a function has its frame at the space's stack place
pub at_place : (code : Code) (place : ℕ) (s : State) → IsInside s → IsStacked code place s → base_of s ≡ place
at_place code place (Begin function arguments line) inside stacked = absurd inside
at_place code place (At a callers at stack) inside stacked = stacked.0

-- a stop as main leaves its frame
pub left_refused : (reply : Reply) (stop : Stop) (cell line : ℕ) → IsRefusal reply stop → endings.Stopped stop line Main ≡ left_with reply cell line
left_refused (Says r) stop cell line is = absurd is
left_refused Fails stop cell line is = ap (λ s. endings.Stopped s line Main) is
left_refused (Refuses rule) stop cell line is = ap (λ s. endings.Stopped s line Main) is
