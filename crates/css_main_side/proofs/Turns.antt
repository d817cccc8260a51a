-- Main's run under the rules, from event to event.
use Rattle.std.proofs.Common.{◌≡◌, ℕ, zero, suc, ℤ, ◌+◌, List, [], ◌∷◌, ◌++◌, length, Bool, true, false, ◌||◌, IsTrue, if◌then◌else◌, Option, Some, None, refl, sym, ap, ◌∙◌, subst, arith}
use Rattle.std.proofs.lemmas.List.{append-nil}
use Rattle.css_base.specs.Limits.{IsInRange}
use Rattle.css_base.specs.declared.limits.Limits.{Limits}
use Rattle.css_base.specs.declared.ending.Ending.{Ending}
use Rattle.css_base.specs.declared.ending.Ending.TheVariants as endings
use Rattle.css_base.specs.declared.ending.FaultKind.TheVariants.{OutsideMemory}
use Rattle.css_base.specs.declared.ending.Stop.{Stop}
use Rattle.css_base.specs.declared.ending.Stop.TheVariants as stops
use Rattle.css_base.specs.declared.ending.Who.TheVariants.{Main}
use Rattle.css_base.specs.declared.rule.Rule.{Rule}
use Rattle.css_base.specs.declared.rule.Rule.TheVariants as rules
use Rattle.css_judged.specs.Judged.{Judged, main_reply, main_after, main_place, IsMainAt}
use Rattle.css_judged.proofs.MainTapes.{follows, stays, acts, asks_out, asks_start, asks_finish, asks_barrier, asks_end}
use Rattle.css_semantics.specs.Dialogue.{Action, Enter, Turn, Leave, Load, Store, Out, In, Malloc, Calls, Returns, Start, Finish, Barrier, Wait, WaitFault, DimFault, Fault, End, Item, Tape, Reply, Says, Fails, Refuses, World, Outcome, Goes, Stops, Stopped, Tired, tape_of, then_do, replied, ask, item, output}
use Rattle.css_semantics.specs.Flat.{FlatState, IsStart}
use Rattle.css_semantics.specs.Memory.{Memory}
use Rattle.css_semantics.specs.Tasks.{is_started, called, called_after, body, inside}
use Rattle.css_semantics.specs.Units.{Metered, with_units, metered, spending}
use Rattle.css_semantics.specs.Verdict.{Verdict, verdict, verdict_with, judged_in, who_runs}
use Rattle.css_semantics.specs.Worlds.{is_of_machine, is_fault, AreOfMachine}
use Rattle.css_semantics.proofs.Following.{same_output, same_started}
use Rattle.css_vm.specs.declared.code.MarkKind.TheVariants as marks
use Rattle.css_vm.specs.declared.machine.Event.{Event}
use Rattle.css_vm.specs.declared.machine.Event.TheVariants as events
use Rattle.css_vm.specs.Cells.{int_of, truth}
use Rattle.css_vm.specs.Code.{Code}
use Rattle.css_vm.specs.Events.{Reaches, Does, base_of}
use Rattle.css_vm.specs.Machine.{State, Halt, Finished, exec, main_ends, answered}
use Rattle.css_main_side.specs.Events.{with_answer, begun, waited, left_with, finished_space, reply_to_leaving}
use Rattle.css_main_side.specs.Playing.{halted, main_frame, Side, Stands, Playing}
use Rattle.css_main_side.proofs.Exec.{IsSettled, IsAny, Extends, target-more, target-extends, output-extends}

-- ---- outcomes

pub tape_of-halted : (o : Outcome ℤ) → tape_of (halted o) ≡ tape_of o
tape_of-halted (Goes v tape) = refl
tape_of-halted (Stops why tape) = refl

halted-same : (o q : Outcome ℤ) → halted o ≡ halted q → o ≡ q
halted-same (Goes v tape) (Goes v' tape') e = cc
halted-same (Goes v tape) (Stops why tape') e = cc
halted-same (Stops why tape) (Goes v' tape') e = cc
halted-same (Stops why tape) (Stops why' tape') e = cc

-- an outcome with a verdict isn't for want of fuel
settled : (start : Memory) (o : Outcome ℤ) (v : Verdict) → verdict start o ≡ Some v → IsSettled (halted o)
settled start (Goes r tape) v e = record { never = λ t same. cc }
settled start (Stops (Stopped stop line) tape) v e = record { never = λ t same. cc }
settled start (Stops Tired tape) v e = absurd (cc)

-- a verdict's output is what the tape writes
verdict_output : (start : Memory) (o : Outcome ℤ) (v : Verdict) → verdict start o ≡ Some v → v.output ≡ output (tape_of o)
verdict_output start (Goes r tape) v e = let same : verdict_with start tape (endings.Result r) ≡ v = cc in sym (ap (λ (x : Verdict). x.output) same)
verdict_output start (Stops (Stopped stop line) tape) v e =
    let same : verdict_with start tape (endings.Stopped stop line (who_runs (inside tape))) ≡ v = cc in sym (ap (λ (x : Verdict). x.output) same)
verdict_output start (Stops Tired tape) v e = absurd (cc)

-- ---- what a machine leaves as it is

calls_nothing : (before : ℕ) (action : Action) → IsTrue (is_of_machine action || is_fault action) → called_after before action ≡ before
calls_nothing before (Enter size) h = refl
calls_nothing before Turn h = refl
calls_nothing before (Leave base size) h = refl
calls_nothing before (Load address width) h = refl
calls_nothing before (Store address bytes) h = refl
calls_nothing before (Fault kind) h = refl
calls_nothing before (Out bytes) h = absurd (cc)
calls_nothing before In h = absurd (cc)
calls_nothing before (Malloc size) h = absurd (cc)
calls_nothing before (Calls call) h = absurd (cc)
calls_nothing before Returns h = absurd (cc)
calls_nothing before Start h = absurd (cc)
calls_nothing before Finish h = absurd (cc)
calls_nothing before Barrier h = absurd (cc)
calls_nothing before (Wait address) h = absurd (cc)
calls_nothing before WaitFault h = absurd (cc)
calls_nothing before DimFault h = absurd (cc)
calls_nothing before (End result) h = absurd (cc)

same_called : (more tape : Tape) → AreOfMachine more → called (more ++ tape) ≡ called tape
same_called [] tape of_more = refl
same_called (i ∷ more) tape of_more = calls_nothing (called (more ++ tape)) i.action of_more.0 ∙ same_called more tape of_more.1

-- ---- moves and endings

-- From where main stands, so many steps lead to where it stands then, and write these bytes.
pub record Moves (limits : Limits) (start : FlatState) (code : Code) (old new : Side) (bytes : List ℕ) (st : Stands limits start old) : Type 0 where
  pub there : Stands limits start new
  pub steps : ℕ
  pub goes : (n : ℕ) → exec (judged_in limits start) code (steps + n) old.machine st.so_far ≡ exec (judged_in limits start) code n new.machine there.so_far
  pub wrote : output there.so_far ≡ output st.so_far ++ bytes

-- From where main stands its run comes to this ending, and writes nothing more.
pub record ComesToEnd (limits : Limits) (start : FlatState) (code : Code) (old : Side) (ending : Ending) (st : Stands limits start old) : Type 0 where
  pub steps : ℕ
  pub last : Outcome ℤ
  pub goes : then_do (exec (judged_in limits start) code steps old.machine st.so_far) (main_ends (judged_in limits start) (main_frame code)) ≡ halted last
  pub its : Verdict
  pub is : verdict start.memory last ≡ Some its
  pub ending_is : its.ending ≡ ending
  pub wrote : its.output ≡ output st.so_far

module _ (limits : Limits) (start : FlatState) (code : Code) (v : Verdict) (old : Side) (written : List ℕ) (p : Playing limits start code v old written) where
  abbrev w : World
  w = judged_in limits start

  abbrev ends : Halt → Tape → Outcome (Option ℤ)
  ends = main_ends w (main_frame code)

  -- with more steps the run ends alike
  further : (more : ℕ) → then_do (exec w code (p.steps + more) old.machine p.stands.so_far) ends ≡ halted p.outcome
  further more = target-more w code ends (halted p.outcome) (settled start.memory p.outcome v p.verdict_is) p.steps more old.machine p.stands.so_far p.goes

  pub playing_moves : (new : Side) (bytes : List ℕ) → Moves limits start code old new bytes p.stands → Playing limits start code v new (written ++ bytes)
  playing_moves new bytes m =
      let sum : p.steps + m.steps ≡ m.steps + p.steps = omega arith in
      record {
        stands = m.there;
        written_is = m.wrote ∙ ap (λ b. b ++ bytes) p.written_is;
        steps = p.steps;
        outcome = p.outcome;
        goes = ap (λ q. then_do q ends) (sym (m.goes p.steps)) ∙ subst (λ n. then_do (exec w code n old.machine p.stands.so_far) ends ≡ halted p.outcome) sum (further m.steps);
        verdict_is = p.verdict_is;
      }

  pub playing_ends : (ending : Ending) → ComesToEnd limits start code old ending p.stands → (ending ≡ v.ending) × (v.output ≡ written)
  playing_ends ending e =
      let sum : e.steps + p.steps ≡ p.steps + e.steps = omega arith in
      let its = target-more w code ends (halted e.last) (settled start.memory e.last e.its e.is) e.steps p.steps old.machine p.stands.so_far e.goes in
      let both : halted p.outcome ≡ halted e.last = sym (further e.steps) ∙ subst (λ n. then_do (exec w code n old.machine p.stands.so_far) ends ≡ halted e.last) sum its in
      let some : Some v ≡ Some e.its = sym p.verdict_is ∙ ap (verdict start.memory) (halted-same p.outcome e.last both) ∙ e.is in
      let same : v ≡ e.its = cc in
      (sym e.ending_is ∙ ap (λ (x : Verdict). x.ending) (sym same), ap (λ (x : Verdict). x.output) same ∙ e.wrote ∙ p.written_is)

  -- what a run on its way still writes
  pub output_playing : (more : List ℕ) × (v.output ≡ written ++ more)
  output_playing =
      let whole = then_do (exec w code p.steps old.machine p.stands.so_far) ends in
      let last : tape_of whole ≡ tape_of p.outcome = ap tape_of p.goes ∙ tape_of-halted p.outcome in
      let grown : Extends IsAny p.stands.so_far (tape_of p.outcome) =
      subst (λ t. Extends IsAny p.stands.so_far t) last (target-extends w code (main_frame code) p.steps old.machine p.stands.so_far) in
      (output grown.news, verdict_output start.memory p.outcome v p.verdict_is ∙ output-extends grown ∙ ap (λ bytes. bytes ++ output grown.news) p.written_is)

-- ---- to an event

-- behind the machine's run to an event
abbrev pub at_event : Side → State → Metered Judged → Side
at_event old machine space = record { machine = machine; space = space; is_started = old.is_started; called = old.called }

-- Main stands at the event, and has written nothing on the way.
pub record ToEvent (limits : Limits) (start : FlatState) (code : Code) (e : Event) (old mid : Side) (st : Stands limits start old) : Type 0 where
  pub there : Stands limits start mid
  pub does : Does (judged_in limits start) code old.machine e mid.machine st.so_far there.so_far
  pub wrote : output there.so_far ≡ output st.so_far

module _ (limits : Limits) (start : FlatState) (code : Code) (in_range : IsInRange limits) (starts : IsStart limits.memory start) (old : Side) (machine : State) (space : Metered Judged) (st : Stands limits start old) where
  abbrev Comes : Event → Type 0
  Comes e = Reaches (metered main_reply) (spending main_after) code old.machine old.space e machine space

  -- the event and the space at its end
  to_end : (e : Event) → (r : Comes e) → ToEvent limits start code e old (at_event old machine r.end) st
  to_end e r =
      let there = r.does (judged_in limits start) st.so_far (follows limits start st.so_far old.space in_range starts st.at) in
      let more = there.0 in
      record {
        there = record {
          so_far = more ++ st.so_far;
          at = subst (λ s. IsMainAt limits start (more ++ st.so_far) s) there.2 (stays limits start st.so_far old.space more st.at there.1);
          started_is = same_started more st.so_far there.1 ∙ st.started_is;
          called_is = same_called more st.so_far there.1 ∙ st.called_is;
        };
        does = there.3;
        wrote = same_output more st.so_far there.1;
      }

  pub to_event : (e : Event) → (r : Comes e) → r.end ≡ space → ToEvent limits start code e old (at_event old machine space) st
  to_event e r is = subst (λ s. ToEvent limits start code e old (at_event old machine s) st) is (to_end e r)

  -- ---- stops

  -- a stop behind the tape, which is main's
  stop_ends : (later : Tape) (stop : Stop) (line steps : ℕ) → body later ≡ None → output later ≡ output st.so_far
      → exec (judged_in limits start) code steps old.machine st.so_far ≡ Stops (Stopped stop line) later → ComesToEnd limits start code old (endings.Stopped stop line Main) st
  stop_ends later stop line steps by_main wrote is = record {
    steps = steps;
    last = Stops (Stopped stop line) later;
    goes = ap (λ q. then_do q (main_ends (judged_in limits start) (main_frame code))) is;
    its = verdict_with start.memory later (endings.Stopped stop line (who_runs (inside later)));
    is = refl;
    ending_is = rw by_main refl;
    wrote = wrote;
  }

  pub at_stop : (stop : Stop) (line : ℕ) → Comes (events.Stopped stop line) → ComesToEnd limits start code old (endings.Stopped stop line Main) st
  at_stop stop line r =
      let t = to_end (events.Stopped stop line) r in
      stop_ends t.there.so_far stop line (t.does.0 + suc zero) t.there.at.by_main t.wrote (t.does.1 zero)

  -- ---- events that are answered

  module _ (mid : Side) where
    -- one step more
    one_more : (steps : ℕ) (there : Tape) (next : State) → ((n : ℕ) → exec (judged_in limits start) code (steps + suc n) old.machine st.so_far ≡ exec (judged_in limits start) code n next there)
        → (n : ℕ) → exec (judged_in limits start) code (suc steps + n) old.machine st.so_far ≡ exec (judged_in limits start) code n next there
    one_more steps there next goes n =
        let sum : steps + suc n ≡ suc steps + n = omega arith in
        subst (λ k. exec (judged_in limits start) code k old.machine st.so_far ≡ exec (judged_in limits start) code n next there) sum (goes n)

    -- what comes of an item that the world replies to
    by_reply : (later : Tape) (i : Item) (value : ℕ) (next : ℕ → State) (n : ℕ) → judged_in limits start later i ≡ Says value
        → then_do (replied (judged_in limits start later i) i later) (λ r t. exec (judged_in limits start) code n (next r) t) ≡ exec (judged_in limits start) code n (next value) (i ∷ later)
    by_reply later i value next n is = ap (λ r. then_do (replied r i later) (λ r t. exec (judged_in limits start) code n (next r) t)) is

    pub at_out : (bytes : List ℕ) → ToEvent limits start code (events.Out bytes) old mid st → Moves limits start code old (with_answer (length bytes) mid) bytes st
    at_out bytes t =
        let later = t.there.so_far in
        let line = t.does.1 in
        let i = item (Out bytes) line in
        record {
          there = record {
            so_far = i ∷ later;
            at = acts limits start later mid.space i refl t.there.at;
            started_is = t.there.started_is;
            called_is = t.there.called_is;
          };
          steps = suc t.does.0;
          goes = one_more t.does.0 (i ∷ later) (answered (length bytes) mid.machine)
              (λ n. t.does.2 n ∙ by_reply later i (length bytes) (λ r. answered r mid.machine) n (asks_out limits start later mid.space t.there.at line bytes));
          wrote = ap (λ b. b ++ bytes) t.wrote;
        }

    pub at_question : (line : ℕ) → ToEvent limits start code (events.Mark marks.Started line) old mid st → Moves limits start code old (with_answer (truth mid.is_started) mid) [] st
    at_question line t = record {
      there = record { so_far = t.there.so_far; at = t.there.at; started_is = t.there.started_is; called_is = t.there.called_is };
      steps = suc t.does.0;
      goes = one_more t.does.0 t.there.so_far (answered (truth mid.is_started) mid.machine)
          (λ n. t.does.1 n ∙ ap (λ b. exec (judged_in limits start) code n (answered (truth b) mid.machine) t.there.so_far) t.there.started_is);
      wrote = t.wrote ∙ sym (append-nil (output st.so_far));
    }

    pub at_start : (line : ℕ) → ToEvent limits start code (events.Mark marks.Start line) old mid st → mid.is_started ≡ false → Moves limits start code old (begun mid) [] st
    at_start line t none =
        let later = t.there.so_far in
        let i = item Start line in
        let says : judged_in limits start later i ≡ Says 0 =
        asks_start limits start later mid.space t.there.at line ∙ ap (λ b. if b then Refuses rules.StartTwice else Says 0) (t.there.started_is ∙ none) in
        record {
          there = record { so_far = i ∷ later; at = acts limits start later mid.space i refl t.there.at; started_is = refl; called_is = t.there.called_is };
          steps = suc t.does.0;
          goes = one_more t.does.0 (i ∷ later) mid.machine (λ n. t.does.1 n ∙ by_reply later i 0 (λ r. mid.machine) n says);
          wrote = ap (λ b. b ++ []) t.wrote;
        }

    pub at_finish : (line : ℕ) → ToEvent limits start code (events.Mark marks.Finish line) old mid st → mid.is_started ≡ true → Moves limits start code old (waited false mid) [] st
    at_finish line t started =
        let later = t.there.so_far in
        let i = item Finish line in
        let says : judged_in limits start later i ≡ Says 0 =
        asks_finish limits start later mid.space t.there.at line ∙ ap (λ b. if b then Says 0 else Refuses rules.FinishWithout) (t.there.started_is ∙ started) in
        record {
          there = record { so_far = i ∷ later; at = acts limits start later mid.space i refl t.there.at; started_is = refl; called_is = t.there.called_is };
          steps = suc t.does.0;
          goes = one_more t.does.0 (i ∷ later) mid.machine (λ n. t.does.1 n ∙ by_reply later i 0 (λ r. mid.machine) n says);
          wrote = ap (λ b. b ++ []) t.wrote;
        }

    pub at_barrier : (line : ℕ) → ToEvent limits start code (events.Mark marks.Barrier line) old mid st → Moves limits start code old (waited mid.is_started mid) [] st
    at_barrier line t =
        let later = t.there.so_far in
        let i = item Barrier line in
        record {
          there = record { so_far = i ∷ later; at = acts limits start later mid.space i refl t.there.at; started_is = t.there.started_is; called_is = t.there.called_is };
          steps = suc t.does.0;
          goes = one_more t.does.0 (i ∷ later) mid.machine (λ n. t.does.1 n ∙ by_reply later i 0 (λ r. mid.machine) n (asks_barrier limits start later mid.space t.there.at line));
          wrote = ap (λ b. b ++ []) t.wrote;
        }

    -- what comes of an item that a rule refuses
    by_rule : (later : Tape) (i : Item) (rule : Rule) (next : ℕ → State) (n : ℕ) → judged_in limits start later i ≡ Refuses rule
        → then_do (replied (judged_in limits start later i) i later) (λ r t. exec (judged_in limits start) code n (next r) t) ≡ Stops (Stopped (stops.Rule rule) i.line) later
    by_rule later i rule next n is = ap (λ r. then_do (replied r i later) (λ r t. exec (judged_in limits start) code n (next r) t)) is

    pub at_second_start : (line : ℕ) → ToEvent limits start code (events.Mark marks.Start line) old mid st → mid.is_started ≡ true
        → ComesToEnd limits start code old (endings.Stopped (stops.Rule rules.StartTwice) line Main) st
    at_second_start line t started =
        let later = t.there.so_far in
        let refuses : judged_in limits start later (item Start line) ≡ Refuses rules.StartTwice =
        asks_start limits start later mid.space t.there.at line ∙ ap (λ b. if b then Refuses rules.StartTwice else Says 0) (t.there.started_is ∙ started) in
        stop_ends later (stops.Rule rules.StartTwice) line (t.does.0 + suc zero) t.there.at.by_main t.wrote
        (t.does.1 zero ∙ by_rule later (item Start line) rules.StartTwice (λ r. mid.machine) zero refuses)

    pub at_needless_finish : (line : ℕ) → ToEvent limits start code (events.Mark marks.Finish line) old mid st → mid.is_started ≡ false
        → ComesToEnd limits start code old (endings.Stopped (stops.Rule rules.FinishWithout) line Main) st
    at_needless_finish line t none =
        let later = t.there.so_far in
        let refuses : judged_in limits start later (item Finish line) ≡ Refuses rules.FinishWithout =
        asks_finish limits start later mid.space t.there.at line ∙ ap (λ b. if b then Says 0 else Refuses rules.FinishWithout) (t.there.started_is ∙ none) in
        stop_ends later (stops.Rule rules.FinishWithout) line (t.does.0 + suc zero) t.there.at.by_main t.wrote
        (t.does.1 zero ∙ by_rule later (item Finish line) rules.FinishWithout (λ r. mid.machine) zero refuses)

-- ---- main's end

module _ (limits : Limits) (start : FlatState) (code : Code) (in_range : IsInRange limits) (starts : IsStart limits.memory start) (cell line base : ℕ) where
  abbrev judged_world : World
  judged_world = judged_in limits start

  -- main leaves its frame, and ends
  abbrev leaving : Tape → Outcome (Option ℤ)
  leaving tape =
      then_do (ask judged_world (Leave base (main_frame code)) line tape) (λ r t. then_do (ask judged_world (End (int_of cell)) line t) (λ r' t'. Goes (Some (int_of cell)) t'))

  -- main's tape as it leaves its frame
  record AtLeave (later : Tape) (s : Metered Judged) (started : Bool) : Type 0 where
    tape : Tape
    at : IsMainAt limits start tape (with_units (finished_space started s.state) s.units)
    ends : main_ends judged_world (main_frame code) (Finished cell base line) later ≡ leaving tape
    wrote : output tape ≡ output later

  at_leave : (later : Tape) (s : Metered Judged) → IsMainAt limits start later s → (started : Bool) → is_started later ≡ started → AtLeave later s started
  at_leave later s at true is =
      let says : judged_world later (item Finish line) ≡ Says 0 =
      asks_finish limits start later s at line ∙ ap (λ b. if b then Says 0 else Refuses rules.FinishWithout) is in
      record {
        tape = item Finish line ∷ later;
        at = acts limits start later s (item Finish line) refl at;
        ends = ap (λ b. then_do (if b then ask judged_world Finish line later else Goes 0 later) (λ r t. leaving t)) is
            ∙ ap (λ q. then_do (replied q (item Finish line) later) (λ r t. leaving t)) says;
        wrote = append-nil (output later);
      }
  at_leave later s at false is = record {
    tape = later;
    at = at;
    ends = ap (λ b. then_do (if b then ask judged_world Finish line later else Goes 0 later) (λ r t. leaving t)) is;
    wrote = refl;
  }

  module _ (tape : Tape) (s : Metered Judged) (at : IsMainAt limits start tape s) where
    abbrev leave : Item
    leave = item (Leave base (main_frame code)) line

    -- what comes of a reply to its leaving
    abbrev left : Reply → Outcome ℤ
    left (Says r) = Goes (int_of cell) (item (End (int_of cell)) line ∷ leave ∷ tape)
    left Fails = Stops (Stopped (stops.Fault OutsideMemory) line) (item (Fault OutsideMemory) line ∷ leave ∷ tape)
    left (Refuses rule) = Stops (Stopped (stops.Rule rule) line) tape

    replies : judged_world tape leave ≡ main_reply s.state (Leave base (main_frame code))
    replies = (follows limits start tape s in_range starts at).replies [] leave tt refl

    behind_reply : (reply : Reply) → then_do (replied reply leave tape) (λ r t. then_do (ask judged_world (End (int_of cell)) line t) (λ r' t'. Goes (Some (int_of cell)) t')) ≡ halted (left reply)
    behind_reply (Says r) =
        let i = item (End (int_of cell)) line in
        ap (λ q. then_do (replied q i (leave ∷ tape)) (λ r' t'. Goes (Some (int_of cell)) t')) (asks_end limits start (leave ∷ tape) (spending main_after s (Leave base (main_frame code))) (acts limits start tape s leave refl at) line (int_of cell))
    behind_reply Fails = refl
    behind_reply (Refuses rule) = refl

    left_is : leaving tape ≡ halted (left (main_reply s.state (Leave base (main_frame code))))
    left_is =
        ap (λ q. then_do (replied q leave tape) (λ r t. then_do (ask judged_world (End (int_of cell)) line t) (λ r' t'. Goes (Some (int_of cell)) t'))) replies
        ∙ behind_reply (main_reply s.state (Leave base (main_frame code)))

    -- the verdict on it
    record LeftWith (reply : Reply) : Type 0 where
      its : Verdict
      is : verdict start.memory (left reply) ≡ Some its
      ending_is : its.ending ≡ left_with reply cell line
      wrote : its.output ≡ output tape

    left_verdict : (reply : Reply) → LeftWith reply
    left_verdict (Says r) = record { its = _; is = refl; ending_is = refl; wrote = append-nil (output tape ++ []) ∙ append-nil (output tape) }
    left_verdict Fails = record { its = _; is = refl; ending_is = rw at.by_main refl; wrote = append-nil (output tape ++ []) ∙ append-nil (output tape) }
    left_verdict (Refuses rule) = record { its = _; is = refl; ending_is = rw at.by_main refl; wrote = refl }

-- at main's return the run ends as main's leaving says, and writes no more
pub at_end : (limits : Limits) (start : FlatState) (code : Code) → IsInRange limits → IsStart limits.memory start → (old mid : Side) (st : Stands limits start old) (value line : ℕ) → ToEvent limits start code (events.Ended value line) old mid st
    → base_of mid.machine ≡ main_place mid.space.state
    → ComesToEnd limits start code old (left_with (reply_to_leaving code (finished_space mid.is_started mid.space.state)) value line) st
at_end limits start code in_range starts old mid st value line t place =
    let later = t.there.so_far in
    let base = base_of mid.machine in
    let a = at_leave limits start code in_range starts value line base later mid.space t.there.at mid.is_started t.there.started_is in
    let s = with_units (finished_space mid.is_started mid.space.state) mid.space.units in
    let reply = main_reply s.state (Leave base (main_frame code)) in
    let l = left_verdict limits start code in_range starts value line base a.tape s a.at reply in
    let place_kept : (b : Bool) (j : Judged) → main_place (finished_space b j) ≡ main_place j = λ b j. elim b as (λ b. main_place (finished_space b j) ≡ main_place j) [ true ↦ refl | false ↦ refl ] in
    let at_place : base ≡ main_place s.state = place ∙ sym (place_kept mid.is_started mid.space.state) in
    record {
      steps = t.does.0 + suc zero;
      last = left limits start code in_range starts value line base a.tape s a.at reply;
      goes = ap (λ q. then_do q (main_ends (judged_in limits start) (main_frame code))) (t.does.1 zero) ∙ a.ends ∙ left_is limits start code in_range starts value line base a.tape s a.at;
      its = l.its;
      is = l.is;
      ending_is = l.ending_is ∙ ap (λ b. left_with (main_reply s.state (Leave b (main_frame code))) value line) at_place;
      wrote = l.wrote ∙ a.wrote ∙ t.wrote;
    }
