-- At a task's call the judged world replies to the body as the world of the task by itself does.
use Rattle.std.proofs.Common.{false, ◌≡◌, ℕ, ◌-◌, List, ◌∷◌, ◌++◌, Option, Some, None, refl, sym, ap, subst, ◌∙◌, arith, if◌then◌else◌}
use Rattle.css_base.specs.declared.limits.Limits.{Limits}
use Rattle.css_base.specs.declared.rule.Rule.{Rule}
use Rattle.css_semantics.specs.Dialogue.{Action, Enter, Turn, Leave, Load, Store, Out, In, Malloc, Calls, Returns, Start, Finish, Barrier, Wait, WaitFault, DimFault, Fault, End, Tape, Reply, Says, Fails, item}
use Rattle.css_semantics.specs.Worlds.{state_after, AreOfMachine}
use Rattle.css_semantics.specs.Memory.{Memory, memory_after}
use Rattle.css_semantics.specs.Flat.{FlatState, memory_reply, reply_in, flat_at}
use Rattle.css_semantics.specs.Tasks.{Use, Body, body, body_after, body_behind, frames_after}
use Rattle.css_semantics.specs.Rules.{is_unwritten, checks_of_task, first_broken, hit, judged_reply}
use Rattle.css_semantics.specs.Verdict.{judged_in}
use Rattle.css_semantics.specs.Alone.{Solitude, task_place, task_reply, alone_behind, alone_after, at_entry, alone_world}
use Rattle.css_semantics.specs.TaskSpaces.{total}
use Rattle.css_in_place.proofs.Alike.{open_frames, Asks, asks_machine, AreAlike}
use Rattle.css_in_place.proofs.TaskBytes.{total_more}
use Rattle.css_in_place.proofs.Hits.{hit_in}
use Rattle.css_in_place.proofs.Given.{is_windowed, IsWindowed, IsCalled, InStep, task_lowest}
use Rattle.css_in_place.proofs.Replies.{reply_same, is_inner_task, step_after, returned_known}

-- what isn't refused breaks no rule
not_refused : (o : Option Rule) (r : Reply) (value : ℕ) → judged_reply o r ≡ Says value → o ≡ None
not_refused None r value is = refl
not_refused (Some rule) r value is = absurd (cc)

judged_never_fails : (o : Option Rule) → judged_reply o (Says 0) ≡ Fails → ⊥
judged_never_fails None is = absurd (cc)
judged_never_fails (Some rule) is = absurd (cc)

entered_at : (place size base : ℕ) (o : Option Rule) → judged_reply o (Says (place - size)) ≡ Says base → place - size ≡ base
entered_at place size base None is = cc
entered_at place size base (Some rule) is = absurd (cc)

-- a body goes on with what it asks
body_on : (b : Body) (top : ℕ) (frames : List ℕ) (action : Action) → Asks top frames action → body_after (Some b) action ≡ Some (body_behind b action)
body_on b top frames (Enter size) asks = refl
body_on b top frames Turn asks = refl
body_on b top frames (Leave base size) asks = refl
body_on b top frames (Load address width) asks = refl
body_on b top frames (Store address bytes) asks = refl
body_on b top frames (Out bytes) asks = absurd asks
body_on b top frames In asks = absurd asks
body_on b top frames (Malloc size) asks = absurd asks
body_on b top frames (Calls call) asks = absurd asks
body_on b top frames Returns asks = absurd asks
body_on b top frames Start asks = absurd asks
body_on b top frames Finish asks = absurd asks
body_on b top frames Barrier asks = absurd asks
body_on b top frames (Wait address) asks = absurd asks
body_on b top frames WaitFault asks = absurd asks
body_on b top frames DimFault asks = absurd asks
body_on b top frames (Fault kind) asks = absurd asks
body_on b top frames (End result) asks = absurd asks

module _ (limits : Limits) (start : FlatState) (uses : List Use) (inputs : List (List ℕ)) (place : ℕ) (at_call : Memory) (tape : Tape) where
  abbrev pub solitude : Tape → Solitude
  solitude t = state_after alone_after (at_entry uses inputs place) t

  abbrev pub memory_at : Tape → Memory
  memory_at t = memory_after start.memory (t ++ tape)

  -- what holds of the tapes that come, by the task's state
  pub record Stands (t : Tape) (s : Solitude) : Type 0 where
    pub body_is : body (t ++ tape) ≡ Some s.body
    pub uses_are : s.body.uses ≡ uses
    pub place_is : s.body.place ≡ place
    pub frames_are : s.body.frames ≡ open_frames t
    pub machine : AreOfMachine t
    pub step : InStep s.body at_call (memory_at t) s.memory

  abbrev pub Holds : Tape → Type 0
  Holds t = Stands t (solitude t)

  module _ (called : IsCalled uses place at_call) where
    module _ (t : Tape) (holds : Holds t) where
      called_here : IsCalled (solitude t).body.uses (solitude t).body.place at_call
      called_here = subst (λ us. IsCalled us (solitude t).body.place at_call) (sym holds.uses_are) (subst (λ p. IsCalled uses p at_call) (sym holds.place_is) called)

      asks_here : (action : Action) → Asks place (open_frames t) action → Asks (solitude t).body.place (solitude t).body.frames action
      asks_here action asks =
          subst (λ frames. Asks (solitude t).body.place frames action) (sym holds.frames_are) (subst (λ top. Asks top (open_frames t) action) (sym holds.place_is) asks)

      hit_is : (action : Action) → hit start.memory limits (t ++ tape) action ≡ first_broken (checks_of_task limits (solitude t).body action)
      hit_is action = ap (hit_in (memory_at t) limits (t ++ tape) action) holds.body_is

      judged_same : (action : Action) (o : Option Rule) → Asks place (open_frames t) action → first_broken (checks_of_task limits (solitude t).body action) ≡ o
          → judged_reply o (memory_reply (memory_at t) action) ≡ judged_reply o (task_reply (solitude t).memory (solitude t).body.frames action)
      judged_same action None asks none = reply_same limits (solitude t).body at_call called_here (memory_at t) (solitude t).memory holds.step action (asks_here action asks) none
      judged_same action (Some rule) asks none = refl

      -- what is asked is asked of the memory
      asks_memory : (action : Action) → Asks place (open_frames t) action → reply_in (flat_at start (t ++ tape)) action ≡ memory_reply (memory_at t) action
      asks_memory (Enter size) asks = refl
      asks_memory Turn asks = refl
      asks_memory (Leave base size) asks = refl
      asks_memory (Load address width) asks = refl
      asks_memory (Store address bytes) asks = refl
      asks_memory (Out bytes) asks = absurd asks
      asks_memory In asks = absurd asks
      asks_memory (Malloc size) asks = absurd asks
      asks_memory (Calls call) asks = absurd asks
      asks_memory Returns asks = absurd asks
      asks_memory Start asks = absurd asks
      asks_memory Finish asks = absurd asks
      asks_memory Barrier asks = absurd asks
      asks_memory (Wait address) asks = absurd asks
      asks_memory WaitFault asks = absurd asks
      asks_memory DimFault asks = absurd asks
      asks_memory (Fault kind) asks = absurd asks
      asks_memory (End result) asks = absurd asks

      replies_same : (action : Action) (line : ℕ) → Asks place (open_frames t) action → judged_in limits start (t ++ tape) (item action line) ≡ alone_world limits uses inputs place t (item action line)
      replies_same action line asks =
          ap (λ o. judged_reply o (reply_in (flat_at start (t ++ tape)) action)) (hit_is action)
          ∙ ap (judged_reply (first_broken (checks_of_task limits (solitude t).body action))) (asks_memory action asks)
          ∙ judged_same action (first_broken (checks_of_task limits (solitude t).body action)) asks refl

      returns_same : (line : ℕ) → judged_in limits start (t ++ tape) (item Returns line) ≡ alone_world limits uses inputs place t (item Returns line)
      returns_same line = ap (λ o. judged_reply o (Says 0)) (hit_is Returns)

      -- the task's state goes on
      goes_on : (action : Action) → Asks place (open_frames t) action → alone_after (solitude t) action ≡ alone_behind (solitude t) action
      goes_on (Leave base size) asks =
          let inner = is_inner_task limits (solitude t).body at_call called_here (memory_at t) (solitude t).memory holds.step base size (asks_here (Leave base size) asks) in
          ap (λ b. if b then alone_behind (solitude t) (Leave base size) else solitude t) inner
      goes_on (Enter size) asks = refl
      goes_on Turn asks = refl
      goes_on (Load address width) asks = refl
      goes_on (Store address bytes) asks = refl
      goes_on (Out bytes) asks = absurd asks
      goes_on In asks = absurd asks
      goes_on (Malloc size) asks = absurd asks
      goes_on (Calls call) asks = absurd asks
      goes_on Returns asks = absurd asks
      goes_on Start asks = absurd asks
      goes_on Finish asks = absurd asks
      goes_on Barrier asks = absurd asks
      goes_on (Wait address) asks = absurd asks
      goes_on WaitFault asks = absurd asks
      goes_on DimFault asks = absurd asks
      goes_on (Fault kind) asks = absurd asks
      goes_on (End result) asks = absurd asks

      holds_later : (action : Action) (line value : ℕ) → Asks place (open_frames t) action → alone_world limits uses inputs place t (item action line) ≡ Says value → Holds (item action line ∷ t)
      holds_later action line value asks says =
          let none = not_refused (first_broken (checks_of_task limits (solitude t).body action)) (task_reply (solitude t).memory (solitude t).body.frames action) value says in
          subst (Stands (item action line ∷ t)) (sym (goes_on action asks)) (record {
            body_is = ap (λ o. body_after o action) holds.body_is ∙ body_on (solitude t).body place (open_frames t) action asks;
            uses_are = holds.uses_are;
            place_is = holds.place_is;
            frames_are = ap (λ frames. frames_after frames action) holds.frames_are;
            machine = (asks_machine place (open_frames t) action asks, holds.machine);
            step = step_after limits (solitude t).body at_call called_here (memory_at t) (solitude t).memory holds.step action (asks_here action asks) none;
          })

      enters_at : (size line base : ℕ) → alone_world limits uses inputs place t (item (Enter size) line) ≡ Says base → base ≡ place - total (size ∷ open_frames t)
      enters_at size line base says =
          let at = entered_at (task_place (solitude t).memory) size base (first_broken (checks_of_task limits (solitude t).body (Enter size))) says in
          let low = task_lowest (solitude t).body at_call called_here (memory_at t) (solitude t).memory holds.step in
          let framed : total (solitude t).body.frames ≡ total (open_frames t) = ap total holds.frames_are in
          omega (arith, at, low, holds.place_is, framed, total_more size (open_frames t))

    -- where the return isn't refused, each byte of a window is the task's
    pub known_at_return : (t : Tape) → Holds t → (line value : ℕ) → alone_world limits uses inputs place t (item Returns line) ≡ Says value → (a : ℕ) → IsWindowed uses a → is_unwritten (solitude t).body a ≡ false
    known_at_return t holds line value says a held =
        let none = not_refused (first_broken (checks_of_task limits (solitude t).body Returns)) (Says 0) value says in
        returned_known limits (solitude t).body at_call (called_here t holds) (memory_at t) (solitude t).memory holds.step none a (ap (λ us. is_windowed us a) holds.uses_are ∙ held)

    pub worlds_alike : AreAlike (judged_in limits start) (alone_world limits uses inputs place) tape place Holds
    worlds_alike = record {
      same = λ t action line holds asks. replies_same t holds action line asks;
      later = λ t action line value holds asks says. holds_later t holds action line value asks says;
      enters = λ t size line base holds says. enters_at t holds size line base says;
      returns = λ t line holds. returns_same t holds line;
      never_fails = λ t line holds. judged_never_fails (first_broken (checks_of_task limits (solitude t).body Returns));
      machine = λ t holds. holds.machine;
    }
