-- What a machine's run over a task's memory comes to is what the task by itself comes to.
use Rattle.std.proofs.Common.{◌≡◌, ℕ, zero, suc, ◌+◌, List, [], ◌∷◌, ◌++◌, flat_map, Some, slice_get, refl, ap, ap₂, sym, ◌∙◌, if◌then◌else◌}
use Rattle.css_base.specs.declared.limits.Limits.{Limits}
use Rattle.css_base.specs.declared.ending.Stop.{Stop}
use Rattle.css_base.specs.declared.ending.Stop.TheVariants as stops
use Rattle.css_base.specs.declared.ending.FaultKind.TheVariants.{OutsideMemory}
use Rattle.css_base.specs.declared.rule.Rule.TheVariants.{LeftUnwritten}
use Rattle.css_semantics.specs.Dialogue.{Leave, Returns, Fault, Item, Tape, World, Reply, Says, Fails, Refuses, Goes, Stops, Stopped, item, then_do, ask, replied}
use Rattle.css_semantics.specs.Worlds.{state_after, AreOfMachine, Follows}
use Rattle.css_semantics.specs.Units.{Metered, with_units, metered, spending}
use Rattle.css_semantics.specs.Tasks.{Use, writes}
use Rattle.css_semantics.specs.Alone.{Solitude, bytes_left, outs, at_entry, alone_after, alone_reply, alone_world, outs_after}
use Rattle.std.proofs.lemmas.List.{append-nil}
use Rattle.css_vm.specs.Code.{Code}
use Rattle.css_vm.specs.Machine.{State, Begin, At, Finished, body_ends, frame_of, alone}
use Rattle.css_vm.specs.Events.{Does, IsStacked, IsInside, base_of}
use Rattle.css_vm.specs.Spaces.{IsRefusal}
use Rattle.css_vm.specs.declared.machine.Event.TheVariants as events
use Rattle.css_task.specs.Arrivals.{Arrives}
use Rattle.css_task.specs.Rooms.{Room, rows_from, outs_from}
use Rattle.css_task.specs.Cells.{Kept, room, kept_place, kept_reply, kept_after}
use Rattle.css_task.specs.Returned.{leaving_reply, IsLeft, behind, IsWritten, IsUnwritten}
use Rattle.css_task.proofs.RoomWorlds.{Stands, stands_along, room_of, bytes_are}
use Rattle.css_task.proofs.KeptWorlds as worlds
use Rattle.css_task.proofs.Returns as returns

-- the innermost frame begins at the stack place
pub base_is : (code : Code) (place : ℕ) (s : State) → IsInside s → IsStacked code place s → base_of s ≡ place
base_is code place (Begin function arguments line) inside stacked = absurd inside
base_is code place (At a callers at stack) inside stacked = stacked.0

-- what a task leaves is what its room has
rows_are : (s : Solitude) (rows base width stride : ℕ) → bytes_left s.memory rows base width stride ≡ rows_from (room_of s) rows base width stride
rows_are s zero base width stride = refl
rows_are s (suc rows) base width stride = ap₂ (λ bytes rest. bytes ++ rest) (bytes_are s base width) (rows_are s rows (base + stride) width stride)

pub outs_are : (s : Solitude) (uses : List Use) → outs s.memory uses ≡ outs_from (room_of s) uses
outs_are s uses = λ i. flat_map (λ u. if writes u.direction then rows_are s u.window.rows u.window.base u.window.width u.window.stride i ∷ [] else []) uses

module _ (code : Code) (limits : Limits) (uses : List Use) (inputs : List (List ℕ)) (place function line : ℕ) (arguments : List ℕ) (entry : Kept) (stands : Stands uses (at_entry uses inputs place))
    (is : room entry ≡ room_of (at_entry uses inputs place)) where
  abbrev w : World
  w = alone_world limits uses inputs place

  abbrev start : Metered Kept
  start = with_units entry limits.task_units

  abbrev frame : ℕ
  frame = frame_of (slice_get code.functions function)

  follows : Follows w (metered kept_reply) (spending kept_after) [] start
  follows = worlds.follows limits uses inputs place entry stands is

  -- a stop of the machine is the task's
  pub stopped : (new : State) (space' : Metered Kept) (stop : Stop) (at : ℕ) → Arrives code (Begin function arguments line) start (events.Stopped stop at) new space'
      → (n : ℕ) × (tape : Tape) × (alone w code function arguments line n ≡ Stops (Stopped stop at) tape)
  stopped new space' stop at arrives =
      let there = arrives.does w follows in
      (there.3.0 + suc 0, there.0 ++ [], ap (λ q. then_do q (body_ends w frame)) (there.3.1 0))

  -- what is refused at the end is the task's stop
  refused : (reply : Reply) (stop : Stop) (base at : ℕ) (tape : Tape) (cell : ℕ) → w tape (item (Leave base frame) at) ≡ reply → IsRefusal reply stop
      → (tape' : Tape) × (body_ends w frame (Finished cell base at) tape ≡ Stops (Stopped stop at) tape')
  refused (Says value) stop base at tape cell is refusal = absurd refusal
  refused Fails stop base at tape cell is refusal = (
    item (Fault OutsideMemory) at ∷ item (Leave base frame) at ∷ tape,
    ap (λ reply. then_do (replied reply (item (Leave base frame) at) tape) (λ r t. then_do (ask w Returns at t) (λ r' t'. Goes (Some cell) t'))) is
        ∙ ap (λ s. Stops (Stopped s at) (item (Fault OutsideMemory) at ∷ item (Leave base frame) at ∷ tape)) (sym refusal),
  )
  refused (Refuses rule) stop base at tape cell is refusal = (
    tape,
    ap (λ reply. then_do (replied reply (item (Leave base frame) at) tape) (λ r t. then_do (ask w Returns at t) (λ r' t'. Goes (Some cell) t'))) is
        ∙ ap (λ s. Stops (Stopped s at) tape) (sym refusal),
  )

  module _ (new : State) (space' : Kept) (units' cell at : ℕ) (arrives : Arrives code (Begin function arguments line) start (events.Ended cell at) new (with_units space' units'))
      (inside : IsInside new) (stacked : IsStacked code (kept_place space') new) where
    abbrev there : (more : Tape) × AreOfMachine more × (state_after (spending kept_after) start more ≡ arrives.end) × Does w code (Begin function arguments line) (events.Ended cell at) new [] (more ++ [])
    there = arrives.does w follows

    -- the world's reply to leaving the frame is the memory's
    left : w (there.0 ++ []) (item (Leave (base_of new) frame) at) ≡ leaving_reply space' frame
    left =
        follows.replies there.0 (item (Leave (base_of new) frame) at) there.1 refl
        ∙ ap (λ (m : Metered Kept). kept_reply m.state (Leave (base_of new) frame)) (there.2 ∙ arrives.is_left)
        ∙ ap (λ base. kept_reply space' (Leave base frame)) (base_is code (kept_place space') new inside stacked)

    -- where the frame can't be left the task stops
    pub ended_stopped : (stop : Stop) → IsRefusal (leaving_reply space' frame) stop
        → (n : ℕ) × (tape : Tape) × (alone w code function arguments line n ≡ Stops (Stopped stop at) tape)
    ended_stopped stop refusal =
        let last = refused (leaving_reply space' frame) stop (base_of new) at (there.0 ++ []) cell left refusal in
        (there.3.0 + suc 0, last.0, ap (λ q. then_do q (body_ends w frame)) (there.3.1 0) ∙ last.1)

    abbrev leaving : Item
    leaving = item (Leave (base_of new) frame) at

    abbrev last : Solitude
    last = state_after alone_after (at_entry uses inputs place) (leaving ∷ there.0)

    -- the room at the end
    room_is : room_of last ≡ behind space' frame
    room_is =
        worlds.room_is limits uses inputs place entry stands is (leaving ∷ there.0) (refl, there.1)
        ∙ ap (λ (m : Metered Kept). room (spending kept_after m (Leave (base_of new) frame)).state) (there.2 ∙ arrives.is_left)
        ∙ ap (λ base. room (kept_after space' (Leave base frame))) (base_is code (kept_place space') new inside stacked)

    returning : (reply : Reply) → alone_reply limits last Returns ≡ reply → w (leaving ∷ (there.0 ++ [])) (item Returns at) ≡ reply
    returning reply says = ap (λ t. w (leaving ∷ t) (item Returns at)) (append-nil there.0) ∙ says

    -- where it is left, and each byte is written, the task leaves what its windows have
    pub ended_outs : IsLeft space' frame → IsWritten (behind space' frame)
        → (n : ℕ) × (value : ℕ) × (tape : Tape) × (alone w code function arguments line n ≡ Goes (Some value) tape) × (outs_from (behind space' frame) (behind space' frame).uses ≡ outs_after uses inputs place tape)
    ended_outs says written =
        let tape = there.0 ++ [] in
        let returned = returning (Says 0) (returns.returns limits last (λ at. ap (λ (r : Room). r.unwritten at) room_is ∙ written at)) in
        let same = (stands_along uses (at_entry uses inputs place) (leaving ∷ there.0) (refl, there.1) stands).uses_are in (
          there.3.0 + suc 0,
          cell,
          item Returns at ∷ leaving ∷ tape,
          ap (λ q. then_do q (body_ends w frame)) (there.3.1 0)
              ∙ ap (λ reply. then_do (replied reply leaving tape) (λ r t. then_do (ask w Returns at t) (λ r' t'. Goes (Some cell) t'))) (left ∙ says.1)
              ∙ ap (λ reply. then_do (replied reply (item Returns at) (leaving ∷ tape)) (λ r' t'. Goes (Some cell) t')) returned,
          sym (ap (λ t. (outs (state_after alone_after (at_entry uses inputs place) (leaving ∷ t)).memory uses)) (append-nil there.0)
              ∙ outs_are last uses ∙ ap (outs_from (room_of last)) (sym same) ∙ ap (λ (r : Room). outs_from r r.uses) room_is),
        )

    -- and where one isn't, the rule on such bytes stops it
    pub ended_unwritten : IsLeft space' frame → IsUnwritten (behind space' frame)
        → (n : ℕ) × (tape : Tape) × (alone w code function arguments line n ≡ Stops (Stopped (stops.Rule LeftUnwritten) at) tape)
    ended_unwritten says unwritten =
        let tape = there.0 ++ [] in
        let refused = returning (Refuses LeftUnwritten) (returns.refused limits last unwritten.0 (ap (λ (r : Room). r.unwritten unwritten.0) room_is ∙ unwritten.1)) in (
          there.3.0 + suc 0,
          leaving ∷ tape,
          ap (λ q. then_do q (body_ends w frame)) (there.3.1 0)
              ∙ ap (λ reply. then_do (replied reply leaving tape) (λ r t. then_do (ask w Returns at t) (λ r' t'. Goes (Some cell) t'))) (left ∙ says.1)
              ∙ ap (λ reply. then_do (replied reply (item Returns at) (leaving ∷ tape)) (λ r' t'. Goes (Some cell) t')) refused,
        )
