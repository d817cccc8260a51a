-- The world of a task alone replies to a machine as its kept memory does.
use Rattle.std.proofs.Common.{◌≡◌, ℕ, List, [], ap, sym, ◌∙◌}
use Rattle.std.proofs.Math.Nat.{sub-zero}
use Rattle.css_base.specs.declared.limits.Limits.{Limits}
use Rattle.css_semantics.specs.Dialogue.{Tape}
use Rattle.css_semantics.specs.Worlds.{state_after, AreOfMachine, Follows}
use Rattle.css_semantics.specs.Units.{Metered, with_units, metered, spending}
use Rattle.css_semantics.specs.Tasks.{Use}
use Rattle.css_semantics.specs.Alone.{at_entry, alone_after, alone_world}
use Rattle.css_task.specs.Rooms.{Room, room_reply, room_after}
use Rattle.css_task.specs.Cells.{Kept, room, kept_reply, kept_after}
use Rattle.css_task.proofs.KeptRooms.{metered_room, room_along}
use Rattle.css_task.proofs.RoomWorlds.{Stands, room_of, counted, counted_along, world_follows}

module _ (limits : Limits) (uses : List Use) (inputs : List (List ℕ)) (place : ℕ) (entry : Kept) (stands : Stands uses (at_entry uses inputs place))
    (is : room entry ≡ room_of (at_entry uses inputs place)) where
  abbrev start : Metered Kept
  start = with_units entry limits.task_units

  abbrev first : Metered Room
  first = counted limits.task_units (at_entry uses inputs place)

  same_start : metered_room start ≡ first
  same_start =
      ap (λ r. with_units r limits.task_units) is
      ∙ ap (λ n. with_units (room_of (at_entry uses inputs place)) n) (sym (sub-zero limits.task_units))

  along : (more : Tape) → metered_room (state_after (spending kept_after) start more) ≡ state_after (spending room_after) first more
  along more = room_along start more ∙ ap (λ (m : Metered Room). state_after (spending room_after) m more) same_start

  pub follows : Follows (alone_world limits uses inputs place) (metered kept_reply) (spending kept_after) [] start
  follows = record {
    replies = λ more i machine asked.
        (world_follows limits uses inputs place stands).replies more i machine asked
        ∙ ap (λ (m : Metered Room). metered room_reply m i.action) (sym (along more));
  }

  -- the rooms go along
  pub room_is : (tape : Tape) → AreOfMachine tape → room_of (state_after alone_after (at_entry uses inputs place) tape) ≡ room (state_after (spending kept_after) start tape).state
  room_is tape machine =
      sym (ap (λ (m : Metered Room). m.state) (along tape ∙ counted_along limits.task_units (at_entry uses inputs place) tape machine))
