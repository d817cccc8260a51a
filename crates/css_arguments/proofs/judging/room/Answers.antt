use Rattle.std.proofs.Common.{map, arith}
use Rattle.std.proofs.lemmas.List.{length-map}
use Rattle.css_semantics.specs.Tasks as tasks
use Rattle.css_arguments.specs.Arguments.{given}
use Rattle.css_arguments.proofs.Lists.{place_map}
use Rattle.css_arguments.proofs.Looking.{within, room_begin, room_next, room_end}
use Rattle.css_arguments.proofs.judging.room.Goals as goal

pub loop-place-init : goal.loop-place-init
loop-place-init c = record { left = room_begin (map tasks.window (map given c.args.arguments.now)); small = omega arith }

pub loop-place-preserved : goal.loop-place-preserved
loop-place-preserved c =
    let a = within c.args.arguments.now c.loop-place.place c.loop-place-test.true in
    record {
      left =
          rw (c.bytes_at-room.ensures.value a.0 a.1)
          (room_next (map tasks.window (map given c.args.arguments.now)) c.loop-place.place c.loop-place.room (tasks.window (given a.0)) c.loop-place.invariant.left
          (place_map tasks.window (map given c.args.arguments.now) c.loop-place.place (given a.0) (place_map given c.args.arguments.now c.loop-place.place a.0 a.1)));
      small = omega (arith, c.loop-place.invariant.small, c.bytes_at-room.ensures.small);
    }

pub returns : goal.returns
returns c =
    room_end (map tasks.window (map given c.args.arguments.now)) c.loop-place.place c.loop-place.room c.loop-place.invariant.left
    (omega (arith, length-map (map given c.args.arguments.now) tasks.window, length-map c.args.arguments.now given))
