use Rattle.css_semantics.specs.TaskSpaces.{place_of}
use Rattle.css_task.proofs.RoomSteps.{left}
use Rattle.css_task.proofs.room.TaskRoomSpace.pop_frame.Goals as goal

pub invariant_of-self-2 : goal.invariant_of-self-2
invariant_of-self-2 c =
    let m = c.self.inside in
    let says = c.in_ok-pop_frame.ensures.says in
    (left m.windows.all.items m.stack m.bytes.items m.unwritten.words.items c.self.invariant (place_of m.stack) c.args.size says.0 says.1 c.pop_frame.new.self c.in_ok-pop_frame.ensures.learns).1
