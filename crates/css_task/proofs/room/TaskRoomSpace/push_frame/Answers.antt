use Rattle.css_task.proofs.RoomSteps.{entered}
use Rattle.css_task.proofs.room.TaskRoomSpace.push_frame.Goals as goal

pub invariant_of-self-2 : goal.invariant_of-self-2
invariant_of-self-2 c =
    let m = c.self.inside in
    (entered m.windows.all.items m.stack m.bytes.items m.unwritten.words.items c.self.invariant c.args.size c.in_ok-base.base c.in_ok-base.ensures.says c.push_frame.new.self c.in_ok-base.ensures.learns).1
