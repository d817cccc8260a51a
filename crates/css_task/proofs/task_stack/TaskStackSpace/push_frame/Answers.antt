use Rattle.std.proofs.Common.{◌-◌, sym, ◌∙◌, arith}
use Rattle.std.specs.List.{length_refill}
use Rattle.css_task.proofs.Spaces.{place_now, enters, too_many_bytes, too_many_calls, refused, after_entry}
use Rattle.css_task.proofs.task_stack.TaskStackSpace.push_frame.Goals as goal
use Rattle.css_task.proofs.task_stack.TaskStackSpace.push_frame.Goals.{then-bytes-self-via-then-bytes-self, then-bytes-self-via-else-bytes-self+then-self-eq0}

pub returns-then-bytes-self-clause-refuses : goal.returns-then-bytes-self-clause-refuses
returns-then-bytes-self-clause-refuses c =
    let m = c.self.inside in
    elim c.then-bytes-self.branch [
      | then-bytes-self-via-then-bytes-self w ↦ refused _ _
          (too_many_bytes m.end m.start m.innermost m.stack.items m.sizes.items c.self.invariant c.args.self.now c.self.view_is c.args.size (omega arith))
      | then-bytes-self-via-else-bytes-self+then-self-eq0 w ↦ refused _ _
          (too_many_calls m.end m.start m.innermost m.stack.items m.sizes.items c.self.invariant c.args.self.now c.self.view_is c.args.size (omega arith))
    ]

pub invariant_of-self : goal.invariant_of-self
invariant_of-self c =
    let m = c.self.inside in
    after_entry m.end m.start m.innermost m.stack.items m.sizes.items c.self.invariant c.args.size (m.innermost - 1) _ (omega arith) (omega arith)
    (sym (length_refill m.stack.len m.stack.items _ m.stack.ok.0) ∙ m.stack.ok.0)

pub overflow_sub-result : goal.overflow_sub-result
overflow_sub-result c =
    let m = c.self.inside in
    let old = place_now m.end m.start m.innermost m.stack.items m.sizes.items c.self.invariant c.args.self.now c.self.view_is in
    omega (arith, old, c.place-place.ensures, c.self.invariant.room)

pub returns-clause-says : goal.returns-clause-says
returns-clause-says c =
    let m = c.self.inside in
    let old = place_now m.end m.start m.innermost m.stack.items m.sizes.items c.self.invariant c.args.self.now c.self.view_is in
    enters m.end m.start m.innermost m.stack.items m.sizes.items c.self.invariant c.args.self.now c.self.view_is c.args.size (c.place-place.result - c.args.size)
    (omega arith) (omega arith) (omega (arith, old, c.place-place.ensures, c.self.invariant.room))
