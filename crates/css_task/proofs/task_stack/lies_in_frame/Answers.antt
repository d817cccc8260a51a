use Rattle.std.proofs.Common.{◌<◌, ◌+◌, length, ◌∙◌, arith}
use Rattle.css_semantics.specs.TaskSpaces.{total}
use Rattle.css_task.proofs.Frames.{one_more, found, passed}
use Rattle.css_task.proofs.task_stack.lies_in_frame.Goals as goal
use Rattle.css_task.proofs.task_stack.lies_in_frame.Goals.{else-place-address-via-then-place-address+else-address-count, else-place-address-via-else-place-address}

pub overflow_add-place : goal.overflow_add-place
overflow_add-place c =
    let within : c.loop-i.i < length c.args.sizes.now = omega arith in
    omega (arith, c.loop-i.invariant.whole, c.requires.whole, one_more c.args.sizes.now c.loop-i.i within)

pub overflow_add-place-in-loop-i : goal.overflow_add-place-in-loop-i
overflow_add-place-in-loop-i c =
    let within : c.loop-i.i < length c.args.sizes.now = omega arith in
    omega (arith, c.loop-i.invariant.whole, c.requires.whole, one_more c.args.sizes.now c.loop-i.i within)

pub returns-then-address-count : goal.returns-then-address-count
returns-then-address-count c =
    let within : c.loop-i.i < length c.args.sizes.now = omega arith in
    found c.args.sizes.now c.loop-i.i within (c.args.place + total c.args.sizes.now) c.loop-i.place c.args.address c.args.count c.loop-i.invariant.whole (omega arith) (omega arith)
    ∙ c.loop-i.invariant.rest

pub loop-i-preserved : goal.loop-i-preserved
loop-i-preserved c =
    let within : c.loop-i.i < length c.args.sizes.now = omega arith in
    record {
      whole = omega (arith, c.loop-i.invariant.whole, one_more c.args.sizes.now c.loop-i.i within);
      rest = passed c.args.sizes.now c.loop-i.i within (c.args.place + total c.args.sizes.now) c.loop-i.place c.args.address c.args.count c.loop-i.invariant.whole
          (λ above below. elim c.else-place-address.branch [
            | else-place-address-via-then-place-address+else-address-count w ↦ omega arith
            | else-place-address-via-else-place-address w ↦ omega arith
          ])
          ∙ c.loop-i.invariant.rest;
    }
