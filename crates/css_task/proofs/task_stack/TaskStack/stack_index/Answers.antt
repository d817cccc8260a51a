use Rattle.std.proofs.Common.{◌≡◌, ◌-◌, length, take, drop, ap, sym, ◌∙◌, arith}
use Rattle.std.proofs.lemmas.List.{take_all, length-drop}
use Rattle.css_semantics.specs.TaskSpaces.{TaskState}
use Rattle.css_task.proofs.Spaces.{found}
use Rattle.css_task.proofs.task_stack.TaskStack.stack_index.Goals as goal

pub overflow_sub-result : goal.overflow_sub-result
overflow_sub-result c =
    let m = c.self.inside in
    let frames : take (length c.deref.result.now - m.innermost) (drop m.innermost c.deref.result.now) ≡ drop m.innermost m.sizes.items =
    take_all (length c.deref.result.now - m.innermost) (drop m.innermost c.deref.result.now) (omega (arith, length-drop m.innermost c.deref.result.now)) ∙ ap (drop m.innermost) c.deref.ensures.value in
    (found m.end m.start m.innermost m.stack.items m.sizes.items c.self.invariant c.args.self.now c.self.view_is c.place-place.result c.args.address c.args.count
    (take (length c.deref.result.now - m.innermost) (drop m.innermost c.deref.result.now)) c.place-place.ensures frames (sym c.if-lies_in_frame.ensures)).0

pub returns-then-lies_in_frame-clause-place : goal.returns-then-lies_in_frame-clause-place
returns-then-lies_in_frame-clause-place c =
    let m = c.self.inside in
    let frames : take (length c.deref.result.now - m.innermost) (drop m.innermost c.deref.result.now) ≡ drop m.innermost m.sizes.items =
    take_all (length c.deref.result.now - m.innermost) (drop m.innermost c.deref.result.now) (omega (arith, length-drop m.innermost c.deref.result.now)) ∙ ap (drop m.innermost) c.deref.ensures.value in
    let at = found m.end m.start m.innermost m.stack.items m.sizes.items c.self.invariant c.args.self.now c.self.view_is c.place-place.result c.args.address c.args.count
    (take (length c.deref.result.now - m.innermost) (drop m.innermost c.deref.result.now)) c.place-place.ensures frames (sym c.if-lies_in_frame.ensures) in
    omega (arith, at.0, at.1, at.2, ap (λ (s : TaskState). s.memory.place) c.self.view_is)

pub returns-then-lies_in_frame-clause-within : goal.returns-then-lies_in_frame-clause-within
returns-then-lies_in_frame-clause-within c =
    let m = c.self.inside in
    let frames : take (length c.deref.result.now - m.innermost) (drop m.innermost c.deref.result.now) ≡ drop m.innermost m.sizes.items =
    take_all (length c.deref.result.now - m.innermost) (drop m.innermost c.deref.result.now) (omega (arith, length-drop m.innermost c.deref.result.now)) ∙ ap (drop m.innermost) c.deref.ensures.value in
    let at = found m.end m.start m.innermost m.stack.items m.sizes.items c.self.invariant c.args.self.now c.self.view_is c.place-place.result c.args.address c.args.count
    (take (length c.deref.result.now - m.innermost) (drop m.innermost c.deref.result.now)) c.place-place.ensures frames (sym c.if-lies_in_frame.ensures) in
    (omega (arith, at.0, at.2, c.self.invariant.long, length-drop m.start m.stack.items, ap (λ (s : TaskState). length s.memory.stack) c.self.view_is), omega (arith, at.0, at.1, at.2))
