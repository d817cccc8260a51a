use Rattle.std.proofs.Common.{ℕ, List, sym, subst}
use Rattle.std.specs.List.{insert}
use Rattle.std.proofs.lemmas.List.Sorted.{searched}
use Rattle.css_objects.specs.Naming.{Rises, IsTaskAdded}
use Rattle.css_objects.proofs.Names.{not_below, task_there, task_new}
use Rattle.css_objects.proofs.naming.add_task.Goals as goal

pub returns-in-Ok : goal.returns-in-Ok
returns-in-Ok c =
    let value = c.deref.ensures.value in
    let rise = subst Rises (sym value) c.requires in
    let found = searched c.deref.result.now c.args.task c.binary_search.result c.binary_search.ensures.position (not_below c.deref.result.now rise) in
    let at = rw c.in-Ok.is at found in
    subst (λ (xs : List ℕ). IsTaskAdded xs c.args.task xs) value (task_there c.deref.result.now c.args.task c.in-Ok.field-0 rise at.0 at.1)

pub returns-in_ok-insert-in-Err : goal.returns-in_ok-insert-in-Err
returns-in_ok-insert-in-Err c =
    let value = c.deref.ensures.value in
    let rise = subst Rises (sym value) c.requires in
    let found = searched c.deref.result.now c.args.task c.binary_search.result c.binary_search.ensures.position (not_below c.deref.result.now rise) in
    let at = rw c.in-Err.is at found in
    rw c.in_ok-insert-in-Err.ensures.items
    (subst (λ (xs : List ℕ). IsTaskAdded xs c.args.task (insert xs c.in-Err.place c.args.task)) value (task_new c.deref.result.now c.args.task c.in-Err.place rise at.0 at.1 at.2))
