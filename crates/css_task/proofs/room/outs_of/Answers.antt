use Rattle.std.proofs.Common.{◌≡◌, ◌+◌, ◌-◌, take, drop, get_or, ap, sym, ◌∙◌, arith}
use Rattle.css_semantics.specs.Tasks.{window_length}
use Rattle.css_record.specs.Windows.{window}
use Rattle.css_task.specs.Placing.{uses_of}
use Rattle.css_task.specs.GivenBytes.{left_bytes}
use Rattle.css_task.proofs.Placing.{no_window, placed_at, within_all, left_written, left_fixed}
use Rattle.css_task.proofs.room.outs_of.Goals as goal
use Rattle.css_task.proofs.room.outs_of.Goals.{then-is_writable+in_ok-from_slice+in_ok-new+in_ok-push, else-is_writable}

pub length-requires : goal.length-requires
length-requires c =
    let i = c.loop-placed.placed-index in
    c.requires.placed.windows i (get_or c.args.all.now i no_window) (placed_at c.args.all.now i (omega arith))

pub overflow_add-end : goal.overflow_add-end
overflow_add-end c =
    let i = c.loop-placed.placed-index in
    let p = get_or c.args.all.now i no_window in
    let at = placed_at c.args.all.now i (omega arith) in
    omega (arith, within_all c.args.all.now c.requires.placed i p at, c.length.ensures, c.requires.placed.small)

pub slice_bounds-from_slice-end : goal.slice_bounds-from_slice-end
slice_bounds-from_slice-end c =
    let i = c.loop-placed.placed-index in
    let p = get_or c.args.all.now i no_window in
    let at = placed_at c.args.all.now i (omega arith) in
    omega (arith, within_all c.args.all.now c.requires.placed i p at, c.length.ensures, c.requires.long)

pub loop-placed-preserved : goal.loop-placed-preserved
loop-placed-preserved c = elim c.if-is_writable.branch [
  | then-is_writable+in_ok-from_slice+in_ok-new+in_ok-push w ↦
      let i = c.loop-placed.placed-index in
      let p = get_or c.args.all.now i no_window in
      let at = placed_at c.args.all.now i (omega arith) in
      let long : p.first + w.length.result - p.first ≡ window_length (window p.window) = omega (arith, w.length.ensures) in
      let own = w.in_ok-new.ensures ∙ w.in_ok-from_slice.ensures.items ∙ ap (λ n. take n (drop p.first c.args.bytes.now)) long in
      rw (w.outs-is, w.in_ok-push.ensures.items)
      (left_written c.args.all.now c.requires.placed i p at (sym c.is_writable.ensures ∙ w.if-is_writable.true) c.loop-placed.outs.items w.in_ok-new.field-0 c.args.bytes.now (left_bytes (uses_of c.args.all.now) c.args.bytes.now) own c.loop-placed.invariant)
  | else-is_writable w ↦
      let i = c.loop-placed.placed-index in
      let p = get_or c.args.all.now i no_window in
      let at = placed_at c.args.all.now i (omega arith) in
      rw w.outs-is
      (left_fixed c.args.all.now c.requires.placed i p at (sym c.is_writable.ensures ∙ w.if-is_writable.false) c.loop-placed.outs.items c.args.bytes.now (left_bytes (uses_of c.args.all.now) c.args.bytes.now) c.loop-placed.invariant)
]
