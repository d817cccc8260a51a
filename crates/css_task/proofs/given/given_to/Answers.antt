use Rattle.std.proofs.Common.{◌≡◌, ◌+◌, Some, length, drop, map, slice_get, get_or, ap, ◌∙◌, arith}
use Rattle.std.proofs.lemmas.Option.{slice_get-get_or}
use Rattle.css_vm.specs.declared.code.ArgShape.TheVariants as shapes
use Rattle.css_record.specs.Windows.{window}
use Rattle.css_record.specs.Records.{uses_by}
use Rattle.css_task.specs.GivenBytes.{given_bytes}
use Rattle.css_task.proofs.Placing.{are_placed, drop_at}
use Rattle.css_task.proofs.GivenWindows.{SoFar, scalar_step, window_step}
use Rattle.css_task.proofs.given.given_to.Goals as goal
use Rattle.css_task.proofs.given.given_to.Goals.{in-Scalar, in-Window+in-Some+in_ok-push-in-Window+in_ok-inputs-in-Window}

pub returns-clause-placed : goal.returns-clause-placed
returns-clause-placed c =
    are_placed c.loop-part.all.items c.loop-part.invariant.stand (omega (arith, c.loop-part.bytes.ok.0, c.loop-part.bytes.small, c.loop-part.invariant.long))

pub loop-part-preserved : goal.loop-part-preserved
loop-part-preserved c =
    let i = c.loop-part.part-index in
    let parts = c.args.parts.now in
    let us = uses_by parts (map window c.args.windows.now) in
    let whole = given_bytes us c.args.inputs.now in
    let inv = c.loop-part.invariant in
    let so_far : SoFar (drop i parts) (map window c.loop-part.windows.now) c.loop-part.inputs.now c.loop-part.all.items c.loop-part.bytes.items us whole =
    record { given = inv.given; fit = inv.fit; uses_are = inv.uses; bytes_are = inv.bytes; stand = inv.stand; long = inv.long } in
    let at : slice_get parts i ≡ Some (get_or parts i shapes.Scalar) = slice_get-get_or parts i shapes.Scalar (omega arith) in
    elim c.match-part.branch [
      | in-Scalar w ↦
          let next = scalar_step (drop i parts) (drop (i + 1) parts) (map window c.loop-part.windows.now) c.loop-part.inputs.now c.loop-part.all.items c.loop-part.bytes.items us whole
          (drop_at parts i shapes.Scalar (at ∙ ap Some w.in-Scalar.is)) so_far in
          rw (w.all-is, w.bytes-is, w.windows-is, w.inputs-is)
          (record { given = next.given; fit = next.fit; uses = next.uses_are; bytes = next.bytes_are; stand = next.stand; long = next.long })
      | in-Window+in-Some+in_ok-push-in-Window+in_ok-inputs-in-Window w ↦
          let d = w.in-Window.direction in
          let e = w.in-Window.element in
          let n = w.in-Window.dims in
          let s = w.in-Window.strided in
          let first_is : w.len.result ≡ length c.loop-part.bytes.items = omega (arith, w.len.ensures, c.loop-part.bytes.ok.0) in
          let next = window_step (drop i parts) d e n s (drop (i + 1) parts) w.in-Some.window.now (map window c.loop-part.windows.now) (map window w.in-Some.others.now)
          c.loop-part.inputs.now w.in_ok-inputs-in-Window.inputs.now c.loop-part.all.items w.push.new.self.items c.loop-part.bytes.items w.append.new.bytes.items us whole w.len.result
          (drop_at parts i (shapes.Window d e n s) (at ∙ ap Some w.in-Window.is)) (ap (map window) w.in-Some.ensures.cases.0) w.in_ok-inputs-in-Window.ensures.left
          w.in_ok-push-in-Window.ensures.items w.in_ok-inputs-in-Window.ensures.bytes first_is so_far in
          rw (w.all-is, w.bytes-is, w.windows-is, w.inputs-is)
          (record { given = next.given; fit = next.fit; uses = next.uses_are; bytes = next.bytes_are; stand = next.stand; long = next.long })
    ]
