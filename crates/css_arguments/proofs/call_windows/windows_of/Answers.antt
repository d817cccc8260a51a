use Rattle.std.proofs.Common.{Some, map, sym, ap, ◌∙◌}
use Rattle.css_semantics.specs.Tasks as tasks
use Rattle.css_arguments.specs.Arguments.{given}
use Rattle.css_arguments.proofs.Lists.{place_map}
use Rattle.css_arguments.proofs.Looking.{within}
use Rattle.css_arguments.proofs.CallWindows.{windows_next}
use Rattle.css_arguments.proofs.call_windows.windows_of.Goals as goal

pub loop-place-preserved : goal.loop-place-preserved
loop-place-preserved c =
    let a = within c.args.arguments.now c.loop-place.place c.loop-place-test.true in
    let of = c.window_at.ensures.value a.0 a.1 in
    rw c.in_ok-push.ensures.items
    (windows_next c.args.arguments.now c.loop-place.place c.loop-place.windows.items c.window_at.result c.loop-place.invariant
    (place_map tasks.window (map given c.args.arguments.now) c.loop-place.place (given a.0) (place_map given c.args.arguments.now c.loop-place.place a.0 a.1) ∙ ap Some (sym of.is)) of.is_window)
