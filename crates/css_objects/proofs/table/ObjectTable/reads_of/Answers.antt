use Rattle.std.proofs.Common.{length, get_or, arith, refl, sym, ◌∙◌}
use Rattle.std.proofs.lemmas.Option.{slice_get_read}
use Rattle.css_record.specs.declared.window.Window.{Window}
use Rattle.css_arguments.specs.declared.argument.Argument.{Argument}
use Rattle.css_objects.specs.Table.{all_entries}
use Rattle.css_objects.specs.Naming.{Given, given_by}
use Rattle.css_arguments.proofs.Measures.{at_get_or}
use Rattle.css_objects.proofs.Giving.{given_at, given_few, read_begin, read_none, read_some, read_end}
use Rattle.css_objects.proofs.table.ObjectTable.reads_of.Goals as goal
use Rattle.css_objects.proofs.table.ObjectTable.reads_of.Goals.{in-Some+in_ok-push-in-Some, in-None}

pub loop-place-init : goal.loop-place-init
loop-place-init g c = rw c.new-versions.ensures.items (read_begin (all_entries c.args.self.now) (given_by c.args.windows.now c.args.arguments.now c.args.snapshots.now))

pub loop-place-preserved : goal.loop-place-preserved
loop-place-preserved g c =
    let zero : Window = record { base = 0; rows = 0; width = 0; stride = 0 } in
    let w : Window = get_or c.args.windows.now c.loop-place.place zero in
    let a : Argument = get_or c.args.arguments.now c.loop-place.place c.index-arguments-place.result in
    let s = c.index-snapshots-place.result in
    let g : Given = record { window = w; direction = a.direction; snapshot = s } in
    let at =
    given_at c.args.windows.now c.args.arguments.now c.args.snapshots.now c.loop-place.place w a s
    (at_get_or c.args.windows.now c.loop-place.place zero (omega (arith, c.requires.windows, c.loop-place-test.true)))
    (at_get_or c.args.arguments.now c.loop-place.place c.index-arguments-place.result c.loop-place-test.true)
    (slice_get_read c.args.snapshots.now (length c.args.snapshots.now) c.loop-place.place c.index-snapshots-place.result refl (omega (arith, c.requires.snapshots, c.loop-place-test.true)) c.index-snapshots-place.is) in
    elim c.match-branch-2.branch [
      | in-Some+in_ok-push-in-Some k ↦
          rw (k.versions-is, k.in_ok-push-in-Some.ensures.items)
          (read_some (all_entries c.args.self.now) (given_by c.args.windows.now c.args.arguments.now c.args.snapshots.now) c.loop-place.place c.loop-place.versions.items g k.in-Some.v c.loop-place.invariant at
          (sym k.in-Some.is ∙ c.in_ok-v.ensures))
      | in-None k ↦
          rw k.versions-is
          (read_none (all_entries c.args.self.now) (given_by c.args.windows.now c.args.arguments.now c.args.snapshots.now) c.loop-place.place c.loop-place.versions.items g c.loop-place.invariant at
          (sym k.in-None.is ∙ c.in_ok-v.ensures))
    ]

pub returns : goal.returns
returns g c =
    read_end (all_entries c.args.self.now) (given_by c.args.windows.now c.args.arguments.now c.args.snapshots.now) c.loop-place.place c.loop-place.versions.items c.loop-place.invariant
    (omega (arith, given_few c.args.windows.now c.args.arguments.now c.args.snapshots.now, c.requires.windows, c.loop-place-test.false))
