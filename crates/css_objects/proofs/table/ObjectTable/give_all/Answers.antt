use Rattle.std.proofs.Common.{◌+◌, drop, get_or, Some, arith, sym, ap, ◌∙◌}
use Rattle.css_record.specs.declared.window.Window.{Window}
use Rattle.css_arguments.specs.declared.argument.Argument.{Argument}
use Rattle.css_objects.specs.Table.{all_entries}
use Rattle.css_objects.specs.Naming.{given_by}
use Rattle.css_arguments.proofs.Looking.{within, drop_at}
use Rattle.css_arguments.proofs.Measures.{at_get_or}
use Rattle.css_objects.proofs.Giving.{given_at, given_few, given_next, given_end}
use Rattle.css_objects.proofs.table.ObjectTable.give_all.Goals as goal

pub give-requires-clause-is_window : goal.give-requires-clause-is_window
give-requires-clause-is_window g c =
    let zero : Window = record { base = 0; rows = 0; width = 0; stride = 0 } in
    c.requires.are c.loop-place.place (get_or c.args.windows.now c.loop-place.place zero) (at_get_or c.args.windows.now c.loop-place.place zero c.loop-place-test.true)

pub give-requires-clause-clear : goal.give-requires-clause-clear
give-requires-clause-clear g c =
    let zero : Window = record { base = 0; rows = 0; width = 0; stride = 0 } in
    c.loop-place.invariant.entered.clear c.loop-place.place (get_or c.args.windows.now c.loop-place.place zero) (at_get_or c.args.windows.now c.loop-place.place zero c.loop-place-test.true)

pub loop-place-preserved : goal.loop-place-preserved
loop-place-preserved g c =
    let zero : Window = record { base = 0; rows = 0; width = 0; stride = 0 } in
    let w : Window = get_or c.args.windows.now c.loop-place.place zero in
    let a : Argument = get_or c.args.arguments.now c.loop-place.place c.index-arguments-place.result in
    let of_w = at_get_or c.args.windows.now c.loop-place.place zero c.loop-place-test.true in
    let of_a = at_get_or c.args.arguments.now c.loop-place.place c.index-arguments-place.result (omega (arith, c.requires.windows, c.loop-place-test.true)) in
    let s = within c.args.snapshots.items c.loop-place.place (omega (arith, c.requires.windows, c.requires.snapshots, c.loop-place-test.true)) in
    let next =
    c.next_of-snapshot.ensures s.0 (drop (c.loop-place.place + 1) c.args.snapshots.items)
    (c.loop-place.invariant.rest ∙ drop_at c.args.snapshots.items c.loop-place.place s.0 s.1) in
    record {
      entered =
          rw c.in_ok-out.ensures.out
          (given_next c.args.number c.args.windows.now (given_by c.args.windows.now c.args.arguments.now c.args.snapshots.items) (all_entries c.args.self.now) c.loop-place.place c.loop-place.out
          (all_entries c.loop-place.self) (all_entries c.give.new.self) (record { window = w; direction = a.direction; snapshot = c.next_of-snapshot.result }) c.loop-place.invariant.entered
          (given_at c.args.windows.now c.args.arguments.now c.args.snapshots.items c.loop-place.place w a c.next_of-snapshot.result of_w of_a (s.1 ∙ ap Some (sym next.0)))
          (λ i v of_v. c.requires.clear.windows_clear i v of_v c.loop-place.place w of_w) c.in_ok-out.ensures.entered);
      rest = next.1;
    }

pub returns : goal.returns
returns g c =
    given_end c.args.number c.args.windows.now (given_by c.args.windows.now c.args.arguments.now c.args.snapshots.items) (all_entries c.args.self.now) c.loop-place.place c.loop-place.out
    (all_entries c.loop-place.self) c.loop-place.invariant.entered (omega (arith, given_few c.args.windows.now c.args.arguments.now c.args.snapshots.items, c.loop-place-test.false))
