use Rattle.std.proofs.Common.{◌≡◌, List, length, slice_get, Some, sym, ap, ◌∙◌, subst, arith}
use Rattle.css_record.specs.declared.window.Window.{Window}
use Rattle.css_objects.specs.Table.{all_entries, objects}
use Rattle.css_objects.specs.Naming.{AreClear, given_by}
use Rattle.css_objects.proofs.Giving.{given_few, read_few, windows_long, clear_call}
use Rattle.css_objects.proofs.table.ObjectTable.name_from.Goals as goal

pub names_of-requires : goal.names_of-requires
names_of-requires g c =
    omega (
      arith,
      ap length c.deref-4.ensures.value,
      ap length c.in_ok-reads.ensures,
      read_few (all_entries c.args.self.now) (given_by c.deref.result.now c.args.arguments.now c.deref-2.result.now),
      given_few c.deref.result.now c.args.arguments.now c.deref-2.result.now,
      ap length c.deref.ensures.value,
      windows_long c.args.arguments.now c.in_ok-windows.windows.items c.in_ok-windows.ensures,
      c.requires.few,
    )

pub give_all-requires-clause-windows : goal.give_all-requires-clause-windows
give_all-requires-clause-windows g c = ap length c.deref-7.ensures.value ∙ windows_long c.args.arguments.now c.in_ok-windows.windows.items c.in_ok-windows.ensures

pub give_all-requires-clause-are : goal.give_all-requires-clause-are
give_all-requires-clause-are g c i w at = c.in_ok-windows.ensures.are i w (subst (λ (ws : List Window). slice_get ws i ≡ Some w) c.deref-7.ensures.value at)

pub give_all-requires-clause-clear : goal.give_all-requires-clause-clear
give_all-requires-clause-clear g c =
    subst (λ (ws : List Window). AreClear ws (objects c.args.self.now)) (sym c.deref-7.ensures.value)
    (clear_call c.args.arguments.now c.in_ok-windows.windows.items (objects c.args.self.now) c.in_ok-windows.ensures c.requires.apart)
