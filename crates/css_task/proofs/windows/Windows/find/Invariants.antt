use Rattle.std.proofs.Common.{◌≡◌, drop}
use Rattle.std.specs.List.{list_any}
use Rattle.css_semantics.specs.Rules.{is_in_window}
use Rattle.css_task.specs.Placing.{uses_of}
use Rattle.css_task.proofs.windows.Windows.find.Given as goal

abbrev pub invariant-loop-number : goal.invariant-loop-number
invariant-loop-number l = record {
  same : l.self.all ≡ l.fn.self.all;
  rest : list_any (λ u. is_in_window u.window l.address l.count) (uses_of (drop l.number l.fn.self.all.items))
      ≡ list_any (λ u. is_in_window u.window l.address l.count) (uses_of l.fn.self.all.items);
}
