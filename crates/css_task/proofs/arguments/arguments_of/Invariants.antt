use Rattle.std.proofs.Common.{◌≡◌, ℕ, List, ◌++◌, map, drop}
use Rattle.css_record.specs.Windows.{window}
use Rattle.css_record.specs.Records.{AreGiven, arguments_by}
use Rattle.css_task.proofs.arguments.arguments_of.Given as goal

abbrev pub invariant-loop-part : goal.invariant-loop-part
invariant-loop-part l = record {
  given : (parameters : List ℕ) × AreGiven (drop l.part-index l.parts) parameters l.scalars (map window l.windows);
  rest : l.arguments.items ++ arguments_by (drop l.part-index l.parts) l.scalars (map window l.windows) ≡ arguments_by l.parts l.fn.scalars (map window l.fn.windows);
}
