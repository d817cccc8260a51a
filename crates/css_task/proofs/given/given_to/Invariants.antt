use Rattle.std.proofs.Common.{◌≡◌, ◌++◌, length, drop, map}
use Rattle.css_record.specs.Windows.{window}
use Rattle.css_record.specs.Records.{InputsFit, uses_by}
use Rattle.css_task.specs.Cells.{addresses}
use Rattle.css_task.specs.Placing.{uses_of, AreWindows}
use Rattle.css_task.specs.GivenBytes.{given_bytes}
use Rattle.css_task.proofs.Placing.{StandFrom}
use Rattle.css_task.proofs.given.given_to.Given as goal

abbrev pub invariant-loop-part : goal.invariant-loop-part
invariant-loop-part l = record {
  given : AreWindows (drop l.part-index l.parts) (map window l.windows);
  fit : InputsFit (uses_by (drop l.part-index l.parts) (map window l.windows)) l.inputs;
  uses : uses_of l.all.items ++ uses_by (drop l.part-index l.parts) (map window l.windows) ≡ uses_by l.parts (map window l.fn.windows);
  bytes : l.bytes.items ++ given_bytes (uses_by (drop l.part-index l.parts) (map window l.windows)) l.inputs ≡ given_bytes (uses_by l.parts (map window l.fn.windows)) l.fn.inputs;
  stand : StandFrom 0 l.all.items;
  long : length l.bytes.items ≡ length (addresses (uses_of l.all.items));
}
