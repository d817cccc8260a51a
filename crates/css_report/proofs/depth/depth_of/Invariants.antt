use Rattle.std.proofs.Common.{◌≡◌, ◌≤◌, All, length, map}
use Rattle.css_report.specs.Depth.{AreDepths, IsMost}
use Rattle.css_report.proofs.depth.depth_of.Given as goal

abbrev pub invariant-loop-call : goal.invariant-loop-call
invariant-loop-call l = record {
  counted : length l.depths.items ≡ l.call-index;
  bounded : All (λ depth. depth ≤ length l.depths.items) l.depths.items;
  are : AreDepths (map (λ c. c.producers.items) l.calls) l.depths.items;
  most : IsMost l.depths.items l.greatest;
}
