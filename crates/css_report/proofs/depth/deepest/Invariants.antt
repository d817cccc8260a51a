use Rattle.std.proofs.Common.{◌≤◌, length, take}
use Rattle.css_report.specs.Depth.{IsMost, depths_at}
use Rattle.css_report.proofs.depth.deepest.Given as goal

abbrev pub invariant-loop-place : goal.invariant-loop-place
invariant-loop-place l = record {
  is : IsMost (depths_at l.depths (take l.place-index l.places)) l.most;
  bounded : l.most ≤ length l.depths;
}
