use Rattle.std.proofs.Common.{length, ◌-◌, ◌≤◌, take}
use Rattle.css_io.specs.Outside.{Appends}
use Rattle.css_io.proofs.writing.write_all.Given as goal

abbrev pub invariant-loop-written : goal.invariant-loop-written
invariant-loop-written g l =
    (l.written ≤ length l.bytes)
    × Appends (g.O.Sink.written l.initial.out) (g.O.Sink.written l.out) (take l.written l.bytes)
    × (g.O.Sink.faults l.initial.out ≤ g.O.Sink.faults l.out)

abbrev pub decreases-loop-written : goal.decreases-loop-written
decreases-loop-written g l = length l.bytes - l.written
