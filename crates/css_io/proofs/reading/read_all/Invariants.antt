use Rattle.std.proofs.Common.{◌≡◌, ◌-◌, ◌+◌, ◌<◌, ◌≤◌, vec_len}
use Rattle.css_io.specs.Outside.{Gives}
use Rattle.css_io.proofs.reading.read_all.Given as goal

abbrev pub invariant-loop-bytes : goal.invariant-loop-bytes
invariant-loop-bytes g l =
    (vec_len l.bytes ≤ l.limit)
    × (0 < vec_len l.piece)
    × Gives (g.I.Source.left l.initial.input) (g.I.Source.left l.input) l.bytes.items
    × (g.I.Source.taken l.input ≡ g.I.Source.taken l.initial.input + vec_len l.bytes)
    × (g.I.Source.faults l.initial.input ≤ g.I.Source.faults l.input)

abbrev pub decreases-loop-bytes : goal.decreases-loop-bytes
decreases-loop-bytes g l = l.limit - vec_len l.bytes
