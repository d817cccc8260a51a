use Rattle.std.specs.Vec.Iter.{into_iter_items}
use Rattle.css_objects.proofs.Kept.{KeptTo}
use Rattle.css_objects.proofs.version.keep_all.Given as goal

abbrev pub invariant-loop-place : goal.invariant-loop-place
invariant-loop-place l = KeptTo l.fn.versions (into_iter_items l.fn.kept) l.place l.versions (into_iter_items l.kept)
