use Rattle.std.proofs.Common.{take}
use Rattle.css_objects.specs.Naming.{AreMakers}
use Rattle.css_objects.proofs.naming.makers_of.Given as goal

abbrev pub invariant-loop-version : goal.invariant-loop-version
invariant-loop-version l = AreMakers (take l.version-index l.versions) l.tasks.items
