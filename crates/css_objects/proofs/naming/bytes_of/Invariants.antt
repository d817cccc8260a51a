use Rattle.std.proofs.Common.{◌≡◌, ◌++◌, drop}
use Rattle.css_objects.specs.Naming.{bytes_in}
use Rattle.css_objects.proofs.naming.bytes_of.Given as goal

abbrev pub invariant-loop-version : goal.invariant-loop-version
invariant-loop-version l = l.given.items ++ bytes_in (drop l.version-index l.versions) ≡ bytes_in l.versions
