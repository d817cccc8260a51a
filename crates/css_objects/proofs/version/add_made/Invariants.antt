use Rattle.std.proofs.Common.{◌≡◌, ◌++◌, drop}
use Rattle.css_objects.specs.Versions.{made_in}
use Rattle.css_objects.proofs.version.add_made.Given as goal

abbrev pub invariant-loop-version : goal.invariant-loop-version
invariant-loop-version l = l.names.items ++ made_in (drop l.version-index l.versions) ≡ l.fn.names.items ++ made_in l.versions
