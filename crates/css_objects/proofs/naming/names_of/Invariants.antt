use Rattle.std.proofs.Common.{◌≡◌, ◌≤◌, ◌++◌, drop}
use Rattle.css_objects.specs.Naming.{names_in}
use Rattle.css_objects.proofs.naming.names_of.Given as goal

abbrev pub invariant-loop-version : goal.invariant-loop-version
invariant-loop-version l = record {
  named : l.names.items ++ names_in l.given (drop l.version-index l.versions) ≡ names_in 0 l.versions;
  few : l.given ≤ l.version-index;
}
