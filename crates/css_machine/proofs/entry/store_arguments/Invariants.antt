use Rattle.std.proofs.Common.{◌≡◌, ℕ, ◌+◌, ◌*◌, ◌%◌, ◌^◌}
use Rattle.css_semantics.specs.Units.{with_units, metered, spending}
use Rattle.css_machine.proofs.Entries.{StoresSoFar}
use Rattle.css_machine.proofs.entry.store_arguments.Given as goal

abbrev pub invariant-loop-i : goal.invariant-loop-i
invariant-loop-i g l = record {
  address : l.address ≡ (l.base + 8 * l.i) % 2 ^ 32;
  so_far : (units : ℕ) → StoresSoFar (metered g.S.Space.reply) (spending g.S.Space.learn) l.base l.params l.arguments (with_units l.initial.space units) l.i (with_units l.space units);
  place : g.S.Space.place l.space ≡ g.S.Space.place l.initial.space;
}
