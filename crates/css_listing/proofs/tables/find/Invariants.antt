use Rattle.std.proofs.Common.{◌≡◌, map, drop}
use Rattle.css_traces.specs.Words.{value_in}
use Rattle.css_listing.proofs.tables.find.Given as goal

abbrev pub invariant-loop-entry : goal.invariant-loop-entry
invariant-loop-entry g l = value_in (map (λ e. (e.0.now, e.1)) l.table) l.word ≡ value_in (map (λ e. (e.0.now, e.1)) (drop l.entry-index l.table)) l.word
