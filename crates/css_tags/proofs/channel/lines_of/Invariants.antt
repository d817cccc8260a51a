use Rattle.std.proofs.Common.{◌≡◌, ◌≤◌, map, take, length, vec_len, vec_capacity}
use Rattle.css_tags.specs.Entries.{line_of}
use Rattle.css_tags.proofs.channel.lines_of.Given as goal

abbrev pub invariant-loop-entry : goal.invariant-loop-entry
invariant-loop-entry l =
    (l.lines.items ≡ map line_of (take l.entry-index l.history)) × (vec_len l.lines ≡ l.entry-index)
    × (length l.history ≤ vec_capacity l.lines)
