use Rattle.std.proofs.Common.{◌≡◌, ◌≤◌, ◌-◌, map, drop, length, vec_capacity}
use Rattle.css_isa.specs.Code.{datum}
use Rattle.css_memory.specs.Starts.{first_bytes}
use Rattle.css_memory.proofs.start.first_bytes.Given as goal

abbrev pub invariant-loop-done : goal.invariant-loop-done
invariant-loop-done l = record {
  bytes : l.bytes.items ≡ first_bytes (map datum (drop (length l.datums - l.done) l.datums)) l.size;
  room : l.room ≤ vec_capacity l.bytes;
}
