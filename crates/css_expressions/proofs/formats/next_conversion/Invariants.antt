use Rattle.std.proofs.Common.{◌≡◌, ℕ, List, length, map}
use Rattle.css_core.specs.Shapes.{piece}
use Rattle.css_types.specs.Formats.{shown}
use Rattle.css_types.specs.Operands.{Operand}
use Rattle.css_expressions.proofs.formats.next_conversion.Given as goal

abbrev pub invariant-loop-first : goal.invariant-loop-first
invariant-loop-first l = (line : ℕ) (all : List Operand) → shown line (map piece l.rest) all ≡ shown line (map piece l.fn.pieces) all

abbrev pub decreases-loop-first : goal.decreases-loop-first
decreases-loop-first l = length l.rest
