-- The code of conditions, which decide between pieces or lead out of a loop.
use Rattle.std.specs.Prelude.{ℕ, Bool, true, false, List, [], ◌∷◌, ◌++◌, if◌then◌else◌}
use Rattle.css_core.specs.Core.{Expression, Number, And}
use Rattle.css_core.specs.Expressions.{is_true}
use Rattle.css_core.specs.Typed.{Signature}
use Rattle.css_blocks.specs.declared.part.Way.{Way}
use Rattle.css_blocks.specs.Pieces.{Piece, When, Exit, Unless, row}
use Rattle.css_gen_expr.specs.declared.aim.Aim.TheVariants.{Tested}
use Rattle.css_gen_expr.specs.Expressions.{is_turned, sides, side, pieces_of}

-- a way out, where the cell of a test says so
abbrev pub leaves : (turned : Bool) → (line : ℕ) → Way → Piece
leaves false line way = Unless line way
leaves true line way = When line (Exit line way)

module _ (signatures : List Signature) (called : (line function count : ℕ) → List Piece) where
  abbrev pub tested : (line : ℕ) → Expression → List Piece
  tested line e = pieces_of signatures called Tested line 0 e

  -- one of two pieces
  abbrev pub choice : (line : ℕ) → Expression → (first second : Piece) → List Piece
  choice line e first second = tested line e ++ sides (is_turned e) line first second ∷ []

  -- a piece where the condition holds
  abbrev pub when : (line : ℕ) → Expression → (first : Piece) → List Piece
  when line (And a b) first = when line a (row (when line b first))
  when line e first = tested line e ++ side (is_turned e) line first ∷ []

  -- a way out where it doesn't
  abbrev pub unless : (line : ℕ) → Way → Expression → List Piece
  unless line way (Number value) = if is_true value then [] else Exit line way ∷ []
  unless line way (And a b) = unless line way a ++ unless line way b
  unless line way e = tested line e ++ leaves (is_turned e) line way ∷ []
