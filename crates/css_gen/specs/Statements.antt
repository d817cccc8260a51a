-- Which structured code a statement is.
use Rattle.std.specs.Prelude.{ℕ, Bool, List, [], ◌∷◌, ◌++◌, if◌then◌else◌}
use Rattle.css_semantics.specs.Dialogue.{Plain}
use Rattle.css_core.specs.Core as core
use Rattle.css_core.specs.Core.{Expression, Expressions, Empty, More, Function, Directive, Statement, Eval, Block, If, Loop, Break, Continue, Return, Mark, Await, Statements, Nothing, Then}
use Rattle.css_core.specs.Statements.{Flow, Next, Broke, Continued, Returned}
use Rattle.css_isa.specs.declared.code.Op.TheVariants as ops
use Rattle.css_isa.specs.declared.code.Mark as machine
use Rattle.css_isa.specs.declared.code.Mark.TheVariants as marks
use Rattle.css_isa.specs.Cells.{cell_of}
use Rattle.css_blocks.specs.declared.part.Way.TheVariants.{Breaks, Continues}
use Rattle.css_blocks.specs.Pieces.{Piece, Skip, Do, When, Loop, Catch, Exit, Leave, row}
use Rattle.css_blocks.specs.Pieces as pieces
use Rattle.css_blocks.specs.Meaning.{Exits, Falls, Jumps, Returns}
use Rattle.css_gen_expr.specs.Calls as code

abbrev pub mark_of : Directive → machine.Mark
mark_of core.Start = marks.Start
mark_of core.Finish = marks.Finish
mark_of core.Barrier = marks.Barrier

-- among these functions
module _ (fs : List Function) where
  -- waits for one address after another
  abbrev pub waits : (line : ℕ) → Expressions → List Piece
  waits line Empty = []
  waits line (More e others) = Do line (ops.Mark marks.InWait) ∷ (code.value fs line e ++ Do line (ops.Mark marks.Outside) ∷ Do line (ops.Mark marks.Wait) ∷ waits line others)

  -- a loop that is left by `break`, and whose body is by `continue`: where the test comes first, it is in front of each turn
  abbrev pub loop : (line : ℕ) → (tests_first : Bool) → (test step : Expression) → (body : Piece) → Piece
  loop line tests_first test step body =
      if tests_first
      then Catch Breaks (Loop line (row (code.unless fs line Breaks test)) (row (Catch Continues body ∷ code.unused fs line step)))
      else Catch Breaks (Loop line Skip (row (Catch Continues body ∷ (code.unused fs line step ++ code.unless fs line Breaks test))))

  -- Break and Continue have no line of their own: theirs is that of the loop.
  abbrev mutual
    pub piece_of : (loop_line : ℕ) → Statement → Piece
    piece_of inner (Eval line e) = row (code.unused fs line e)
    piece_of inner (Block all) = pieces_of inner all
    piece_of inner (If line test s (Block Nothing)) = row (code.when fs line test (piece_of inner s))
    piece_of inner (If line test s other) = row (code.choice fs line test (piece_of inner s) (piece_of inner other))
    piece_of inner (Loop line tests_first test step body) = loop line tests_first test step (piece_of line body)
    piece_of inner Break = Exit inner Breaks
    piece_of inner Continue = Exit inner Continues
    piece_of inner (Return line e) = row (code.value fs line e ++ Leave line ∷ [])
    piece_of inner (Mark line kind) = Do line (ops.Mark (mark_of kind))
    piece_of inner (Await line places) = row (Do line (ops.Mark marks.Started) ∷ When line (row (waits line places)) ∷ [])

    pub pieces_of : (loop_line : ℕ) → Statements → Piece
    pieces_of inner Nothing = Skip
    pieces_of inner (Then s others) = pieces.Then (piece_of inner s) (pieces_of inner others)

-- how a piece is left where a statement is left so
abbrev pub exits_of : Flow → Exits
exits_of Next = Falls Plain []
exits_of Broke = Jumps Breaks Plain []
exits_of Continued = Jumps Continues Plain []
exits_of (Returned v line) = Returns (cell_of v) line
