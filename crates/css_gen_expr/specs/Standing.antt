-- That the code of expressions finds its cells, and how many it leaves.
use Rattle.std.specs.Prelude.{◌≡◌, ℕ, suc, List, [], length, map, Some, option_map, slice_get, IsTrue}
use Rattle.css_base.specs.declared.int_type.IntType.TheVariants.{UInt}
use Rattle.css_semantics.specs.Dialogue.{Plain, Waiting}
use Rattle.css_core.specs.Core.{Expression, Function}
use Rattle.css_core.specs.Quiet.{is_quiet}
use Rattle.css_core.specs.Typed.{signature, HasType, IsTyped}
use Rattle.css_isa.specs.Code.{Code, Routine}
use Rattle.css_blocks.specs.declared.part.Way.{Way}
use Rattle.css_blocks.specs.Pieces.{Piece, Ways, at_way, row}
use Rattle.css_blocks.specs.Finds.{Level, level, behind, Finds}
use Rattle.css_gen_expr.specs.Calls as code
use Rattle.css_gen_expr.specs.Calls.{shape_of}

module _ (target : Code) where
  -- a piece finds its cells at a level, and leaves another
  pub record Stands (ls : Ways Level) (p : Piece) (l m : Level) : Type 0 where
    pub finds : Finds target ls p l
    pub leaves : behind target p l ≡ m

  module _ (fs : List Function) where
    -- code has these functions: each takes as many arguments, and is a task of the same shape
    pub record HasFunctions : Type 0 where
      pub there : (k : ℕ) (f : Function) → slice_get fs k ≡ Some f
          → (r : Routine) × (slice_get target.functions k ≡ Some r) × (length r.parameters ≡ length f.parameters) × (r.task ≡ option_map shape_of f.task)

    pub record FindTheirCells : Type 0 where
      pub gives : (line : ℕ) (e : Expression) → IsTyped (map signature fs) e → (ls : Ways Level) (h : ℕ) → Stands ls (row (code.value fs line e)) (level h Plain) (level (suc h) Plain)
      pub waited : (line : ℕ) (e : Expression) → HasType (map signature fs) [] e UInt → IsTrue (is_quiet e) → (ls : Ways Level) (h : ℕ) → Stands ls (row (code.value fs line e)) (level h Waiting) (level (suc h) Waiting)
      pub drops : (line : ℕ) (e : Expression) → IsTyped (map signature fs) e → (ls : Ways Level) (h : ℕ) → Stands ls (row (code.unused fs line e)) (level h Plain) (level h Plain)
      pub chooses : (line : ℕ) (e : Expression) → IsTyped (map signature fs) e → (p q : Piece) (ls : Ways Level) (h : ℕ) (m : Level) → Stands ls p (level h Plain) m → Stands ls q (level h Plain) m
          → Stands ls (row (code.choice fs line e p q)) (level h Plain) m
      pub does : (line : ℕ) (e : Expression) → IsTyped (map signature fs) e → (p : Piece) (ls : Ways Level) (h : ℕ) → Stands ls p (level h Plain) (level h Plain)
          → Stands ls (row (code.when fs line e p)) (level h Plain) (level h Plain)
      pub parts : (line : ℕ) (way : Way) (e : Expression) → IsTyped (map signature fs) e → (ls : Ways Level) (h : ℕ) → at_way ls way ≡ level h Plain
          → Stands ls (row (code.unless fs line way e)) (level h Plain) (level h Plain)
