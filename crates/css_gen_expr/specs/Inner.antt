-- What a task may reach: pieces that make no events, and call some functions alone.
use Rattle.std.specs.Prelude.{◌≡◌, ℕ, Bool, true, IsTrue, List, slice_get}
use Rattle.css_core.specs.Core.{Expression, Function}
use Rattle.css_core.specs.Confined.{is_inner, is_no_task}
use Rattle.css_isa.specs.Code.{Code}
use Rattle.css_isa.specs.Roles.{role_of}
use Rattle.css_isa.specs.Soundness.{IsQuiet}
use Rattle.css_blocks.specs.declared.part.Way.{Way}
use Rattle.css_blocks.specs.Pieces.{Piece, Skip, Then, Do, Choice, When, Loop, Catch, Exit, Unless, Invoke, Submit, Leave, is_plain, row}
use Rattle.css_gen_expr.specs.Calls as code

module _ (target : Code) (may_call : ℕ → Bool) where
  abbrev pub IsInner : Piece → Type 0
  IsInner Skip = Unit {0}
  IsInner (Then p q) = IsInner p × IsInner q
  IsInner (Do line op) = (is_plain (role_of op) ≡ true) × IsQuiet target op
  IsInner (Choice line p q) = IsInner p × IsInner q
  IsInner (When line p) = IsInner p
  IsInner (Loop line p q) = IsInner p × IsInner q
  IsInner (Catch way p) = IsInner p
  IsInner (Exit line way) = Unit {0}
  IsInner (Unless line way) = Unit {0}
  IsInner (Invoke line f count) = IsTrue (may_call f)
  IsInner (Submit line f count dims) = ⊥
  IsInner (Leave line) = Unit {0}

  -- the code of what asks for no input, no output and no heap, and calls these functions alone
  pub record AreInner (fs : List Function) : Type 0 where
    pub gives : (line : ℕ) (e : Expression) → IsTrue (is_inner may_call e) → IsInner (row (code.value fs line e))
    pub drops : (line : ℕ) (e : Expression) → IsTrue (is_inner may_call e) → IsInner (row (code.unused fs line e))
    pub chooses : (line : ℕ) (e : Expression) → IsTrue (is_inner may_call e) → (p q : Piece) → IsInner p → IsInner q → IsInner (row (code.choice fs line e p q))
    pub does : (line : ℕ) (e : Expression) → IsTrue (is_inner may_call e) → (p : Piece) → IsInner p → IsInner (row (code.when fs line e p))
    pub leaves : (line : ℕ) (way : Way) (e : Expression) → IsTrue (is_inner may_call e) → IsInner (row (code.unless fs line way e))

-- what may be called is no task
abbrev pub CallsNoTasks : List Function → (may_call : ℕ → Bool) → Type 0
CallsNoTasks fs may_call = (k : ℕ) → IsTrue (may_call k) → IsTrue (is_no_task (slice_get fs k))
