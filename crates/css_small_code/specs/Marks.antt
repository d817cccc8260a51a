-- Programs without directives, and code that makes no task and tells the runtime nothing.
use Rattle.std.specs.Prelude.{◌≡◌, false, All}
use Rattle.css_vm.specs.declared.code.Op.{Op}
use Rattle.css_vm.specs.declared.code.Op.TheVariants as ops
use Rattle.css_vm.specs.Code.{Code}
use Rattle.css_small.specs.Tree.{Statement, Mark, Block, If, IfElse, While, Statements, End, More, Program}

-- no directive stands in a statement
abbrev mutual
  pub IsUnmarked : Statement → Type 0
  IsUnmarked (Mark line kind) = ⊥
  IsUnmarked (Block line all) = AreUnmarked all
  IsUnmarked (If line e s) = IsUnmarked s
  IsUnmarked (IfElse line e s other) = IsUnmarked s × IsUnmarked other
  IsUnmarked (While line e s) = IsUnmarked s
  IsUnmarked s = Unit {0}

  pub AreUnmarked : Statements → Type 0
  AreUnmarked End = Unit {0}
  AreUnmarked (More s rest) = IsUnmarked s × AreUnmarked rest

-- no function of the program is a task, and no directive stands in it
pub record HasNoDirectives (p : Program) : Type 0 where
  pub functions : All (λ f. (f.is_task ≡ false) × AreUnmarked f.body) p.functions
  pub main : AreUnmarked p.main.body

-- an instruction neither makes a task nor tells the runtime of a mark
abbrev pub IsNoMark : Op → Type 0
IsNoMark (ops.Submit k) = ⊥
IsNoMark (ops.Mark kind) = ⊥
IsNoMark op = Unit {0}

abbrev pub HasNoMarks : Code → Type 0
HasNoMarks code = All (λ f. All (λ i. IsNoMark i.op) f.body) code.functions
