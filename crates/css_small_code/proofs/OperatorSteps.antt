-- The machine at an operator's code: it comes to the cell of the operator's value, or is at fault as the language is.
use Rattle.std.proofs.Common.{◌≡◌, ℕ, ◌+◌, ℤ, List, ◌∷◌, length, Some, None, arith}
use Rattle.css_base.specs.declared.int_type.IntType.TheVariants.{Int}
use Rattle.css_base.specs.declared.ending.FaultKind.TheVariants.{DivideByZero}
use Rattle.css_num.specs.declared.operators.UnOp.{UnOp}
use Rattle.css_num.specs.declared.operators.BinOp.{BinOp}
use Rattle.css_num.specs.Types.{IsInRange}
use Rattle.css_num.specs.Operators.{unary_value, binary_value}
use Rattle.css_semantics.specs.Dialogue.{Tape, World, fault}
use Rattle.css_vm.specs.Code.{Code}
use Rattle.css_vm.specs.Machine.{exec}
use Rattle.css_vm.specs.Cells.{cell_of}
use Rattle.css_small_code.specs.Code.{in_line, unary_code, binary_code}
use Rattle.css_small_code.proofs.Steps.{Running, state}
use Rattle.css_small_code.proofs.Stands.{Stands}
use Rattle.css_small_code.proofs.StraightSteps.{straight_runs}
use Rattle.css_small_code.proofs.StraightFaults.{straight_faults}
use Rattle.css_small_code.proofs.Operators.{unary_cells, binary_cells, binary_faults, binary_finds}

module _ (w : World) (code : Code) (here : Running code) (line place : ℕ) where
  pub unary_runs : (op : UnOp) (v : ℤ) (rest : List ℕ) (tape : Tape) (n : ℕ) → Stands here.routine.body place (in_line line (unary_code op)) → IsInRange Int v → exec w code (length (unary_code op) + n) (state w code here place (cell_of v ∷ rest)) tape ≡ exec w code n (state w code here (place + length (unary_code op)) (cell_of (unary_value op Int v) ∷ rest)) tape
  unary_runs op v rest tape n stands range =
      straight_runs w code here line (unary_code op) place (cell_of v ∷ rest) (cell_of (unary_value op Int v) ∷ rest) tape n stands (unary_cells op v rest range)

  pub binary_runs : (op : BinOp) (x y z : ℤ) (rest : List ℕ) (tape : Tape) (n : ℕ) → Stands here.routine.body place (in_line line (binary_code op)) → IsInRange Int x → IsInRange Int y → binary_value op Int x y ≡ Some z → exec w code (length (binary_code op) + n) (state w code here place (cell_of y ∷ cell_of x ∷ rest)) tape ≡ exec w code n (state w code here (place + length (binary_code op)) (cell_of z ∷ rest)) tape
  binary_runs op x y z rest tape n stands first second gives =
      straight_runs w code here line (binary_code op) place (cell_of y ∷ cell_of x ∷ rest) (cell_of z ∷ rest) tape n stands (binary_cells op x y z rest first second gives)

  pub binary_stops : (op : BinOp) (x y : ℤ) (rest : List ℕ) (tape : Tape) (n : ℕ) → Stands here.routine.body place (in_line line (binary_code op)) → IsInRange Int x → IsInRange Int y → binary_value op Int x y ≡ None → exec w code (length (binary_code op) + n) (state w code here place (cell_of y ∷ cell_of x ∷ rest)) tape ≡ fault DivideByZero line tape
  binary_stops op x y rest tape n stands first second none =
      straight_faults w code here line (binary_code op) place (length rest + 2) (cell_of y ∷ cell_of x ∷ rest) tape n stands (binary_finds code op (length rest)) (omega arith) (binary_faults op x y rest first second none)
