-- Words of private contracts.
use Rattle.std.specs.Prelude.{ℕ, Bool, true, false}
use Rattle.css_types.specs.Types.{CType, Void, Pointer}
use Rattle.css_types.specs.Judged.{Judged}
use Rattle.css_types.specs.Operands.{Operand, conjunction, disjunction}

-- `&&` and `||` as one
abbrev pub judged_decision : (line : ℕ) → (by : Bool) → Operand → Operand → Judged Operand
judged_decision line false a b = conjunction line a b
judged_decision line true a b = disjunction line a b

abbrev pub is_void_pointer : CType → Bool
is_void_pointer (Pointer Void) = true
is_void_pointer t = false
