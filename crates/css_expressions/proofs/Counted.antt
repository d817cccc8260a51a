-- Arguments of the library's calls.
use Rattle.std.proofs.Common.{◌≡◌, ℕ, List, [], ◌∷◌, ◌++◌, length, Some, None, refl, arith}
use Rattle.css_base.specs.declared.static_fault.StaticName.TheVariants.{TypeMismatch}
use Rattle.css_core.specs.Core.{Expression}
use Rattle.css_types.specs.Types.{CType}
use Rattle.css_types.specs.Scopes.{Getchar, Puts}
use Rattle.css_types.specs.Judged.{broken}
use Rattle.css_types.specs.Operands.{Operand}
use Rattle.css_types.specs.Formats.{with_one, library_call}
use Rattle.css_type_table.specs.Lists.{Lists}
use Rattle.css_operands.specs.declared.operand.Operand as code
use Rattle.css_operands.specs.Shapes.{operands_of}
use Rattle.css_expressions.specs.Seen.{IsNotOne}

-- one behind none is one, and one behind some isn't
pub only_one : {A : Type 0} (front : List A) (a : A) → length front ≡ 0 → front ++ a ∷ [] ≡ a ∷ []
only_one [] a none = refl
only_one (b ∷ front) a none = absurd (omega arith)

pub not_one : {A : Type 0} (front : List A) (a : A) → (length front ≡ 0 → ⊥) → IsNotOne (front ++ a ∷ [])
not_one [] a some = absurd (some refl)
not_one (b ∷ []) a some = tt
not_one (b ∷ c ∷ front) a some = tt

pub not_with_one : (lists : Lists) (line : ℕ) (t : CType) (arguments : List code.Operand) (made : Expression → Operand) → IsNotOne arguments
    → with_one line t (operands_of lists arguments) made ≡ broken TypeMismatch line
not_with_one lists line t [] made other = refl
not_with_one lists line t (a ∷ []) made other = absurd other
not_with_one lists line t (a ∷ b ∷ arguments) made other = refl

pub puts_more : (lists : Lists) (line : ℕ) (bytes : List ℕ) (arguments : List code.Operand) → (length arguments ≡ 0 → ⊥)
    → library_call line Puts (Some bytes) (operands_of lists arguments) ≡ broken TypeMismatch line
puts_more lists line bytes [] some = absurd (some refl)
puts_more lists line bytes (a ∷ arguments) some = refl

pub getchar_more : (lists : Lists) (line : ℕ) (arguments : List code.Operand) → (length arguments ≡ 0 → ⊥) → library_call line Getchar None (operands_of lists arguments) ≡ broken TypeMismatch line
getchar_more lists line [] some = absurd (some refl)
getchar_more lists line (a ∷ arguments) some = refl

pub none_of : (lists : Lists) (arguments : List code.Operand) → length arguments ≡ 0 → operands_of lists arguments ≡ []
none_of lists [] none = refl
none_of lists (a ∷ arguments) none = absurd (omega arith)
