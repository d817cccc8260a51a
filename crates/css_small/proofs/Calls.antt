-- Calls by the number of their arguments.
use Rattle.std.proofs.Common.{◌≡◌, ℕ, List, [], ◌∷◌, length, Vec, Global, None, refl, ap, ◌∙◌}
use Rattle.css_tree.specs.declared.expression.Expression as code
use Rattle.css_tree.specs.Syntax.{Call}
use Rattle.css_tree.specs.Shapes.{expression, listed}
use Rattle.css_tree.proofs.ChildLists.{expression-Call}
use Rattle.css_small.specs.Names.{Names}
use Rattle.css_small.specs.Trees.{effect_of, call_of}

pub with_one : (names : Names) (line at : ℕ) (name : List ℕ) (all : Vec code.Expression Global) (argument : code.Expression) → all.items ≡ argument ∷ []
    → effect_of names line (expression (code.Call at name all)) ≡ call_of names line name (expression argument)
with_one names line at name all argument is = ap (effect_of names line) (expression-Call at name all ∙ ap (λ es. Call at name (listed es)) is)

other_list : (names : Names) (line at : ℕ) (name : List ℕ) (es : List code.Expression) → (length es ≡ 1 → ⊥) → effect_of names line (Call at name (listed es)) ≡ None
other_list names line at name [] other = refl
other_list names line at name (e ∷ []) other = absurd (other refl)
other_list names line at name (e ∷ f ∷ es) other = refl

pub without_one : (names : Names) (line at : ℕ) (name : List ℕ) (all : Vec code.Expression Global) → (length all.items ≡ 1 → ⊥)
    → effect_of names line (expression (code.Call at name all)) ≡ None
without_one names line at name all other = ap (effect_of names line) (expression-Call at name all) ∙ other_list names line at name all.items other
