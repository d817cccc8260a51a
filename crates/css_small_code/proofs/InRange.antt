-- The values of expressions are ints.
use Rattle.std.proofs.Common.{◌≡◌, ℕ, ◌≤◌, ℤ, pos, Bool, true, false, Option, Some, None, if◌then◌else◌, refl, subst, IfSome, arith}
use borrow.Author.Differences.{at_most_in}
use Rattle.css_base.specs.declared.int_type.IntType.TheVariants.{Int}
use Rattle.css_num.specs.declared.operators.UnOp.{UnOp}
use Rattle.css_num.specs.declared.operators.UnOp.TheVariants as unary
use Rattle.css_num.specs.declared.operators.BinOp.{BinOp}
use Rattle.css_num.specs.declared.operators.BinOp.TheVariants as binary
use Rattle.css_num.specs.Types.{least, greatest, IsInRange}
use Rattle.css_num.specs.Operators.{truth_value, unary_value, binary_value, binary_type}
use Rattle.css_num.proofs.Ranges.{converted_in_range}
use Rattle.css_num.proofs.Values.{unary_in_range, binary_in_range}
use Rattle.css_semantics.specs.Dialogue.{Load, Tape, World, Outcome, Goes, then_do, ask}
use Rattle.css_small.specs.Tree.{Expression, Number, Variable, Element, Unary, Binary, And, Or}
use Rattle.css_small_code.specs.Meaning.{given, is_true, address_of, load, element, value_of}
use Rattle.css_small.specs.Numbers.{Scope, IsWithin}
use Rattle.css_small_code.proofs.Runs.{Gives, gives_any, gives_then}

pub number_in_range : (n : ℕ) → n ≤ 2147483647 → IsInRange Int (pos n)
number_in_range n h = record { at_least = at_most_in (least Int) (pos n) (omega arith); at_most = at_most_in (pos n) (greatest Int) (omega arith) }

pub truth_in_range : (b : Bool) → IsInRange Int (truth_value b)
truth_in_range true = number_in_range 1 (omega arith)
truth_in_range false = number_in_range 0 (omega arith)

pub unary_is_int : (op : UnOp) (v : ℤ) → IsInRange Int v → IsInRange Int (unary_value op Int v)
unary_is_int unary.Plus v h = unary_in_range unary.Plus Int v h
unary_is_int unary.Minus v h = unary_in_range unary.Minus Int v h
unary_is_int unary.Complement v h = unary_in_range unary.Complement Int v h
unary_is_int unary.Not v h = unary_in_range unary.Not Int v h

-- of ints a binary operator has type int
binary_int : (op : BinOp) → binary_type op Int ≡ Int
binary_int binary.Mul = refl
binary_int binary.Div = refl
binary_int binary.Rem = refl
binary_int binary.Add = refl
binary_int binary.Sub = refl
binary_int binary.Shl = refl
binary_int binary.Shr = refl
binary_int binary.Lt = refl
binary_int binary.Gt = refl
binary_int binary.Le = refl
binary_int binary.Ge = refl
binary_int binary.Eq = refl
binary_int binary.Ne = refl
binary_int binary.And = refl
binary_int binary.Xor = refl
binary_int binary.Or = refl

given_in_range : (o : Option ℤ) (line : ℕ) (t : Tape) → IfSome o (IsInRange Int) → Gives (IsInRange Int) (given o line t)
given_in_range None line t h = tt
given_in_range (Some v) line t h = h

pub binary_is_int : (op : BinOp) (x y : ℤ) → IsInRange Int x → IfSome (binary_value op Int x y) (IsInRange Int)
binary_is_int op x y h = subst (λ t. IfSome (binary_value op Int x y) (IsInRange t)) (binary_int op) (binary_in_range op Int x y h)

module _ (w : World) (base : ℕ) (scope : Scope) (line : ℕ) where
  -- one of two
  either : (b : Bool) (o p : Outcome ℤ) → Gives (IsInRange Int) o → Gives (IsInRange Int) p → Gives (IsInRange Int) (if b then o else p)
  either true o p h k = h
  either false o p h k = k

  -- the truth of an expression's value
  truth_of : (e : Expression) (t : Tape) → Gives (IsInRange Int) (value_of w base e line t) → Gives (IsInRange Int) (then_do (value_of w base e line t) (λ y t'. Goes (truth_value (is_true y)) t'))
  truth_of e t h = gives_then (IsInRange Int) (IsInRange Int) (value_of w base e line t) (λ y t'. Goes (truth_value (is_true y)) t') h (λ y t' _. truth_in_range (is_true y))

  load_in_range : (address : ℕ) (t : Tape) → Gives (IsInRange Int) (load w base address line t)
  load_in_range address t =
      gives_then (λ r. Unit {0}) (IsInRange Int) (ask w (Load address 4) line t) _ (gives_any (ask w (Load address 4) line t)) (λ r t' _. converted_in_range Int (pos r))

  pub value_in_range : (e : Expression) (t : Tape) → IsWithin scope e → Gives (IsInRange Int) (value_of w base e line t)
  value_in_range (Number value) t h = number_in_range value h
  value_in_range (Variable k) t h = load_in_range (address_of base k) t
  value_in_range (Element e) t h =
      gives_then (λ address. Unit {0}) (IsInRange Int) (element w base e line t) _ (gives_any (element w base e line t)) (λ address t' _. load_in_range address t')
  value_in_range (Unary op e) t h = gives_then (IsInRange Int) (IsInRange Int) (value_of w base e line t) _ (value_in_range e t h) (λ v t' in_range. unary_is_int op v in_range)
  value_in_range (Binary op a b) t h =
      gives_then (IsInRange Int) (IsInRange Int) (value_of w base a line t) _ (value_in_range a t h.0) (λ x t' first.
      gives_then (IsInRange Int) (IsInRange Int) (value_of w base b line t') _ (value_in_range b t' h.1) (λ y t'' _. given_in_range (binary_value op Int x y) line t'' (binary_is_int op x y first)))
  value_in_range (And a b) t h =
      gives_then (IsInRange Int) (IsInRange Int) (value_of w base a line t) _ (value_in_range a t h.0) (λ x t' _. either (is_true x) _ _ (truth_of b t' (value_in_range b t' h.1)) (truth_in_range false))
  value_in_range (Or a b) t h =
      gives_then (IsInRange Int) (IsInRange Int) (value_of w base a line t) _ (value_in_range a t h.0) (λ x t' _. either (is_true x) _ _ (truth_in_range true) (truth_of b t' (value_in_range b t' h.1)))
