-- THE elaboration of expressions: what an expression is in the core and its type, or the first rule that it breaks. Operands come in
-- order of text and before their operator.
use Rattle.std.specs.Prelude.{ℕ, Bool, true, false, List, [], ◌∷◌, option_map, Option, Some, None, Ok, is_some, if◌then◌else◌}
use Rattle.css_base.specs.declared.static_fault.StaticName.TheVariants.{Undeclared, TypeMismatch}
use Rattle.css_num.specs.declared.operators.BinOp.TheVariants as binary
use Rattle.css_tree.specs.Syntax as syntax
use Rattle.css_core.specs.Core.{Old, New}
use Rattle.css_types.specs.Types.{CType, type_of_name}
use Rattle.css_types.specs.Judged.{Judged, broken, after, expected}
use Rattle.css_types.specs.Scopes.{Scope, Meaning, found, Library, Puts, Printf, library_of}
use Rattle.css_types.specs.Operands.{Operand, number, value_of, unary_operand, cast, size_operand, binary_operand, indexed, sequence, conditional, assignment, stepped, meant, called}
use Rattle.css_types.specs.Formats.{library_call}

abbrev pub typed_by : (line : ℕ) → syntax.TypeName → Judged CType
typed_by line name = expected TypeMismatch line (type_of_name name)

-- the same as a value
abbrev pub as_value : Judged Operand → Judged Operand
as_value judged = after judged (λ a. Ok (value_of a))

-- `puts` and `printf` take a literal first
abbrev pub takes_literal : Library → Bool
takes_literal Puts = true
takes_literal Printf = true
takes_literal f = false

-- a literal that stands first among arguments
abbrev pub literal_of : syntax.Expressions → Option (List ℕ)
literal_of (syntax.More (syntax.Text at bytes) others) = Some bytes
literal_of arguments = None

-- in a scope, in a statement with this line
module _ (scope : Scope) (line : ℕ) where
  -- what a name means, where it is declared (C99 6.5.1)
  abbrev pub meaning_of : List ℕ → Judged Meaning
  meaning_of name = expected Undeclared line (option_map (λ b. b.meaning) (found scope name))

  -- a name alone: the library's functions are no values
  abbrev pub named : List ℕ → Judged Operand
  named name = if is_some (library_of name) then broken TypeMismatch line else after (meaning_of name) (meant line)

  -- A call: the name is looked up, then the arguments, then what is called. Of the library's functions some take a literal first.
  abbrev pub library_by : Library → (takes : Bool) → (literal : Option (List ℕ)) → (all behind : Judged (List Operand)) → Judged Operand
  library_by f true (Some bytes) all behind = after behind (library_call line f (Some bytes))
  library_by f takes literal all behind = after all (library_call line f None)

  abbrev pub call_by : Judged Meaning → Option Library → (literal : Option (List ℕ)) → (all behind : Judged (List Operand)) → Judged Operand
  call_by m (Some f) literal all behind = library_by f (takes_literal f) literal all behind
  call_by m None literal all behind = after m (λ m. after all (called line m))

  abbrev mutual
    pub operand_of : syntax.Expression → Judged Operand
    operand_of (syntax.Number at t v) = Ok (number t v)
    operand_of (syntax.Name at name) = named name
    operand_of (syntax.Text at bytes) = broken TypeMismatch line
    operand_of (syntax.Unary at op a) = after (operand_of a) (unary_operand line op)
    operand_of (syntax.Binary at a op b) = after (as_value (operand_of a)) (λ a. after (as_value (operand_of b)) (binary_operand line op a))
    operand_of (syntax.Index at a i) = after (as_value (operand_of a)) (λ a. after (as_value (operand_of i)) (indexed line a))
    operand_of (syntax.Comma at a b) = after (as_value (operand_of a)) (λ a. after (as_value (operand_of b)) (λ b. Ok (sequence a b)))
    operand_of (syntax.Conditional at c a b) = after (as_value (operand_of c)) (λ c. after (as_value (operand_of a)) (λ a. after (as_value (operand_of b)) (conditional line c a)))
    operand_of (syntax.Assign at p op a) = after (operand_of p) (λ p. after (as_value (operand_of a)) (assignment line op p))
    operand_of (syntax.PreIncrement at p) = after (operand_of p) (stepped line New binary.Add)
    operand_of (syntax.PreDecrement at p) = after (operand_of p) (stepped line New binary.Sub)
    operand_of (syntax.PostIncrement at p) = after (operand_of p) (stepped line Old binary.Add)
    operand_of (syntax.PostDecrement at p) = after (operand_of p) (stepped line Old binary.Sub)
    operand_of (syntax.Cast at to a) = after (typed_by line to) (λ t. after (as_value (operand_of a)) (cast line t))
    operand_of (syntax.SizeofType at to) = after (typed_by line to) (size_operand line)
    operand_of (syntax.SizeofExpression at a) = after (operand_of a) (λ a. size_operand line a.t)
    operand_of (syntax.Call at name arguments) =
        call_by (meaning_of name) (library_of name) (literal_of arguments) (values_in arguments) (values_behind arguments)

    pub values_in : syntax.Expressions → Judged (List Operand)
    values_in syntax.End = Ok []
    values_in (syntax.More a others) = after (as_value (operand_of a)) (λ a. after (values_in others) (λ rest. Ok (a ∷ rest)))

    -- without a literal that stands first
    pub values_behind : syntax.Expressions → Judged (List Operand)
    values_behind syntax.End = Ok []
    values_behind (syntax.More (syntax.Text at bytes) others) = values_in others
    values_behind (syntax.More a others) = after (as_value (operand_of a)) (λ a. after (values_in others) (λ rest. Ok (a ∷ rest)))
