-- In a program whose types fit, waits and dimensions do nothing but load.
use Rattle.std.proofs.Common.{◌&&◌, Bool, true, false, IsTrue, Option, Some, None, List, [], ◌∷◌, map, refl, arith}
use Rattle.std.specs.Prelude.{All}
use Rattle.std.proofs.lemmas.List.Elements.{All-head, All-tail, All-cons}
use Rattle.css_base.specs.declared.int_type.IntType.{IntType}
use Rattle.css_core.specs.Core.{Expression, Number, Given, Convert, Unary, Binary, And, Or, Choice, Sequence, Expressions, Empty, More, Statement, Block, If, Loop, Await, Statements, Nothing, Then, Part, Scalar, Window, Task, Function, Program}
use Rattle.css_core.specs.Quiet.{is_quiet, is_computed, AreQuiet}
use Rattle.css_core.specs.Typed.{Signature, signature, AreAddresses, IsTypedStatement, AreTyped, AreDimensions, ArePartsOf, IsTaskOf, IsTypedFunction, IsTypedProgram}
use Rattle.css_core.specs.Without.{WaitsQuietly, AllWaitQuietly, MeasuresQuietly, HasQuietTask, IsQuietFunction, IsQuietProgram}

-- what holds of both holds of both
both_by : (a b c d : Bool) → (IsTrue a → IsTrue c) → (IsTrue b → IsTrue d) → IsTrue (a && b) → IsTrue (c && d)
both_by true b true d first second h = second h
both_by true b false d first second h = first refl
both_by false b c d first second h = cc

computed_is_quiet : (e : Expression) → IsTrue (is_computed e) → IsTrue (is_quiet e)
computed_is_quiet (Number value) h = refl
computed_is_quiet (Given k) h = refl
computed_is_quiet (Convert t e) h = computed_is_quiet e h
computed_is_quiet (Unary op t e) h = computed_is_quiet e h
computed_is_quiet (Binary op t a b) h = both_by (is_computed a) (is_computed b) (is_quiet a) (is_quiet b) (computed_is_quiet a) (computed_is_quiet b) h
computed_is_quiet (And a b) h = both_by (is_computed a) (is_computed b) (is_quiet a) (is_quiet b) (computed_is_quiet a) (computed_is_quiet b) h
computed_is_quiet (Or a b) h = both_by (is_computed a) (is_computed b) (is_quiet a) (is_quiet b) (computed_is_quiet a) (computed_is_quiet b) h
computed_is_quiet (Choice test a b) h =
    both_by (is_computed test) (is_computed a && is_computed b) (is_quiet test) (is_quiet a && is_quiet b) (computed_is_quiet test)
    (both_by (is_computed a) (is_computed b) (is_quiet a) (is_quiet b) (computed_is_quiet a) (computed_is_quiet b)) h
computed_is_quiet (Sequence a b) h = both_by (is_computed a) (is_computed b) (is_quiet a) (is_quiet b) (computed_is_quiet a) (computed_is_quiet b) h
computed_is_quiet e h = cc

module _ (signatures : List Signature) where
  quiet_places : (places : Expressions) → AreAddresses signatures places → AreQuiet places
  quiet_places Empty h = tt
  quiet_places (More e others) h = (h.1, quiet_places others h.2)

  mutual
    quiet_waits : (result : IntType) (in_loop : Bool) (s : Statement) → IsTypedStatement signatures result in_loop s → WaitsQuietly s
    quiet_waits result in_loop (Block all) h = all_quiet_waits result in_loop all h
    quiet_waits result in_loop (If line test s other) h = (quiet_waits result in_loop s h.1, quiet_waits result in_loop other h.2)
    quiet_waits result in_loop (Loop line tests_first test step body) h = quiet_waits result true body h.2
    quiet_waits result in_loop (Await line places) h = quiet_places places h
    quiet_waits result in_loop s h = tt

    all_quiet_waits : (result : IntType) (in_loop : Bool) (all : Statements) → AreTyped signatures result in_loop all → AllWaitQuietly all
    all_quiet_waits result in_loop Nothing h = tt
    all_quiet_waits result in_loop (Then s others) h = (quiet_waits result in_loop s h.0, all_quiet_waits result in_loop others h.1)

  quiet_dimensions : (given : List IntType) (all : Expressions) → AreDimensions signatures given all → AreQuiet all
  quiet_dimensions given Empty h = tt
  quiet_dimensions given (More e others) h = (computed_is_quiet e h.1, quiet_dimensions given others h.2)

  quiet_parts : (given types : List IntType) (parts : List Part) → ArePartsOf signatures given types parts → MeasuresQuietly parts
  quiet_parts given [] [] h = tt
  quiet_parts given [] (part ∷ parts) h = absurd h
  quiet_parts given (t ∷ types) [] h = tt
  quiet_parts given (t ∷ types) (Scalar ∷ parts) h = quiet_parts given types parts h
  quiet_parts given (t ∷ types) (Window direction element is_strided dimensions ∷ parts) h = (quiet_dimensions given dimensions h.3, quiet_parts given types parts h.4)

  quiet_task : (f : Function) (task : Option Task) → IsTaskOf signatures f task → HasQuietTask task
  quiet_task f None h = tt
  quiet_task f (Some task) h = quiet_parts f.parameters f.parameters task.parts h.1

  quiet_function : (f : Function) → IsTypedFunction signatures f → IsQuietFunction f
  quiet_function f typed = (quiet_task f f.task typed.task, all_quiet_waits f.result false f.body typed.body)

  quiet_functions : (fs : List Function) → All (IsTypedFunction signatures) fs → All IsQuietFunction fs
  quiet_functions [] typed = λ k d less. absurd (omega arith)
  quiet_functions (f ∷ fs) typed =
      All-cons IsQuietFunction f fs (quiet_function f (All-head (IsTypedFunction signatures) f fs typed)) (quiet_functions fs (All-tail (IsTypedFunction signatures) f fs typed))

pub typed_is_quiet : (p : Program) → IsTypedProgram p → IsQuietProgram p
typed_is_quiet p typed = quiet_functions (map signature p.functions) p.functions typed.functions
