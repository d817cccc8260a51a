-- THE elaboration of statements: the core statement that each is, or the first rule that it breaks, in order of text. A scope is a value:
-- behind a block it is again what it was before. The frame alone goes on: objects of all blocks lie one behind another.
use Rattle.std.specs.Prelude.{ℕ, ◌+◌, pos, Bool, true, false, List, [], ◌∷◌, Option, Some, None, Ok}
use Rattle.css_base.specs.declared.static_fault.StaticName.TheVariants.{TypeMismatch}
use Rattle.css_tree.specs.Syntax as syntax
use Rattle.css_core.specs.Core as core
use Rattle.css_types.specs.Types.{CType, Void, is_scalar, is_pointer}
use Rattle.css_types.specs.Judged.{Judged, broken, after, provided}
use Rattle.css_types.specs.Scopes.{Scope}
use Rattle.css_types.specs.Operands.{Operand, converted_to}
use Rattle.css_types.specs.Expressions.{operand_of, as_value}
use Rattle.css_types.specs.Declarations.{joined, Behind, declaration}

-- where a statement stands: what can be seen, the depth of its block, whether a loop is around it, and what its function gives
pub record Place : Type 0 where
  pub scope : Scope
  pub depth : ℕ
  pub in_loop : Bool
  pub result : CType

abbrev pub inside : Place → Place
inside place = record place { depth = place.depth + 1 }

abbrev pub looping : Place → Place
looping place = record place { in_loop = true }

abbrev pub seeing : Place → Scope → Place
seeing place scope = record place { scope = scope }

-- a statement, and the next free place of the frame
pub record Done : Type 0 where
  pub s : core.Statement
  pub frame : ℕ

pub record AllDone : Type 0 where
  pub body : core.Statements
  pub frame : ℕ

-- ---- expressions of a statement

abbrev pub value_at : Place → (line : ℕ) → syntax.Expression → Judged Operand
value_at place line e = as_value (operand_of place.scope line e)

-- a condition: an integer or a pointer
abbrev pub condition_at : Place → (line : ℕ) → syntax.Expression → Judged core.Expression
condition_at place line e = after (value_at place line e) (λ a. provided (is_scalar a.t) TypeMismatch line (Ok a.e))

-- without a condition a loop goes on, and without a step nothing is done
abbrev pub test_at : Place → (line : ℕ) → Option syntax.Expression → Judged core.Expression
test_at place line None = Ok (core.Number (pos 1))
test_at place line (Some e) = condition_at place line e

abbrev pub step_at : Place → (line : ℕ) → Option syntax.Expression → Judged core.Expression
step_at place line None = Ok (core.Number (pos 0))
step_at place line (Some e) = after (value_at place line e) (λ a. Ok a.e)

-- a value where the function gives one, and none where it gives none
abbrev pub returned : Place → (line : ℕ) → CType → Option syntax.Expression → Judged core.Statement
returned place line Void None = Ok (core.Return line (core.Number (pos 0)))
returned place line t None = broken TypeMismatch line
returned place line t (Some e) =
    after (value_at place line e) (λ a. after (converted_to line t a) (λ x. Ok (core.Return line x)))

-- the addresses of a wait: pointers
abbrev pub addresses_at : Place → (line : ℕ) → List syntax.Expression → Judged core.Expressions
addresses_at place line [] = Ok core.Empty
addresses_at place line (e ∷ es) =
    after (value_at place line e) (λ a. provided (is_pointer a.t) TypeMismatch line (
    after (addresses_at place line es) (λ others. Ok (core.More a.e others))))

-- a directive in a block
abbrev pub directive_at : Place → syntax.Directive → Judged core.Statement
directive_at place (syntax.Start line) = Ok (core.Mark line core.Start)
directive_at place (syntax.Finish line) = Ok (core.Mark line core.Finish)
directive_at place (syntax.Barrier line) = Ok (core.Mark line core.Barrier)
directive_at place (syntax.Wait line addresses) = after (addresses_at place line addresses) (λ es. Ok (core.Await line es))
directive_at place (syntax.Task line clauses) = Ok (core.Block core.Nothing)

-- the start of a `for`, with its line
abbrev pub started : Place → (line frame : ℕ) → syntax.ForStart → Judged Behind
started place line frame (syntax.DeclareFirst d) = declaration place.scope place.depth line frame d
started place line frame (syntax.EvaluateFirst None) = Ok (record { scope = place.scope; frame = frame; body = core.Nothing })
started place line frame (syntax.EvaluateFirst (Some e)) =
    after (value_at place line e) (λ a. Ok (record { scope = place.scope; frame = frame; body = core.Then (core.Eval line a.e) core.Nothing }))

-- ---- statements, where each mark was read as a directive

module _ (read : syntax.Mark → syntax.Directive) where
  abbrev mutual
    pub statement_of : Place → (frame : ℕ) → syntax.Statement → Judged Done
    statement_of place frame (syntax.Block line entries) =
        after (entries_of (inside place) frame entries) (λ all. Ok (record { s = core.Block all.body; frame = all.frame }))
    statement_of place frame (syntax.Evaluate line None) = Ok (record { s = core.Block core.Nothing; frame = frame })
    statement_of place frame (syntax.Evaluate line (Some e)) =
        after (value_at place line e) (λ a. Ok (record { s = core.Eval line a.e; frame = frame }))
    statement_of place frame (syntax.If line e s) =
        after (condition_at place line e) (λ test. after (statement_of place frame s) (λ s.
        Ok (record { s = core.If line test s.s (core.Block core.Nothing); frame = s.frame })))
    statement_of place frame (syntax.IfElse line e s other) =
        after (condition_at place line e) (λ test. after (statement_of place frame s) (λ s. after (statement_of place s.frame other) (λ other.
        Ok (record { s = core.If line test s.s other.s; frame = other.frame }))))
    statement_of place frame (syntax.While line e s) =
        after (condition_at place line e) (λ test. after (statement_of (looping place) frame s) (λ s.
        Ok (record { s = core.Loop line true test (core.Number (pos 0)) s.s; frame = s.frame })))
    statement_of place frame (syntax.Do line s e) =
        after (statement_of (looping place) frame s) (λ s. after (condition_at place line e) (λ test.
        Ok (record { s = core.Loop line false test (core.Number (pos 0)) s.s; frame = s.frame })))
    -- the header's declaration has a scope of its own, around the body
    statement_of place frame (syntax.For line start test step s) =
        after (started (inside place) line frame start) (λ first. let within = seeing (inside place) first.scope in
        after (test_at within line test) (λ test. after (step_at within line step) (λ step.
        after (statement_of (looping within) first.frame s) (λ s.
        Ok (record { s = core.Block (joined first.body (core.Then (core.Loop line true test step s.s) core.Nothing)); frame = s.frame })))))
    statement_of place frame (syntax.Break line) = provided place.in_loop TypeMismatch line (Ok (record { s = core.Break; frame = frame }))
    statement_of place frame (syntax.Continue line) = provided place.in_loop TypeMismatch line (Ok (record { s = core.Continue; frame = frame }))
    statement_of place frame (syntax.Return line value) =
        after (returned place line place.result value) (λ s. Ok (record { s = s; frame = frame }))

    -- what stands in a block; a declaration changes what is seen behind it
    pub entries_of : Place → (frame : ℕ) → syntax.Entries → Judged AllDone
    entries_of place frame syntax.NoEntries = Ok (record { body = core.Nothing; frame = frame })
    entries_of place frame (syntax.MoreEntries (syntax.Declared d) others) =
        after (declaration place.scope place.depth d.line frame d) (λ one. after (entries_of (seeing place one.scope) one.frame others) (λ more.
        Ok (record { body = joined one.body more.body; frame = more.frame })))
    entries_of place frame (syntax.MoreEntries (syntax.Marked m) others) =
        after (directive_at place (read m)) (λ s. after (entries_of place frame others) (λ more.
        Ok (record { body = core.Then s more.body; frame = more.frame })))
    entries_of place frame (syntax.MoreEntries (syntax.Stated s) others) =
        after (statement_of place frame s) (λ one. after (entries_of place one.frame others) (λ more.
        Ok (record { body = core.Then one.s more.body; frame = more.frame })))
