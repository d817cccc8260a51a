-- The values that functions return are ints.
use Rattle.std.proofs.Common.{ℕ, zero, suc, ◌+◌, ℤ, Bool, true, false, [], ◌∷◌, if◌then◌else◌, arith}
use Rattle.css_base.specs.declared.int_type.IntType.TheVariants.{Int}
use Rattle.css_num.specs.Types.{IsInRange}
use Rattle.css_num.specs.Conversion.{modulo}
use Rattle.css_semantics.specs.Dialogue.{Enter, Turn, Out, Tape, World, Outcome, Goes, Stops, then_do, ask}
use Rattle.css_small.specs.Tree as tree
use Rattle.css_small.specs.Tree.{Expression, Statement, Declare, Initialise, Empty, Assign, AssignElement, Call, Mark, Put, Return, Block, If, IfElse, While, Statements, More, Function}
use Rattle.css_small.specs.Numbers.{Scope, AreWithin, AllWithin, IsNumbered}
use Rattle.css_small_code.specs.Meaning.{address_of, action_of, Flow, Next, Returned, on_next, is_true, value_of, store, element, Calling, turning, meaning, meanings, Exit, exit_by, frame_of, applied}
use Rattle.css_small_code.proofs.Runs.{Gives, gives_any, gives_then}
use Rattle.css_small_code.proofs.InRange.{number_in_range, value_in_range}

-- what is returned is an int
abbrev pub ReturnsInt : Flow → Type 0
ReturnsInt Next = Unit {0}
ReturnsInt (Returned v line) = IsInRange Int v

abbrev pub Anything : {A : Type 0} → A → Type 0
Anything a = Unit {0}

-- whatever comes before
behind_any : {A B : Type 0} (Q : B → Type 0) (o : Outcome A) (go : A → Tape → Outcome B) → ((a : A) (t : Tape) → Gives Q (go a t)) → Gives Q (then_do o go)
behind_any Q o go next = gives_then Anything Q o go (gives_any o) (λ a t _. next a t)

-- a statement that comes to its end
comes_next : {A : Type 0} (o : Outcome A) → Gives ReturnsInt (then_do o (λ a t. Goes Next t))
comes_next (Goes a t) = tt
comes_next (Stops why t) = tt

either_flow : (b : Bool) (o p : Outcome Flow) → Gives ReturnsInt o → Gives ReturnsInt p → Gives ReturnsInt (if b then o else p)
either_flow true o p h k = h
either_flow false o p h k = k

next_returns : (go : Tape → Outcome Flow) → ((t : Tape) → Gives ReturnsInt (go t)) → (flow : Flow) (t : Tape) → ReturnsInt flow → Gives ReturnsInt (on_next go flow t)
next_returns go h Next t known = h t
next_returns go h (Returned v line) t known = known

turns_return : (w : World) (condition : Tape → Outcome ℤ) (body : Tape → Outcome Flow) (line : ℕ) → ((t : Tape) → Gives ReturnsInt (body t)) → (n : ℕ) (t : Tape) → Gives ReturnsInt (turning w condition body line n t)
turns_return w condition body line h zero t = tt
turns_return w condition body line h (suc n) t =
    let more = turning w condition body line n in
    behind_any ReturnsInt (condition t) _ (λ v t'. either_flow (is_true v) _ (Goes Next t')
    (behind_any ReturnsInt (ask w Turn line t') _ (λ r t''. gives_then ReturnsInt ReturnsInt (body t'') (on_next more) (h t'') (next_returns more (turns_return w condition body line h n)))) tt)

module _ (w : World) (call : Calling) (base fuel : ℕ) (scope : Scope) where
  mutual
    statement_returns : (s : Statement) (t : Tape) → AreWithin scope s → Gives ReturnsInt (meaning w call base fuel s t)
    statement_returns (Declare line k) t h = tt
    statement_returns (Initialise line k e) t h =
        behind_any ReturnsInt (value_of w base e line t) _ (λ v t'. comes_next (store w base (address_of base k) v line t'))
    statement_returns (Empty line) t h = tt
    statement_returns (Assign line k e) t h =
        behind_any ReturnsInt (value_of w base e line t) _ (λ v t'. comes_next (store w base (address_of base k) v line t'))
    statement_returns (AssignElement line i e) t h =
        behind_any ReturnsInt (element w base i line t) _ (λ address t'. behind_any ReturnsInt (value_of w base e line t') _ (λ v t''. comes_next (store w base address v line t'')))
    statement_returns (Call line f k) t h = comes_next (call f (address_of base k) base line t)
    statement_returns (Mark line kind) t h = comes_next (ask w (action_of kind) line t)
    statement_returns (Put line e) t h =
        behind_any ReturnsInt (value_of w base e line t) _ (λ v t'. comes_next (ask w (Out (modulo v 256 ∷ [])) line t'))
    statement_returns (Return line e) t h =
        gives_then (IsInRange Int) ReturnsInt (value_of w base e line t) _ (value_in_range w base scope line e t h.1) (λ v t' int. int)
    statement_returns (Block line all) t h = statements_return all t h
    statement_returns (If line e s) t h =
        behind_any ReturnsInt (value_of w base e line t) _ (λ v t'. either_flow (is_true v) _ _ (statement_returns s t' h.1) tt)
    statement_returns (IfElse line e s other) t h =
        behind_any ReturnsInt (value_of w base e line t) _ (λ v t'. either_flow (is_true v) _ _ (statement_returns s t' h.1) (statement_returns other t' h.2))
    statement_returns (While line e s) t h =
        turns_return w (value_of w base e line) (meaning w call base fuel s) line (λ t'. statement_returns s t' h.1) fuel t

    pub statements_return : (all : Statements) (t : Tape) → AllWithin scope all → Gives ReturnsInt (meanings w call base fuel all t)
    statements_return tree.End t h = tt
    statements_return (More s rest) t h =
        gives_then ReturnsInt ReturnsInt (meaning w call base fuel s t) (on_next (meanings w call base fuel rest)) (statement_returns s t h.0) (next_returns (meanings w call base fuel rest) (λ t'. statements_return rest t' h.1))

-- with its value an int
abbrev pub ExitsInt : Exit → Type 0
ExitsInt exit = IsInRange Int exit.value

exits_int : (base end : ℕ) (flow : Flow) → ReturnsInt flow → ExitsInt (exit_by base end flow)
exits_int base end Next h = number_in_range 0 (omega arith)
exits_int base end (Returned v line) h = h

pub main_exits : (w : World) (call : Calling) (fuel functions : ℕ) (f : Function) (line : ℕ) (t : Tape) → IsNumbered functions f → Gives ExitsInt (applied w call fuel f [] line t)
main_exits w call fuel functions f line t numbers =
    let scope : Scope = record { parameters = f.parameters; objects = f.parameters + f.variables; functions = functions } in
    behind_any ExitsInt (ask w (Enter (frame_of f)) line t) _ (λ base t'.
    gives_then ReturnsInt ExitsInt (meanings w call base fuel f.body t') _ (statements_return w call base fuel scope f.body t' numbers.within) (λ flow t'' h. exits_int base f.end flow h))
