-- How statements are left, by what their returns give.
use Rattle.std.proofs.Common.{◌≡◌, ℕ, zero, suc, ℤ, pos, Bool, true, false, IsTrue, if◌then◌else◌, List, []}
use Rattle.css_base.specs.declared.int_type.IntType.{IntType}
use Rattle.css_semantics.specs.Dialogue.{Turn, World, Tape, Outcome, Goes, Stops, then_do, Plain, Waiting, ask_in}
use Rattle.css_core.specs.Core.{Expression, Number, Expressions, Empty, More, Statement, Eval, Block, If, Loop, Break, Continue, Return, Mark, Await, Statements, Nothing, Then}
use Rattle.css_semantics.specs.Tasks.{makes_tasks}
use Rattle.css_core.specs.Expressions.{is_true, Calling, calls_nothing, value_of}
use Rattle.css_core.specs.Statements.{Flow, Next, Broke, Continued, Returned, on_next, on_turn, testing, turning, value_in, awaited, meaning, meanings}
use Rattle.css_core.specs.Typed.{Signature, HasType, IsTypedStatement, AreTyped, GivesNothing, AllGiveNothing}

-- ---- outcomes with a property

abbrev pub Comes : {A : Type 0} → (A → Type 0) → Outcome A → Type 0
Comes P (Goes v t) = P v
Comes P (Stops why t) = Unit {0}

pub gives_then : {A B : Type 0} (P : A → Type 0) (Q : B → Type 0) (o : Outcome A) (go : A → Tape → Outcome B) → Comes P o → ((a : A) (t : Tape) → P a → Comes Q (go a t)) → Comes Q (then_do o go)
gives_then P Q (Goes v t) go h next = next v t h
gives_then P Q (Stops why t) go h next = tt

pub gives_after : {A B : Type 0} (Q : B → Type 0) (o : Outcome A) (go : A → Tape → Outcome B) → ((a : A) (t : Tape) → Comes Q (go a t)) → Comes Q (then_do o go)
gives_after Q (Goes v t) go next = next v t
gives_after Q (Stops why t) go next = tt

pub gives_if : {A : Type 0} (Q : A → Type 0) (b : Bool) (o p : Outcome A) → Comes Q o → Comes Q p → Comes Q (if b then o else p)
gives_if Q true o p h k = h
gives_if Q false o p h k = k

-- ---- statements

-- each `return` gives such an expression, and `break` and `continue` stand in loops
abbrev mutual
  pub LeavesBy : (Expression → Type 0) → (in_loop : Bool) → Statement → Type 0
  LeavesBy R in_loop (Eval line e) = Unit {0}
  LeavesBy R in_loop (Block all) = AllLeaveBy R in_loop all
  LeavesBy R in_loop (If line test s other) = LeavesBy R in_loop s × LeavesBy R in_loop other
  LeavesBy R in_loop (Loop line tests_first test step body) = LeavesBy R true body
  LeavesBy R in_loop Break = IsTrue in_loop
  LeavesBy R in_loop Continue = IsTrue in_loop
  LeavesBy R in_loop (Return line e) = R e
  LeavesBy R in_loop (Mark line kind) = Unit {0}
  LeavesBy R in_loop (Await line places) = Unit {0}

  pub AllLeaveBy : (Expression → Type 0) → (in_loop : Bool) → Statements → Type 0
  AllLeaveBy R in_loop Nothing = Unit {0}
  AllLeaveBy R in_loop (Then s others) = LeavesBy R in_loop s × AllLeaveBy R in_loop others

module _ (signatures : List Signature) (result : IntType) where
  mutual
    typed_leaves : (in_loop : Bool) (s : Statement) → IsTypedStatement signatures result in_loop s → LeavesBy (λ e. HasType signatures [] e result) in_loop s
    typed_leaves in_loop (Eval line e) h = tt
    typed_leaves in_loop (Block all) h = all_typed_leave in_loop all h
    typed_leaves in_loop (If line test s other) h = (typed_leaves in_loop s h.1, typed_leaves in_loop other h.2)
    typed_leaves in_loop (Loop line tests_first test step body) h = typed_leaves true body h.2
    typed_leaves in_loop Break h = h
    typed_leaves in_loop Continue h = h
    typed_leaves in_loop (Return line e) h = h
    typed_leaves in_loop (Mark line kind) h = tt
    typed_leaves in_loop (Await line places) h = tt

    pub all_typed_leave : (in_loop : Bool) (all : Statements) → AreTyped signatures result in_loop all → AllLeaveBy (λ e. HasType signatures [] e result) in_loop all
    all_typed_leave in_loop Nothing h = tt
    all_typed_leave in_loop (Then s others) h = (typed_leaves in_loop s h.0, all_typed_leave in_loop others h.1)

  mutual
    void_leaves : (in_loop : Bool) (s : Statement) → IsTypedStatement signatures result in_loop s → GivesNothing s → LeavesBy (λ e. e ≡ Number (pos 0)) in_loop s
    void_leaves in_loop (Eval line e) h k = tt
    void_leaves in_loop (Block all) h k = all_void_leave in_loop all h k
    void_leaves in_loop (If line test s other) h k = (void_leaves in_loop s h.1 k.0, void_leaves in_loop other h.2 k.1)
    void_leaves in_loop (Loop line tests_first test step body) h k = void_leaves true body h.2 k
    void_leaves in_loop Break h k = h
    void_leaves in_loop Continue h k = h
    void_leaves in_loop (Return line e) h k = k
    void_leaves in_loop (Mark line kind) h k = tt
    void_leaves in_loop (Await line places) h k = tt

    pub all_void_leave : (in_loop : Bool) (all : Statements) → AreTyped signatures result in_loop all → AllGiveNothing all → AllLeaveBy (λ e. e ≡ Number (pos 0)) in_loop all
    all_void_leave in_loop Nothing h k = tt
    all_void_leave in_loop (Then s others) h k = (void_leaves in_loop s h.0 k.0, all_void_leave in_loop others h.1 k.1)

-- ---- what comes of them, where returned values have a property

module _ (w : World) (P : ℤ → Type 0) where
  abbrev pub LeftBy : (in_loop : Bool) → Flow → Type 0
  LeftBy in_loop Next = Unit {0}
  LeftBy in_loop Broke = IsTrue in_loop
  LeftBy in_loop Continued = IsTrue in_loop
  LeftBy in_loop (Returned v line) = P v

  left_next : (in_loop : Bool) (go : Tape → Outcome Flow) → ((t : Tape) → Comes (LeftBy in_loop) (go t)) → (flow : Flow) (t : Tape) → LeftBy in_loop flow → Comes (LeftBy in_loop) (on_next go flow t)
  left_next in_loop go h Next t r = h t
  left_next in_loop go h Broke t r = r
  left_next in_loop go h Continued t r = r
  left_next in_loop go h (Returned v line) t r = r

  left_turn : (in_loop : Bool) (go : Tape → Outcome Flow) → ((t : Tape) → Comes (LeftBy in_loop) (go t)) → (flow : Flow) (t : Tape) → LeftBy true flow → Comes (LeftBy in_loop) (on_turn go flow t)
  left_turn in_loop go h Next t r = h t
  left_turn in_loop go h Broke t r = tt
  left_turn in_loop go h Continued t r = h t
  left_turn in_loop go h (Returned v line) t r = r

  left_testing : (in_loop : Bool) (test : Tape → Outcome ℤ) (go : Tape → Outcome Flow) → ((t : Tape) → Comes (LeftBy in_loop) (go t)) → (t : Tape) → Comes (LeftBy in_loop) (testing test go t)
  left_testing in_loop test go h t = gives_after (LeftBy in_loop) (test t) _ (λ v u. gives_if (LeftBy in_loop) (is_true v) _ _ (h u) tt)

  left_turning : (in_loop : Bool) (line : ℕ) (test step : Tape → Outcome ℤ) (body : Tape → Outcome Flow) → ((t : Tape) → Comes (LeftBy true) (body t)) → (n : ℕ) (t : Tape) → Comes (LeftBy in_loop) (turning w line test step body n t)
  left_turning in_loop line test step body h zero t = tt
  left_turning in_loop line test step body h (suc n) t =
      let again = λ (u : Tape). then_do (step u) (λ v. testing test (turning w line test step body n)) in
      gives_after (LeftBy in_loop) (ask_in w Plain Turn line t) _ (λ r u.
      gives_then (LeftBy true) (LeftBy in_loop) (body u) (on_turn again) (h u) (λ flow u' f.
      left_turn in_loop again (λ x. gives_after (LeftBy in_loop) (step x) _ (λ v y. left_testing in_loop test (turning w line test step body n) (left_turning in_loop line test step body h n) y)) flow u' f))

  module _ (R : Expression → Type 0) (call : Calling) (base fuel : ℕ) (gives : (line : ℕ) (e : Expression) (t : Tape) → R e → Comes P (value_in w call base fuel line e t)) where
    left_awaited : (in_loop : Bool) (line : ℕ) (places : Expressions) (t : Tape) → Comes (LeftBy in_loop) (awaited w call base fuel line places t)
    left_awaited in_loop line Empty t = tt
    left_awaited in_loop line (More e others) t =
        gives_after (LeftBy in_loop) (value_of w calls_nothing base Waiting line e t) _ (λ p u. gives_after (LeftBy in_loop) (ask_in w Plain _ line u) _ (λ r u'. left_awaited in_loop line others u'))

    mutual
      left_meaning : (in_loop : Bool) (s : Statement) → LeavesBy R in_loop s → (t : Tape) → Comes (LeftBy in_loop) (meaning w call base fuel s t)
      left_meaning in_loop (Eval line e) h t = gives_after (LeftBy in_loop) (value_in w call base fuel line e t) _ (λ v u. tt)
      left_meaning in_loop (Block all) h t = left_meanings in_loop all h t
      left_meaning in_loop (If line test s other) h t =
          gives_after (LeftBy in_loop) (value_in w call base fuel line test t) _ (λ v u. gives_if (LeftBy in_loop) (is_true v) _ _ (left_meaning in_loop s h.0 u) (left_meaning in_loop other h.1 u))
      left_meaning in_loop (Loop line tests_first test step body) h t =
          let turns = turning w line (value_in w call base fuel line test) (value_in w call base fuel line step) (meaning w call base fuel body) fuel in
          let left_turns : (u : Tape) → Comes (LeftBy in_loop) (turns u) = left_turning in_loop line (value_in w call base fuel line test) (value_in w call base fuel line step) (meaning w call base fuel body) (left_meaning true body h) fuel in
          gives_if (LeftBy in_loop) tests_first _ _ (left_testing in_loop (value_in w call base fuel line test) turns left_turns t) (left_turns t)
      left_meaning in_loop Break h t = h
      left_meaning in_loop Continue h t = h
      left_meaning in_loop (Return line e) h t = gives_then P (LeftBy in_loop) (value_in w call base fuel line e t) _ (gives line e t h) (λ v u r. r)
      left_meaning in_loop (Mark line kind) h t = gives_after (LeftBy in_loop) (ask_in w Plain _ line t) _ (λ r u. tt)
      left_meaning in_loop (Await line places) h t = gives_if (LeftBy in_loop) (makes_tasks t) _ _ (left_awaited in_loop line places t) tt

      pub left_meanings : (in_loop : Bool) (all : Statements) → AllLeaveBy R in_loop all → (t : Tape) → Comes (LeftBy in_loop) (meanings w call base fuel all t)
      left_meanings in_loop Nothing h t = tt
      left_meanings in_loop (Then s others) h t =
          gives_then (LeftBy in_loop) (LeftBy in_loop) (meaning w call base fuel s t) (on_next (meanings w call base fuel others)) (left_meaning in_loop s h.0 t)
          (λ flow u r. left_next in_loop (meanings w call base fuel others) (left_meanings in_loop others h.1) flow u r)
