-- What tasks reach asks only of a machine's space and units.
use Rattle.std.proofs.Common.{◌≡◌, ℕ, zero, suc, ◌+◌, ◌%◌, ◌^◌, ◌/◌, ℤ, Bool, true, false, ◌&&◌, ◌||◌, IsTrue, if◌then◌else◌, Option, Some, None, is_none, List, [], ◌∷◌, ◌++◌, refl, sym, ap, ◌∙◌, append_assoc}
use Rattle.std.specs.Prelude.{slice_get}
use Rattle.css_base.specs.declared.ending.FaultKind.TheVariants.{OutsideMemory}
use Rattle.css_base.specs.declared.int_type.IntType.{IntType}
use Rattle.css_num.specs.declared.operators.BinOp.{BinOp}
use Rattle.css_num.specs.Types.{bits_of}
use Rattle.css_num.specs.Conversion.{converted}
use Rattle.css_num.specs.Operators.{binary_value}
use Rattle.css_semantics.specs.Dialogue.{Action, Enter, Turn, Leave, Load, Store, Fault, item, Reply, Says, Fails, Refuses, World, Tape, Outcome, Goes, Stops, tape_of, then_do, Plain, replied_in, ask_in}
use Rattle.css_semantics.specs.Worlds.{is_of_machine, is_fault, AreOfMachine}
use Rattle.css_semantics.proofs.Following.{both_of_machine}
use Rattle.css_core.specs.Core.{Expression, Number, Local, Given, Value, Assign, Update, Convert, Unary, Binary, And, Or, Choice, Sequence, Call, Expressions, Empty, More, Gives, Statement, Eval, Block, If, Loop, Break, Continue, Return, Statements, Nothing, Then, Task, Function, Program}
use Rattle.css_core.specs.Expressions.{address_of, bytes_of, is_true, given_by, Calling, load, store, given, update, value_of, values_of}
use Rattle.css_core.specs.Statements.{Flow, Next, Broke, Continued, Returned, on_next, on_turn, testing, turning, value_in, meaning, meanings}
use Rattle.css_core.specs.Functions.{Exit, stores, applied, left, plain_call, called_as, called, spent_as, spent, calls}
use Rattle.css_core.specs.Confined.{is_inner, are_inner, is_inner_statement, are_inner_statements, is_no_task, IsConfined}

-- ---- tapes to which a machine alone adds

abbrev pub Adds : {A : Type 0} → Tape → Outcome A → Type 0
Adds t o = (newer : Tape) × (tape_of o ≡ newer ++ t) × AreOfMachine newer

adds_more : {A : Type 0} (o : Outcome A) (mid t newer : Tape) → mid ≡ newer ++ t → AreOfMachine newer → Adds mid o → Adds t o
adds_more o mid t newer e of_newer h = (h.0 ++ newer, h.1 ∙ ap (λ l. h.0 ++ l) e ∙ sym (append_assoc h.0 newer t), both_of_machine h.0 newer h.2 of_newer)

adds_then : {A B : Type 0} (o : Outcome A) (go : A → Tape → Outcome B) (t : Tape) → Adds t o → ((a : A) (u : Tape) → Adds u (go a u)) → Adds t (then_do o go)
adds_then (Goes a u) go t h next = adds_more (go a u) u t h.0 h.1 h.2 (next a u)
adds_then (Stops why u) go t h next = h

adds_if : {A : Type 0} (b : Bool) (o p : Outcome A) (t : Tape) → Adds t o → Adds t p → Adds t (if b then o else p)
adds_if true o p t h k = h
adds_if false o p t h k = k

or_first : (a b : Bool) → IsTrue a → IsTrue (a || b)
or_first true b h = refl
or_first false b h = cc

both : (a b : Bool) → IsTrue (a && b) → IsTrue a × IsTrue b
both true b h = (refl, h)
both false b h = cc

module _ (w : World) where
  adds_reply : (r : Reply) (action : Action) (line : ℕ) (t : Tape) → IsTrue (is_of_machine action) → Adds t (replied_in w Plain r (item action line) t)
  adds_reply (Says value) action line t is = (item action line ∷ [], refl, (or_first (is_of_machine action) (is_fault action) is, tt))
  adds_reply Fails action line t is = (item (Fault OutsideMemory) line ∷ item action line ∷ [], refl, (refl, (or_first (is_of_machine action) (is_fault action) is, tt)))
  adds_reply (Refuses rule) action line t is = ([], refl, tt)

  adds_ask : (action : Action) (line : ℕ) (t : Tape) → IsTrue (is_of_machine action) → Adds t (ask_in w Plain action line t)
  adds_ask action line t is = adds_reply (w t (item action line)) action line t is

  module _ (may_call : ℕ → Bool) (call : Calling) (adds_call : (function : ℕ) → IsTrue (may_call function) → (values : List ℤ) (base line : ℕ) (t : Tape) → Adds t (call function values base line t)) (base line : ℕ) where
    adds_load : (kind : IntType) (place : ℤ) (t : Tape) → Adds t (load w call base Plain line kind place t)
    adds_load kind place t = adds_then (ask_in w Plain (Load (address_of place) (bits_of kind / 8)) line t) _ t (adds_ask (Load (address_of place) (bits_of kind / 8)) line t refl) (λ r u. ([], refl, tt))

    adds_store : (kind : IntType) (place stored value : ℤ) (t : Tape) → Adds t (store w call base Plain line kind place stored value t)
    adds_store kind place stored value t =
        adds_then (ask_in w Plain (Store (address_of place) (bytes_of kind stored)) line t) _ t (adds_ask (Store (address_of place) (bytes_of kind stored)) line t refl) (λ r u. ([], refl, tt))

    adds_given : (o : Option ℤ) (t : Tape) → Adds t (given w call base Plain line o t)
    adds_given None t = (item (Fault _) line ∷ [], refl, (refl, tt))
    adds_given (Some v) t = ([], refl, tt)

    adds_update : (gives : Gives) (kind : IntType) (op : BinOp) (within : IntType) (place old right : ℤ) (t : Tape) → Adds t (update w call base Plain line gives kind op within place old right t)
    adds_update gives kind op within place old right t =
        adds_then (given w call base Plain line (binary_value op within (converted within old) right) t) _ t (adds_given (binary_value op within (converted within old) right) t)
        (λ v u. adds_store kind place (converted kind v) (given_by gives old (converted kind v)) u)

    mutual
      pub adds_value : (e : Expression) → IsTrue (is_inner may_call e) → (t : Tape) → Adds t (value_of w call base Plain line e t)
      adds_value (Number value) is t = ([], refl, tt)
      adds_value (Local offset) is t = ([], refl, tt)
      adds_value (Given k) is t = ([], refl, tt)
      adds_value (Value kind place) is t = adds_then (value_of w call base Plain line place t) _ t (adds_value place is t) (λ p u. adds_load kind p u)
      adds_value (Assign kind place e) is t =
          let parts = both (is_inner may_call place) (is_inner may_call e) is in
          adds_then (value_of w call base Plain line place t) _ t (adds_value place parts.0 t) (λ p u.
          adds_then (value_of w call base Plain line e u) _ u (adds_value e parts.1 u) (λ v u'. adds_store kind p v v u'))
      adds_value (Update gives kind op within place e) is t =
          let parts = both (is_inner may_call place) (is_inner may_call e) is in
          adds_then (value_of w call base Plain line place t) _ t (adds_value place parts.0 t) (λ p u.
          adds_then (load w call base Plain line kind p u) _ u (adds_load kind p u) (λ old u'.
          adds_then (value_of w call base Plain line e u') _ u' (adds_value e parts.1 u') (λ right u''. adds_update gives kind op within p old right u'')))
      adds_value (Convert kind e) is t = adds_then (value_of w call base Plain line e t) _ t (adds_value e is t) (λ v u. ([], refl, tt))
      adds_value (Unary op kind e) is t = adds_then (value_of w call base Plain line e t) _ t (adds_value e is t) (λ v u. ([], refl, tt))
      adds_value (Binary op kind a b) is t =
          let parts = both (is_inner may_call a) (is_inner may_call b) is in
          adds_then (value_of w call base Plain line a t) _ t (adds_value a parts.0 t) (λ x u.
          adds_then (value_of w call base Plain line b u) _ u (adds_value b parts.1 u) (λ y u'. adds_given (binary_value op kind x y) u'))
      adds_value (And a b) is t =
          let parts = both (is_inner may_call a) (is_inner may_call b) is in
          adds_then (value_of w call base Plain line a t) _ t (adds_value a parts.0 t) (λ x u.
          adds_if (is_true x) _ _ u (adds_then (value_of w call base Plain line b u) _ u (adds_value b parts.1 u) (λ y u'. ([], refl, tt))) ([], refl, tt))
      adds_value (Or a b) is t =
          let parts = both (is_inner may_call a) (is_inner may_call b) is in
          adds_then (value_of w call base Plain line a t) _ t (adds_value a parts.0 t) (λ x u.
          adds_if (is_true x) _ _ u ([], refl, tt) (adds_then (value_of w call base Plain line b u) _ u (adds_value b parts.1 u) (λ y u'. ([], refl, tt))))
      adds_value (Choice test a b) is t =
          let parts = both (is_inner may_call test) (is_inner may_call a && is_inner may_call b) is in
          let sides = both (is_inner may_call a) (is_inner may_call b) parts.1 in
          adds_then (value_of w call base Plain line test t) _ t (adds_value test parts.0 t) (λ v u. adds_if (is_true v) _ _ u (adds_value a sides.0 u) (adds_value b sides.1 u))
      adds_value (Sequence a b) is t =
          let parts = both (is_inner may_call a) (is_inner may_call b) is in
          adds_then (value_of w call base Plain line a t) _ t (adds_value a parts.0 t) (λ v u. adds_value b parts.1 u)
      adds_value (Call function arguments) is t =
          let parts = both (may_call function) (are_inner may_call arguments) is in
          adds_then (values_of w call base Plain line arguments t) _ t (adds_values arguments parts.1 t) (λ vs u. adds_call function parts.0 vs base line u)
      adds_value e is t = cc

      adds_values : (all : Expressions) → IsTrue (are_inner may_call all) → (t : Tape) → Adds t (values_of w call base Plain line all t)
      adds_values Empty is t = ([], refl, tt)
      adds_values (More e others) is t =
          let parts = both (is_inner may_call e) (are_inner may_call others) is in
          adds_then (value_of w call base Plain line e t) _ t (adds_value e parts.0 t) (λ v u.
          adds_then (values_of w call base Plain line others u) _ u (adds_values others parts.1 u) (λ vs u'. ([], refl, tt)))

  -- ---- statements

  adds_next : (go : Tape → Outcome Flow) → ((t : Tape) → Adds t (go t)) → (flow : Flow) (t : Tape) → Adds t (on_next go flow t)
  adds_next go h Next t = h t
  adds_next go h Broke t = ([], refl, tt)
  adds_next go h Continued t = ([], refl, tt)
  adds_next go h (Returned v line) t = ([], refl, tt)

  adds_turn : (go : Tape → Outcome Flow) → ((t : Tape) → Adds t (go t)) → (flow : Flow) (t : Tape) → Adds t (on_turn go flow t)
  adds_turn go h Next t = h t
  adds_turn go h Broke t = ([], refl, tt)
  adds_turn go h Continued t = h t
  adds_turn go h (Returned v line) t = ([], refl, tt)

  adds_testing : (test : Tape → Outcome ℤ) (go : Tape → Outcome Flow) → ((t : Tape) → Adds t (test t)) → ((t : Tape) → Adds t (go t)) → (t : Tape) → Adds t (testing test go t)
  adds_testing test go first h t = adds_then (test t) _ t (first t) (λ v u. adds_if (is_true v) _ _ u (h u) ([], refl, tt))

  adds_turning : (line : ℕ) (test step : Tape → Outcome ℤ) (body : Tape → Outcome Flow) → ((t : Tape) → Adds t (test t)) → ((t : Tape) → Adds t (step t)) → ((t : Tape) → Adds t (body t)) → (n : ℕ) (t : Tape) → Adds t (turning w line test step body n t)
  adds_turning line test step body a b c zero t = ([], refl, tt)
  adds_turning line test step body a b c (suc n) t =
      let again = λ (u : Tape). then_do (step u) (λ v. testing test (turning w line test step body n)) in
      adds_then (ask_in w Plain Turn line t) _ t (adds_ask Turn line t refl) (λ r u.
      adds_then (body u) (on_turn again) u (c u) (λ flow u'.
      adds_turn again (λ x. adds_then (step x) _ x (b x) (λ v y. adds_testing test (turning w line test step body n) a (adds_turning line test step body a b c n) y)) flow u'))

  module _ (may_call : ℕ → Bool) (call : Calling) (adds_call : (function : ℕ) → IsTrue (may_call function) → (values : List ℤ) (base line : ℕ) (t : Tape) → Adds t (call function values base line t)) (fuel : ℕ) where
    module _ (base : ℕ) where
      adds_in : (line : ℕ) (e : Expression) → IsTrue (is_inner may_call e) → (t : Tape) → Adds t (value_in w call base fuel line e t)
      adds_in line e is t = adds_value may_call call adds_call base line e is t

      mutual
        adds_meaning : (s : Statement) → IsTrue (is_inner_statement may_call s) → (t : Tape) → Adds t (meaning w call base fuel s t)
        adds_meaning (Eval line e) is t = adds_then (value_in w call base fuel line e t) _ t (adds_in line e is t) (λ v u. ([], refl, tt))
        adds_meaning (Block all) is t = adds_meanings all is t
        adds_meaning (If line test s other) is t =
            let parts = both (is_inner may_call test) (is_inner_statement may_call s && is_inner_statement may_call other) is in
            let sides = both (is_inner_statement may_call s) (is_inner_statement may_call other) parts.1 in
            adds_then (value_in w call base fuel line test t) _ t (adds_in line test parts.0 t) (λ v u. adds_if (is_true v) _ _ u (adds_meaning s sides.0 u) (adds_meaning other sides.1 u))
        adds_meaning (Loop line tests_first test step body) is t =
            let parts = both (is_inner may_call test) (is_inner may_call step && is_inner_statement may_call body) is in
            let others = both (is_inner may_call step) (is_inner_statement may_call body) parts.1 in
            let turns = turning w line (value_in w call base fuel line test) (value_in w call base fuel line step) (meaning w call base fuel body) fuel in
            let add : (u : Tape) → Adds u (turns u) = adds_turning line (value_in w call base fuel line test) (value_in w call base fuel line step) (meaning w call base fuel body) (adds_in line test parts.0) (adds_in line step others.0) (adds_meaning body others.1) fuel in
            adds_if tests_first _ _ t (adds_testing (value_in w call base fuel line test) turns (adds_in line test parts.0) add t) (add t)
        adds_meaning Break is t = ([], refl, tt)
        adds_meaning Continue is t = ([], refl, tt)
        adds_meaning (Return line e) is t = adds_then (value_in w call base fuel line e t) _ t (adds_in line e is t) (λ v u. ([], refl, tt))
        adds_meaning s is t = cc

        adds_meanings : (all : Statements) → IsTrue (are_inner_statements may_call all) → (t : Tape) → Adds t (meanings w call base fuel all t)
        adds_meanings Nothing is t = ([], refl, tt)
        adds_meanings (Then s others) is t =
            let parts = both (is_inner_statement may_call s) (are_inner_statements may_call others) is in
            adds_then (meaning w call base fuel s t) (on_next (meanings w call base fuel others)) t (adds_meaning s parts.0 t) (λ flow u. adds_next (meanings w call base fuel others) (adds_meanings others parts.1) flow u)

    -- ---- functions

    adds_stores : (place : ℕ) (types : List IntType) (values : List ℤ) (line : ℕ) (t : Tape) → Adds t (stores w place types values line t)
    adds_stores place [] values line t = ([], refl, tt)
    adds_stores place (kind ∷ types) [] line t = ([], refl, tt)
    adds_stores place (kind ∷ types) (v ∷ values) line t =
        adds_then (ask_in w Plain (Store (place % 2 ^ 32) (bytes_of kind v)) line t) _ t (adds_ask (Store (place % 2 ^ 32) (bytes_of kind v)) line t refl) (λ r u. adds_stores (place + 8) types values line u)

    adds_applied : (f : Function) → IsTrue (are_inner_statements may_call f.body) → (values : List ℤ) (line : ℕ) (t : Tape) → Adds t (applied w call fuel f values line t)
    adds_applied f is values line t =
        adds_then (ask_in w Plain (Enter f.frame) line t) _ t (adds_ask (Enter f.frame) line t refl) (λ base u.
        adds_then (stores w base f.parameters values line u) _ u (adds_stores base f.parameters values line u) (λ r u'.
        adds_then (meanings w call base fuel f.body u') _ u' (adds_meanings base f.body is u') (λ flow u''. ([], refl, tt))))

    adds_left : (frame : ℕ) (exit : Exit) (t : Tape) → Adds t (left w frame exit t)
    adds_left frame exit t = adds_then (ask_in w Plain (Leave exit.base frame) exit.line t) _ t (adds_ask (Leave exit.base frame) exit.line t refl) (λ r u. ([], refl, tt))

    adds_plain_call : (f : Function) → IsTrue (are_inner_statements may_call f.body) → (values : List ℤ) (line : ℕ) (t : Tape) → Adds t (plain_call w call fuel f values line t)
    adds_plain_call f is values line t = adds_then (applied w call fuel f values line t) (left w f.frame) t (adds_applied f is values line t) (λ exit u. adds_left f.frame exit u)

module _ (w : World) (p : Program) (confined : IsConfined p) where
  abbrev may_call : ℕ → Bool
  may_call k = confined.inner k && is_no_task (slice_get p.functions k)

  adds_called : (call : Calling) (adds_call : (function : ℕ) → IsTrue (may_call function) → (values : List ℤ) (base line : ℕ) (t : Tape) → Adds t (call function values base line t)) (fuel number : ℕ) (f : Option Function)
      → ((x : Function) → f ≡ Some x → IsTrue (are_inner_statements may_call x.body)) → IsTrue (is_no_task f) → (values : List ℤ) (base line : ℕ) (t : Tape) → Adds t (called w call fuel number f values base line t)
  adds_called call adds_call fuel number None inner plain values base line t = ([], refl, tt)
  adds_called call adds_call fuel number (Some f) inner plain values base line t = by f.task plain
    where
      by : (task : Option Task) → IsTrue (is_none task) → Adds t (called_as w call fuel number f task values base line t)
      by None h = adds_plain_call w may_call call adds_call fuel f (inner f refl) values line t
      by (Some task) h = cc

  -- where the fuel is spent, the call of what is no task asks nothing
  adds_spent : (f : Option Function) → IsTrue (is_no_task f) → (values : List ℤ) (line : ℕ) (t : Tape) → Adds t (spent w f values line t)
  adds_spent None plain values line t = ([], refl, tt)
  adds_spent (Some f) plain values line t = by f.task plain
    where
      by : (task : Option Task) → IsTrue (is_none task) → Adds t (spent_as w task values line t)
      by None h = ([], refl, tt)
      by (Some task) h = cc

  adds_calls : (fuel function : ℕ) → IsTrue (may_call function) → (values : List ℤ) (base line : ℕ) (t : Tape) → Adds t (calls w p.functions fuel function values base line t)
  adds_calls zero function is values base line t = adds_spent (slice_get p.functions function) (both (confined.inner function) (is_no_task (slice_get p.functions function)) is).1 values line t
  adds_calls (suc fuel) function is values base line t =
      let parts = both (confined.inner function) (is_no_task (slice_get p.functions function)) is in
      adds_called (calls w p.functions fuel) (adds_calls fuel) fuel function (slice_get p.functions function) (λ x e. confined.bodies function x e parts.0) parts.1 values base line t

  pub task_adds : (fuel number : ℕ) (f : Function) (task : Task) → slice_get p.functions number ≡ Some f → f.task ≡ Some task → (values : List ℤ) (line : ℕ) (t : Tape) → Adds t (plain_call w (calls w p.functions fuel) fuel f values line t)
  task_adds fuel number f task e is values line t =
      adds_plain_call w may_call (calls w p.functions fuel) (adds_calls fuel) fuel f (confined.bodies number f e (confined.tasks number f task e is)) values line t
