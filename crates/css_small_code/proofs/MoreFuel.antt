-- More fuel only goes on where less ends.
use Rattle.std.proofs.Common.{ℕ, zero, suc, ◌≤◌, ℤ, Bool, true, false, ◌&&◌, Option, Some, None, if◌then◌else◌, List, [], ◌∷◌, refl, sym, ap, subst, arith}
use Rattle.std.specs.Prelude.{slice_get}
use Rattle.css_semantics.specs.Dialogue.{Enter, Turn, Calls, World, Tape, Outcome, Goes, Stops, Stopped, Tired, then_do, ask}
use Rattle.css_semantics.specs.Tasks.{is_started}
use Rattle.css_small.specs.Tree as tree
use Rattle.css_small.specs.Tree.{Statement, Declare, Initialise, Empty, Assign, AssignElement, Call, Mark, Put, Return, Block, If, IfElse, While, Statements, More, Function, Program}
use Rattle.css_small_code.specs.Meaning.{is_true, value_of, Flow, Next, Returned, on_next, turning, Calling, address_of, meaning, meanings, exit_by, stores, applied, left, plain_call, task_call_of, task_body, called, calls, main_left, frame_of, source}
use Rattle.css_small_code.specs.Fuel.{Extends}
use Rattle.css_small_code.proofs.Grows.{Grows, grows_then, grows_if, grows_ask, grows_value, grows_next, grows_turning, CallsGrow, grows_meaning, grows_meanings, grows_stores, grows_applied_from, grows_left, grows_returns, grows_task_body, grows_calls, grows_main_left}

extends_same : {A : Type 0} (o : Outcome A) → Extends o o
extends_same (Goes a t) = refl
extends_same (Stops (Stopped stop line) t) = refl
extends_same (Stops Tired t) = ([], refl)

extends_then : {A B : Type 0} (o o' : Outcome A) (go go' : A → Tape → Outcome B) → Extends o o' → ((a : A) (t : Tape) → Extends (go a t) (go' a t)) → ((a : A) (t : Tape) → Grows t (go' a t)) → Extends (then_do o go) (then_do o' go')
extends_then (Goes a t) o' go go' h next grows = subst (λ x. Extends (go a t) (then_do x go')) (sym h) (next a t)
extends_then (Stops (Stopped stop line) t) o' go go' h next grows = ap (λ x. then_do x go') h
extends_then (Stops Tired t) o' go go' h next grows = grows_then o' go' t h grows

-- behind one thing that both do
extends_behind : {A B : Type 0} (o : Outcome A) (go go' : A → Tape → Outcome B) → ((a : A) (t : Tape) → Extends (go a t) (go' a t)) → ((a : A) (t : Tape) → Grows t (go' a t)) → Extends (then_do o go) (then_do o go')
extends_behind o go go' next grows = extends_then o o go go' (extends_same o) next grows

extends_if : {A : Type 0} (b : Bool) (o o' p p' : Outcome A) → Extends o o' → Extends p p' → Extends (if b then o else p) (if b then o' else p')
extends_if true o o' p p' h k = h
extends_if false o o' p p' h k = k

extends_next : (go go' : Tape → Outcome Flow) → ((t : Tape) → Extends (go t) (go' t)) → (flow : Flow) (t : Tape) → Extends (on_next go flow t) (on_next go' flow t)
extends_next go go' h Next t = h t
extends_next go go' h (Returned value line) t = refl

module _ (w : World) where
  extends_turning : (condition : Tape → Outcome ℤ) (body body' : Tape → Outcome Flow) (line : ℕ) → ((t : Tape) → Grows t (condition t)) → ((t : Tape) → Grows t (body' t)) → ((t : Tape) → Extends (body t) (body' t)) →
      (n m : ℕ) → n ≤ m → (tape : Tape) → Extends (turning w condition body line n tape) (turning w condition body' line m tape)
  extends_turning condition body body' line test step extends zero m le tape = grows_turning w condition body' line test step m tape
  extends_turning condition body body' line test step extends (suc n) zero le tape = absurd (omega arith)
  extends_turning condition body body' line test step extends (suc n) (suc m) le tape =
      let more = turning w condition body' line m in
      let behind = λ (r : ℕ) (t : Tape). then_do (body t) (on_next (turning w condition body line n)) in
      let behind' = λ (r : ℕ) (t : Tape). then_do (body' t) (on_next more) in
      let grows_more : (flow : Flow) (t : Tape) → Grows t (on_next more flow t) = grows_next w more (grows_turning w condition body' line test step m) in
      let grows_behind : (r : ℕ) (t : Tape) → Grows t (behind' r t) = λ r t. grows_then (body' t) (on_next more) t (step t) grows_more in
      extends_behind (condition tape) _ _
      (λ v t. extends_if (is_true v) (then_do (ask w Turn line t) behind) (then_do (ask w Turn line t) behind') (Goes Next t) (Goes Next t)
      (extends_behind (ask w Turn line t) behind behind'
      (λ r t'. extends_then (body t') (body' t') (on_next (turning w condition body line n)) (on_next more) (extends t') (extends_next (turning w condition body line n) more (extends_turning condition body body' line test step extends n m (omega arith))) grows_more)
      grows_behind) refl)
      (λ v t. grows_if (is_true v) (then_do (ask w Turn line t) behind') (Goes Next t) t (grows_then (ask w Turn line t) behind' t (grows_ask w Turn line t) grows_behind) ([], refl))

  -- calls by more fuel extend those by less
  abbrev CallsExtend : Calling → Calling → Type 0
  CallsExtend call call' = (f argument base line : ℕ) (tape : Tape) → Extends (call f argument base line tape) (call' f argument base line tape)

  module _ (call call' : Calling) (extends_call : CallsExtend call call') (grows_call : CallsGrow w call') (less more : ℕ) (le : less ≤ more) where
    module _ (base : ℕ) where
      mutual
        extends_meaning : (s : Statement) (tape : Tape) → Extends (meaning w call base less s tape) (meaning w call' base more s tape)
        extends_meaning (Declare line k) tape = refl
        extends_meaning (Initialise line k e) tape = extends_same (meaning w call base less (Initialise line k e) tape)
        extends_meaning (Empty line) tape = refl
        extends_meaning (Assign line k e) tape = extends_same (meaning w call base less (Assign line k e) tape)
        extends_meaning (AssignElement line i e) tape = extends_same (meaning w call base less (AssignElement line i e) tape)
        extends_meaning (Call line f k) tape =
            let place = address_of base k in
            extends_then (call f place base line tape) (call' f place base line tape) (λ r t. Goes Next t) (λ r t. Goes Next t) (extends_call f place base line tape) (λ r t. refl) (λ r t. ([], refl))
        extends_meaning (Mark line kind) tape = extends_same (meaning w call base less (Mark line kind) tape)
        extends_meaning (Put line e) tape = extends_same (meaning w call base less (Put line e) tape)
        extends_meaning (Return line e) tape = extends_same (meaning w call base less (Return line e) tape)
        extends_meaning (Block line all) tape = extends_meanings all tape
        extends_meaning (If line e s) tape =
            extends_behind (value_of w base e line tape) _ _
            (λ v t. extends_if (is_true v) (meaning w call base less s t) (meaning w call' base more s t) (Goes Next t) (Goes Next t) (extends_meaning s t) refl)
            (λ v t. grows_if (is_true v) (meaning w call' base more s t) (Goes Next t) t (grows_meaning w call' grows_call base more s t) ([], refl))
        extends_meaning (IfElse line e s other) tape =
            extends_behind (value_of w base e line tape) _ _
            (λ v t. extends_if (is_true v) (meaning w call base less s t) (meaning w call' base more s t) (meaning w call base less other t) (meaning w call' base more other t) (extends_meaning s t) (extends_meaning other t))
            (λ v t. grows_if (is_true v) (meaning w call' base more s t) (meaning w call' base more other t) t (grows_meaning w call' grows_call base more s t) (grows_meaning w call' grows_call base more other t))
        extends_meaning (While line e s) tape =
            extends_turning (value_of w base e line) (meaning w call base less s) (meaning w call' base more s) line (grows_value w base e line) (grows_meaning w call' grows_call base more s) (extends_meaning s) less more le tape

        extends_meanings : (all : Statements) (tape : Tape) → Extends (meanings w call base less all tape) (meanings w call' base more all tape)
        extends_meanings tree.End tape = refl
        extends_meanings (More s rest) tape =
            extends_then (meaning w call base less s tape) (meaning w call' base more s tape) (on_next (meanings w call base less rest)) (on_next (meanings w call' base more rest)) (extends_meaning s tape)
            (extends_next (meanings w call base less rest) (meanings w call' base more rest) (extends_meanings rest)) (grows_next w (meanings w call' base more rest) (grows_meanings w call' grows_call base more rest))

    extends_applied : (f : Function) (arguments : List ℕ) (line : ℕ) (tape : Tape) → Extends (applied w call less f arguments line tape) (applied w call' more f arguments line tape)
    extends_applied f arguments line tape =
        extends_behind (ask w (Enter (frame_of f)) line tape) _ _
        (λ base t. extends_behind (stores w base 0 arguments line t) _ _
        (λ r t'. extends_then (meanings w call base less f.body t') (meanings w call' base more f.body t') (λ flow t''. Goes (exit_by base f.end flow) t'') (λ flow t''. Goes (exit_by base f.end flow) t'') (extends_meanings base f.body t') (λ flow t''. refl) (λ flow t''. ([], refl)))
        (λ r t'. grows_applied_from w call' grows_call base more f arguments line t'))
        (λ base t. grows_then (stores w base 0 arguments line t) _ t (grows_stores w base 0 arguments line t) (λ r t'. grows_applied_from w call' grows_call base more f arguments line t'))

    extends_plain_call : (f : Function) (argument line : ℕ) (tape : Tape) → Extends (plain_call w call less f argument line tape) (plain_call w call' more f argument line tape)
    extends_plain_call f argument line tape =
        extends_then (applied w call less f (argument ∷ []) line tape) (applied w call' more f (argument ∷ []) line tape) (left w (frame_of f)) (left w (frame_of f)) (extends_applied f (argument ∷ []) line tape) (λ exit t. extends_same (left w (frame_of f) exit t)) (grows_left w (frame_of f))

    extends_task_body : (f : Function) (argument line reply : ℕ) (tape : Tape) → Extends (task_body w call less f argument line reply tape) (task_body w call' more f argument line reply tape)
    extends_task_body f argument line zero tape = extends_same (task_body w call less f argument line 0 tape)
    extends_task_body f argument line (suc reply) tape =
        extends_then (applied w call less f (argument ∷ []) line tape) (applied w call' more f (argument ∷ []) line tape) _ _ (extends_applied f (argument ∷ []) line tape) (λ exit t. extends_same _) (grows_returns w (frame_of f))

    extends_called : (number : ℕ) (f : Option Function) (argument base line : ℕ) (tape : Tape) → Extends (called w call less number f argument base line tape) (called w call' more number f argument base line tape)
    extends_called number None argument base line tape = ([], refl)
    extends_called number (Some f) argument base line tape =
        let task = Calls (task_call_of number argument base) in
        extends_if (f.is_task && is_started tape) (then_do (ask w task line tape) (task_body w call less f argument line)) (then_do (ask w task line tape) (task_body w call' more f argument line)) (plain_call w call less f argument line tape) (plain_call w call' more f argument line tape)
        (extends_behind (ask w task line tape) (task_body w call less f argument line) (task_body w call' more f argument line) (extends_task_body f argument line) (grows_task_body w call' grows_call more f argument line))
        (extends_plain_call f argument line tape)

  extends_calls : (functions : List Function) (less more : ℕ) → less ≤ more → CallsExtend (calls w functions less) (calls w functions more)
  extends_calls functions zero more le f argument base line tape = grows_calls w functions more f argument base line tape
  extends_calls functions (suc less) zero le f argument base line tape = absurd (omega arith)
  extends_calls functions (suc less) (suc more) le f argument base line tape =
      extends_called (calls w functions less) (calls w functions more) (extends_calls functions less more (omega arith)) (grows_calls w functions more) less more (omega arith) f (slice_get functions f) argument base line tape

pub extends_source : (w : World) (less more : ℕ) (p : Program) → less ≤ more → Extends (source w less p) (source w more p)
extends_source w less more p le =
    let call = calls w p.functions less in
    let call' = calls w p.functions more in
    let last = main_left w (frame_of p.main) in
    extends_then (applied w call less p.main [] p.main.line []) (applied w call' more p.main [] p.main.line []) last last
    (extends_applied w call call' (extends_calls w p.functions less more le) (grows_calls w p.functions more) less more le p.main [] p.main.line [])
    (λ exit t. extends_same (last exit t)) (grows_main_left w (frame_of p.main))
