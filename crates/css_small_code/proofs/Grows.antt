-- A tape only grows.
use Rattle.std.proofs.Common.{◌≡◌, ℕ, zero, suc, ◌+◌, ℤ, Bool, true, false, ◌&&◌, Option, Some, None, if◌then◌else◌, List, [], ◌∷◌, ◌++◌, refl, sym, ap, ◌∙◌, append_assoc}
use Rattle.std.specs.Prelude.{slice_get}
use Rattle.css_base.specs.declared.ending.FaultKind.TheVariants.{DivideByZero, OutsideMemory}
use Rattle.css_semantics.specs.Dialogue as dialogue
use Rattle.css_semantics.specs.Dialogue.{Action, Enter, Turn, Leave, Calls, Returns, Fault, End, Item, item, Reply, Says, Fails, Refuses, World, Tape, Outcome, Goes, Stops, Tired, tape_of, then_do, replied, ask}
use Rattle.css_semantics.specs.Tasks.{is_started}
use Rattle.css_small.specs.Tree as tree
use Rattle.css_small.specs.Tree.{Expression, Number, Variable, Element, Unary, Binary, And, Or, Statement, Declare, Initialise, Empty, Assign, AssignElement, Call, Mark, Put, Return, Block, If, IfElse, While, Statements, More, Function}
use Rattle.css_small_code.specs.Meaning.{given, is_true, load, store, pointer, element_at, value_of, element, Flow, Next, Returned, on_next, turning, Calling, assigned, element_assigned, meaning, meanings, Exit, exit_by, stores, applied, left, plain_call, task_call_of, task_body, called, calls, finished, main_left, frame_of}

-- the outcome's tape has this one behind it
abbrev pub Grows : {A : Type 0} → Tape → Outcome A → Type 0
Grows tape o = (newer : Tape) × (tape_of o ≡ newer ++ tape)

grows_more : {A : Type 0} (o : Outcome A) (mid tape newer : Tape) → mid ≡ newer ++ tape → Grows mid o → Grows tape o
grows_more o mid tape newer e h = (h.0 ++ newer, h.1 ∙ ap (λ l. h.0 ++ l) e ∙ sym (append_assoc h.0 newer tape))

pub grows_then : {A B : Type 0} (o : Outcome A) (go : A → Tape → Outcome B) (tape : Tape) → Grows tape o → ((a : A) (t : Tape) → Grows t (go a t)) → Grows tape (then_do o go)
grows_then (Goes a t) go tape h next = grows_more (go a t) t tape h.0 h.1 (next a t)
grows_then (Stops why t) go tape h next = h

pub grows_if : {A : Type 0} (b : Bool) (o p : Outcome A) (tape : Tape) → Grows tape o → Grows tape p → Grows tape (if b then o else p)
grows_if true o p tape h k = h
grows_if false o p tape h k = k

grows_reply : (reply : Reply) (i : Item) (tape : Tape) → Grows tape (replied reply i tape)
grows_reply (Says value) i tape = (i ∷ [], refl)
grows_reply Fails i tape = (item (Fault OutsideMemory) i.line ∷ i ∷ [], refl)
grows_reply (Refuses rule) i tape = ([], refl)

grows_given : (o : Option ℤ) (line : ℕ) (tape : Tape) → Grows tape (given o line tape)
grows_given None line tape = (item (Fault DivideByZero) line ∷ [], refl)
grows_given (Some v) line tape = ([], refl)

module _ (w : World) where
  pub grows_ask : (action : Action) (line : ℕ) (tape : Tape) → Grows tape (ask w action line tape)
  grows_ask action line tape = grows_reply (w tape (item action line)) (item action line) tape

  module _ (base : ℕ) where
    grows_load : (address line : ℕ) (tape : Tape) → Grows tape (load w base address line tape)
    grows_load address line tape = grows_then (ask w _ line tape) _ tape (grows_ask _ line tape) (λ r t. ([], refl))

    grows_element_at : (index : Tape → Outcome ℤ) → ((t : Tape) → Grows t (index t)) → (line : ℕ) (tape : Tape) → Grows tape (element_at w base index line tape)
    grows_element_at index h line tape =
        grows_then (pointer w base line tape) _ tape (grows_ask _ line tape) (λ p t. grows_then (index t) _ t (h t) (λ i t'. ([], refl)))

    pub grows_value : (e : Expression) (line : ℕ) (tape : Tape) → Grows tape (value_of w base e line tape)
    grows_value (Number value) line tape = ([], refl)
    grows_value (Variable k) line tape = grows_load _ line tape
    grows_value (Element e) line tape =
        grows_then (element_at w base (value_of w base e line) line tape) _ tape (grows_element_at (value_of w base e line) (grows_value e line) line tape) (λ address t. grows_load address line t)
    grows_value (Unary op e) line tape = grows_then (value_of w base e line tape) _ tape (grows_value e line tape) (λ v t. ([], refl))
    grows_value (Binary op a b) line tape =
        grows_then (value_of w base a line tape) _ tape (grows_value a line tape) (λ x t.
        grows_then (value_of w base b line t) _ t (grows_value b line t) (λ y t'. grows_given _ line t'))
    grows_value (And a b) line tape =
        grows_then (value_of w base a line tape) _ tape (grows_value a line tape) (λ x t.
        grows_if (is_true x) _ _ t (grows_then (value_of w base b line t) _ t (grows_value b line t) (λ y t'. ([], refl))) ([], refl))
    grows_value (Or a b) line tape =
        grows_then (value_of w base a line tape) _ tape (grows_value a line tape) (λ x t.
        grows_if (is_true x) _ _ t ([], refl) (grows_then (value_of w base b line t) _ t (grows_value b line t) (λ y t'. ([], refl))))

  pub grows_next : (go : Tape → Outcome Flow) → ((t : Tape) → Grows t (go t)) → (flow : Flow) (t : Tape) → Grows t (on_next go flow t)
  grows_next go h Next t = h t
  grows_next go h (Returned value line) t = ([], refl)

  pub grows_turning : (condition : Tape → Outcome ℤ) (body : Tape → Outcome Flow) (line : ℕ) → ((t : Tape) → Grows t (condition t)) → ((t : Tape) → Grows t (body t)) → (n : ℕ) (tape : Tape) → Grows tape (turning w condition body line n tape)
  grows_turning condition body line test step zero tape = ([], refl)
  grows_turning condition body line test step (suc n) tape =
      grows_then (condition tape) _ tape (test tape) (λ v t.
      grows_if (is_true v) _ _ t (grows_then (ask w Turn line t) _ t (grows_ask Turn line t) (λ r t'.
      grows_then (body t') (on_next (turning w condition body line n)) t' (step t') (grows_next (turning w condition body line n) (grows_turning condition body line test step n)))) ([], refl))

  -- what calls mean grows a tape
  abbrev pub CallsGrow : Calling → Type 0
  CallsGrow call = (f argument base line : ℕ) (tape : Tape) → Grows tape (call f argument base line tape)

  module _ (call : Calling) (grows_call : CallsGrow call) where
    module _ (base fuel : ℕ) where
      grows_assigned : (k : ℕ) (e : Expression) (line : ℕ) (tape : Tape) → Grows tape (assigned w call base fuel k e line tape)
      grows_assigned k e line tape =
          grows_then (value_of w base e line tape) _ tape (grows_value base e line tape) (λ v t.
          grows_then (store w base _ v line t) _ t (grows_ask _ line t) (λ r t'. ([], refl)))

      grows_element_assigned : (i e : Expression) (line : ℕ) (tape : Tape) → Grows tape (element_assigned w call base fuel i e line tape)
      grows_element_assigned i e line tape =
          grows_then (element w base i line tape) _ tape (grows_element_at base (value_of w base i line) (grows_value base i line) line tape) (λ address t.
          grows_then (value_of w base e line t) _ t (grows_value base e line t) (λ v t'.
          grows_then (store w base address v line t') _ t' (grows_ask _ line t') (λ r t''. ([], refl))))

      mutual
        pub grows_meaning : (s : Statement) (tape : Tape) → Grows tape (meaning w call base fuel s tape)
        grows_meaning (Declare line k) tape = ([], refl)
        grows_meaning (Initialise line k e) tape = grows_assigned k e line tape
        grows_meaning (Empty line) tape = ([], refl)
        grows_meaning (Assign line k e) tape = grows_assigned k e line tape
        grows_meaning (AssignElement line i e) tape = grows_element_assigned i e line tape
        grows_meaning (Call line f k) tape = grows_then (call f _ base line tape) _ tape (grows_call f _ base line tape) (λ r t. ([], refl))
        grows_meaning (Mark line kind) tape = grows_then (ask w _ line tape) _ tape (grows_ask _ line tape) (λ r t. ([], refl))
        grows_meaning (Put line e) tape =
            grows_then (value_of w base e line tape) _ tape (grows_value base e line tape) (λ v t.
            grows_then (ask w _ line t) _ t (grows_ask _ line t) (λ r t'. ([], refl)))
        grows_meaning (Return line e) tape = grows_then (value_of w base e line tape) _ tape (grows_value base e line tape) (λ v t. ([], refl))
        grows_meaning (Block line all) tape = grows_meanings all tape
        grows_meaning (If line e s) tape =
            grows_then (value_of w base e line tape) _ tape (grows_value base e line tape) (λ v t. grows_if (is_true v) _ _ t (grows_meaning s t) ([], refl))
        grows_meaning (IfElse line e s other) tape =
            grows_then (value_of w base e line tape) _ tape (grows_value base e line tape) (λ v t. grows_if (is_true v) _ _ t (grows_meaning s t) (grows_meaning other t))
        grows_meaning (While line e s) tape =
            grows_turning (value_of w base e line) (meaning w call base fuel s) line (grows_value base e line) (grows_meaning s) fuel tape

        pub grows_meanings : (all : Statements) (tape : Tape) → Grows tape (meanings w call base fuel all tape)
        grows_meanings tree.End tape = ([], refl)
        grows_meanings (More s rest) tape =
            grows_then (meaning w call base fuel s tape) (on_next (meanings w call base fuel rest)) tape (grows_meaning s tape) (grows_next (meanings w call base fuel rest) (grows_meanings rest))

    pub grows_applied_from : (base fuel : ℕ) (f : Function) (arguments : List ℕ) (line : ℕ) (tape : Tape) → Grows tape (then_do (meanings w call base fuel f.body tape) (λ flow t. Goes (exit_by base f.end flow) t))
    grows_applied_from base fuel f arguments line tape = grows_then (meanings w call base fuel f.body tape) _ tape (grows_meanings base fuel f.body tape) (λ flow t. ([], refl))

  pub grows_stores : (base k : ℕ) (arguments : List ℕ) (line : ℕ) (tape : Tape) → Grows tape (stores w base k arguments line tape)
  grows_stores base k [] line tape = ([], refl)
  grows_stores base k (a ∷ arguments) line tape = grows_then (ask w _ line tape) _ tape (grows_ask _ line tape) (λ r t. grows_stores base (k + 1) arguments line t)

  pub grows_applied : (call : Calling) → CallsGrow call → (fuel : ℕ) (f : Function) (arguments : List ℕ) (line : ℕ) (tape : Tape) → Grows tape (applied w call fuel f arguments line tape)
  grows_applied call grows_call fuel f arguments line tape =
      grows_then (ask w (Enter (frame_of f)) line tape) _ tape (grows_ask (Enter (frame_of f)) line tape) (λ base t.
      grows_then (stores w base 0 arguments line t) _ t (grows_stores base 0 arguments line t) (λ r t'.
      grows_applied_from call grows_call base fuel f arguments line t'))

  pub grows_left : (frame : ℕ) (exit : Exit) (tape : Tape) → Grows tape (left w frame exit tape)
  grows_left frame exit tape = grows_ask (Leave exit.base frame) exit.line tape

  pub grows_returns : (frame : ℕ) (exit : Exit) (tape : Tape) → Grows tape (then_do (left w frame exit tape) (λ r t. ask w Returns exit.line t))
  grows_returns frame exit tape = grows_then (left w frame exit tape) _ tape (grows_left frame exit tape) (λ r t. grows_ask Returns exit.line t)

  module _ (call : Calling) (grows_call : CallsGrow call) (fuel : ℕ) where
    pub grows_plain_call : (f : Function) (argument line : ℕ) (tape : Tape) → Grows tape (plain_call w call fuel f argument line tape)
    grows_plain_call f argument line tape =
        grows_then (applied w call fuel f (argument ∷ []) line tape) (left w (frame_of f)) tape (grows_applied call grows_call fuel f (argument ∷ []) line tape) (grows_left (frame_of f))

    pub grows_task_body : (f : Function) (argument line reply : ℕ) (tape : Tape) → Grows tape (task_body w call fuel f argument line reply tape)
    grows_task_body f argument line zero tape = grows_ask Returns line tape
    grows_task_body f argument line (suc reply) tape =
        grows_then (applied w call fuel f (argument ∷ []) line tape) _ tape (grows_applied call grows_call fuel f (argument ∷ []) line tape) (grows_returns (frame_of f))

    pub grows_called : (number : ℕ) (f : Option Function) (argument base line : ℕ) (tape : Tape) → Grows tape (called w call fuel number f argument base line tape)
    grows_called number None argument base line tape = ([], refl)
    grows_called number (Some f) argument base line tape =
        let task = Calls (task_call_of number argument base) in
        grows_if (f.is_task && is_started tape) (then_do (ask w task line tape) (task_body w call fuel f argument line)) (plain_call w call fuel f argument line tape) tape
        (grows_then (ask w task line tape) (task_body w call fuel f argument line) tape (grows_ask task line tape) (grows_task_body f argument line)) (grows_plain_call f argument line tape)

  pub grows_calls : (functions : List Function) (fuel : ℕ) → CallsGrow (calls w functions fuel)
  grows_calls functions zero f argument base line tape = ([], refl)
  grows_calls functions (suc fuel) f argument base line tape =
      grows_called (calls w functions fuel) (grows_calls functions fuel) fuel f (slice_get functions f) argument base line tape

  grows_finished : (line : ℕ) (tape : Tape) → Grows tape (finished w line tape)
  grows_finished line tape = grows_if (is_started tape) (ask w dialogue.Finish line tape) (Goes 0 tape) tape (grows_ask dialogue.Finish line tape) ([], refl)

  pub grows_main_left : (frame : ℕ) (exit : Exit) (tape : Tape) → Grows tape (main_left w frame exit tape)
  grows_main_left frame exit tape =
      grows_then (finished w exit.line tape) _ tape (grows_finished exit.line tape) (λ r t.
      grows_then (left w frame exit t) _ t (grows_left frame exit t) (λ r' t'.
      grows_then (ask w (End exit.value) exit.line t') _ t' (grows_ask (End exit.value) exit.line t') (λ r'' t''. ([], refl))))
