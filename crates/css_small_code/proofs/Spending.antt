-- While a dialogue is inside a part of a world where each turn and each entry takes a unit, a fuel of more than the units that are left
-- is never spent.
use Rattle.std.proofs.Common.{◌≡◌, ℕ, zero, suc, ◌+◌, ◌<◌, ◌≤◌, ℤ, pos, Bool, true, false, Option, Some, None, if◌then◌else◌, List, [], ◌∷◌, length, refl, subst, arith}
use Rattle.css_base.specs.declared.int_type.IntType.TheVariants.{Int}
use Rattle.css_num.specs.Conversion.{modulo, representation, converted}
use Rattle.css_semantics.specs.Dialogue as dialogue
use Rattle.css_semantics.specs.Dialogue.{Action, Enter, Turn, Leave, Load, Store, Out, Calls, Returns, End, Item, item, Reply, Says, Fails, Refuses, World, Tape, Outcome, Goes, Stops, Stopped, Tired, then_do, replied, ask}
use Rattle.css_semantics.specs.Memory.{big_endian_bytes}
use Rattle.css_semantics.specs.Tasks.{is_started}
use Rattle.css_small.specs.declared.tree.Directive.{Directive}
use Rattle.css_small.specs.declared.tree.Directive.TheVariants as directives
use Rattle.css_small.specs.Tree as tree
use Rattle.css_small.specs.Tree.{Expression, Number, Variable, Element, Unary, Binary, And, Or, Statement, Declare, Initialise, Empty, Assign, AssignElement, Call, Mark, Put, Return, Block, If, IfElse, While, Statements, More, Function, Program}
use Rattle.css_small.specs.Numbers.{Scope, AreWithin, AllWithin, HasNumbers}
use Rattle.css_small_code.specs.Meaning.{address_of, element_of, given, is_true, load, store, pointer, element_at, value_of, element, Flow, Next, Returned, on_next, turning, Calling, action_of, assigned, element_assigned, meaning, meanings, Exit, exit_by, stores, applied, left, plain_call, calls, finished, main_left, frame_of, source}
use Rattle.css_small_code.proofs.Places.{scope_of}

-- neither the call of a task nor its return
abbrev pub IsNoMark : Action → Type 0
IsNoMark (Calls call) = ⊥
IsNoMark Returns = ⊥
IsNoMark action = Unit {0}

abbrev pub TakesUnit : Action → Type 0
TakesUnit (Enter size) = Unit {0}
TakesUnit Turn = Unit {0}
TakesUnit action = ⊥

mark_plain : (kind : Directive) → IsNoMark (action_of kind)
mark_plain directives.Start = tt
mark_plain directives.Finish = tt
mark_plain directives.Barrier = tt

module _ (IsIn : Tape → Type 0) (units_at : Tape → ℕ) where
  -- behind a tape the outcome isn't tired, and where it goes on, it is still inside, and no more units are left
  abbrev pub Ends : {A : Type 0} → Tape → Outcome A → Type 0
  Ends tape (Goes a t) = IsIn t × (units_at t ≤ units_at tape)
  Ends tape (Stops (Stopped stop line) t) = Unit {0}
  Ends tape (Stops Tired t) = ⊥

  -- and it has taken a unit
  abbrev pub Takes : {A : Type 0} → Tape → Outcome A → Type 0
  Takes tape (Goes a t) = IsIn t × (units_at t < units_at tape)
  Takes tape (Stops (Stopped stop line) t) = Unit {0}
  Takes tape (Stops Tired t) = ⊥

  -- the same behind an older tape
  pub ends_reply_from : (reply : Reply) (i : Item) (mid tape : Tape) → ((value : ℕ) → reply ≡ Says value → IsIn (i ∷ mid) × (units_at (i ∷ mid) ≤ units_at tape)) → Ends tape (replied reply i mid)
  ends_reply_from (Says value) i mid tape h = h value refl
  ends_reply_from Fails i mid tape h = tt
  ends_reply_from (Refuses rule) i mid tape h = tt

  pub ends_reply : (reply : Reply) (i : Item) (tape : Tape) → ((value : ℕ) → reply ≡ Says value → IsIn (i ∷ tape) × (units_at (i ∷ tape) ≤ units_at tape)) → Ends tape (replied reply i tape)
  ends_reply reply i tape h = ends_reply_from reply i tape tape h

  pub takes_reply : (reply : Reply) (i : Item) (tape : Tape) → ((value : ℕ) → reply ≡ Says value → IsIn (i ∷ tape) × (units_at (i ∷ tape) < units_at tape)) → Takes tape (replied reply i tape)
  takes_reply (Says value) i tape h = h value refl
  takes_reply Fails i tape h = tt
  takes_reply (Refuses rule) i tape h = tt

  ends_from : {A : Type 0} (o : Outcome A) (tape mid : Tape) → units_at mid ≤ units_at tape → Ends mid o → Ends tape o
  ends_from (Goes a t) tape mid le h = (h.0, omega (arith, le, h.1))
  ends_from (Stops (Stopped stop line) t) tape mid le h = tt
  ends_from (Stops Tired t) tape mid le h = h

  pub stays : (tape : Tape) → IsIn tape → IsIn tape × (units_at tape ≤ units_at tape)
  stays tape is = (is, omega arith)

  pub ends_then : {A B : Type 0} (o : Outcome A) (go : A → Tape → Outcome B) (tape : Tape) → Ends tape o → ((a : A) (t : Tape) → IsIn t → units_at t ≤ units_at tape → Ends t (go a t)) → Ends tape (then_do o go)
  ends_then (Goes a t) go tape h next = ends_from (go a t) tape t h.1 (next a t h.0 h.1)
  ends_then (Stops (Stopped stop line) t) go tape h next = tt
  ends_then (Stops Tired t) go tape h next = absurd h

  takes_then : {A B : Type 0} (o : Outcome A) (go : A → Tape → Outcome B) (tape : Tape) → Takes tape o → ((a : A) (t : Tape) → IsIn t → units_at t < units_at tape → Ends t (go a t)) → Ends tape (then_do o go)
  takes_then (Goes a t) go tape h next = ends_from (go a t) tape t (omega (arith, h.1)) (next a t h.0 h.1)
  takes_then (Stops (Stopped stop line) t) go tape h next = tt
  takes_then (Stops Tired t) go tape h next = absurd h

  pub ends_if : {A : Type 0} (b : Bool) (o p : Outcome A) (tape : Tape) → Ends tape o → Ends tape p → Ends tape (if b then o else p)
  ends_if true o p tape h k = h
  ends_if false o p tape h k = k

  ends_given : (o : Option ℤ) (line : ℕ) (tape : Tape) → IsIn tape → Ends tape (given o line tape)
  ends_given None line tape is = tt
  ends_given (Some v) line tape is = stays tape is

  ends_next : (go : Tape → Outcome Flow) (flow : Flow) (t : Tape) → IsIn t → Ends t (go t) → Ends t (on_next go flow t)
  ends_next go Next t is h = h
  ends_next go (Returned value line) t is h = stays t is

  -- inside, what is asked doesn't lead out, but for a task's call and its return, gives no units, and takes one where it is to
  pub record Spends (w : World) : Type 0 where
    pub asks : (action : Action) (line : ℕ) (tape : Tape) → IsNoMark action → IsIn tape → Ends tape (ask w action line tape)
    pub takes : (action : Action) (line : ℕ) (tape : Tape) → TakesUnit action → IsIn tape → Takes tape (ask w action line tape)

  module _ (w : World) (spends : Spends w) where
    module _ (base : ℕ) where
      ends_load : (address line : ℕ) (tape : Tape) → IsIn tape → Ends tape (load w base address line tape)
      ends_load address line tape is =
          ends_then (ask w (Load address 4) line tape) (λ r t. Goes (converted Int (pos r)) t) tape (spends.asks (Load address 4) line tape tt is) (λ r t is le. stays t is)

      ends_element_at : (index : Tape → Outcome ℤ) → ((t : Tape) → IsIn t → Ends t (index t)) → (line : ℕ) (tape : Tape) → IsIn tape → Ends tape (element_at w base index line tape)
      ends_element_at index h line tape is =
          ends_then (pointer w base line tape) (λ p t. then_do (index t) (λ i t'. Goes (element_of p i) t')) tape (spends.asks (Load (address_of base 0) 4) line tape tt is) (λ p t is le.
          ends_then (index t) (λ i t'. Goes (element_of p i) t') t (h t is) (λ i t' is le. stays t' is))

      ends_value : (e : Expression) (line : ℕ) (tape : Tape) → IsIn tape → Ends tape (value_of w base e line tape)
      ends_value (Number value) line tape is = stays tape is
      ends_value (Variable k) line tape is = ends_load (address_of base k) line tape is
      ends_value (Element e) line tape is =
          ends_then (element_at w base (value_of w base e line) line tape) _ tape (ends_element_at (value_of w base e line) (ends_value e line) line tape is) (λ address t is le. ends_load address line t is)
      ends_value (Unary op e) line tape is = ends_then (value_of w base e line tape) _ tape (ends_value e line tape is) (λ v t is le. stays t is)
      ends_value (Binary op a b) line tape is =
          ends_then (value_of w base a line tape) _ tape (ends_value a line tape is) (λ x t is le.
          ends_then (value_of w base b line t) _ t (ends_value b line t is) (λ y t' is le. ends_given _ line t' is))
      ends_value (And a b) line tape is =
          ends_then (value_of w base a line tape) _ tape (ends_value a line tape is) (λ x t is le.
          ends_if (is_true x) _ _ t (ends_then (value_of w base b line t) _ t (ends_value b line t is) (λ y t' is le. stays t' is)) (stays t is))
      ends_value (Or a b) line tape is =
          ends_then (value_of w base a line tape) _ tape (ends_value a line tape is) (λ x t is le.
          ends_if (is_true x) _ _ t (stays t is) (ends_then (value_of w base b line t) _ t (ends_value b line t is) (λ y t' is le. stays t' is)))

      ends_store : (address : ℕ) (v : ℤ) (line : ℕ) (tape : Tape) → IsIn tape → Ends tape (store w base address v line tape)
      ends_store address v line tape is = spends.asks (Store address (big_endian_bytes 4 (representation Int v))) line tape tt is

    -- a loop with more fuel than there are units left
    ends_turning : (fuel : ℕ) (condition : Tape → Outcome ℤ) (body : Tape → Outcome Flow) (line : ℕ) → ((t : Tape) → IsIn t → Ends t (condition t)) → ((t : Tape) → IsIn t → units_at t < fuel → Ends t (body t)) →
        (n : ℕ) → n ≤ fuel → (tape : Tape) → IsIn tape → units_at tape < n → Ends tape (turning w condition body line n tape)
    ends_turning fuel condition body line test step zero most tape is less = absurd (omega arith)
    ends_turning fuel condition body line test step (suc n) most tape is less =
        let more = turning w condition body line n in
        ends_then (condition tape) _ tape (test tape is) (λ v t is le.
        ends_if (is_true v) (then_do (ask w Turn line t) (λ r t'. then_do (body t') (on_next more))) (Goes Next t) t
        (takes_then (ask w Turn line t) (λ r t'. then_do (body t') (on_next more)) t (spends.takes Turn line t tt is) (λ r t' is lower.
        ends_then (body t') (on_next more) t' (step t' is (omega (arith, most, less, le, lower))) (λ flow t'' is le'.
        ends_next more flow t'' is (ends_turning fuel condition body line test step n (omega (arith, most)) t'' is (omega (arith, less, le, lower, le'))))))
        (stays t is))

    -- calls by fewer units than the fuel end
    abbrev pub CallsEnd : (functions fuel : ℕ) → Calling → Type 0
    CallsEnd functions fuel call = (f argument base line : ℕ) (tape : Tape) → f < functions → IsIn tape → units_at tape < fuel → Ends tape (call f argument base line tape)

    module _ (call : Calling) (scope : Scope) (fuel : ℕ) (ends_call : CallsEnd scope.functions fuel call) where
      module _ (base : ℕ) where
        ends_assigned : (k : ℕ) (e : Expression) (line : ℕ) (tape : Tape) → IsIn tape → Ends tape (assigned w call base fuel k e line tape)
        ends_assigned k e line tape is =
            ends_then (value_of w base e line tape) _ tape (ends_value base e line tape is) (λ v t is le.
            ends_then (store w base (address_of base k) v line t) (λ r t'. Goes Next t') t (ends_store base (address_of base k) v line t is) (λ r t' is le. stays t' is))

        ends_element_assigned : (i e : Expression) (line : ℕ) (tape : Tape) → IsIn tape → Ends tape (element_assigned w call base fuel i e line tape)
        ends_element_assigned i e line tape is =
            ends_then (element w base i line tape) _ tape (ends_element_at base (value_of w base i line) (ends_value base i line) line tape is) (λ address t is le.
            ends_then (value_of w base e line t) _ t (ends_value base e line t is) (λ v t' is le.
            ends_then (store w base address v line t') (λ r t''. Goes Next t'') t' (ends_store base address v line t' is) (λ r t'' is le. stays t'' is)))

        mutual
          ends_meaning : (s : Statement) → AreWithin scope s → (tape : Tape) → IsIn tape → units_at tape < fuel → Ends tape (meaning w call base fuel s tape)
          ends_meaning (Declare line k) within tape is less = stays tape is
          ends_meaning (Initialise line k e) within tape is less = ends_assigned k e line tape is
          ends_meaning (Empty line) within tape is less = stays tape is
          ends_meaning (Assign line k e) within tape is less = ends_assigned k e line tape is
          ends_meaning (AssignElement line i e) within tape is less = ends_element_assigned i e line tape is
          ends_meaning (Call line f k) within tape is less =
              ends_then (call f (address_of base k) base line tape) (λ r t. Goes Next t) tape (ends_call f (address_of base k) base line tape within.0 is less) (λ r t is le. stays t is)
          ends_meaning (Mark line kind) within tape is less =
              ends_then (ask w (action_of kind) line tape) (λ r t. Goes Next t) tape (spends.asks (action_of kind) line tape (mark_plain kind) is) (λ r t is le. stays t is)
          ends_meaning (Put line e) within tape is less =
              ends_then (value_of w base e line tape) _ tape (ends_value base e line tape is) (λ v t is le.
              ends_then (ask w (Out (modulo v 256 ∷ [])) line t) (λ r t'. Goes Next t') t (spends.asks (Out (modulo v 256 ∷ [])) line t tt is) (λ r t' is le. stays t' is))
          ends_meaning (Return line e) within tape is less = ends_then (value_of w base e line tape) _ tape (ends_value base e line tape is) (λ v t is le. stays t is)
          ends_meaning (Block line all) within tape is less = ends_meanings all within tape is less
          ends_meaning (If line e s) within tape is less =
              ends_then (value_of w base e line tape) _ tape (ends_value base e line tape is) (λ v t is le.
              ends_if (is_true v) _ _ t (ends_meaning s within.1 t is (omega (arith, less, le))) (stays t is))
          ends_meaning (IfElse line e s other) within tape is less =
              ends_then (value_of w base e line tape) _ tape (ends_value base e line tape is) (λ v t is le.
              ends_if (is_true v) _ _ t (ends_meaning s within.1 t is (omega (arith, less, le))) (ends_meaning other within.2 t is (omega (arith, less, le))))
          ends_meaning (While line e s) within tape is less =
              ends_turning fuel (value_of w base e line) (meaning w call base fuel s) line (ends_value base e line) (ends_meaning s within.1) fuel (omega arith) tape is less

          ends_meanings : (all : Statements) → AllWithin scope all → (tape : Tape) → IsIn tape → units_at tape < fuel → Ends tape (meanings w call base fuel all tape)
          ends_meanings tree.End within tape is less = stays tape is
          ends_meanings (More s rest) within tape is less =
              ends_then (meaning w call base fuel s tape) (on_next (meanings w call base fuel rest)) tape (ends_meaning s within.0 tape is less) (λ flow t is le.
              ends_next (meanings w call base fuel rest) flow t is (ends_meanings rest within.1 t is (omega (arith, less, le))))

        ends_stores : (k : ℕ) (arguments : List ℕ) (line : ℕ) (tape : Tape) → IsIn tape → Ends tape (stores w base k arguments line tape)
        ends_stores k [] line tape is = stays tape is
        ends_stores k (a ∷ arguments) line tape is =
            let stored = Store (address_of base k) (big_endian_bytes 4 a) in
            ends_then (ask w stored line tape) (λ r t. stores w base (k + 1) arguments line t) tape (spends.asks stored line tape tt is) (λ r t is le. ends_stores (k + 1) arguments line t is)

      -- a function with as much fuel as there are units left, since its entry takes one
      pub ends_applied : (f : Function) → AllWithin scope f.body → (arguments : List ℕ) (line : ℕ) (tape : Tape) → IsIn tape → units_at tape ≤ fuel → Ends tape (applied w call fuel f arguments line tape)
      ends_applied f within arguments line tape is few =
          takes_then (ask w (Enter (frame_of f)) line tape) _ tape (spends.takes (Enter (frame_of f)) line tape tt is) (λ base t is lower.
          ends_then (stores w base 0 arguments line t) _ t (ends_stores base 0 arguments line t is) (λ r t' is le.
          ends_then (meanings w call base fuel f.body t') (λ flow t''. Goes (exit_by base f.end flow) t'') t' (ends_meanings base f.body within t' is (omega (arith, few, lower, le))) (λ flow t'' is le. stays t'' is)))

    pub ends_left : (frame : ℕ) (exit : Exit) (tape : Tape) → IsIn tape → Ends tape (left w frame exit tape)
    ends_left frame exit tape is = spends.asks (Leave exit.base frame) exit.line tape tt is

    pub ends_plain_call : (call : Calling) (scope : Scope) (fuel : ℕ) → CallsEnd scope.functions fuel call → (f : Function) → AllWithin scope f.body → (argument line : ℕ) (tape : Tape) → IsIn tape → units_at tape ≤ fuel →
        Ends tape (plain_call w call fuel f argument line tape)
    ends_plain_call call scope fuel ends_call f within argument line tape is few =
        ends_then (applied w call fuel f (argument ∷ []) line tape) (left w (frame_of f)) tape (ends_applied call scope fuel ends_call f within (argument ∷ []) line tape is few) (λ exit t is le. ends_left (frame_of f) exit t is)

    -- ---- main

    ends_main_left : (frame : ℕ) (exit : Exit) (tape : Tape) → IsIn tape → Ends tape (main_left w frame exit tape)
    ends_main_left frame exit tape is =
        let result = λ (r : ℕ) (t : Tape). Goes exit.value t in
        let ends = λ (r : ℕ) (t : Tape). then_do (ask w (End exit.value) exit.line t) result in
        ends_then (finished w exit.line tape) (λ r t. then_do (left w frame exit t) ends) tape
        (ends_if (is_started tape) (ask w dialogue.Finish exit.line tape) (Goes 0 tape) tape (spends.asks dialogue.Finish exit.line tape tt is) (stays tape is)) (λ r t is le.
        ends_then (left w frame exit t) ends t (ends_left frame exit t is) (λ r' t' is le'.
        ends_then (ask w (End exit.value) exit.line t') result t' (spends.asks (End exit.value) exit.line t' tt is) (λ r'' t'' is le''. stays t'' is)))

    -- a program is never tired if its calls end, by as much fuel as there are units at first
    pub ends_source : (p : Program) (fuel : ℕ) → HasNumbers p → CallsEnd (length p.functions) fuel (calls w p.functions fuel) → IsIn [] → units_at [] ≤ fuel → Ends [] (source w fuel p)
    ends_source p fuel numbers ends_call is few =
        let scope = scope_of (length p.functions) p.main in
        let call = calls w p.functions fuel in
        ends_then (applied w call fuel p.main [] p.main.line []) (main_left w (frame_of p.main)) []
        (ends_applied call scope fuel ends_call p.main numbers.main.2.within [] p.main.line [] is few) (λ exit t is le. ends_main_left (frame_of p.main) exit t is)

  pub not_tired : {A : Type 0} (o : Outcome A) (start tape : Tape) → Ends start o → o ≡ Stops Tired tape → ⊥
  not_tired o start tape h e = subst (Ends start) e h
