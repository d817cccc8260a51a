-- What is asked aside: in the expressions of a wait, and in dimensions.
use Rattle.std.proofs.Common.{IsTrue, ◌&&◌, ◌≡◌, ℕ, ℤ, Bool, true, false, Option, Some, None, if◌then◌else◌, List, ◌∷◌, refl, sym, ◌∙◌, subst}
use Rattle.css_base.specs.declared.ending.FaultKind.{FaultKind}
use Rattle.css_base.specs.declared.ending.Stop.TheVariants as stops
use Rattle.css_base.specs.declared.rule.Rule.{Rule}
use Rattle.css_num.specs.Operators.{binary_value}
use Rattle.css_semantics.specs.Dialogue.{Reply, Says, Fails, Refuses, Stopped, Tired, Load, WaitFault, DimFault, Item, item_in, World, Tape, Outcome, Goes, Stops, tape_of, then_do, Mode, Waiting, Measuring, is_aside_in, at_fault, fault_in, replied_in, ask_in}
use Rattle.css_core.specs.Core.{Expression, Number, Local, Given, Value, Convert, Unary, Binary, And, Or, Choice, Sequence, Expressions, Empty, More}
use Rattle.css_core.specs.Expressions.{calls_nothing, is_true, load, given, value_of, values_of}
use Rattle.css_core.specs.Quiet.{is_quiet, AreQuiet}
use Rattle.css_semantics.specs.Plain.{plain}
use Rattle.css_semantics.specs.Tasks.{makes_tasks}
use Rattle.css_core.specs.Erases.{Erases}
use Rattle.css_core.proofs.StaysInside.{makes_behind_load}
use Rattle.css_semantics.specs.Fronts.{Grows}
use Rattle.css_semantics.proofs.Growth.{grows_then}
use Rattle.css_semantics.specs.Erased.{IsErased}
use Rattle.css_core.proofs.Kept.{Making}

-- calls make tasks
abbrev pub IsHere : Tape → Type 0
IsHere t = makes_tasks t ≡ true

-- the outcome has the same plain tape, and is at no fault; where it goes on, calls still make tasks
abbrev pub IsAside : {A : Type 0} → Tape → Outcome A → Type 0
IsAside t (Goes a t') = IsHere t' × (plain t' ≡ plain t)
IsAside t (Stops (Stopped (stops.Fault kind) line) t') = ⊥
IsAside t (Stops (Stopped (stops.Rule rule) line) t') = plain t' ≡ plain t
IsAside t (Stops Tired t') = plain t' ≡ plain t

aside_from : {A : Type 0} (o : Outcome A) (t mid : Tape) → plain mid ≡ plain t → IsAside mid o → IsAside t o
aside_from (Goes a t') t mid e h = (h.0, h.1 ∙ e)
aside_from (Stops (Stopped (stops.Fault kind) line) t') t mid e h = h
aside_from (Stops (Stopped (stops.Rule rule) line) t') t mid e h = h ∙ e
aside_from (Stops Tired t') t mid e h = h ∙ e

aside_then : {A B : Type 0} (o : Outcome A) (go : A → Tape → Outcome B) (t : Tape) → IsAside t o → ((a : A) (t' : Tape) → IsHere t' → IsAside t' (go a t')) → IsAside t (then_do o go)
aside_then (Goes a t') go t h next = aside_from (go a t') t t' h.1 (next a t' h.0)
aside_then (Stops (Stopped (stops.Fault kind) line) t') go t h next = h
aside_then (Stops (Stopped (stops.Rule rule) line) t') go t h next = h
aside_then (Stops Tired t') go t h next = h

aside_if : {A : Type 0} (b : Bool) (o p : Outcome A) (t : Tape) → IsAside t o → IsAside t p → IsAside t (if b then o else p)
aside_if true o p t h k = h
aside_if false o p t h k = k

both : (a b : Bool) → IsTrue (a && b) → IsTrue a × IsTrue b
both true b h = (refl, h)
both false b h = cc

-- in a mode in which faults are refused
module _ (w : World) (mode : Mode) (aside : is_aside_in mode ≡ true) (refused : (A : Type 0) (kind : FaultKind) (line : ℕ) (t : Tape) → IsHere t → IsAside t (fault_in {A = A} w mode kind line t)) (base line : ℕ) where
  here_load : (address width : ℕ) (t : Tape) → IsHere t → IsHere (item_in mode (Load address width) line ∷ t)
  here_load address width t here = makes_behind_load mode address width line t ∙ here

  plain_load : (address width : ℕ) (t : Tape) → plain (item_in mode (Load address width) line ∷ t) ≡ plain t
  plain_load address width t = rw aside refl

  aside_reply : (r : Reply) (address width : ℕ) (t : Tape) → IsHere t → IsAside t (replied_in w mode r (item_in mode (Load address width) line) t)
  aside_reply (Says value) address width t here = (here_load address width t here, plain_load address width t)
  aside_reply Fails address width t here =
      aside_from _ t (item_in mode (Load address width) line ∷ t) (plain_load address width t) (refused ℕ _ line (item_in mode (Load address width) line ∷ t) (here_load address width t here))
  aside_reply (Refuses rule) address width t here = refl

  aside_load : (t' : _) (place : ℤ) (t : Tape) → IsHere t → IsAside t (load w calls_nothing base mode line t' place t)
  aside_load t' place t here = aside_then (ask_in w mode _ line t) _ t (aside_reply (w t _) _ _ t here) (λ r u q. (q, refl))

  aside_given : (o : Option ℤ) (t : Tape) → IsHere t → IsAside t (given w calls_nothing base mode line o t)
  aside_given None t here = refused ℤ _ line t here
  aside_given (Some v) t here = (here, refl)

  mutual
    pub aside_value : (e : Expression) → IsTrue (is_quiet e) → (t : Tape) → IsHere t → IsAside t (value_of w calls_nothing base mode line e t)
    aside_value (Number value) is t here = (here, refl)
    aside_value (Local offset) is t here = (here, refl)
    aside_value (Given k) is t here = (here, refl)
    aside_value (Value t' place) is t here = aside_then (value_of w calls_nothing base mode line place t) _ t (aside_value place is t here) (λ p u q. aside_load t' p u q)
    aside_value (Convert t' e) is t here = aside_then (value_of w calls_nothing base mode line e t) _ t (aside_value e is t here) (λ v u q. (q, refl))
    aside_value (Unary op t' e) is t here = aside_then (value_of w calls_nothing base mode line e t) _ t (aside_value e is t here) (λ v u q. (q, refl))
    aside_value (Binary op t' a b) is t here =
        aside_then (value_of w calls_nothing base mode line a t) _ t (aside_value a (both (is_quiet a) (is_quiet b) is).0 t here) (λ x u q.
        aside_then (value_of w calls_nothing base mode line b u) _ u (aside_value b (both (is_quiet a) (is_quiet b) is).1 u q) (λ y u' q'. aside_given (binary_value op t' x y) u' q'))
    aside_value (And a b) is t here =
        aside_then (value_of w calls_nothing base mode line a t) _ t (aside_value a (both (is_quiet a) (is_quiet b) is).0 t here) (λ x u q.
        aside_if (is_true x) _ _ u (aside_then (value_of w calls_nothing base mode line b u) _ u (aside_value b (both (is_quiet a) (is_quiet b) is).1 u q) (λ y u' q'. (q', refl))) (q, refl))
    aside_value (Or a b) is t here =
        aside_then (value_of w calls_nothing base mode line a t) _ t (aside_value a (both (is_quiet a) (is_quiet b) is).0 t here) (λ x u q.
        aside_if (is_true x) _ _ u (q, refl) (aside_then (value_of w calls_nothing base mode line b u) _ u (aside_value b (both (is_quiet a) (is_quiet b) is).1 u q) (λ y u' q'. (q', refl))))
    aside_value (Choice test a b) is t here =
        aside_then (value_of w calls_nothing base mode line test t) _ t (aside_value test (both (is_quiet test) (is_quiet a && is_quiet b) is).0 t here) (λ v u q.
        aside_if (is_true v) _ _ u (aside_value a (both (is_quiet a) (is_quiet b) (both (is_quiet test) (is_quiet a && is_quiet b) is).1).0 u q) (aside_value b (both (is_quiet a) (is_quiet b) (both (is_quiet test) (is_quiet a && is_quiet b) is).1).1 u q))
    aside_value (Sequence a b) is t here = aside_then (value_of w calls_nothing base mode line a t) _ t (aside_value a (both (is_quiet a) (is_quiet b) is).0 t here) (λ v u q. aside_value b (both (is_quiet a) (is_quiet b) is).1 u q)
    aside_value e is t here = cc

    pub aside_values : (all : Expressions) → AreQuiet all → (t : Tape) → IsHere t → IsAside t (values_of w calls_nothing base mode line all t)
    aside_values Empty is t here = (here, refl)
    aside_values (More e others) is t here =
        aside_then (value_of w calls_nothing base mode line e t) _ t (aside_value e is.0 t here) (λ v u q.
        aside_then (values_of w calls_nothing base mode line others u) _ u (aside_values others is.1 u q) (λ vs u' q'. (q', refl)))

pub aside_binds : {A B : Type 0} (o : Outcome A) (go : A → Tape → Outcome B) (t : Tape) → IsAside t o → ((a : A) (t' : Tape) → IsHere t' → IsAside t' (go a t')) → IsAside t (then_do o go)
aside_binds o go t h next = aside_then o go t h next

by_refusal : (A : Type 0) (r : Reply) (rule : Rule) (kind : FaultKind) (i : Item) (t : Tape) → r ≡ Refuses rule → IsAside t (at_fault {A = A} r kind i t)
by_refusal A (Says value) rule kind i t e = cc
by_refusal A Fails rule kind i t e = cc
by_refusal A (Refuses rule') rule kind i t e = refl

module _ (w w' : World) (Comes : Tape → Type 0) (erases : Erases w w' Comes) where
  pub waits_refused : (A : Type 0) (kind : FaultKind) (line : ℕ) (t : Tape) → IsHere t → IsAside t (fault_in {A = A} w Waiting kind line t)
  waits_refused A kind line t here =
      let refusal = erases.waits line t here in
      by_refusal A (w t (item_in Waiting WaitFault line)) refusal.0 kind (item_in Waiting WaitFault line) t refusal.1

  pub measures_refused : (arguments : List ℤ) (A : Type 0) (kind : FaultKind) (line : ℕ) (t : Tape) → IsHere t → IsAside t (fault_in {A = A} w (Measuring arguments) kind line t)
  measures_refused arguments A kind line t here =
      let refusal = erases.measures arguments line t here in
      by_refusal A (w t (item_in (Measuring arguments) DimFault line)) refusal.0 kind (item_in (Measuring arguments) DimFault line) t refusal.1

-- a dialogue aside, and then another one
module _ (Comes : Tape → Type 0) where
  by_aside : {A B : Type 0} (o : Outcome A) (go : A → Tape → Outcome B) (d' : Tape → Outcome B) (t : Tape) → IsAside t o → ((a : A) → Making Comes B (go a) d') → ((t : Tape) → Grows t (d' t)) → Comes (tape_of (then_do o go)) → IsErased (then_do o go) (d' (plain t))
  by_aside (Goes a t') go d' t h next grows comes = subst (λ tape. IsErased (go a t') (d' tape)) h.1 ((next a).erases t' h.0 comes)
  by_aside (Stops (Stopped (stops.Fault kind) line) t') go d' t h next grows comes = absurd h
  by_aside (Stops (Stopped (stops.Rule rule) line) t') go d' t h next grows comes = subst (λ tape. Grows tape (d' (plain t))) (sym h) (grows (plain t))
  by_aside (Stops Tired t') go d' t h next grows comes = subst (λ tape. Grows tape (d' (plain t))) (sym h) (grows (plain t))

  pub making_aside : {A B : Type 0} (d : Tape → Outcome A) {go : A → Tape → Outcome B} {d' : Tape → Outcome B} → ((t : Tape) → Grows t (d t)) → ((t : Tape) → IsHere t → IsAside t (d t)) → ((a : A) → Making Comes B (go a) d') → ((t : Tape) → Grows t (d' t)) → Making Comes B (λ t. then_do (d t) go) d'
  making_aside d {go} {d'} adds aside next grows = record {
    adds = λ t. grows_then (d t) go t (adds t) (λ a. (next a).adds);
    grows = grows;
    erases = λ t makes. by_aside (d t) go d' t (aside t makes) next grows;
  }
