-- Dialogues of which the first is a front of the second, where one world replies as the other does.
use Rattle.std.proofs.Common.{◌≡◌, ℕ, Bool, true, false, if◌then◌else◌, [], ◌∷◌, refl, sym, ap, subst}
use Rattle.css_base.specs.declared.ending.FaultKind.{FaultKind}
use Rattle.css_base.specs.declared.ending.FaultKind.TheVariants.{OutsideMemory}
use Rattle.css_base.specs.declared.ending.Stop.TheVariants as stops
use Rattle.css_semantics.specs.Dialogue.{Action, WaitFault, DimFault, Item, item_in, Tape, Reply, Says, Fails, Refuses, World, Outcome, Goes, Stops, Stopped, Tired, then_do, Mode, Plain, Waiting, Measuring, at_fault, fault_in, replied_in, ask_in}
use Rattle.css_semantics.specs.Fronts.{Grows, RepliesAs, IsFront}
use Rattle.css_semantics.proofs.Growth.{grows_then, grows_if, grows_fault, grows_ask}

module _ (Comes : Tape → Type 0) where
  -- where it goes on, the tape comes
  abbrev pub Still : {A : Type 0} → Outcome A → Type 0
  Still (Goes a t) = Comes t
  Still (Stops why t) = Unit {0}

  abbrev pub Both : {A : Type 0} → Outcome A → Outcome A → Type 0
  Both o q = Still o × IsFront o q

  both_if : {A : Type 0} (b : Bool) (o q o' q' : Outcome A) → Both o q → Both o' q' → Both (if b then o else o') (if b then q else q')
  both_if true o q o' q' h k = h
  both_if false o q o' q' h k = k

-- The second dialogue adds to its tape, and behind the tapes that come the first is a front of it.
pub record Front (Comes : Tape → Type 0) (A : Type 0) (d d' : Tape → Outcome A) : Type 0 where
  pub grows : (t : Tape) → Grows t (d' t)
  pub fronts : (t : Tape) → Comes t → Both Comes (d t) (d' t)

module _ (Comes : Tape → Type 0) where
  pub front_goes : {A : Type 0} (a : A) → Front Comes A (Goes a) (Goes a)
  front_goes a = record { grows = λ t. ([], refl); fronts = λ t comes. (comes, refl) }

  pub front_tired : (A : Type 0) → Front Comes A (Stops Tired) (Stops Tired)
  front_tired A = record { grows = λ t. ([], refl); fronts = λ t comes. (tt, ([], refl)) }

  both_then : {A B : Type 0} (o q : Outcome A) (go go' : A → Tape → Outcome B) → Both Comes o q → ((a : A) → Front Comes B (go a) (go' a)) → Both Comes (then_do o go) (then_do q go')
  both_then (Goes a t) q go go' h next = subst (λ x. Both Comes (go a t) (then_do x go')) (sym h.1) ((next a).fronts t h.0)
  both_then (Stops (Stopped (stops.Fault kind) line) t) q go go' h next = (tt, ap (λ x. then_do x go') h.1)
  both_then (Stops (Stopped (stops.Rule rule) line) t) q go go' h next = (tt, grows_then q go' t h.1 (λ a. (next a).grows))
  both_then (Stops Tired t) q go go' h next = (tt, grows_then q go' t h.1 (λ a. (next a).grows))

  pub front_then : {A B : Type 0} {d d' : Tape → Outcome A} {go go' : A → Tape → Outcome B} → Front Comes A d d' → ((a : A) → Front Comes B (go a) (go' a)) → Front Comes B (λ t. then_do (d t) go) (λ t. then_do (d' t) go')
  front_then {d} {d'} {go} {go'} first next = record {
    grows = λ t. grows_then (d' t) go' t (first.grows t) (λ a. (next a).grows);
    fronts = λ t comes. both_then (d t) (d' t) go go' (first.fronts t comes) next;
  }

  pub front_if : {A : Type 0} {d d' e e' : Tape → Outcome A} (b : Tape → Bool) → Front Comes A d d' → Front Comes A e e' → Front Comes A (λ t. if b t then d t else e t) (λ t. if b t then d' t else e' t)
  front_if {d} {d'} {e} {e'} b first second = record {
    grows = λ t. grows_if (b t) (d' t) (e' t) t (first.grows t) (second.grows t);
    fronts = λ t comes. both_if Comes (b t) (d t) (d' t) (e t) (e' t) (first.fronts t comes) (second.fronts t comes);
  }

-- ---- what is asked

module _ (w w' : World) (Comes : Tape → Type 0) (replies : RepliesAs w w' Comes) where
  by_fault : (A : Type 0) (r r' : Reply) (kind : FaultKind) (i : Item) (t : Tape) → ((value : ℕ) → r ≡ Says value → r' ≡ Says value) → (r ≡ Fails → r' ≡ Fails) → Grows {A = A} t (at_fault r' kind i t) → Both Comes {A = A} (at_fault r kind i t) (at_fault r' kind i t)
  by_fault A (Says value) r' kind i t says fails grows = (tt, rw (says value refl) refl)
  by_fault A Fails r' kind i t says fails grows = (tt, rw (fails refl) refl)
  by_fault A (Refuses rule) r' kind i t says fails grows = (tt, grows)

  both_fault : (A : Type 0) (mode : Mode) (kind : FaultKind) (line : ℕ) (t : Tape) → Comes t → Both Comes {A = A} (fault_in w mode kind line t) (fault_in w' mode kind line t)
  both_fault A Plain kind line t comes = (tt, refl)
  both_fault A Waiting kind line t comes =
      let i = item_in Waiting WaitFault line in
      by_fault A (w t i) (w' t i) kind i t (λ value e. (replies.says i t value comes e).0) (λ e. (replies.fails i t comes e).0) (grows_fault A w' Waiting kind line t)
  both_fault A (Measuring arguments) kind line t comes =
      let i = item_in (Measuring arguments) DimFault line in
      by_fault A (w t i) (w' t i) kind i t (λ value e. (replies.says i t value comes e).0) (λ e. (replies.fails i t comes e).0) (grows_fault A w' (Measuring arguments) kind line t)

  pub front_fault : (A : Type 0) (mode : Mode) (kind : FaultKind) (line : ℕ) → Front Comes A (fault_in w mode kind line) (fault_in w' mode kind line)
  front_fault A mode kind line = record { grows = grows_fault A w' mode kind line; fronts = both_fault A mode kind line }

  by_reply : (mode : Mode) (r r' : Reply) (i : Item) (t : Tape) → ((value : ℕ) → r ≡ Says value → (r' ≡ Says value) × Comes (i ∷ t)) → (r ≡ Fails → (r' ≡ Fails) × Comes (i ∷ t)) → Grows t (replied_in w' mode r' i t) → Both Comes (replied_in w mode r i t) (replied_in w' mode r' i t)
  by_reply mode (Says value) r' i t says fails grows = ((says value refl).1, ap (λ x. replied_in w' mode x i t) (says value refl).0)
  by_reply mode Fails r' i t says fails grows =
      subst (λ x. Both Comes (fault_in {A = ℕ} w mode OutsideMemory i.line (i ∷ t)) (replied_in w' mode x i t)) (sym (fails refl).0) (both_fault ℕ mode OutsideMemory i.line (i ∷ t) (fails refl).1)
  by_reply mode (Refuses rule) r' i t says fails grows = (tt, grows)

  pub front_ask : (mode : Mode) (action : Action) (line : ℕ) → Front Comes ℕ (ask_in w mode action line) (ask_in w' mode action line)
  front_ask mode action line = record {
    grows = grows_ask w' mode action line;
    fronts = λ t comes.
        let i = item_in mode action line in
        by_reply mode (w t i) (w' t i) i t (λ value e. replies.says i t value comes e) (λ e. replies.fails i t comes e) (grows_ask w' mode action line t);
  }
