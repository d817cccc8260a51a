-- Dialogues that are kept where directives are erased.
use Rattle.std.proofs.Common.{◌≡◌, ℕ, ◌≤◌, ℤ, Bool, true, false, Option, Some, None, if◌then◌else◌, [], ◌∷◌, refl, sym, ap, subst, arith}
use Rattle.css_base.specs.declared.ending.Stop.TheVariants as stops
use Rattle.css_base.specs.declared.ending.FaultKind.{FaultKind}
use Rattle.css_semantics.specs.Dialogue.{Fault, item, Tape, Outcome, Goes, Stops, Stopped, Tired, tape_of, then_do, fault}
use Rattle.css_small_code.specs.Meaning.{given, Flow, Next, Returned, on_next}
use Rattle.css_small_code.proofs.Grows.{Grows, grows_then, grows_if}
use Rattle.css_semantics.specs.Plain.{plain, entries}
use Rattle.css_semantics.specs.Erased.{IsErased}
use Rattle.css_semantics.proofs.PlainTapes.{entries_append}

-- what grows from a tape has no fewer entries
more_entries : {A : Type 0} (o : Outcome A) (tape : Tape) → Grows tape o → entries tape ≤ entries (tape_of o)
more_entries o tape h = omega (arith, ap entries h.1, entries_append h.0 tape)

-- With so many units, behind each tape the second dialogue is what comes of the first where directives are erased. Both only add to a
-- tape.
pub record Kept {A : Type 0} (n : ℕ) (d d' : Tape → Outcome A) : Type 0 where
  pub grows : (tape : Tape) → Grows tape (d tape)
  pub grows_erased : (tape : Tape) → Grows tape (d' tape)
  pub erases : (tape : Tape) → entries (tape_of (d tape)) ≤ n → IsErased (d tape) (d' (plain tape))

erased_then : {A B : Type 0} (n : ℕ) (o q : Outcome A) (go go' : A → Tape → Outcome B) → (entries (tape_of o) ≤ n → IsErased o q) → ((a : A) → Kept n (go a) (go' a)) → entries (tape_of (then_do o go)) ≤ n → IsErased (then_do o go) (then_do q go')
erased_then n (Goes a t) q go go' h next few =
    subst (λ x. IsErased (go a t) (then_do x go')) (sym (h (omega (arith, few, more_entries (go a t) t ((next a).grows t))))) ((next a).erases t few)
erased_then n (Stops (Stopped (stops.Fault kind) line) t) q go go' h next few = ap (λ x. then_do x go') (h few)
erased_then n (Stops (Stopped (stops.Rule rule) line) t) q go go' h next few = grows_then q go' (plain t) (h few) (λ a. (next a).grows_erased)
erased_then n (Stops Tired t) q go go' h next few = grows_then q go' (plain t) (h few) (λ a. (next a).grows_erased)

module _ (n : ℕ) where
  pub kept_then : {A B : Type 0} {d d' : Tape → Outcome A} {go go' : A → Tape → Outcome B} → Kept n d d' → ((a : A) → Kept n (go a) (go' a)) → Kept n (λ t. then_do (d t) go) (λ t. then_do (d' t) go')
  kept_then {d} {d'} {go} {go'} first next = record {
    grows = λ t. grows_then (d t) go t (first.grows t) (λ a. (next a).grows);
    grows_erased = λ t. grows_then (d' t) go' t (first.grows_erased t) (λ a. (next a).grows_erased);
    erases = λ t. erased_then n (d t) (d' (plain t)) go go' (first.erases t) next;
  }

  pub kept_goes : {A : Type 0} (a : A) → Kept n (Goes a) (Goes a)
  kept_goes a = record { grows = λ t. ([], refl); grows_erased = λ t. ([], refl); erases = λ t few. refl }

  pub kept_tired : {A : Type 0} → Kept {A = A} n (Stops Tired) (Stops Tired)
  kept_tired = record { grows = λ t. ([], refl); grows_erased = λ t. ([], refl); erases = λ t few. ([], refl) }

  pub kept_fault : {A : Type 0} (kind : FaultKind) (line : ℕ) → Kept {A = A} n (fault kind line) (fault kind line)
  kept_fault kind line = record {
    grows = λ t. (item (Fault kind) line ∷ [], refl);
    grows_erased = λ t. (item (Fault kind) line ∷ [], refl);
    erases = λ t few. refl;
  }

  pub kept_if : {A : Type 0} {d d' e e' : Tape → Outcome A} (b : Bool) → Kept n d d' → Kept n e e' → Kept n (λ t. if b then d t else e t) (λ t. if b then d' t else e' t)
  kept_if true first second = first
  kept_if false first second = second

  -- a case that the program alone knows
  either : {A : Type 0} (b : Bool) (o p q : Outcome A) → (entries (tape_of o) ≤ n → IsErased o q) → (entries (tape_of p) ≤ n → IsErased p q) → entries (tape_of (if b then o else p)) ≤ n → IsErased (if b then o else p) q
  either true o p q h k = h
  either false o p q h k = k

  pub kept_either : {A : Type 0} {d e d' : Tape → Outcome A} (b : Tape → Bool) → Kept n d d' → Kept n e d' → Kept n (λ t. if b t then d t else e t) d'
  kept_either {d} {e} {d'} b first second = record {
    grows = λ t. grows_if (b t) (d t) (e t) t (first.grows t) (second.grows t);
    grows_erased = first.grows_erased;
    erases = λ t. either (b t) (d t) (e t) (d' (plain t)) (first.erases t) (second.erases t);
  }

  -- a dialogue in the place of one that comes to the same
  pub kept_as : {A : Type 0} {d d' : Tape → Outcome A} (d'' : Tape → Outcome A) → Kept n d d' → ((t : Tape) → d' t ≡ d'' t) → Kept n d d''
  kept_as {d} {d'} d'' kept is = record {
    grows = kept.grows;
    grows_erased = λ t. subst (λ o. Grows t o) (is t) (kept.grows_erased t);
    erases = λ t few. subst (λ o. IsErased (d t) o) (is (plain t)) (kept.erases t few);
  }

  pub kept_from : {A : Type 0} {d' e : Tape → Outcome A} (d : Tape → Outcome A) → Kept n e d' → ((t : Tape) → e t ≡ d t) → Kept n d d'
  kept_from {d'} {e} d kept is = record {
    grows = λ t. subst (λ o. Grows t o) (is t) (kept.grows t);
    grows_erased = kept.grows_erased;
    erases = λ t. subst (λ o. entries (tape_of o) ≤ n → IsErased o (d' (plain t))) (is t) (kept.erases t);
  }

  pub kept_next : {go go' : Tape → Outcome Flow} → Kept n go go' → (flow : Flow) → Kept n (on_next go flow) (on_next go' flow)
  kept_next kept Next = kept
  kept_next kept (Returned value line) = kept_goes (Returned value line)

  pub kept_given : (o : Option ℤ) (line : ℕ) → Kept n (given o line) (given o line)
  kept_given None line = kept_fault _ line
  kept_given (Some v) line = kept_goes v
