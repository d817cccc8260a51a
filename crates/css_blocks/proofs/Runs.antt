-- The machine follows a part of a program, whatever the machine and the part are.
use Rattle.std.proofs.Common.{◌≡◌, ℕ, suc, ◌≤◌, refl, sym, ◌∙◌, subst, arith}
use Rattle.css_semantics.specs.Dialogue.{Tape, Outcome, Goes, Stops, then_do}
use Rattle.css_isa.specs.Steps.{Halt}

-- From a value the machine goes on with it; a stop is the machine's own, after at least n steps.
-- `from j` is what j steps give from where the part begins, and `land k a t` what k steps give behind its value.
abbrev pub RunsTo : {A : Type 0} → ℕ → (ℕ → Outcome Halt) → (ℕ → A → Tape → Outcome Halt) → Outcome A → Type 0
RunsTo n from land (Goes a t) = (k : ℕ) → (j : ℕ) × (k ≤ j) × (from j ≡ land k a t)
RunsTo n from land (Stops why t) = (j : ℕ) × (n ≤ j) × (from j ≡ Stops why t)

pub record Runs {A : Type 0} (n : ℕ) (from : ℕ → Outcome Halt) (land : ℕ → A → Tape → Outcome Halt) (o : Outcome A) : Type 0 where
  pub by : RunsTo n from land o

-- nothing is left to do
pub runs_done : {A : Type 0} (n : ℕ) (land : ℕ → A → Tape → Outcome Halt) (a : A) (t : Tape) → Runs n (λ k. land k a t) land (Goes a t)
runs_done n land a t = record { by = λ k. (k, omega arith, refl) }

step_to : {A : Type 0} (n : ℕ) (from mid : ℕ → Outcome Halt) (land : ℕ → A → Tape → Outcome Halt) (o : Outcome A) → ((k : ℕ) → from (suc k) ≡ mid k) → RunsTo n mid land o → RunsTo (suc n) from land o
step_to n from mid land (Goes a t) st r = λ k. let b = r k in (suc b.0, omega (arith, b.1), st b.0 ∙ b.2)
step_to n from mid land (Stops why t) st r = (suc r.0, omega (arith, r.1), st r.0 ∙ r.2)

-- one step first
pub runs_step : {A : Type 0} {n : ℕ} {from : ℕ → Outcome Halt} (mid : ℕ → Outcome Halt) {land : ℕ → A → Tape → Outcome Halt} {o : Outcome A} → ((k : ℕ) → from (suc k) ≡ mid k) → Runs n mid land o → Runs (suc n) from land o
runs_step {n = n} {from = from} mid {land = land} {o = o} st r = record { by = step_to n from mid land o st r.by }

fewer_to : {A : Type 0} (m n : ℕ) (from : ℕ → Outcome Halt) (land : ℕ → A → Tape → Outcome Halt) (o : Outcome A) → m ≤ n → RunsTo n from land o → RunsTo m from land o
fewer_to m n from land (Goes a t) le r = r
fewer_to m n from land (Stops why t) le r = (r.0, omega (arith, r.1), r.2)

pub runs_fewer : {A : Type 0} {m n : ℕ} {from : ℕ → Outcome Halt} {land : ℕ → A → Tape → Outcome Halt} {o : Outcome A} → m ≤ n → Runs n from land o → Runs m from land o
runs_fewer {m = m} {n = n} {from = from} {land = land} {o = o} le r = record { by = fewer_to m n from land o le r.by }

pub runs_less : {A : Type 0} {n : ℕ} {from : ℕ → Outcome Halt} {land : ℕ → A → Tape → Outcome Halt} {o : Outcome A} → Runs (suc n) from land o → Runs n from land o
runs_less {n = n} r = runs_fewer (omega arith) r

after_to : {A : Type 0} (n : ℕ) (from mid : ℕ → Outcome Halt) (land : ℕ → A → Tape → Outcome Halt) (o : Outcome A) → ((k : ℕ) → (j : ℕ) × (k ≤ j) × (from j ≡ mid k)) → RunsTo n mid land o → RunsTo n from land o
after_to n from mid land (Goes a t) l r = λ k. let b = r k in let c = l b.0 in (c.0, omega (arith, b.1, c.1), c.2 ∙ b.2)
after_to n from mid land (Stops why t) l r = let c = l r.0 in (c.0, omega (arith, r.1, c.1), c.2 ∙ r.2)

then_to : {A B : Type 0} (n : ℕ) (from : ℕ → Outcome Halt) (mid : ℕ → A → Tape → Outcome Halt) (land : ℕ → B → Tape → Outcome Halt) (o : Outcome A) (f : A → Tape → Outcome B) → RunsTo n from mid o → ((a : A) (t : Tape) → Runs n (λ k. mid k a t) land (f a t)) → RunsTo n from land (then_do o f)
then_to n from mid land (Goes a t) f r q = after_to n from (λ k. mid k a t) land (f a t) r (q a t).by
then_to n from mid land (Stops why t) f r q = r

-- one part, and then another
pub runs_then : {A B : Type 0} {n : ℕ} {from : ℕ → Outcome Halt} {mid : ℕ → A → Tape → Outcome Halt} {land : ℕ → B → Tape → Outcome Halt} {o : Outcome A} {f : A → Tape → Outcome B} → Runs n from mid o → ((a : A) (t : Tape) → Runs n (λ k. mid k a t) land (f a t)) → Runs n from land (then_do o f)
runs_then {n = n} {from = from} {mid = mid} {land = land} {o = o} {f = f} r q = record { by = then_to n from mid land o f r.by q }

moves_to : {A : Type 0} (n : ℕ) (from : ℕ → Outcome Halt) (mid land : ℕ → A → Tape → Outcome Halt) (o : Outcome A) → ((a : A) (t : Tape) (k : ℕ) → (j : ℕ) × (k ≤ j) × (mid j a t ≡ land k a t)) → RunsTo n from mid o → RunsTo n from land o
moves_to n from mid land (Goes a t) m r = λ k. let c = m a t k in let b = r c.0 in (b.0, omega (arith, b.1, c.1), b.2 ∙ c.2)
moves_to n from mid land (Stops why t) m r = r

-- steps behind the part
pub runs_moves : {A : Type 0} {n : ℕ} {from : ℕ → Outcome Halt} (mid : ℕ → A → Tape → Outcome Halt) {land : ℕ → A → Tape → Outcome Halt} {o : Outcome A} → ((a : A) (t : Tape) (k : ℕ) → (j : ℕ) × (k ≤ j) × (mid j a t ≡ land k a t)) → Runs n from mid o → Runs n from land o
runs_moves {n = n} {from = from} mid {land = land} {o = o} m r = record { by = moves_to n from mid land o m r.by }

asks_to : {A : Type 0} (n : ℕ) (from : ℕ → Outcome Halt) (land : ℕ → A → Tape → Outcome Halt) (o : Outcome A) → ((k : ℕ) → from k ≡ then_do o (land k)) → RunsTo n from land o
asks_to n from land (Goes a t) e = λ k. (k, omega arith, e k)
asks_to n from land (Stops why t) e = (n, omega arith, e n)

-- the machine asks what the part asks
pub runs_asks : {A : Type 0} {n : ℕ} {from : ℕ → Outcome Halt} {land : ℕ → A → Tape → Outcome Halt} (o : Outcome A) → ((k : ℕ) → from k ≡ then_do o (land k)) → Runs n from land o
runs_asks {n = n} {from = from} {land = land} o e = record { by = asks_to n from land o e }

pub then_assoc : {A B C : Type 0} (o : Outcome A) (f : A → Tape → Outcome B) (g : B → Tape → Outcome C) → then_do (then_do o f) g ≡ then_do o (λ a t. then_do (f a t) g)
then_assoc (Goes a t) f g = refl
then_assoc (Stops why t) f g = refl

-- three parts in a row, grouped either way
pub runs_assoc : {A B C : Type 0} {n : ℕ} {from : ℕ → Outcome Halt} {land : ℕ → C → Tape → Outcome Halt} (o : Outcome A) (f : A → Tape → Outcome B) (g : B → Tape → Outcome C) → Runs n from land (then_do o (λ a t. then_do (f a t) g)) → Runs n from land (then_do (then_do o f) g)
runs_assoc {n = n} {from = from} {land = land} o f g r = subst (λ x. Runs n from land x) (sym (then_assoc o f g)) r

pub runs_grouped : {A B C : Type 0} {n : ℕ} {from : ℕ → Outcome Halt} {land : ℕ → C → Tape → Outcome Halt} (o : Outcome A) (f : A → Tape → Outcome B) (g : B → Tape → Outcome C) → Runs n from land (then_do (then_do o f) g) → Runs n from land (then_do o (λ a t. then_do (f a t) g))
runs_grouped {n = n} {from = from} {land = land} o f g r = subst (λ x. Runs n from land x) (then_assoc o f g) r
