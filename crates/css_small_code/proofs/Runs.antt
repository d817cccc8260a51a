-- The machine follows a part of a program, whatever the machine's code and the part are.
use Rattle.std.proofs.Common.{◌≡◌, ℕ, suc, ◌+◌, ◌≤◌, refl, ap, ◌∙◌, subst, arith}
use Rattle.css_semantics.specs.Dialogue.{Tape, Reason, Outcome, Goes, Stops, then_do}

-- what so many steps give
abbrev pub Run : Type 0 → Type 0
Run R = ℕ → Outcome R

-- what so many steps give from behind a value
abbrev pub Landing : Type 0 → Type 0 → Type 0
Landing R A = ℕ → A → Tape → Outcome R

-- From a value of the part the machine goes on as behind it, with as many steps left as are wanted; a stop of the part is the
-- machine's own, after at least n steps.
abbrev pub RunsTo : {R A : Type 0} → ℕ → Run R → Landing R A → Outcome A → Type 0
RunsTo n from land (Goes a t) = (k : ℕ) → (j : ℕ) × (k ≤ j) × (from j ≡ land k a t)
RunsTo n from land (Stops why t) = (j : ℕ) × (n ≤ j) × (from j ≡ Stops why t)

pub record Runs {R A : Type 0} (n : ℕ) (from : Run R) (land : Landing R A) (o : Outcome A) : Type 0 where
  pub by : RunsTo n from land o

-- nothing is left to do
pub runs_done : {R A : Type 0} (n : ℕ) (land : Landing R A) (a : A) (t : Tape) → Runs n (λ k. land k a t) land (Goes a t)
runs_done n land a t = record { by = λ k. (k, omega arith, refl) }

step_to : {R A : Type 0} (n : ℕ) (from mid : Run R) (land : Landing R A) (o : Outcome A) → ((k : ℕ) → from (suc k) ≡ mid k) → RunsTo n mid land o → RunsTo (suc n) from land o
step_to n from mid land (Goes a t) first r = λ k. let b = r k in (suc b.0, omega (arith, b.1), first b.0 ∙ b.2)
step_to n from mid land (Stops why t) first r = (suc r.0, omega (arith, r.1), first r.0 ∙ r.2)

fewer_to : {R A : Type 0} (m n : ℕ) (from : Run R) (land : Landing R A) (o : Outcome A) → m ≤ n → RunsTo n from land o → RunsTo m from land o
fewer_to m n from land (Goes a t) le r = r
fewer_to m n from land (Stops why t) le r = (r.0, omega (arith, r.1), r.2)

-- at least n steps are at least m
pub runs_fewer : {R A : Type 0} {m n : ℕ} {from : Run R} {land : Landing R A} {o : Outcome A} → m ≤ n → Runs n from land o → Runs m from land o
runs_fewer {m = m} {n = n} {from = from} {land = land} {o = o} le r = record { by = fewer_to m n from land o le r.by }

-- one step first, which counts
pub runs_counted : {R A : Type 0} {n : ℕ} {from : Run R} (mid : Run R) {land : Landing R A} {o : Outcome A} → ((k : ℕ) → from (suc k) ≡ mid k) → Runs n mid land o → Runs (suc n) from land o
runs_counted {n = n} {from = from} mid {land = land} {o = o} first r = record { by = step_to n from mid land o first r.by }

-- one step first
pub runs_step : {R A : Type 0} {n : ℕ} {from : Run R} (mid : Run R) {land : Landing R A} {o : Outcome A} → ((k : ℕ) → from (suc k) ≡ mid k) → Runs n mid land o → Runs n from land o
runs_step mid first r = runs_fewer (omega arith) (runs_counted mid first r)

steps_to : {R A : Type 0} (n m : ℕ) (from mid : Run R) (land : Landing R A) (o : Outcome A) → ((k : ℕ) → from (m + k) ≡ mid k) → RunsTo n mid land o → RunsTo n from land o
steps_to n m from mid land (Goes a t) first r = λ k. let b = r k in (m + b.0, omega (arith, b.1), first b.0 ∙ b.2)
steps_to n m from mid land (Stops why t) first r = (m + r.0, omega (arith, r.1), first r.0 ∙ r.2)

-- so many steps first
pub runs_steps : {R A : Type 0} {n : ℕ} {from : Run R} (m : ℕ) (mid : Run R) {land : Landing R A} {o : Outcome A} → ((k : ℕ) → from (m + k) ≡ mid k) → Runs n mid land o → Runs n from land o
runs_steps {n = n} {from = from} m mid {land = land} {o = o} first r = record { by = steps_to n m from mid land o first r.by }

-- so many steps, and the machine stops
pub runs_stops : {R A : Type 0} {n : ℕ} {from : Run R} {land : Landing R A} (m : ℕ) (why : Reason) (t : Tape) → ((k : ℕ) → from (m + k) ≡ Stops why t) → Runs n from land (Stops why t)
runs_stops {n = n} m why t stops = record { by = (m + n, omega arith, stops n) }

asks_to : {R A : Type 0} (n : ℕ) (from : Run R) (land : Landing R A) (o : Outcome A) → ((k : ℕ) → from k ≡ then_do o (land k)) → RunsTo n from land o
asks_to n from land (Goes a t) asked = λ k. (k, omega arith, asked k)
asks_to n from land (Stops why t) asked = (n, omega arith, asked n)

-- the machine asks what the part asks
pub runs_asks : {R A : Type 0} {n : ℕ} {from : Run R} {land : Landing R A} (o : Outcome A) → ((k : ℕ) → from k ≡ then_do o (land k)) → Runs n from land o
runs_asks {n = n} {from = from} {land = land} o asked = record { by = asks_to n from land o asked }

after_to : {R A : Type 0} (n : ℕ) (from mid : Run R) (land : Landing R A) (o : Outcome A) → ((k : ℕ) → (j : ℕ) × (k ≤ j) × (from j ≡ mid k)) → RunsTo n mid land o → RunsTo n from land o
after_to n from mid land (Goes a t) first r = λ k. let b = r k in let c = first b.0 in (c.0, omega (arith, b.1, c.1), c.2 ∙ b.2)
after_to n from mid land (Stops why t) first r = let c = first r.0 in (c.0, omega (arith, r.1, c.1), c.2 ∙ r.2)

-- the same from steps that are the same
pub runs_as : {R A : Type 0} {n : ℕ} {from : Run R} (mid : Run R) {land : Landing R A} {o : Outcome A} → ((k : ℕ) → from k ≡ mid k) → Runs n mid land o → Runs n from land o
runs_as {n = n} {from = from} mid {land = land} {o = o} first r = record { by = after_to n from mid land o (λ k. (k, omega arith, first k)) r.by }

then_to : {R A B : Type 0} (n : ℕ) (from : Run R) (mid : Landing R A) (land : Landing R B) (o : Outcome A) (go : A → Tape → Outcome B) → RunsTo n from mid o → ((a : A) (t : Tape) → Runs n (λ k. mid k a t) land (go a t)) → RunsTo n from land (then_do o go)
then_to n from mid land (Goes a t) go r next = after_to n from (λ k. mid k a t) land (go a t) r (next a t).by
then_to n from mid land (Stops why t) go r next = r

-- one part, and then another
pub runs_then : {R A B : Type 0} {n : ℕ} {from : Run R} {mid : Landing R A} {land : Landing R B} {o : Outcome A} {go : A → Tape → Outcome B} → Runs n from mid o → ((a : A) (t : Tape) → Runs n (λ k. mid k a t) land (go a t)) → Runs n from land (then_do o go)
runs_then {n = n} {from = from} {mid = mid} {land = land} {o = o} {go = go} r next =
    record { by = then_to n from mid land o go r.by next }

-- the value has a property, if there is one
abbrev pub Gives : {A : Type 0} → (A → Type 0) → Outcome A → Type 0
Gives P (Goes a t) = P a
Gives P (Stops why t) = Unit {0}

pub gives_any : {A : Type 0} (o : Outcome A) → Gives (λ a. Unit {0}) o
gives_any (Goes a t) = tt
gives_any (Stops why t) = tt

-- what goes on from such a value
pub gives_then : {A B : Type 0} (P : A → Type 0) (Q : B → Type 0) (o : Outcome A) (go : A → Tape → Outcome B) → Gives P o → ((a : A) (t : Tape) → P a → Gives Q (go a t)) → Gives Q (then_do o go)
gives_then P Q (Goes a t) go h next = next a t h
gives_then P Q (Stops why t) go h next = tt

known_to : {R A B : Type 0} (n : ℕ) (P : A → Type 0) (from : Run R) (mid : Landing R A) (land : Landing R B) (o : Outcome A) (go : A → Tape → Outcome B) → Gives P o → RunsTo n from mid o → ((a : A) (t : Tape) → P a → Runs n (λ k. mid k a t) land (go a t)) → RunsTo n from land (then_do o go)
known_to n P from mid land (Goes a t) go h r next = after_to n from (λ k. mid k a t) land (go a t) r (next a t h).by
known_to n P from mid land (Stops why t) go h r next = r

-- one part, and then another from a value with a property
pub runs_known : {R A B : Type 0} {n : ℕ} (P : A → Type 0) {from : Run R} {mid : Landing R A} {land : Landing R B} {o : Outcome A} {go : A → Tape → Outcome B} → Gives P o → Runs n from mid o → ((a : A) (t : Tape) → P a → Runs n (λ k. mid k a t) land (go a t)) → Runs n from land (then_do o go)
runs_known {n = n} P {from = from} {mid = mid} {land = land} {o = o} {go = go} h r next =
    record { by = known_to n P from mid land o go h r.by next }

-- to go on with the value alone changes nothing
then_goes : {A : Type 0} (o : Outcome A) → then_do o Goes ≡ o
then_goes (Goes a t) = refl
then_goes (Stops why t) = refl

-- steps behind a part, which add nothing to it
pub runs_behind : {R A : Type 0} {n : ℕ} {from : Run R} {mid land : Landing R A} {o : Outcome A} → Runs n from mid o → ((a : A) (t : Tape) → Runs n (λ k. mid k a t) land (Goes a t)) → Runs n from land o
runs_behind {n = n} {from = from} {mid = mid} {land = land} {o = o} r next =
    subst (λ o. Runs n from land o) (then_goes o) (runs_then r next)

ending_to : {R S A : Type 0} (n : ℕ) (from : Run R) (land : Landing R A) (o : Outcome A) (ends : R → Tape → Outcome S) → RunsTo n from land o → RunsTo n (λ k. then_do (from k) ends) (λ k a t. then_do (land k a t) ends) o
ending_to n from land (Goes a t) ends r = λ k. let b = r k in (b.0, b.1, ap (λ o. then_do o ends) b.2)
ending_to n from land (Stops why t) ends r = (r.0, r.1, ap (λ o. then_do o ends) r.2)

-- the ends of a machine's runs behind them
pub runs_ending : {R S A : Type 0} {n : ℕ} {from : Run R} {land : Landing R A} {o : Outcome A} (ends : R → Tape → Outcome S) → Runs n from land o → Runs n (λ k. then_do (from k) ends) (λ k a t. then_do (land k a t) ends) o
runs_ending {n = n} {from = from} {land = land} {o = o} ends r = record { by = ending_to n from land o ends r.by }

-- two continuations, grouped either way
pub then_assoc : {A B C : Type 0} (o : Outcome A) (f : A → Tape → Outcome B) (g : B → Tape → Outcome C) → then_do (then_do o f) g ≡ then_do o (λ a t. then_do (f a t) g)
then_assoc (Goes a t) f g = refl
then_assoc (Stops why t) f g = refl
