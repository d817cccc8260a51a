-- Equations of pieces, with which a language's constructs are shown to be theirs.
use Rattle.std.proofs.Common.{◌≡◌, ℕ, Bool, true, false, List, ◌++◌, length, take, drop, reverse, refl, ap, ◌∙◌, subst, arith, length-append}
use Rattle.std.specs.Prelude.{nat_le, if◌then◌else◌}
use Rattle.std.proofs.Math.Seq.{take-append_seam, drop-append_seam}
use Rattle.std.proofs.lemmas.List.{length-reverse, reverse-reverse}
use Rattle.std.proofs.lemmas.Bool.{le-leb}
use Rattle.css_base.specs.declared.ending.FaultKind.{FaultKind}
use Rattle.css_semantics.specs.Dialogue.{World, Tape, Item, Reply, Says, Fails, Refuses, Outcome, Goes, Stops, then_do, Mode, at_fault}
use Rattle.css_blocks.specs.Pieces.{Invoke, Submit}
use Rattle.css_blocks.specs.Meaning.{Exits, Sticks, on_many, Calls, given, means}

pub then_assoc : {A B C : Type 0} (o : Outcome A) (f : A → Tape → Outcome B) (g : B → Tape → Outcome C) → then_do (then_do o f) g ≡ then_do o (λ a t. then_do (f a t) g)
then_assoc (Goes a t) f g = refl
then_assoc (Stops why t) f g = refl

pub then_same : {A B : Type 0} (o : Outcome A) {f g : A → Tape → Outcome B} → ((a : A) (t : Tape) → f a t ≡ g a t) → then_do o f ≡ then_do o g
then_same (Goes a t) e = e a t
then_same (Stops why t) e = refl

pub if_then : {A B : Type 0} (b : Bool) (x y : Outcome A) (f : A → Tape → Outcome B) → then_do (if b then x else y) f ≡ (if b then then_do x f else then_do y f)
if_then true x y f = refl
if_then false x y f = refl

pub fault_then : {A B : Type 0} (reply : Reply) (kind : FaultKind) (i : Item) (t : Tape) (f : A → Tape → Outcome B) → then_do (at_fault reply kind i t) f ≡ at_fault reply kind i t
fault_then (Says value) kind i t f = refl
fault_then Fails kind i t f = refl
fault_then (Refuses rule) kind i t f = refl

-- ---- calls, whose arguments lie on the stack with the last on top

pub many_there : (vs stack : List ℕ) (n : ℕ) (t : Tape) (go : List ℕ → List ℕ → Outcome Exits) → length vs ≡ n → on_many n (reverse vs ++ stack) t go ≡ go vs stack
many_there vs stack n t go count =
    let cells = reverse vs ++ stack in
    let here : length (reverse vs) ≡ n = length-reverse vs ∙ count in
    let enough : nat_le (length (reverse vs)) (length cells) ≡ true = le-leb (length (reverse vs)) (length cells) (omega (arith, length-append (reverse vs) stack)) in
    subst (λ n. on_many n cells t go ≡ go vs stack) here
    (ap (λ b. if b then go (reverse (take (length (reverse vs)) cells)) (drop (length (reverse vs)) cells) else Goes Sticks t) enough
    ∙ ap (λ x. go (reverse x) (drop (length (reverse vs)) cells)) (take-append_seam (reverse vs) stack)
    ∙ ap (λ x. go (reverse (reverse vs)) x) (drop-append_seam (reverse vs) stack)
    ∙ ap (λ x. go x stack) (reverse-reverse vs))

module _ (w : World) (calls : Calls) (n base : ℕ) where
  pub invoke_means : (line f count : ℕ) (mode : Mode) (vs stack : List ℕ) (t : Tape) → length vs ≡ count
      → means w calls n base (Invoke line f count) mode (reverse vs ++ stack) t ≡ then_do (calls.call f vs line t) (given mode stack)
  invoke_means line f count mode vs stack t len = many_there vs stack count t (λ arguments rest. then_do (calls.call f arguments line t) (given mode rest)) len

  pub submit_means : (line f count dims : ℕ) (mode : Mode) (vs ds stack : List ℕ) (t : Tape) → length vs ≡ count → length ds ≡ dims
      → means w calls n base (Submit line f count dims) mode (reverse ds ++ (reverse vs ++ stack)) t ≡ then_do (calls.submit f vs ds base line t) (given mode stack)
  submit_means line f count dims mode vs ds stack t len len' =
      many_there ds (reverse vs ++ stack) dims t (λ dimensions below. on_many count below t (λ arguments rest. then_do (calls.submit f arguments dimensions base line t) (given mode rest))) len'
      ∙ many_there vs stack count t (λ arguments rest. then_do (calls.submit f arguments ds base line t) (given mode rest)) len
