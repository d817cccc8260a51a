-- What holds of parts that are put together, where there are any.
use Rattle.std.proofs.Common.{◌≡◌, Bool, true, false, if◌then◌else◌, Option, Some, None, IfSome, option_map, option_and_then, refl}
use Rattle.css_small.specs.Trees.{both, where_true}

pub always : {A : Type 0} (P : Type 0) (part : Option A) → P → IfSome part (λ _. P)
always P None p = tt
always P (Some a) p = p

pub together : {A : Type 0} (P Q : A → Type 0) (part : Option A) → IfSome part P → IfSome part Q → IfSome part (λ a. P a × Q a)
together P Q None p q = tt
together P Q (Some a) p q = (p, q)

-- what is to hold, where something does
pub later : {A : Type 0} (P : Type 0) (Q : A → Type 0) (part : Option A) → (P → IfSome part Q) → IfSome part (λ a. P → Q a)
later P Q None rule = tt
later P Q (Some a) rule = rule

pub of_both : {A B C : Type 0} (join : A → B → C) (P : A → Type 0) (Q : B → Type 0) (R : C → Type 0) → ((a : A) (b : B) → P a → Q b → R (join a b))
    → (a : Option A) (b : Option B) → IfSome a P → IfSome b Q → IfSome (both join a b) R
of_both join P Q R rule (Some a) (Some b) p q = rule a b p q
of_both join P Q R rule (Some a) None p q = tt
of_both join P Q R rule None b p q = tt

pub of_any_both : {A B C : Type 0} (join : A → B → C) (R : C → Type 0) → ((a : A) (b : B) → R (join a b)) → (a : Option A) (b : Option B) → IfSome (both join a b) R
of_any_both join R rule a b = of_both join (λ _. Unit {0}) (λ _. Unit {0}) R (λ x y p q. rule x y) a b (always (Unit {0}) a tt) (always (Unit {0}) b tt)

pub of_where : {A : Type 0} (P : A → Type 0) (holds : Bool) (part : Option A) → (holds ≡ true → IfSome part P) → IfSome (where_true holds part) P
of_where P true part rule = rule refl
of_where P false part rule = tt

pub of_if : {A : Type 0} (P : A → Type 0) (test : Bool) (a b : Option A) → IfSome a P → IfSome b P → IfSome (if test then a else b) P
of_if P true a b p q = p
of_if P false a b p q = q

pub of_map : {A B : Type 0} (f : A → B) (P : A → Type 0) (Q : B → Type 0) → ((a : A) → P a → Q (f a)) → (part : Option A) → IfSome part P → IfSome (option_map f part) Q
of_map f P Q rule None p = tt
of_map f P Q rule (Some a) p = rule a p

pub of_any_map : {A B : Type 0} (f : A → B) (Q : B → Type 0) → ((a : A) → Q (f a)) → (part : Option A) → IfSome (option_map f part) Q
of_any_map f Q rule part = of_map f (λ _. Unit {0}) Q (λ a p. rule a) part (always (Unit {0}) part tt)

pub of_then : {A B : Type 0} (f : A → Option B) (Q : B → Type 0) → ((a : A) → IfSome (f a) Q) → (part : Option A) → IfSome (option_and_then f part) Q
of_then f Q rule None = tt
of_then f Q rule (Some a) = rule a
