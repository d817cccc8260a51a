-- The items of a list of functions with main behind them.
use Rattle.std.proofs.Common.{◌≡◌, ℕ, zero, suc, ◌+◌, ◌<◌, List, [], ◌∷◌, ◌++◌, length, map, Some, refl, ap, subst, ◌⊎◌, inl, inr, ⊎_elim, arith}
use Rattle.std.specs.Prelude.{All, slice_get}
use Rattle.std.proofs.lemmas.List.Elements.{All-head, All-tail}
use Rattle.std.proofs.lemmas.Option.{same_Some}
use Rattle.css_small.specs.Tree.{Function}
use Rattle.css_small.specs.Numbers.{Scope}

-- the scope of a function that knows so many others
abbrev pub scope_of : ℕ → Function → Scope
scope_of functions f = record { parameters = f.parameters; objects = f.parameters + f.variables; functions = functions }

-- the item is one that was mapped, or the last
pub which : {A B : Type 0} (g : A → B) (last : B) (xs : List A) (k : ℕ) (b : B) → slice_get (map g xs ++ last ∷ []) k ≡ Some b → ((x : A) × (slice_get xs k ≡ Some x) × (g x ≡ b)) ⊎ ((k ≡ length xs) × (last ≡ b))
which g last [] zero b h = inr (refl, same_Some last b h)
which g last [] (suc k) b h = cc
which g last (x ∷ xs) zero b h = inl (x, refl, same_Some (g x) b h)
which g last (x ∷ xs) (suc k) b h = ⊎_elim (λ one. inl one) (λ end. inr (ap suc end.0, end.1)) (which g last xs k b h)

pub mapped_at : {A B : Type 0} (g : A → B) (last : B) (xs : List A) (k : ℕ) (x : A) → slice_get xs k ≡ Some x → slice_get (map g xs ++ last ∷ []) k ≡ Some (g x)
mapped_at g last [] k x h = cc
mapped_at g last (y ∷ xs) zero x h = ap (λ z. Some (g z)) (same_Some y x h)
mapped_at g last (y ∷ xs) (suc k) x h = mapped_at g last xs k x h

pub last_at : {A B : Type 0} (g : A → B) (last : B) (xs : List A) → slice_get (map g xs ++ last ∷ []) (length xs) ≡ Some last
last_at g last [] = refl
last_at g last (x ∷ xs) = last_at g last xs

pub item_at : {A : Type 0} (xs : List A) (k : ℕ) → k < length xs → (x : A) × (slice_get xs k ≡ Some x)
item_at [] k less = absurd (omega arith)
item_at (x ∷ xs) zero less = (x, refl)
item_at (x ∷ xs) (suc k) less = item_at xs k (omega arith)

pub holds_at : {A : Type 0} (P : A → Type 0) (xs : List A) (k : ℕ) (x : A) → All P xs → slice_get xs k ≡ Some x → P x
holds_at P [] k x all h = cc
holds_at P (y ∷ xs) zero x all h = subst P (same_Some y x h) (All-head P y xs all)
holds_at P (y ∷ xs) (suc k) x all h = holds_at P xs k x (All-tail P y xs all) h
