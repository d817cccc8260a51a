-- Expressions and stores are kept.
use Rattle.std.proofs.Common.{ℕ, ℤ, pos, ◌+◌, List, [], ◌∷◌, refl}
use Rattle.css_base.specs.declared.limits.Limits.{Limits}
use Rattle.css_semantics.specs.Flat.{FlatState}
use Rattle.css_base.specs.declared.int_type.IntType.TheVariants.{Int}
use Rattle.css_num.specs.Conversion.{representation, converted}
use Rattle.css_num.specs.Operators.{truth_value, unary_value, binary_value}
use Rattle.css_semantics.specs.Dialogue.{World, Load, Store, Tape, Outcome}
use Rattle.css_semantics.specs.Memory.{big_endian_bytes}
use Rattle.css_small.specs.Tree.{Expression, Number, Variable, Element, Unary, Binary, And, Or}
use Rattle.css_small_code.specs.Meaning.{address_of, element_of, is_true, load, store, element_at, value_of, element, stores}
use Rattle.css_erasing.proofs.Kept.{Kept, kept_then, kept_goes, kept_if, kept_given}
use Rattle.css_erasing.proofs.Asked.{w, w', kept_ask}

module _ (limits : Limits) (start : FlatState) (n base : ℕ) where
  abbrev judged : World
  judged = w limits start n

  abbrev erased : World
  erased = w' limits start n

  kept_load : (address line : ℕ) → Kept n (load judged base address line) (load erased base address line)
  kept_load address line = kept_then n (kept_ask limits start n (Load address 4) refl line) (λ r. kept_goes n (converted Int (pos r)))

  pub kept_store : (address : ℕ) (v : ℤ) (line : ℕ) → Kept n (store judged base address v line) (store erased base address v line)
  kept_store address v line = kept_ask limits start n (Store address (big_endian_bytes 4 (representation Int v))) refl line

  pub kept_element_at : {d d' : Tape → Outcome ℤ} → Kept n d d' → (line : ℕ) → Kept n (element_at judged base d line) (element_at erased base d' line)
  kept_element_at index line = kept_then n (kept_ask limits start n (Load (address_of base 0) 4) refl line) (λ p. kept_then n index (λ i. kept_goes n (element_of p i)))

  pub kept_value : (e : Expression) (line : ℕ) → Kept n (value_of judged base e line) (value_of erased base e line)
  kept_value (Number value) line = kept_goes n (pos value)
  kept_value (Variable k) line = kept_load (address_of base k) line
  kept_value (Element e) line = kept_then n (kept_element_at (kept_value e line) line) (λ address. kept_load address line)
  kept_value (Unary op e) line = kept_then n (kept_value e line) (λ v. kept_goes n (unary_value op Int v))
  kept_value (Binary op a b) line = kept_then n (kept_value a line) (λ x. kept_then n (kept_value b line) (λ y. kept_given n (binary_value op Int x y) line))
  kept_value (And a b) line =
      kept_then n (kept_value a line) (λ x. kept_if n (is_true x) (kept_then n (kept_value b line) (λ y. kept_goes n (truth_value (is_true y)))) (kept_goes n (pos 0)))
  kept_value (Or a b) line =
      kept_then n (kept_value a line) (λ x. kept_if n (is_true x) (kept_goes n (pos 1)) (kept_then n (kept_value b line) (λ y. kept_goes n (truth_value (is_true y)))))

  pub kept_element : (e : Expression) (line : ℕ) → Kept n (element judged base e line) (element erased base e line)
  kept_element e line = kept_element_at (kept_value e line) line

  pub kept_stores : (k : ℕ) (arguments : List ℕ) (line : ℕ) → Kept n (stores judged base k arguments line) (stores erased base k arguments line)
  kept_stores k [] line = kept_goes n 0
  kept_stores k (a ∷ arguments) line = kept_then n (kept_ask limits start n (Store (address_of base k) (big_endian_bytes 4 a)) refl line) (λ r. kept_stores (k + 1) arguments line)
