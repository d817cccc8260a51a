-- The three rules one behind another.
use Rattle.std.proofs.Common.{◌≡◌, ℕ, List, [], ◌∷◌, Option, Some, None, Result, Ok, Err, IfErr, refl, sym, ap, ◌∙◌, subst, inl, inr}
use Rattle.std.proofs.lemmas.Result.{IfErr-weaker}
use Rattle.css_base.specs.Tokens.{Lexeme}
use Rattle.css_base.specs.declared.static_fault.FrontFault.{FrontFault}
use Rattle.css_base.specs.declared.static_fault.FrontFault.TheVariants as faults
use Rattle.css_base.specs.declared.static_fault.StaticName.TheVariants as names
use Rattle.css_tree.specs.Brackets.{IsShallow}
use Rattle.css_parse.specs.Unsupported.{unsupported_lines, first}
use Rattle.css_parse.specs.Refusals.{IsTooDeepAt, IsUnspelledAt, IfRefused, IfUnspelled}

pub no_line : (lines : List ℕ) → None ≡ first lines → lines ≡ []
no_line [] e = refl
no_line (line ∷ lines) e = absurd cc

pub unsupported_refused : (ts : List Lexeme) (f : FrontFault) (line : ℕ) → f ≡ faults.Static (record { name = names.Unsupported; line = line }) → Some line ≡ first (unsupported_lines ts) → IfRefused ts f
unsupported_refused ts f line e is = subst (IfRefused ts) (sym e) (inl (refl, sym is))

pub deep_refused : (ts : List Lexeme) (f : FrontFault) (line : ℕ) → f ≡ faults.Static (record { name = names.TooDeep; line = line }) → unsupported_lines ts ≡ [] → IsTooDeepAt ts line → IfRefused ts f
deep_refused ts f line e none deep = subst (IfRefused ts) (sym e) (inr (inl (refl, none, deep)))

pub unspelled_refused : {T : Type 0} (ts : List Lexeme) (r : Result T FrontFault) → unsupported_lines ts ≡ [] → IsShallow ts → IfErr r (IfUnspelled ts) → IfErr r (IfRefused ts)
unspelled_refused ts r none shallow h = IfErr-weaker r (IfUnspelled ts) (IfRefused ts) by h
  where
    by : (f : FrontFault) → IfUnspelled ts f → IfRefused ts f
    by (faults.Static fault) h = inr (inr (h.0, none, shallow, h.1))
    by faults.NoMemory h = tt

pub unspelled_at : (ts : List Lexeme) (f : FrontFault) (line : ℕ) → f ≡ faults.Static (record { name = names.Syntax; line = line }) → IsUnspelledAt ts line → IfUnspelled ts f
unspelled_at ts f line e u = subst (IfUnspelled ts) (sym e) (refl, u)
