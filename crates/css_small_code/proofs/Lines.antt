-- Instructions of one line: pieces one behind another.
use Rattle.std.proofs.Common.{◌≡◌, ℕ, suc, ◌+◌, List, [], ◌∷◌, ◌++◌, length, refl, ap, sym, ◌∙◌, arith, append_assoc, length-append}
use Rattle.css_vm.specs.declared.code.Instr.{Instr}
use Rattle.css_vm.specs.declared.code.Op.{Op}
use Rattle.css_small_code.specs.Code.{in_line}

pub in_line-append : (line : ℕ) (xs ys : List Op) → in_line line (xs ++ ys) ≡ in_line line xs ++ in_line line ys
in_line-append line [] ys = refl
in_line-append line (x ∷ xs) ys = ap (λ is. record { op = x; line = line } ∷ is) (in_line-append line xs ys)

pub length-in_line : (line : ℕ) (xs : List Op) → length (in_line line xs) ≡ length xs
length-in_line line [] = refl
length-in_line line (x ∷ xs) = ap suc (length-in_line line xs)

-- a list with these instructions of a line behind it
pub record Emits (line : ℕ) (old new : List Instr) (all : List Op) : Type 0 where
  pub items : new ≡ old ++ in_line line all

-- the place behind them
pub emits-length : {line : ℕ} {old new : List Instr} {all : List Op} → Emits line old new all → length new ≡ length old + length all
emits-length {line} {old} {new} {all} e = ap length e.items ∙ omega (arith, length-append old (in_line line all), length-in_line line all)

-- one piece behind another
pub emits_both : {line : ℕ} {old mid new : List Instr} {xs ys : List Op} → Emits line old mid xs → Emits line mid new ys → Emits line old new (xs ++ ys)
emits_both {line} {old} {mid} {new} {xs} {ys} e f = record {
  items = f.items ∙ ap (λ is. is ++ in_line line ys) e.items ∙ append_assoc old (in_line line xs) (in_line line ys)
      ∙ ap (λ is. old ++ is) (sym (in_line-append line xs ys));
}
