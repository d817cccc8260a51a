-- Instructions of one line that stand at a place of a code.
use Rattle.std.proofs.Common.{ℕ, ◌+◌, List, ◌++◌, length, subst}
use Rattle.css_vm.specs.declared.code.Instr.{Instr}
use Rattle.css_vm.specs.declared.code.Op.{Op}
use Rattle.css_small_code.specs.Code.{in_line}
use Rattle.css_small_code.proofs.Lines.{in_line-append, length-in_line}
use Rattle.css_small_code.proofs.Stands.{Stands, stands_front, stands_back}

module _ (code : List Instr) (line : ℕ) where
  -- they stand in the code from this place on
  abbrev pub OpsStand : ℕ → List Op → Type 0
  OpsStand place all = Stands code place (in_line line all)

  pub ops_front : (place : ℕ) (xs ys : List Op) → OpsStand place (xs ++ ys) → OpsStand place xs
  ops_front place xs ys h = stands_front code place (in_line line xs) (in_line line ys) (subst (Stands code place) (in_line-append line xs ys) h)

  pub ops_back : (place : ℕ) (xs ys : List Op) → OpsStand place (xs ++ ys) → OpsStand (place + length xs) ys
  ops_back place xs ys h =
      subst (λ k. Stands code (place + k) (in_line line ys)) (length-in_line line xs)
      (stands_back code place (in_line line xs) (in_line line ys) (subst (Stands code place) (in_line-append line xs ys) h))
