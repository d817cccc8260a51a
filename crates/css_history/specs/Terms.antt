-- What no entry of a board changes, as plain data.
use Rattle.std.specs.Prelude.{ℕ}
use Rattle.std.specs.Arc.{arc_value}
use Rattle.css_base.specs.declared.limits.Limits.{Limits}
use Rattle.css_vm.specs.Code.{Code, code_of}
use Rattle.css_history.specs.declared.fixed.Fixed.{Fixed}

-- the number of the first task, the code whose tasks the board has, and the limits
pub record Terms : Type 0 where
  pub first : ℕ
  pub code : Code
  pub limits : Limits

abbrev pub terms_of : Fixed → Terms
terms_of f = record { first = f.first; code = code_of (arc_value f.code); limits = f.limits }
