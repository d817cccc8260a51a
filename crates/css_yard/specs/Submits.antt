-- The submits of a generation, one behind the other.
use Rattle.std.specs.Prelude.{◌≡◌, ℕ, List, take, Some, slice_get}
use Rattle.css_base.specs.declared.limits.Limits.{Limits}
use Rattle.css_vm.specs.Code.{Code}
use Rattle.css_yard.specs.Values.{Submit}
use Rattle.css_yard.specs.Yards.{MaySubmit}

-- each may be submitted behind those before it
abbrev pub AreSubmitted : Code → Limits → List Submit → Type 0
AreSubmitted code limits submits = (k : ℕ) (s : Submit) → slice_get submits k ≡ Some s → MaySubmit code limits (take k submits) s.rec s.given
