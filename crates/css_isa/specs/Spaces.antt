-- The widths of accesses, and how a space refuses.
use Rattle.std.specs.Prelude.{◌≡◌, ℕ, ◌+◌, List}
use Rattle.css_base.specs.declared.ending.FaultKind.TheVariants.{OutsideMemory}
use Rattle.css_base.specs.declared.ending.Stop.{Stop}
use Rattle.css_base.specs.declared.ending.Stop.TheVariants as stops
use Rattle.css_semantics.specs.Dialogue.{Action, Enter, Leave, Load, Store, Reply, Says, Fails, Refuses}
use Rattle.css_isa.specs.declared.space.Width.{Width}
use Rattle.css_isa.specs.declared.space.Width.TheVariants as widths

abbrev pub bytes_of : Width → ℕ
bytes_of widths.W8 = 1
bytes_of widths.W16 = 2
bytes_of widths.W32 = 4
bytes_of widths.W64 = 8

-- the stop that such a reply is
abbrev pub IsRefusal : Reply → Stop → Type 0
IsRefusal (Says value) stop = ⊥
IsRefusal Fails stop = stop ≡ stops.Fault OutsideMemory
IsRefusal (Refuses rule) stop = stop ≡ stops.Rule rule

-- A space's stack place: an entry lowers it by the frame's size to the frame's base, a leaving of the frame there raises it again,
-- and nothing else moves it.
pub record IsStackPlace {S : Type 0} (reply : S → Action → Reply) (learn : S → Action → S) (place : S → ℕ) : Type 0 where
  pub enters : (s : S) (size base : ℕ) → reply s (Enter size) ≡ Says base → place (learn s (Enter size)) ≡ base
  pub lowers : (s : S) (size base : ℕ) → reply s (Enter size) ≡ Says base → base + size ≡ place s
  pub leaves : (s : S) (size r : ℕ) → reply s (Leave (place s) size) ≡ Says r → place (learn s (Leave (place s) size)) ≡ place s + size
  pub loads : (s : S) (address width : ℕ) → place (learn s (Load address width)) ≡ place s
  pub stores : (s : S) (address : ℕ) (bytes : List ℕ) → place (learn s (Store address bytes)) ≡ place s
