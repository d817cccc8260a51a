-- Callers as they are saved.
use Rattle.std.proofs.Common.{◌≡◌, ℕ, suc, ◌≤◌, List, [], ◌∷◌, length, take, refl, ap, arith}
use Rattle.css_machine.specs.declared.activations.Saved.{Saved}
use Rattle.css_machine.specs.States.{callers_of, StandWithin}

-- as many callers as are saved
pub callers_count : (saved : List Saved) (cells : List ℕ) → length (callers_of saved cells) ≡ length saved
callers_count [] cells = refl
callers_count (s ∷ saved) cells = ap suc (callers_count saved (take s.floor cells))

pub within_more : (saved : List Saved) (few many : ℕ) → few ≤ many → StandWithin saved few → StandWithin saved many
within_more [] few many le within = tt
within_more (s ∷ saved) few many le within = (omega (arith, within.0), within.1)
