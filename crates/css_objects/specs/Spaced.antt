-- Objects of four bytes, eight bytes apart.
use Rattle.std.specs.Prelude.{◌≡◌, ℕ, zero, suc, ◌+◌, Bool, true, false, List, [], ◌∷◌}
use Rattle.css_record.specs.declared.window.Window.{Window}
use Rattle.css_objects.specs.declared.pending.Probe.{Probe}
use Rattle.css_objects.specs.declared.pending.Probe.TheVariants as probes
use Rattle.css_objects.specs.Table.{Table, windows}

-- so many bytes in one row
abbrev pub one_row : (base length : ℕ) → Window
one_row base length = record { base = base; rows = 1; width = length; stride = length }

-- so many rows of four bytes from a base on, eight bytes apart
unfoldable pub spaced : (count base : ℕ) → List Window
spaced zero base = []
spaced (suc count) base = one_row base 4 ∷ spaced count (base + 8)

-- the table has a thousand such objects from 4,096 on, and no other
pub record IsThousand (t : Table) : Type 0 where
  pub rows : windows t.rows ≡ spaced 1000 4096
  pub blocks : t.blocks ≡ []

-- an object is equal
abbrev pub is_same : Probe → Bool
is_same probes.Nothing = false
is_same (probes.Same p) = true
is_same (probes.Crosses v) = false
