-- Pending objects as the code keeps them.
use Rattle.std.specs.Prelude.{◌≤◌, ℕ, ◌+◌, Bool, true, not, ◌||◌, if◌then◌else◌}
use Rattle.css_semantics.specs.Pending.{Object, some_from}
use Rattle.css_semantics.specs.Tasks.{plain, has_byte, is_same_window}
use Rattle.css_judged.specs.declared.objects.Pending.{Pending}

-- so far each is one row
abbrev pub object : Pending → Object
object p = record { window = plain p.base p.width; is_written = p.is_written }

-- all bytes of an object are from one address on, up to another
abbrev pub IsBetween : (low high : ℕ) → Pending → Type 0
IsBetween low high p = (low ≤ p.base) × (p.base + p.width ≤ high)

-- one that may be written, if it is the row of a plain task at this address
abbrev pub as_row : (base : ℕ) → Pending → Pending
as_row base p = if is_same_window (plain base 4) (plain p.base p.width) then record p { is_written = true } else p

-- one that stays where so many bytes from an address are stored into
abbrev pub is_left : Pending → (address count : ℕ) → Bool
is_left p address count = p.is_written || not (some_from (has_byte (plain p.base p.width)) address count)
