-- What the seat of a pass knows and holds in the table: the pass's view, and what the steps need beside it.
use Rattle.std.specs.Prelude.{◌≡◌, ℕ, ◌+◌, Bool, true, false, List, [], ◌∷◌, ◌++◌, length, drop, Option, Some, None}
use Rattle.atomic_table.specs.Table.{Me}
use Rattle.css_seen.specs.declared.seat_view.SeatView.{SeatView}
use Rattle.css_seen.specs.Entries.{longer}
use Rattle.css_seen.specs.Views.{LockId, View}

-- inside it holds the slot, which is empty while the value is out
abbrev pub carried_of : {T : Type 0} → Bool → List (ℕ × Option T)
carried_of true = (0, None) ∷ []
carried_of false = []

module _ {E F : Type 0} where
  -- what contracts see of it
  abbrev pub view_of : LockId → SeatView E F → View E F
  view_of lock s = record { lock = lock; number = s.number; seen = s.seen; made = s.made; joined = s.joined; splits = s.splits; inside = s.inside; fixed = s.fixed }

  abbrev pub seat_first : F → SeatView E F
  seat_first f = record { number = 0; seen = []; made = []; joined = []; pending = []; splits = 0; inside = false; fixed = Some f; spent = false }

  abbrev pub seat_after_enter : SeatView E F → List E → SeatView E F
  seat_after_enter s log = record s { seen = log; inside = true }

  abbrev pub seat_after_leave : SeatView E F → List E → SeatView E F
  seat_after_leave s log = record s { seen = log; made = s.made ++ drop (length s.seen) log; inside = false }

  abbrev pub seat_after_split : SeatView E F → SeatView E F
  seat_after_split s = record s { splits = s.splits + 1 }

  -- the seat that is split off
  abbrev pub seat_split_off : SeatView E F → SeatView E F
  seat_split_off s = record { number = s.splits + 1; seen = s.seen; made = []; joined = []; pending = []; splits = 0; inside = false; fixed = s.fixed; spent = false }

  -- The other's seen list is only kept beside its own: which of the two is the longer, and that it begins with the other, is known by a look at the word.
  abbrev pub seat_after_join : SeatView E F → SeatView E F → SeatView E F
  seat_after_join s other = record s { joined = s.joined ++ (other.number, other.made) ∷ other.joined; pending = other.seen }

  -- the look after a join
  abbrev pub seat_after_look : SeatView E F → SeatView E F
  seat_after_look s = record s { seen = longer s.seen s.pending; pending = [] }

  -- the seat of a pass that was joined
  abbrev pub seat_spent : SeatView E F
  seat_spent = record { number = 0; seen = []; made = []; joined = []; pending = []; splits = 0; inside = false; fixed = None; spent = true }

-- a pass between two calls, with its count of the entries that it has seen
pub record IsPass {T E F : Type 0} (seat : Me (Option T) (SeatView E F)) (count : ℕ) : Type 0 where
  pub carries : seat.1 ≡ carried_of seat.0.inside
  pub counted : count ≡ length seat.0.seen
  pub live : seat.0.spent ≡ false
  pub settled : seat.0.pending ≡ []
