-- What each step tells the seat that takes it.
use Rattle.std.specs.Prelude.{◌≡◌, ◌≢◌, ℕ, List, [], ◌∷◌, Option, Some}
use mathlib.Core.List.{IsPrefix}
use Rattle.atomic_table.specs.Table.{Me, Step}
use Rattle.css_seen.specs.declared.seat_view.SeatView.{SeatView}
use Rattle.css_seen.specs.Views.{LockId, Finds}
use Rattle.css_seen.specs.Seats.{view_of, seat_after_enter, seat_after_leave, seat_after_look}

module _ {T E F : Type 0} (history : T → List E) (maker : E → ℕ) (fixed : T → F) where
  -- The exchange of the word to 1 found 1, and changed nothing; or it found another number, and took the value.
  abbrev pub Takes : Step (Option T) → Me (Option T) (SeatView E F) → ℕ → Me (Option T) (SeatView E F) → Type 0
  Takes st me n me' = (n ≡ 1 → me' ≡ me) × (n ≢ 1 → (x : T) × (me' ≡ (seat_after_enter me.0 (history x), (0, Some x) ∷ me.1)) × ((lock : LockId) → Finds history maker fixed (view_of lock me.0) x))

  -- the store by which the value that is in the slot goes home
  abbrev pub GivesBack : Step (Option T) → Me (Option T) (SeatView E F) → ℕ → Me (Option T) (SeatView E F) → Type 0
  GivesBack st me n me' = (x : T) → me.1 ≡ (0, Some x) ∷ [] → me' ≡ (seat_after_leave me.0 (history x), [])

-- The load after a join: of the two lists that were seen the longer begins with the other.
abbrev pub LooksAgain : {T E F : Type 0} → Step (Option T) → Me (Option T) (SeatView E F) → ℕ → Me (Option T) (SeatView E F) → Type 0
LooksAgain st me n me' = (me' ≡ (seat_after_look me.0, me.1)) × IsPrefix me.0.seen me'.0.seen × IsPrefix me.0.pending me'.0.seen
