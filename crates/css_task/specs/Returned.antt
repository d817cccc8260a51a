-- What comes of a task whose body has returned.
use Rattle.std.specs.Prelude.{◌≡◌, ℕ, true, false, ◌⊎◌}
use Rattle.css_base.specs.declared.ending.Stop.TheVariants as stops
use Rattle.css_base.specs.declared.rule.Rule.TheVariants as rules
use Rattle.css_semantics.specs.Dialogue.{Leave, Reply, Says}
use Rattle.css_vm.specs.Spaces.{IsRefusal}
use Rattle.css_task.specs.Rooms.{Room, outs_from}
use Rattle.css_task.specs.Cells.{Kept, room, kept_place, kept_reply, kept_after}
use Rattle.css_task.specs.Alone.{End, Outs, Halted}

-- the reply to leaving the innermost frame, of so many bytes
abbrev pub leaving_reply : Kept → (frame : ℕ) → Reply
leaving_reply m frame = kept_reply m (Leave (kept_place m) frame)

abbrev pub IsLeft : Kept → (frame : ℕ) → Type 0
IsLeft m frame = (n : ℕ) × (leaving_reply m frame ≡ Says n)

-- the memory behind it
abbrev pub behind : Kept → (frame : ℕ) → Room
behind m frame = room (kept_after m (Leave (kept_place m) frame))

abbrev pub IsWritten : Room → Type 0
IsWritten r = (at : ℕ) → r.unwritten at ≡ false

abbrev pub IsUnwritten : Room → Type 0
IsUnwritten r = (at : ℕ) × (r.unwritten at ≡ true)

-- Its frame is left. Where no byte is left that it has yet to write, it leaves what its windows have; else the rule on such bytes
-- stops it, in the line of the return.
abbrev pub IsReturned : Kept → (frame line : ℕ) → End → Type 0
IsReturned m frame line (Outs outs) = IsLeft m frame × IsWritten (behind m frame) × (outs ≡ outs_from (behind m frame) (behind m frame).uses)
IsReturned m frame line (Halted stop at) =
    (at ≡ line)
    × (IsRefusal (leaving_reply m frame) stop ⊎ (IsLeft m frame × IsUnwritten (behind m frame) × (stop ≡ stops.Rule rules.LeftUnwritten)))
