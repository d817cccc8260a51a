-- The stack place of a task's room: entries and leavings move it by a frame's size, and nothing else moves it.
use Rattle.std.proofs.Common.{◌≡◌, ℕ, ◌+◌, ◌-◌, List, length, drop, Bool, true, false, refl, ap, ◌∙◌, arith, ◌==◌, nat_le, ◌&&◌, if◌then◌else◌}
use Rattle.std.proofs.lemmas.List.{length-drop}
use Rattle.std.proofs.lemmas.Bool.{and_parts, leb-true, eqb-true}
use Rattle.css_semantics.specs.Dialogue.{Enter, Leave, Load, Store, Says, Fails}
use Rattle.css_semantics.specs.Alone.{is_first, is_innermost}
use Rattle.css_semantics.specs.TaskSpaces.{TaskState}
use Rattle.css_semantics.proofs.TaskPlaces as places
use Rattle.css_semantics.proofs.StackPlaces.{length-overlaid}
use Rattle.css_task.specs.Rooms.{stack_of}
use Rattle.css_task.specs.Cells.{Kept, room, kept_place, kept_reply, kept_after, kept_left}

abbrev as_state : Kept → TaskState
as_state m = record { memory = stack_of (room m); frames = m.frames }

pub enters : (m : Kept) (size base : ℕ) → kept_reply m (Enter size) ≡ Says base → kept_place (kept_after m (Enter size)) ≡ base
enters m size base is = places.enters (as_state m) size base is

pub lowers : (m : Kept) (size base : ℕ) → kept_reply m (Enter size) ≡ Says base → base + size ≡ kept_place m
lowers m size base is = places.lowers (as_state m) size base is

left_by : (b : Bool) (r : ℕ) → (if b then Says 0 else Fails) ≡ Says r → b ≡ true
left_by true r is = refl
left_by false r is = absurd (cc)

pub leaves : (m : Kept) (size r : ℕ) → kept_reply m (Leave (kept_place m) size) ≡ Says r → kept_place (kept_after m (Leave (kept_place m) size)) ≡ kept_place m + size
leaves m size r is =
    let inner : is_innermost (stack_of (room m)) m.frames (kept_place m) size ≡ true = left_by (is_innermost (stack_of (room m)) m.frames (kept_place m) size) r is in
    let parts = and_parts (kept_place m + length m.stack == m.place) (nat_le size (length m.stack) && is_first size m.frames) inner in
    let at = eqb-true (kept_place m + length m.stack) m.place parts.0 in
    let within = leb-true size (length m.stack) (and_parts (nat_le size (length m.stack)) (is_first size m.frames) parts.1).0 in
    let moved : m.place - length (drop size m.stack) ≡ kept_place m + size = omega (arith, at, within, length-drop size m.stack) in
    ap (λ b. kept_place (if b then kept_left m size else m)) inner ∙ moved

pub loads : (m : Kept) (address width : ℕ) → kept_place (kept_after m (Load address width)) ≡ kept_place m
loads m address width = refl

pub stores : (m : Kept) (address : ℕ) (bytes : List ℕ) → kept_place (kept_after m (Store address bytes)) ≡ kept_place m
stores m address bytes = ap (λ n. m.place - n) (length-overlaid (kept_place m) m.stack address bytes)
