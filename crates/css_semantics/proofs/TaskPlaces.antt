-- The stack place of a task's memory: entries and leavings move it by a frame's size, and nothing else moves it.
use Rattle.std.proofs.Common.{◌≡◌, ℕ, ◌+◌, ◌-◌, ◌≤◌, List, length, replicate, drop, Bool, true, false, refl, ap, arith, ◌==◌, nat_le, ◌&&◌, if◌then◌else◌}
use Rattle.std.proofs.lemmas.List.{length-append, length-drop, length-replicate}
use Rattle.std.proofs.lemmas.Bool.{and_parts, leb-true, eqb-true}
use Rattle.css_base.specs.declared.rule.Rule.TheVariants as rules
use Rattle.css_semantics.specs.Dialogue.{Enter, Leave, Load, Store, Says, Fails, Refuses}
use Rattle.css_semantics.specs.Rules.{task_stack, is_too_deep}
use Rattle.css_semantics.specs.Alone.{is_first, is_innermost}
use Rattle.css_semantics.specs.TaskSpaces.{TaskState, place_of, entry_reply, space_reply, space_after}
use Rattle.css_semantics.proofs.StackPlaces.{length-overlaid}

-- what the reply to an entry is
entered : (deep room : Bool) (place size base : ℕ) → (if deep then Refuses rules.TaskStack else (if room then Says (place - size) else Fails)) ≡ Says base → (room ≡ true) × (place - size ≡ base)
entered true room place size base is = absurd (cc)
entered false true place size base is = (refl, cc)
entered false false place size base is = absurd (cc)

-- what the reply to a leaving is
left : (b : Bool) (r : ℕ) → (if b then Says 0 else Fails) ≡ Says r → b ≡ true
left true r is = refl
left false r is = absurd (cc)

entry : (s : TaskState) (size base : ℕ) → space_reply s (Enter size) ≡ Says base → (size ≤ place_of s) × (place_of s - size ≡ base)
entry s size base is =
    let says = entered (is_too_deep task_stack s.frames size) (nat_le size (place_of s)) (place_of s) size base is in
    (leb-true size (place_of s) says.0, says.1)

pub enters : (s : TaskState) (size base : ℕ) → space_reply s (Enter size) ≡ Says base → place_of (space_after s (Enter size)) ≡ base
enters s size base is = omega (arith, (entry s size base is).1, length-append (replicate size 0) s.memory.stack, length-replicate {A = ℕ} size 0)

pub lowers : (s : TaskState) (size base : ℕ) → space_reply s (Enter size) ≡ Says base → base + size ≡ place_of s
lowers s size base is =
    let says = entry s size base is in
    omega (arith, says.0, says.1)

pub leaves : (s : TaskState) (size r : ℕ) → space_reply s (Leave (place_of s) size) ≡ Says r → place_of (space_after s (Leave (place_of s) size)) ≡ place_of s + size
leaves s size r is =
    let m = s.memory in
    let inner : is_innermost m s.frames (place_of s) size ≡ true = left (is_innermost m s.frames (place_of s) size) r is in
    let parts = and_parts (place_of s + length m.stack == m.place) (nat_le size (length m.stack) && is_first size s.frames) inner in
    let at = eqb-true (place_of s + length m.stack) m.place parts.0 in
    let within = leb-true size (length m.stack) (and_parts (nat_le size (length m.stack)) (is_first size s.frames) parts.1).0 in
    rw inner (omega (arith, at, within, length-drop size m.stack))

pub loads : (s : TaskState) (address width : ℕ) → place_of (space_after s (Load address width)) ≡ place_of s
loads s address width = refl

pub stores : (s : TaskState) (address : ℕ) (bytes : List ℕ) → place_of (space_after s (Store address bytes)) ≡ place_of s
stores s address bytes = ap (λ n. s.memory.place - n) (length-overlaid (place_of s) s.memory.stack address bytes)
