-- The stack place of a flat memory: entries and leavings move it by a frame's size, and nothing else moves it.
use Rattle.std.proofs.Common.{◌≡◌, ℕ, ◌+◌, ◌-◌, ◌≤◌, List, [], ◌∷◌, length, replicate, Bool, true, false, refl, ap, arith, min, ◌==◌, nat_le, nat_lt, ◌&&◌, if◌then◌else◌}
use Rattle.std.proofs.lemmas.List.{length-append, length-drop, length-replicate}
use Rattle.std.proofs.lemmas.Bool.{and_parts, leb-true, eqb-true}
use Rattle.css_semantics.specs.Dialogue.{Enter, Leave, Load, Store, Says, Fails, Refuses}
use Rattle.css_base.specs.declared.rule.Rule.TheVariants.{MainStack}
use Rattle.css_semantics.specs.Memory.{Memory, stack_place, is_live, overlaid, stored, after}
use Rattle.css_semantics.specs.Flat.{memory_reply, has_room, is_innermost}

-- what the reply to an entry is
entered : (b : Bool) (place size base : ℕ) → (if b then Says (place - size) else Refuses MainStack) ≡ Says base → (b ≡ true) × (place - size ≡ base)
entered true place size base is = (refl, cc)
entered false place size base is = absurd (cc)

-- what the reply to a leaving is
left : (b : Bool) (r : ℕ) → (if b then Says 0 else Fails) ≡ Says r → b ≡ true
left true r is = refl
left false r is = absurd (cc)

room : (m : Memory) (size : ℕ) → has_room m size ≡ true → length m.stack + size ≤ min m.limit.bytes m.end
room m size has = leb-true (length m.stack + size) (min m.limit.bytes m.end) (and_parts (nat_le (length m.stack + size) (min m.limit.bytes m.end)) (nat_lt m.calls m.limit.calls) has).0

fits_inner : (m : Memory) (base size : ℕ) → is_innermost m base size ≡ true → (base + length m.stack ≡ m.end) × (size ≤ length m.stack)
fits_inner m base size inner =
    let parts = and_parts (base + length m.stack == m.end) (nat_le size (length m.stack) && nat_lt 0 m.calls) inner in
    (eqb-true (base + length m.stack) m.end parts.0, leb-true size (length m.stack) (and_parts (nat_le size (length m.stack)) (nat_lt 0 m.calls) parts.1).0)

-- a store changes no length
pub length-overlaid : (from : ℕ) (bytes : List ℕ) (address : ℕ) (new : List ℕ) → length (overlaid from bytes address new) ≡ length bytes
length-overlaid from [] address new = refl
length-overlaid from (b ∷ bytes) address new = omega (arith, length-overlaid (from + 1) bytes address new)

pub enters : (m : Memory) (size base : ℕ) → memory_reply m (Enter size) ≡ Says base → stack_place (after m (Enter size)) ≡ base
enters m size base is =
    let says = entered (has_room m size) (stack_place m) size base is in
    omega (arith, says.1, length-append (replicate size 0) m.stack, length-replicate {A = ℕ})

pub lowers : (m : Memory) (size base : ℕ) → memory_reply m (Enter size) ≡ Says base → base + size ≡ stack_place m
lowers m size base is =
    let says = entered (has_room m size) (stack_place m) size base is in
    omega (arith, says.1, room m size says.0)

pub leaves : (m : Memory) (size r : ℕ) → memory_reply m (Leave (stack_place m) size) ≡ Says r → stack_place (after m (Leave (stack_place m) size)) ≡ stack_place m + size
leaves m size r is =
    let in_stack = fits_inner m (stack_place m) size (left (is_innermost m (stack_place m) size) r is) in
    omega (arith, in_stack, length-drop size m.stack)

place_of_if : (b : Bool) (m n : Memory) → stack_place m ≡ stack_place n → stack_place (if b then m else n) ≡ stack_place n
place_of_if true m n same = same
place_of_if false m n same = refl

pub loads : (m : Memory) (address width : ℕ) → stack_place (after m (Load address width)) ≡ stack_place m
loads m address width = refl

pub stores : (m : Memory) (address : ℕ) (bytes : List ℕ) → stack_place (after m (Store address bytes)) ≡ stack_place m
stores m address bytes =
    place_of_if (is_live m address (length bytes)) (stored m address bytes) m (ap (λ n. m.end - n) (length-overlaid (stack_place m) m.stack address bytes))
