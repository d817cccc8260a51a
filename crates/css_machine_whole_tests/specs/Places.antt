-- The stack place of the small memory.
use Rattle.std.specs.Prelude.{◌≡◌, ℕ, ◌+◌, ◌-◌, nat_le, if◌then◌else◌, Bool, true, false, List}
use Rattle.std.proofs.Common.{refl, arith}
use Rattle.std.proofs.lemmas.Bool.{leb-true}
use Rattle.css_base.specs.declared.rule.Rule.TheVariants.{MainStack}
use Rattle.css_semantics.specs.Dialogue.{Enter, Leave, Load, Store, Says, Refuses}
use Rattle.css_machine_whole_tests.specs.Rams.{Seen, ram_place, ram_reply, ram_learn}

-- what the reply to an entry is
entered : (b : Bool) (place size base : ℕ) → (if b then Says (place - size) else Refuses MainStack) ≡ Says base → (b ≡ true) × (place - size ≡ base)
entered true place size base is = (refl, cc)
entered false place size base is = absurd (cc)

pub enters : (m : Seen) (size base : ℕ) → ram_reply m (Enter size) ≡ Says base → ram_place (ram_learn m (Enter size)) ≡ base
enters m size base is = (entered (nat_le size m.place) m.place size base is).1

pub lowers : (m : Seen) (size base : ℕ) → ram_reply m (Enter size) ≡ Says base → base + size ≡ ram_place m
lowers m size base is =
    let says = entered (nat_le size m.place) m.place size base is in
    omega (arith, says.1, leb-true size m.place says.0)

pub leaves : (m : Seen) (size r : ℕ) → ram_reply m (Leave (ram_place m) size) ≡ Says r → ram_place (ram_learn m (Leave (ram_place m) size)) ≡ ram_place m + size
leaves m size r is = refl

pub loads : (m : Seen) (address width : ℕ) → ram_place (ram_learn m (Load address width)) ≡ ram_place m
loads m address width = refl

pub stores : (m : Seen) (address : ℕ) (bytes : List ℕ) → ram_place (ram_learn m (Store address bytes)) ≡ ram_place m
stores m address bytes = refl
