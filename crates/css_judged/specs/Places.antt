-- The stack place of main's memory under the rules: entries and leavings move it by a frame's size, and nothing else moves it.
use Rattle.std.specs.Prelude.{◌≡◌, ℕ, ◌+◌, List, Option, None, Some, refl}
use Rattle.css_base.specs.declared.rule.Rule.{Rule}
use Rattle.css_semantics.specs.Dialogue.{Enter, Leave, Load, Store, Reply, Says}
use Rattle.css_semantics.specs.Flat.{memory_reply}
use Rattle.css_semantics.specs.Rules.{first_broken, judged_reply}
use Rattle.css_semantics.proofs.StackPlaces as places
use Rattle.css_judged.specs.Judged.{Judged, memory_checks, main_reply, main_after, main_place}

said : (o : Option Rule) (reply : Reply) (value : ℕ) → judged_reply o reply ≡ Says value → reply ≡ Says value
said None reply value is = is
said (Some rule) reply value is = absurd (cc)

pub enters : (s : Judged) (size base : ℕ) → main_reply s (Enter size) ≡ Says base → main_place (main_after s (Enter size)) ≡ base
enters s size base is = places.enters s.memory size base (said (first_broken (memory_checks s (Enter size))) (memory_reply s.memory (Enter size)) base is)

pub lowers : (s : Judged) (size base : ℕ) → main_reply s (Enter size) ≡ Says base → base + size ≡ main_place s
lowers s size base is = places.lowers s.memory size base (said (first_broken (memory_checks s (Enter size))) (memory_reply s.memory (Enter size)) base is)

pub leaves : (s : Judged) (size r : ℕ) → main_reply s (Leave (main_place s) size) ≡ Says r → main_place (main_after s (Leave (main_place s) size)) ≡ main_place s + size
leaves s size r is = places.leaves s.memory size r (said (first_broken (memory_checks s (Leave (main_place s) size))) (memory_reply s.memory (Leave (main_place s) size)) r is)

pub loads : (s : Judged) (address width : ℕ) → main_place (main_after s (Load address width)) ≡ main_place s
loads s address width = refl

pub stores : (s : Judged) (address : ℕ) (bytes : List ℕ) → main_place (main_after s (Store address bytes)) ≡ main_place s
stores s address bytes = places.stores s.memory address bytes
