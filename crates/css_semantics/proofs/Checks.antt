-- Where no rule is broken, each check says so.
use Rattle.std.proofs.Common.{◌≡◌, Bool, true, false, List, [], ◌∷◌, None, refl}
use Rattle.css_semantics.specs.Rules.{Check, first_broken}

-- none of these checks says that its rule is broken
abbrev pub AreKept : List Check → Type 0
AreKept [] = Unit {0}
AreKept (c ∷ checks) = (c.is_broken ≡ false) × AreKept checks

kept_behind : (c : Check) (checks : List Check) (b : Bool) → c.is_broken ≡ b → first_broken (c ∷ checks) ≡ None → (first_broken checks ≡ None → AreKept checks) → AreKept (c ∷ checks)
kept_behind c checks true is none rest = absurd (cc)
kept_behind c checks false is none rest = (is, rest (rw is at none))

pub are_kept : (checks : List Check) → first_broken checks ≡ None → AreKept checks
are_kept [] none = tt
are_kept (c ∷ checks) none = kept_behind c checks c.is_broken refl none (are_kept checks)
