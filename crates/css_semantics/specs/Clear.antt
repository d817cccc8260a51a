-- Tapes on which no rule is broken, and objects that share no byte.
use Rattle.std.specs.Prelude.{◌≡◌, false, List, [], ◌∷◌, None, All}
use Rattle.css_base.specs.declared.limits.Limits.{Limits}
use Rattle.css_semantics.specs.Dialogue.{Tape}
use Rattle.css_semantics.specs.Memory.{Memory}
use Rattle.css_semantics.specs.Pending.{Object}
use Rattle.css_semantics.specs.Rules.{share_byte, hit}

-- no item of the tape breaks a rule
abbrev pub IsClear : Memory → Limits → Tape → Type 0
IsClear start limits [] = Unit {0}
IsClear start limits (i ∷ tape) = (hit start limits tape i.action ≡ None) × IsClear start limits tape

-- no two of the objects share a byte
abbrev pub AreApart : List Object → Type 0
AreApart [] = Unit {0}
AreApart (o ∷ objects) = All (λ p. share_byte o.window p.window ≡ false) objects × AreApart objects
