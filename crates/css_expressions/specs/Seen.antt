-- What the code's scope and trees stand for, where types are of a table.
use Rattle.std.specs.Prelude.{List, [], ◌∷◌}
use Rattle.css_types.specs.Scopes as types
use Rattle.css_type_table.specs.Lists.{Lists}
use Rattle.css_type_table.specs.Flat.{ctype}
use Rattle.css_type_table.specs.declared.ctype.CType.{CType as FlatType}
use Rattle.css_scopes.specs.Scopes.{Binding}
use Rattle.css_scopes.specs.Shapes.{meaning_as, scope_as}
use Rattle.css_scopes.specs.declared.meaning.Meaning.{Meaning}

abbrev pub meant_by : Lists → Meaning FlatType → types.Meaning
meant_by lists m = meaning_as (ctype lists) m

-- the scope, as the static rules speak of it
abbrev pub seen : Lists → List (Binding (Meaning FlatType)) → types.Scope
seen lists scope = scope_as (ctype lists) scope

-- a list of another length than one
abbrev pub IsNotOne : {A : Type 0} → List A → Type 0
IsNotOne (a ∷ []) = ⊥
IsNotOne all = Unit {0}
