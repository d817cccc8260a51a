-- Scopes over any type of types, as the scopes that the static rules speak of.
use Rattle.std.specs.Prelude.{List, map}
use Rattle.css_types.specs.Types.{CType}
use Rattle.css_types.specs.Scopes as types
use Rattle.css_scopes.specs.declared.meaning.Meaning.{Meaning}
use Rattle.css_scopes.specs.declared.meaning.Meaning.TheVariants as code
use Rattle.css_scopes.specs.declared.meaning.Where.{Where}
use Rattle.css_scopes.specs.declared.meaning.Where.TheVariants as places
use Rattle.css_scopes.specs.Scopes.{Binding}

abbrev pub place_as : Where → types.Where
place_as (places.InFrame offset) = types.InFrame offset
place_as (places.AtAddress address) = types.AtAddress address

-- where each type of the code stands for one of C
module _ {T : Type 0} (type_as : T → CType) where
  abbrev pub meaning_as : Meaning T → types.Meaning
  meaning_as (code.Object t place) = types.Object (type_as t) (place_as place)
  meaning_as (code.Parameter t k) = types.Parameter (type_as t) k
  meaning_as (code.Function number parameters result) = types.Function number (map type_as parameters.items) (type_as result)

  abbrev pub binding_as : Binding (Meaning T) → types.Binding
  binding_as b = record { name = b.name; depth = b.depth; meaning = meaning_as b.meaning }

  abbrev pub scope_as : List (Binding (Meaning T)) → types.Scope
  scope_as scope = map binding_as scope
