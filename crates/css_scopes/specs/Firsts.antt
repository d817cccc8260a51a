-- Values by name, of which the first of a name counts.
use Rattle.std.specs.Prelude.{ℕ, List, [], ◌∷◌, ◌++◌, is_some, Option, Some, None, bytes_eq, if◌then◌else◌}
use Rattle.std.specs.Coded.{Coded, coded×, coded_ℕ, coded_list}

abbrev pub named_code : {V : Type 0} → Coded V → Coded (List (List ℕ × V))
named_code code = coded_list (coded× (coded_list coded_ℕ) code)

module _ {V : Type 0} where
  -- the value of a name
  abbrev pub value_of : List (List ℕ × V) → List ℕ → Option V
  value_of [] name = None
  value_of (e ∷ es) name = if bytes_eq name e.0 then Some e.1 else value_of es name

  -- with a value for a name that has none
  abbrev pub with_value : List (List ℕ × V) → List ℕ → V → List (List ℕ × V)
  with_value es name v = if is_some (value_of es name) then es else es ++ (name, v) ∷ []
