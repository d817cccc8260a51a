-- What the table of first places has to do with the list of names.
use Rattle.std.specs.Prelude.{◌≡◌, ℕ, List, position, bytes_eq}
use Rattle.css_scopes.specs.Firsts.{value_of}

abbrev pub ArePlaces : List (List ℕ × ℕ) → List (List ℕ) → Type 0
ArePlaces first names = (name : List ℕ) → value_of first name ≡ position (bytes_eq name) names
