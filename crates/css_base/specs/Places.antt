-- The bytes of an owner.
use Rattle.std.specs.Prelude.{ℕ, List}
use Rattle.std.specs.Arc.{arc_value}
use Rattle.css_base.specs.declared.bytes.Place.{Place}
use Rattle.css_base.specs.declared.bytes.Place.TheVariants as place

abbrev pub bytes_at : Place → List ℕ
bytes_at (place.Own bytes) = bytes.items
bytes_at (place.Shared bytes) = (arc_value bytes).items
