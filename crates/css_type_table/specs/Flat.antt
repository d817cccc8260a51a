-- The type of C that a flat type is, by the lists of a table.
use Rattle.std.specs.Prelude.{◌≡◌, ℕ, zero, suc}
use Rattle.css_types.specs.Types.{CType, Void, Integer, Pointer, arrays_of, array_of}
use Rattle.css_types.specs.Shapes.{base}
use Rattle.css_type_table.specs.Lists.{Lists, list_at, IsRow}
use Rattle.css_type_table.specs.declared.ctype.CType.{CType as FlatType}
use Rattle.css_type_table.specs.declared.ctype.Layer.{Layer}
use Rattle.css_type_table.specs.declared.ctype.Layer.TheVariants as layers

-- so many pointers, one to another and the last to a type
abbrev pub pointers_to : ℕ → CType → CType
pointers_to zero t = t
pointers_to (suc n) t = Pointer (pointers_to n t)

abbrev pub element : FlatType → CType
element t = pointers_to t.stars (base t.base)

-- what a flat type stands for
unfoldable pub ctype : Lists → FlatType → CType
ctype lists t = pointers_to t.pointers (arrays_of (list_at lists t.lengths) (element t))

-- the table has the type's row
abbrev pub IsOf : Lists → FlatType → Type 0
IsOf lists t = IsRow lists t.lengths

-- no pointer to an array: the type can be an element
abbrev pub IsPlain : FlatType → Type 0
IsPlain t = t.pointers ≡ 0

-- the type by its outermost part
abbrev pub layered : Lists → Layer → CType
layered lists layers.Void = Void
layered lists (layers.Integer kind) = Integer kind
layered lists (layers.Pointer to) = Pointer (ctype lists to)
layered lists (layers.Array count of) = array_of count (ctype lists of)

-- the table has what is behind the outermost part
abbrev pub IsLayerOf : Lists → Layer → Type 0
IsLayerOf lists (layers.Pointer to) = IsOf lists to
IsLayerOf lists (layers.Array count of) = IsOf lists of
IsLayerOf lists other = Unit {0}
