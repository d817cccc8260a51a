-- Which sizes the generated program of a number has.
use Rattle.std.specs.Prelude.{ℕ, ◌+◌, ◌*◌, ◌/◌, ◌%◌}
use Rattle.css_make.specs.declared.sizes.Shape.{Shape}

-- blocks in a row of each matrix, elements in a row of each block, and the value that the elements grow from
abbrev pub shape_of : ℕ → Shape
shape_of n = record { nb = 4 + n % 13; bs = 4 * (1 + n / 13 % 8); v = n / 104 + 1 }
