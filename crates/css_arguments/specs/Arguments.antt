-- Arguments as the definitions of tasks have them, and their windows.
use Rattle.std.specs.Prelude.{◌≡◌, ◌≤◌, ◌<◌, ◌*◌, ◌^◌, ◌⊎◌, ℕ, ℤ, Bool, true, false, ◌||◌, List, [], ◌∷◌, fold, slice_get, Some, map}
use Rattle.std.specs.List.{list_all}
use Rattle.css_base.specs.declared.direction.Direction.TheVariants.{In}
use Rattle.css_semantics.specs.Dialogue.{Argument}
use Rattle.css_semantics.specs.Tasks as tasks
use Rattle.css_semantics.specs.Rules.{is_dimension, has_bad_dimension}
use Rattle.css_record.specs.declared.window.Window as coded
use Rattle.css_record.specs.Windows.{window, IsWindow}
use Rattle.css_arguments.specs.declared.argument.Dims.{Dims}
use Rattle.css_arguments.specs.declared.argument.Dims.TheVariants as dims
use Rattle.css_arguments.specs.declared.argument.Argument as code
use Rattle.css_arguments.specs.Lists.{Each}

-- the dimensions' values; where the evaluation of one was at fault there are none
abbrev pub values : Dims → List ℤ
values (dims.Values v) = v.items
values dims.Stopped = []

abbrev pub is_stopped : Dims → Bool
is_stopped (dims.Values v) = false
is_stopped dims.Stopped = true

-- what the definitions of tasks see of an argument
abbrev pub given : code.Argument → Argument
given a = record { base = a.base; element = a.element; dimensions = values a.dims; is_strided = a.strided; direction = a.direction }

-- a dimension is at fault
abbrev pub is_unfit : code.Argument → Bool
is_unfit a = is_stopped a.dims || has_bad_dimension (given a)

-- no dimension of an argument is at fault, and this is its window
pub record IsWindowOf (a : code.Argument) (w : coded.Window) : Type 0 where
  pub fit : is_unfit a ≡ false
  pub is : window w ≡ tasks.window (given a)
  pub is_window : IsWindow (window w)

-- each argument has elements of a byte or more
abbrev pub HaveElements : List code.Argument → Type 0
HaveElements arguments = (i : ℕ) (a : code.Argument) → slice_get arguments i ≡ Some a → 1 ≤ a.element

-- no dimension of any is at fault
pub record AreFit (arguments : List code.Argument) : Type 0 where
  pub elements : HaveElements arguments
  pub fit : (i : ℕ) (a : code.Argument) → slice_get arguments i ≡ Some a → is_unfit a ≡ false

-- these are the arguments' windows
pub record AreWindows (arguments : List code.Argument) (windows : List coded.Window) : Type 0 where
  pub same : map window windows ≡ map tasks.window (map given arguments)
  pub are : Each windows (λ w. IsWindow (window w))

-- ---- measures

-- a number of bytes times a dimension: it isn't one, or they are over 2^30; else so many
abbrev pub IsTooMuch : ℕ → ℤ → Type 0
IsTooMuch n d = (is_dimension d ≡ false) ⊎ (2 ^ 30 < n * tasks.count d)

pub record IsProduct (n : ℕ) (d : ℤ) (bytes : ℕ) : Type 0 where
  pub dimension : is_dimension d ≡ true
  pub is : bytes ≡ n * tasks.count d
  pub some : 1 ≤ bytes
  pub small : bytes ≤ 2 ^ 30

-- the same of some dimensions
abbrev pub product : ℕ → List ℤ → ℕ
product n ds = fold (λ product d. product * tasks.count d) n ds

abbrev pub IsTooLong : ℕ → List ℤ → Type 0
IsTooLong n ds = (list_all is_dimension ds ≡ false) ⊎ (2 ^ 30 < product n ds)

pub record IsLength (n : ℕ) (ds : List ℤ) (bytes : ℕ) : Type 0 where
  pub dimensions : list_all is_dimension ds ≡ true
  pub is : bytes ≡ product n ds
  pub some : 1 ≤ bytes
  pub small : bytes ≤ 2 ^ 30

-- rows, width and stride as an argument
abbrev pub strided : (base element : ℕ) → (rows width stride : ℤ) → Argument
strided base element rows width stride = record { base = base; element = element; dimensions = rows ∷ width ∷ stride ∷ []; is_strided = true; direction = In }

abbrev pub is_bad_block : (base element : ℕ) → (rows width stride : ℤ) → Bool
is_bad_block base element rows width stride = has_bad_dimension (strided base element rows width stride)

pub record IsBlockOf (base element : ℕ) (rows width stride : ℤ) (w : coded.Window) : Type 0 where
  pub fit : is_bad_block base element rows width stride ≡ false
  pub is : window w ≡ tasks.window (strided base element rows width stride)
  pub is_window : IsWindow (window w)

-- rows that don't lie behind one another
pub record IsSpread (base rows width stride : ℕ) (w : coded.Window) : Type 0 where
  pub is : w ≡ record { base = base; rows = rows; width = width; stride = stride }
  pub is_window : IsWindow (window w)
