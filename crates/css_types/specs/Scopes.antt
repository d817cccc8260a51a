-- What a name means: the bindings that can be seen, the newest first (C99 6.2.1).
use Rattle.std.specs.Prelude.{ℕ, Bool, false, ◌==◌, ◌||◌, pos, List, [], ◌∷◌, codes, is_some, Option, Some, None, bytes_eq, if◌then◌else◌}
use Rattle.css_core.specs.Core.{Expression, Number, Local}
use Rattle.css_types.specs.Types.{CType}

-- where an object lies: so many bytes into its function's frame, or at an address
pub data Where : Type 0 where
  InFrame : (offset : ℕ) → Where
  AtAddress : (address : ℕ) → Where

abbrev pub address_at : Where → Expression
address_at (InFrame offset) = Local offset
address_at (AtAddress address) = Number (pos address)

pub data Meaning : Type 0 where
  Object : (t : CType) (place : Where) → Meaning
  -- in a directive, the parameter of this number, whose value the task is given
  Parameter : (t : CType) (k : ℕ) → Meaning
  -- a function with the types of its parameters and of its value, and its number, where it is defined somewhere in the text
  Function : (number : Option ℕ) (parameters : List CType) (result : CType) → Meaning

-- depth 0 is outside all functions, 1 a function's outermost block with its parameters
pub record Binding : Type 0 where
  pub name : List ℕ
  pub depth : ℕ
  pub meaning : Meaning

abbrev pub Scope : Type 0
Scope = List Binding

-- the newest binding hides those before it
abbrev pub found : Scope → List ℕ → Option Binding
found [] name = None
found (b ∷ scope) name = if bytes_eq b.name name then Some b else found scope name

abbrev pub is_at : ℕ → Option Binding → Bool
is_at depth None = false
is_at depth (Some b) = b.depth == depth

-- ---- the library, whose names may not be declared

pub data Library : Type 0 where
  Getchar : Library
  Putchar : Library
  Puts : Library
  Malloc : Library
  Free : Library
  Printf : Library

unfoldable pub library_of : List ℕ → Option Library
library_of name =
    if bytes_eq name (codes "getchar") then Some Getchar
    else (if bytes_eq name (codes "putchar") then Some Putchar
    else (if bytes_eq name (codes "puts") then Some Puts
    else (if bytes_eq name (codes "malloc") then Some Malloc
    else (if bytes_eq name (codes "free") then Some Free
    else (if bytes_eq name (codes "printf") then Some Printf else None)))))

-- the name can't be declared in the block of this depth: it is already, or the library has it
abbrev pub is_taken : Scope → (depth : ℕ) → List ℕ → Bool
is_taken scope depth name = is_some (library_of name) || is_at depth (found scope name)
