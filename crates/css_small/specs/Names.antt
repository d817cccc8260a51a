-- What may be named at a place of the small language, and what may be declared there.
use Rattle.std.specs.Prelude.{ℕ, ◌+◌, nat_lt, Bool, false, not, ◌&&◌, List, [], ◌∷◌, ◌++◌, length, codes, Option, Some, None, is_some, position, bytes_eq, if◌then◌else◌}

-- The keywords of C99 (6.4.1) and the library's functions can't be names.
abbrev pub reserved : List (List ℕ)
reserved =
    codes "auto" ∷ codes "break" ∷ codes "case" ∷ codes "char" ∷ codes "const" ∷ codes "continue" ∷ codes "default" ∷ codes "do"
    ∷ codes "double" ∷ codes "else" ∷ codes "enum" ∷ codes "extern" ∷ codes "float" ∷ codes "for" ∷ codes "goto" ∷ codes "if"
    ∷ codes "inline" ∷ codes "int" ∷ codes "long" ∷ codes "register" ∷ codes "restrict" ∷ codes "return" ∷ codes "short"
    ∷ codes "signed" ∷ codes "sizeof" ∷ codes "static" ∷ codes "struct" ∷ codes "switch" ∷ codes "typedef" ∷ codes "union"
    ∷ codes "unsigned" ∷ codes "void" ∷ codes "volatile" ∷ codes "while" ∷ codes "_Bool" ∷ codes "_Complex" ∷ codes "_Imaginary"
    ∷ codes "getchar" ∷ codes "putchar" ∷ codes "puts" ∷ codes "malloc" ∷ codes "free" ∷ codes "printf" ∷ []

-- What may be named at a place: a function's own objects in the order of its frame, of which so many are parameters, and in main the
-- functions before it.
pub record Names : Type 0 where
  pub parameters : ℕ
  pub objects : List (List ℕ)
  pub functions : List (List ℕ)

-- main's, behind these functions, and those of a function with this parameter
abbrev pub in_main : List (List ℕ) → Names
in_main functions = record { parameters = 0; objects = []; functions = functions }

abbrev pub in_function : List ℕ → Names
in_function parameter = record { parameters = 1; objects = parameter ∷ []; functions = [] }

-- with one more object
abbrev pub with_object : Names → List ℕ → Names
with_object names name = record names { objects = names.objects ++ name ∷ [] }

-- ---- names that are looked up

-- the number of a name among some names
abbrev pub number_of : List (List ℕ) → List ℕ → Option ℕ
number_of names name = position (bytes_eq name) names

abbrev pub is_among : List (List ℕ) → List ℕ → Bool
is_among names name = is_some (number_of names name)

-- the place is in main
abbrev pub is_in_main : Names → Bool
is_in_main names = nat_lt names.parameters 1

-- the number, where it is no parameter's
abbrev pub behind_parameters : ℕ → Option ℕ → Option ℕ
behind_parameters parameters None = None
behind_parameters parameters (Some k) = if nat_lt k parameters then None else Some k

-- the number of the variable of this name
abbrev pub variable_of : Names → List ℕ → Option ℕ
variable_of names name = behind_parameters names.parameters (number_of names.objects name)

-- the number is a parameter's
abbrev pub is_before : ℕ → Option ℕ → Bool
is_before parameters None = false
is_before parameters (Some k) = nat_lt k parameters

-- this is the parameter's name
abbrev pub is_parameter : Names → List ℕ → Bool
is_parameter names name = is_before names.parameters (number_of names.objects name)

-- the number of the function of this name, which no object hides (C99 6.2.1)
abbrev pub function_of : Names → List ℕ → Option ℕ
function_of names name = if is_among names.objects name then None else number_of names.functions name

-- ---- names that are declared

-- A name that may be declared behind these: it isn't reserved, and isn't one of them.
abbrev pub is_fresh : List (List ℕ) → List ℕ → Bool
is_fresh names name = not (is_among reserved name) && not (is_among names name)

-- A variable may be declared: its name is fresh, and there are fewer than 1,000.
abbrev pub may_declare : Names → List ℕ → Bool
may_declare names name = is_fresh names.objects name && nat_lt (length names.objects) (names.parameters + 1000)

-- A function may be defined behind these: its name is fresh and isn't main's, and there are fewer than 2^32 - 1.
abbrev pub may_define : List (List ℕ) → List ℕ → Bool
may_define names name = is_fresh (codes "main" ∷ names) name && nat_lt (length names) 4294967295
