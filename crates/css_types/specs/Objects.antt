-- Declared types, places of objects, and what an object begins with.
use Rattle.std.specs.Prelude.{ℕ, zero, suc, ◌+◌, ◌-◌, pos, Bool, true, false, not, nat_le, List, [], ◌∷◌, ◌++◌, length, Option, Some, None, Ok, if◌then◌else◌}
use Rattle.css_base.specs.declared.static_fault.StaticName.TheVariants.{Redeclared, TypeMismatch, TooBig}
use Rattle.css_tree.specs.Syntax as syntax
use Rattle.css_types.specs.Types.{CType, Array, size_of, array_of, arrays_of, biggest, is_void, is_integer, is_character, starred}
use Rattle.css_types.specs.Judged.{Judged, broken, after, provided, expected}
use Rattle.css_types.specs.Constants.{Constant, Known}
use Rattle.css_types.specs.Scopes.{Scope, is_taken}
use Rattle.css_types.specs.Operands.{Operand}
use Rattle.css_types.specs.Expressions.{operand_of, as_value}

-- ---- the lengths of arrays

-- a constant integer from 1 on
abbrev pub length_of : (line : ℕ) → Bool → Constant → Judged ℕ
length_of line true (Known (pos (suc n))) = Ok (suc n)
length_of line is_whole k = broken TypeMismatch line

-- what stands between the brackets, in order of text; it may be nothing
abbrev pub lengths : Scope → (line : ℕ) → syntax.Dimensions → Judged (List (Option ℕ))
lengths scope line [] = Ok []
lengths scope line (None ∷ more) = after (lengths scope line more) (λ others. Ok (None ∷ others))
lengths scope line (Some e ∷ more) =
    after (as_value (operand_of scope line e)) (λ a. after (length_of line (is_integer a.t) a.constant) (λ n.
    after (lengths scope line more) (λ others. Ok (Some n ∷ others))))

abbrev pub before : ℕ → Option (List ℕ) → Option (List ℕ)
before n None = None
before n (Some ns) = Some (n ∷ ns)

-- the lengths, where each is there
abbrev pub all_there : List (Option ℕ) → Option (List ℕ)
all_there [] = Some []
all_there (None ∷ more) = None
all_there (Some n ∷ more) = before n (all_there more)

abbrev pub count_of : syntax.Initialisers → ℕ
count_of syntax.NoParts = 0
count_of (syntax.MoreParts first others) = suc (count_of others)

-- the length that an initialiser gives to an array of these elements
abbrev pub given_length : CType → Option syntax.Initialiser → Option ℕ
given_length of (Some (syntax.String at bytes)) = if is_character of then Some (suc (length bytes)) else None
given_length of (Some (syntax.Braces at parts)) = Some (count_of parts)
given_length of other = None

abbrev pub sized : CType → Option ℕ → Option CType
sized of None = None
sized of (Some n) = Some (array_of n of)

abbrev pub with_first : CType → Option ℕ → Option syntax.Initialiser → Option (List ℕ) → Option CType
with_first t first initialiser None = None
with_first t None initialiser (Some more) = sized (arrays_of more t) (given_length (arrays_of more t) initialiser)
with_first t (Some n) initialiser (Some more) = sized (arrays_of more t) (Some n)

-- arrays of a type with these lengths, of which the first alone may be left out, where an initialiser gives it
abbrev pub array_type : CType → List (Option ℕ) → Option syntax.Initialiser → Option CType
array_type t [] initialiser = Some t
array_type t (first ∷ more) initialiser = with_first t first initialiser (all_there more)

-- an object of this type, and none of type void
abbrev pub object_type : CType → List (Option ℕ) → Option syntax.Initialiser → Option CType
object_type t ls initialiser = if is_void t then None else array_type t ls initialiser

-- ---- what is declared

-- The type of a declared name: its dimensions, then whether the name is free, then the type, then its size. The rules on names and sizes
-- have the declaration's own line, which differs from the statement's in the head of a `for`.
abbrev pub declared_type : Scope → (depth line own : ℕ) → CType → syntax.Declarator → Judged CType
declared_type scope depth line own base d =
    after (lengths scope line d.dimensions) (λ ls.
    provided (not (is_taken scope depth d.name)) Redeclared own (
    after (expected TypeMismatch line (object_type (starred d.stars base) ls d.initialiser)) (λ t.
    provided (nat_le (size_of t) biggest) TooBig own (Ok t))))

-- ---- what an object begins with

-- A scalar of an object, so many bytes into it, with what it begins with.
pub record Cell (A : Type 0) : Type 0 where
  pub offset : ℕ
  pub t : CType
  pub content : A

-- so many parts, one behind another
abbrev pub repeated : {A : Type 0} → (ℕ → List A) → (step count offset : ℕ) → List A
repeated part step zero offset = []
repeated part step (suc count) offset = part offset ++ repeated part step count (offset + step)

-- with what a scalar is made of the value of an expression, or of a byte of a string, and what it is where nothing is said
module _ {A : Type 0} (scope : Scope) (line : ℕ) (scalar : CType → Operand → Judged A) (byte : CType → ℕ → A) (nought : CType → A) where
  abbrev cell : CType → ℕ → A → List (Cell A)
  cell t offset content = record { offset = offset; t = t; content = content } ∷ []

  -- an object of which nothing is said: all its scalars
  abbrev pub empty : CType → ℕ → List (Cell A)
  empty (Array count bytes of) offset = repeated (empty of) (size_of of) count offset
  empty t offset = cell t offset (nought t)

  -- the bytes of a string
  abbrev spelled : CType → ℕ → List ℕ → List (Cell A)
  spelled t offset [] = []
  spelled t offset (b ∷ bytes) = cell t offset (byte t b) ++ spelled t (offset + size_of t) bytes

  -- a string in an array of chars: its bytes and zeros behind them, of which the last one may be left out
  abbrev pub text : CType → (offset count : ℕ) → List ℕ → Judged (List (Cell A))
  text t offset count bytes =
      provided (if is_character t then nat_le (length bytes) count else false) TypeMismatch line
      (Ok (spelled t offset bytes ++ repeated (empty t) (size_of t) (count - length bytes) (offset + length bytes)))

  -- the rules of an initialiser's expressions alone
  abbrev mutual
    looked_at : syntax.Initialiser → Judged (Unit {0})
    looked_at (syntax.Value e) = after (as_value (operand_of scope line e)) (λ a. Ok tt)
    looked_at (syntax.String at bytes) = Ok tt
    looked_at (syntax.Braces at parts) = all_looked_at parts

    all_looked_at : syntax.Initialisers → Judged (Unit {0})
    all_looked_at syntax.NoParts = Ok tt
    all_looked_at (syntax.MoreParts first others) = after (looked_at first) (λ x. all_looked_at others)

  -- one too many, or one of another form: its expressions first
  abbrev refused : syntax.Initialiser → Judged (List (Cell A))
  refused i = after (looked_at i) (λ x. broken TypeMismatch line)

  abbrev pub from_value : CType → ℕ → Operand → Judged (List (Cell A))
  from_value t offset a = after (scalar t a) (λ x. Ok (cell t offset x))

  -- Initialisers in braces follow the array's nesting (C99 6.7.8); what isn't named is as where nothing is said.
  abbrev mutual
    pub cells_of : CType → (offset : ℕ) → syntax.Initialiser → Judged (List (Cell A))
    cells_of (Array count bytes of) offset (syntax.Value e) = refused (syntax.Value e)
    cells_of (Array count bytes of) offset (syntax.String at s) = text of offset count s
    cells_of (Array count bytes of) offset (syntax.Braces at parts) = parts_of of offset count parts
    cells_of t offset (syntax.Value e) = after (as_value (operand_of scope line e)) (from_value t offset)
    cells_of t offset other = refused other

    pub parts_of : CType → (offset count : ℕ) → syntax.Initialisers → Judged (List (Cell A))
    parts_of of offset count syntax.NoParts = Ok (repeated (empty of) (size_of of) count offset)
    parts_of of offset zero (syntax.MoreParts first others) = refused first
    parts_of of offset (suc count) (syntax.MoreParts first others) =
        after (cells_of of offset first) (λ cells. after (parts_of of (offset + size_of of) count others) (λ more. Ok (cells ++ more)))
