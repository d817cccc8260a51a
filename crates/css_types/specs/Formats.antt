-- The library's functions: formats of `printf`, and calls.
use Rattle.std.specs.Prelude.{ℕ, Bool, ◌==◌, ◌&&◌, List, [], ◌∷◌, Option, Some, None, Ok, if◌then◌else◌}
use Rattle.css_base.specs.declared.int_type.IntType.TheVariants.{Int, UInt}
use Rattle.css_base.specs.declared.static_fault.StaticName.TheVariants.{TypeMismatch, BadFormat}
use Rattle.css_num.specs.Types.{bits_of}
use Rattle.css_num.specs.Usual.{promoted}
use Rattle.css_core.specs.Core.{Conversion, Character, Signed, Unsigned, Hexadecimal, Wide, Piece, Literal, Shown, Expression, Convert, Input, Put, Print, Allocate, Expressions, Empty, More}
use Rattle.css_core.specs.Elaboration as core
use Rattle.css_core.specs.Typed.{bits_shown}
use Rattle.css_types.specs.Types.{CType, Void, Integer, Pointer, core_type, is_integer}
use Rattle.css_types.specs.Judged.{Judged, broken, after, provided}
use Rattle.css_types.specs.Scopes.{Library, Getchar, Putchar, Puts, Malloc, Free, Printf}
use Rattle.css_types.specs.Operands.{Operand, value, converted_to}

-- ---- formats

-- a piece before others, where these are pieces
abbrev pub and_then : Piece → Option (List Piece) → Option (List Piece)
and_then piece None = None
and_then piece (Some pieces) = Some (piece ∷ pieces)

-- a byte of a format's text
abbrev pub percent : ℕ
percent = 37

-- The pieces of a format: behind a `%` stands one of `%`, `d`, `u`, `x`, `c` and `lld`, and else there are none.
abbrev mutual
  pub pieces_of : List ℕ → Option (List Piece)
  pieces_of [] = Some []
  pieces_of (byte ∷ bytes) = if byte == percent then converted_from bytes else and_then (Literal byte) (pieces_of bytes)

  pub converted_from : List ℕ → Option (List Piece)
  converted_from [] = None
  converted_from (byte ∷ bytes) =
      if byte == percent then and_then (Literal percent) (pieces_of bytes)
      else (if byte == 100 then and_then (Shown Signed) (pieces_of bytes)
      else (if byte == 117 then and_then (Shown Unsigned) (pieces_of bytes)
      else (if byte == 120 then and_then (Shown Hexadecimal) (pieces_of bytes)
      else (if byte == 99 then and_then (Shown Character) (pieces_of bytes)
      else (if byte == 108 then wide_from bytes else None)))))

  pub wide_from : List ℕ → Option (List Piece)
  wide_from (second ∷ third ∷ bytes) = if (second == 108) && (third == 100) then and_then (Shown Wide) (pieces_of bytes) else None
  wide_from bytes = None

-- an argument is an integer that has, once it is promoted, the bits that its conversion writes
abbrev pub is_shown_as : Conversion → Operand → Bool
is_shown_as conversion a = is_integer a.t && (bits_of (promoted (core_type a.t)) == bits_shown conversion)

-- the arguments in order, each promoted; one too many or too few breaks the rule on formats too
abbrev pub shown : (line : ℕ) → List Piece → List Operand → Judged Expressions
shown line [] [] = Ok Empty
shown line (Literal byte ∷ pieces) arguments = shown line pieces arguments
shown line (Shown conversion ∷ pieces) (a ∷ arguments) =
    provided (is_shown_as conversion a) BadFormat line
    (after (shown line pieces arguments) (λ others. Ok (More (Convert (promoted (core_type a.t)) a.e) others)))
shown line pieces arguments = broken BadFormat line

abbrev pub written : (line : ℕ) → Option (List Piece) → List Operand → Judged Operand
written line (Some pieces) arguments = after (shown line pieces arguments) (λ es. Ok (value (Integer Int) (Print pieces es)))
written line None arguments = broken BadFormat line

-- ---- calls of the library

-- one argument that is converted to a type
abbrev pub with_one : (line : ℕ) → CType → List Operand → (Expression → Operand) → Judged Operand
with_one line t (a ∷ []) made = after (converted_to line t a) (λ e. Ok (made e))
with_one line t arguments made = broken TypeMismatch line

-- A call with these arguments, before which a literal may stand, which is no expression.
abbrev pub library_call : (line : ℕ) → Library → (literal : Option (List ℕ)) → List Operand → Judged Operand
library_call line Puts (Some bytes) [] = Ok (value (Integer Int) (core.written_line bytes).e)
library_call line Printf (Some bytes) arguments = written line (pieces_of bytes) arguments
library_call line Getchar None [] = Ok (value (Integer Int) Input)
library_call line Putchar None arguments = with_one line (Integer Int) arguments (λ e. value (Integer Int) (Put e))
library_call line Malloc None arguments = with_one line (Integer UInt) arguments (λ e. value (Pointer Void) (Allocate e))
library_call line Free None arguments = with_one line (Pointer Void) arguments (λ e. value Void e)
library_call line f literal arguments = broken TypeMismatch line
