-- Casts to types that aren't void.
use Rattle.std.proofs.Common.{◌≡◌, false, refl}
use Rattle.css_core.specs.Core.{Convert}
use Rattle.css_types.specs.Types.{CType, Void, Integer, Pointer, Array, core_type, is_void}
use Rattle.css_types.specs.Operands.{Operand, IsValue, integer_constant, cast_constant, cast_to}

abbrev pub converted : CType → Operand → Operand
converted t a = record { t = t; form = IsValue; constant = cast_constant t (integer_constant a); e = Convert (core_type t) a.e }

pub cast_to_object : (t : CType) (a : Operand) → is_void t ≡ false → cast_to t a ≡ converted t a
cast_to_object Void a other = absurd (cc)
cast_to_object (Integer s) a other = refl
cast_to_object (Pointer to) a other = refl
cast_to_object (Array count bytes of) a other = refl
