-- Effects have the heights of their roles: the one walk over all instructions.
use Rattle.std.proofs.Common.{◌≡◌, ℕ, zero, suc, ◌+◌, ◌<◌, ◌≤◌, Bool, true, false, List, [], ◌∷◌, length, Option, Some, None, slice_get, refl, arith, IsTrue, if◌then◌else◌, nat_eq, bit_and, bit_or, bit_xor}
use Rattle.css_base.specs.declared.int_type.IntType.{IntType}
use Rattle.css_base.specs.declared.int_type.IntType.TheVariants as types
use Rattle.css_isa.specs.declared.code.Op.{Op}
use Rattle.css_isa.specs.declared.code.Op.TheVariants as ops
use Rattle.css_isa.specs.declared.code.Mark.TheVariants as marks
use Rattle.css_isa.specs.declared.space.Width.{Width}
use Rattle.css_isa.specs.declared.space.Width.TheVariants as widths
use Rattle.css_isa.specs.Cells.{sum_of, difference_of, product_of, negative_of, complement_of, quotient_of, remainder_of, unsigned_quotient_of, unsigned_remainder_of, shifted_left, shifted_right, unsigned_shifted_right, are_equal, differ, is_below, is_unsigned_below, narrowed}
use Rattle.css_isa.specs.Effects.{Effect, effect, one, two, division, loading, storing, on_cell, Gives}
use Rattle.css_isa.specs.Roles.{Role, Straight, role_of}
use Rattle.css_isa.specs.Worked.{goes_on, needed_by}
use Rattle.css_isa.specs.Fitting.{IsFitting}

one_fits : (g : ℕ → ℕ) (stack : List ℕ) → 1 ≤ length stack → IsFitting (Straight 1 1 1) (length stack) (one g stack)
one_fits g [] h = absurd (omega arith)
one_fits g (a ∷ rest) h = (omega arith, tt)

two_fits : (g : ℕ → ℕ → ℕ) (stack : List ℕ) → 2 ≤ length stack → IsFitting (Straight 2 2 1) (length stack) (two g stack)
two_fits g [] h = absurd (omega arith)
two_fits g (b ∷ []) h = absurd (omega arith)
two_fits g (b ∷ a ∷ rest) h = (omega arith, tt)

either_fits : (b : Bool) (role : Role) (height : ℕ) (e f : Effect) → IsFitting role height e → IsFitting role height f → IsFitting role height (if b then e else f)
either_fits true role height e f h k = h
either_fits false role height e f h k = k

division_fits : (g : ℕ → ℕ → ℕ) (stack : List ℕ) → 2 ≤ length stack → IsFitting (Straight 2 2 1) (length stack) (division g stack)
division_fits g [] h = absurd (omega arith)
division_fits g (b ∷ []) h = absurd (omega arith)
division_fits g (b ∷ a ∷ rest) h = either_fits (nat_eq b 0) (Straight 2 2 1) (length (b ∷ a ∷ rest)) _ (Gives (g a b ∷ rest)) tt (omega arith, tt)

loading_fits : (width : Width) (t : IntType) (stack : List ℕ) → 1 ≤ length stack → IsFitting (Straight 1 1 1) (length stack) (loading width t stack)
loading_fits width t [] h = absurd (omega arith)
loading_fits width t (a ∷ rest) h = (omega arith, tt)

storing_fits : (width : Width) (stack : List ℕ) → 2 ≤ length stack → IsFitting (Straight 2 2 1) (length stack) (storing width stack)
storing_fits width [] h = absurd (omega arith)
storing_fits width (v ∷ []) h = absurd (omega arith)
storing_fits width (v ∷ a ∷ rest) h = (omega arith, tt)

copy_fits : (n : ℕ) (stack : List ℕ) (o : Option ℕ) → slice_get stack n ≡ o → n < length stack → IsFitting (Straight (n + 1) 0 1) (length stack) (on_cell o (λ a. Gives (a ∷ stack)))
copy_fits n stack (Some a) e h = (omega arith, tt)
copy_fits n stack None e h = absurd (missing n stack h e)
  where
    missing : (n : ℕ) (stack : List ℕ) → n < length stack → slice_get stack n ≡ None → ⊥
    missing n [] h e = absurd (omega arith)
    missing zero (a ∷ stack) h e = absurd cc
    missing (suc n) (a ∷ stack) h e = missing n stack (omega arith) e

-- what an instruction does that finds its cells
pub effect_fits : (base : ℕ) (op : Op) (stack : List ℕ) → IsTrue (goes_on op) → needed_by op ≤ length stack → IsFitting (role_of op) (length stack) (effect base op stack)
effect_fits base (ops.Push v) stack g h = (omega arith, tt)
effect_fits base ops.Drop [] g h = absurd (omega arith)
effect_fits base ops.Drop (a ∷ rest) g h = (omega arith, tt)
effect_fits base (ops.Dup n) stack g h = copy_fits n stack (slice_get stack n) refl (omega arith)
effect_fits base ops.Swap [] g h = absurd (omega arith)
effect_fits base ops.Swap (b ∷ []) g h = absurd (omega arith)
effect_fits base ops.Swap (b ∷ a ∷ rest) g h = (omega arith, tt)
effect_fits base (ops.Frame k) stack g h = (omega arith, tt)
effect_fits base ops.Load8u stack g h = loading_fits widths.W8 types.UChar stack h
effect_fits base ops.Load8s stack g h = loading_fits widths.W8 types.SChar stack h
effect_fits base ops.Load16u stack g h = loading_fits widths.W16 types.UShort stack h
effect_fits base ops.Load16s stack g h = loading_fits widths.W16 types.Short stack h
effect_fits base ops.Load32u stack g h = loading_fits widths.W32 types.UInt stack h
effect_fits base ops.Load32s stack g h = loading_fits widths.W32 types.Int stack h
effect_fits base ops.Load64 stack g h = loading_fits widths.W64 types.ULongLong stack h
effect_fits base ops.Store8 stack g h = storing_fits widths.W8 stack h
effect_fits base ops.Store16 stack g h = storing_fits widths.W16 stack h
effect_fits base ops.Store32 stack g h = storing_fits widths.W32 stack h
effect_fits base ops.Store64 stack g h = storing_fits widths.W64 stack h
effect_fits base ops.Add stack g h = two_fits sum_of stack h
effect_fits base ops.Sub stack g h = two_fits difference_of stack h
effect_fits base ops.Mul stack g h = two_fits product_of stack h
effect_fits base ops.And stack g h = two_fits bit_and stack h
effect_fits base ops.Or stack g h = two_fits bit_or stack h
effect_fits base ops.Xor stack g h = two_fits bit_xor stack h
effect_fits base ops.Neg stack g h = one_fits negative_of stack h
effect_fits base ops.Not stack g h = one_fits complement_of stack h
effect_fits base ops.Divs stack g h = division_fits quotient_of stack h
effect_fits base ops.Divu stack g h = division_fits unsigned_quotient_of stack h
effect_fits base ops.Rems stack g h = division_fits remainder_of stack h
effect_fits base ops.Remu stack g h = division_fits unsigned_remainder_of stack h
effect_fits base (ops.Shl n) stack g h = two_fits (shifted_left n) stack h
effect_fits base (ops.Shrs n) stack g h = two_fits (shifted_right n) stack h
effect_fits base (ops.Shru n) stack g h = two_fits (unsigned_shifted_right n) stack h
effect_fits base ops.Eq stack g h = two_fits are_equal stack h
effect_fits base ops.Ne stack g h = two_fits differ stack h
effect_fits base ops.Lts stack g h = two_fits is_below stack h
effect_fits base ops.Ltu stack g h = two_fits is_unsigned_below stack h
effect_fits base (ops.Conv t) stack g h = one_fits (narrowed t) stack h
effect_fits base (ops.Jump to) stack g h = absurd cc
effect_fits base (ops.Jumpz to) stack g h = absurd cc
effect_fits base (ops.Call k) stack g h = absurd cc
effect_fits base ops.Ret stack g h = absurd cc
effect_fits base ops.Turn stack g h = (refl, tt)
effect_fits base (ops.Submit k) stack g h = absurd cc
effect_fits base (ops.Mark marks.Start) stack g h = (refl, tt)
effect_fits base (ops.Mark marks.Finish) stack g h = (refl, tt)
effect_fits base (ops.Mark marks.Barrier) stack g h = (refl, tt)
effect_fits base (ops.Mark marks.Wait) [] g h = absurd (omega arith)
effect_fits base (ops.Mark marks.Wait) (a ∷ rest) g h = (omega arith, tt)
effect_fits base (ops.Mark marks.InWait) stack g h = absurd cc
effect_fits base (ops.Mark marks.InDimension) stack g h = absurd cc
effect_fits base (ops.Mark marks.Outside) stack g h = absurd cc
effect_fits base (ops.Mark marks.Started) stack g h = absurd cc
effect_fits base (ops.Out c) [] g h = absurd (omega arith)
effect_fits base (ops.Out c) (a ∷ rest) g h = (omega arith, tt)
effect_fits base ops.In stack g h = (omega arith, tt)
effect_fits base ops.Malloc [] g h = absurd (omega arith)
effect_fits base ops.Malloc (a ∷ rest) g h = (omega arith, tt)
