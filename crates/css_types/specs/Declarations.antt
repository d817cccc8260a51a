-- THE elaboration of declarations: of globals, and of objects in blocks.
use Rattle.std.specs.Prelude.{ℕ, ◌+◌, ℤ, pos, min, Bool, nat_le, List, [], ◌∷◌, ◌++◌, Option, Some, None, Ok}
use Rattle.css_base.specs.declared.static_fault.StaticName.TheVariants.{TypeMismatch, TooBig}
use Rattle.css_num.specs.Conversion.{converted, representation}
use Rattle.css_semantics.specs.declared.TheConstants.{STACK_LIMIT}
use Rattle.css_semantics.specs.Memory.{big_endian_bytes, rounded_up}
use Rattle.css_tree.specs.Syntax as syntax
use Rattle.css_core.specs.Core as core
use Rattle.css_types.specs.Types.{CType, Integer, Pointer, size_of, core_type, named_by}
use Rattle.css_types.specs.Judged.{Judged, broken, after, provided, expected}
use Rattle.css_types.specs.Constants.{Constant, Known}
use Rattle.css_types.specs.Scopes.{Scope, Where, InFrame, AtAddress, Object}
use Rattle.css_types.specs.Operands.{Operand, is_null, converted_to}
use Rattle.css_types.specs.Objects.{declared_type, Cell, cells_of}

abbrev pub bound : Scope → (depth : ℕ) → List ℕ → CType → Where → Scope
bound scope depth name t at = record { name = name; depth = depth; meaning = Object t at } ∷ scope

abbrev pub joined : core.Statements → core.Statements → core.Statements
joined core.Nothing others = others
joined (core.Then s more) others = core.Then s (joined more others)

-- ---- objects in blocks

-- the most bytes of a frame; where it has more already, the place of a further object doesn't matter
abbrev pub biggest_frame : ℕ
biggest_frame = 1048576

abbrev pub place_in : (frame : ℕ) → ℕ
place_in frame = min frame biggest_frame

-- a constant in the type of a scalar
abbrev pub constant_of : CType → ℕ → core.Expression
constant_of t n = core.Convert (core_type t) (core.Number (pos n))

abbrev pub stored : (line place : ℕ) → List (Cell core.Expression) → core.Statements
stored line place [] = core.Nothing
stored line place (c ∷ cells) = core.Then (core.Eval line (core.Assign (core_type c.t) (core.Local (place + c.offset)) c.content)) (stored line place cells)

-- each scalar in order, zeros too; without an initialiser nothing
abbrev pub begun : Scope → (line place : ℕ) → CType → Option syntax.Initialiser → Judged core.Statements
begun scope line place t None = Ok core.Nothing
begun scope line place t (Some i) =
    after (cells_of scope line (converted_to line) constant_of (λ t. constant_of t 0) t 0 i) (λ cells. Ok (stored line place cells))

-- what stands behind a part of a block: what is seen, the next free place of the frame, and what is to be done
pub record Behind : Type 0 where
  pub scope : Scope
  pub frame : ℕ
  pub body : core.Statements

-- One name. Its initialiser knows it already.
abbrev pub declared : Scope → (depth line own frame : ℕ) → CType → syntax.Declarator → Judged Behind
declared scope depth line own frame base d =
    after (declared_type scope depth line own base d) (λ t.
    let inner = bound scope depth d.name t (InFrame (place_in frame)) in
    after (begun inner line (place_in frame) t d.initialiser) (λ body.
    Ok (record { scope = inner; frame = frame + rounded_up 8 (size_of t); body = body })))

abbrev pub all_declared : Scope → (depth line own frame : ℕ) → CType → List syntax.Declarator → Judged Behind
all_declared scope depth line own frame base [] = Ok (record { scope = scope; frame = frame; body = core.Nothing })
all_declared scope depth line own frame base (d ∷ ds) =
    after (declared scope depth line own frame base d) (λ one. after (all_declared one.scope depth line own one.frame base ds) (λ more.
    Ok (record more { body = joined one.body more.body })))

-- in a statement of a line
abbrev pub declaration : Scope → (depth line frame : ℕ) → syntax.Declaration → Judged Behind
declaration scope depth line frame d =
    after (expected TypeMismatch line (named_by d.specifiers)) (λ base. all_declared scope depth line d.line frame base d.declarators)

-- ---- globals

-- the value of a global's scalar: a constant, of a pointer a null constant
abbrev pub whole_constant : (line : ℕ) → CType → CType → Constant → Judged (Option ℤ)
whole_constant line (Integer t) (Integer s) (Known v) = Ok (Some (converted t v))
whole_constant line (Pointer to) s k = provided (is_null s k) TypeMismatch line (Ok (Some (pos 0)))
whole_constant line t s k = broken TypeMismatch line

abbrev pub first_value : (line : ℕ) → CType → Operand → Judged (Option ℤ)
first_value line t a = whole_constant line t a.t a.constant

abbrev pub bytes_of : CType → ℤ → List ℕ
bytes_of t v = big_endian_bytes (size_of t) (representation (core_type t) v)

-- the first bytes of what an initialiser names; the rest is zero
abbrev pub datum_at : (address : ℕ) → CType → Option ℤ → List core.Datum
datum_at address t None = []
datum_at address t (Some v) = record { address = address; bytes = bytes_of t v } ∷ []

abbrev pub datums_at : (address : ℕ) → List (Cell (Option ℤ)) → List core.Datum
datums_at address [] = []
datums_at address (c ∷ cells) = datum_at (address + c.offset) c.t c.content ++ datums_at address cells

abbrev pub begun_at : Scope → (line address : ℕ) → CType → Option syntax.Initialiser → Judged (List core.Datum)
begun_at scope line address t None = Ok []
begun_at scope line address t (Some i) =
    after (cells_of scope line (first_value line) (λ t n. Some (converted (core_type t) (pos n))) (λ t. None) t 0 i) (λ cells. Ok (datums_at address cells))

-- the globals so far: what is seen, where they end, and their first bytes
pub record Globals : Type 0 where
  pub scope : Scope
  pub end : ℕ
  pub datums : List core.Datum

-- the heap starts behind the globals, and the stack's room is above it
abbrev pub has_room : (memory end : ℕ) → Bool
has_room memory end = nat_le (rounded_up 16 end + STACK_LIMIT) memory

abbrev pub global : (memory line : ℕ) → Globals → CType → syntax.Declarator → Judged Globals
global memory line g base d =
    after (declared_type g.scope 0 line line base d) (λ t.
    let address = rounded_up 8 g.end in
    let inner = bound g.scope 0 d.name t (AtAddress address) in
    provided (has_room memory (address + size_of t)) TooBig line (
    after (begun_at inner line address t d.initialiser) (λ datums.
    Ok (record { scope = inner; end = address + size_of t; datums = g.datums ++ datums }))))

abbrev pub globals : (memory line : ℕ) → Globals → CType → List syntax.Declarator → Judged Globals
globals memory line g base [] = Ok g
globals memory line g base (d ∷ ds) = after (global memory line g base d) (λ g. globals memory line g base ds)

abbrev pub global_declaration : (memory : ℕ) → Globals → syntax.Declaration → Judged Globals
global_declaration memory g d = after (expected TypeMismatch d.line (named_by d.specifiers)) (λ base. globals memory d.line g base d.declarators)
