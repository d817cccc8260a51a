-- What the code's effect of an instruction stands for.
use Rattle.std.specs.Prelude.{ℕ, Bool, true, false, List, ◌∷◌, drop}
use Rattle.css_base.specs.declared.int_type.IntType.TheVariants as types
use Rattle.css_semantics.specs.Dialogue as dialogue
use Rattle.css_semantics.specs.Memory.{big_endian_bytes}
use Rattle.css_isa.specs.declared.code.Op.{Op}
use Rattle.css_isa.specs.declared.code.Op.TheVariants as ops
use Rattle.css_isa.specs.declared.operands.Asked.{Asked}
use Rattle.css_isa.specs.declared.operands.Asked.TheVariants as asked
use Rattle.css_isa.specs.declared.operands.Worked.{Worked}
use Rattle.css_isa.specs.declared.operands.Worked.TheVariants as worked
use Rattle.css_isa.specs.Cells.{text_of}
use Rattle.css_isa.specs.Effects.{Effect, Gives, Asks, Tells, Faults, on_two}
use Rattle.css_isa.specs.Roles.{Role, Straight, Turning, Outward, Telling, Awaiting, Changing, Testing, Jumping, Branching, Calling, Submitting, Returning, role_of}
use Rattle.css_isa.specs.Spaces.{bytes_of}

-- the instructions that go on at the next place by their effect
abbrev pub leads_next : Role → Bool
leads_next (Straight needed taken given) = true
leads_next Turning = true
leads_next (Outward taken given) = true
leads_next Telling = true
leads_next Awaiting = true
leads_next (Changing mode) = false
leads_next Testing = false
leads_next (Jumping to) = false
leads_next (Branching to) = false
leads_next (Calling k) = false
leads_next (Submitting k) = false
leads_next Returning = false

abbrev pub goes_on : Op → Bool
goes_on op = leads_next (role_of op)

-- how many cells they need, and how many they take
abbrev pub needed_at : Role → ℕ
needed_at (Straight needed taken given) = needed
needed_at (Outward taken given) = taken
needed_at Awaiting = 1
needed_at Turning = 0
needed_at Telling = 0
needed_at (Changing mode) = 0
needed_at Testing = 0
needed_at (Jumping to) = 0
needed_at (Branching to) = 0
needed_at (Calling k) = 0
needed_at (Submitting k) = 0
needed_at Returning = 0

abbrev pub needed_by : Op → ℕ
needed_by op = needed_at (role_of op)

abbrev pub taken_at : Role → ℕ
taken_at (Straight needed taken given) = taken
taken_at (Outward taken given) = taken
taken_at Awaiting = 1
taken_at Turning = 0
taken_at Telling = 0
taken_at (Changing mode) = 0
taken_at Testing = 0
taken_at (Jumping to) = 0
taken_at (Branching to) = 0
taken_at (Calling k) = 0
taken_at (Submitting k) = 0
taken_at Returning = 0

abbrev pub taken_by : Op → ℕ
taken_by op = taken_at (role_of op)

-- what is asked, over the cells that are left
abbrev pub asked_over : List ℕ → Asked → Effect
asked_over rest (asked.Load address width t) = Asks (dialogue.Load address (bytes_of width)) t rest
asked_over rest (asked.Store address width v) = Tells (dialogue.Store address (big_endian_bytes (bytes_of width) v)) (v ∷ rest)
asked_over rest (asked.Out c a) = Asks (dialogue.Out (text_of c a)) types.ULongLong rest
asked_over rest asked.In = Asks dialogue.In types.ULongLong rest
asked_over rest (asked.Malloc size) = Asks (dialogue.Malloc size) types.ULongLong rest
asked_over rest asked.Turn = Tells dialogue.Turn rest
asked_over rest asked.Start = Tells dialogue.Start rest
asked_over rest asked.Finish = Tells dialogue.Finish rest
asked_over rest asked.Barrier = Tells dialogue.Barrier rest
asked_over rest (asked.Wait address) = Tells (dialogue.Wait address) rest

-- what becomes of the cells
abbrev pub meant : Worked → List ℕ → Effect
meant (worked.Gives taken cell) stack = Gives (cell ∷ drop taken stack)
meant worked.Drops stack = Gives (drop 1 stack)
meant worked.Swaps stack = on_two stack (λ a b rest. Gives (a ∷ b ∷ rest))
meant (worked.Asks taken what) stack = asked_over (drop taken stack) what
meant (worked.Faults kind) stack = Faults kind

-- the instructions that divide
abbrev pub divides : Op → Bool
divides ops.Divs = true
divides ops.Divu = true
divides ops.Rems = true
divides ops.Remu = true
divides op = false
