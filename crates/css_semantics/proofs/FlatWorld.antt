-- The flat world replies to a machine as its memory does, with units.
use Rattle.std.proofs.Common.{◌≡◌, ℕ, [], ◌∷◌, ◌++◌, IsTrue, refl, ap, ◌∙◌}
use Rattle.css_semantics.specs.Dialogue.{Action, Enter, Turn, Leave, Load, Store, Out, In, Malloc, Calls, Returns, Start, Finish, Barrier, Wait, WaitFault, DimFault, Fault, End, Tape}
use Rattle.css_semantics.specs.Actions.{Taking, OnEntry, OnTurn, NoUnit, taking_of}
use Rattle.css_semantics.specs.Worlds.{state_after, is_of_machine, Follows}
use Rattle.css_semantics.specs.Memory.{Memory, after}
use Rattle.css_semantics.specs.Units.{Metered, with_units, metered, spending_by, spending}
use Rattle.css_semantics.specs.Flat.{FlatState, memory_reply, reply_in, flat_after, flat}
use Rattle.css_semantics.proofs.Following.{after_both}

-- the memory, with the units that are left
abbrev pub metered_memory : Metered FlatState → Metered Memory
metered_memory s = with_units s.state.memory s.units

spent : (taking : Taking) (s : Metered FlatState) (action : Action) → metered_memory (spending_by taking s.state (flat_after s.state action) s.units) ≡ spending_by taking s.state.memory (after s.state.memory action) s.units
spent OnEntry s action = refl
spent OnTurn s action = refl
spent NoUnit s action = refl

-- what a tape does to the memory and the units isn't up to the input
pub memory_along : (s : Metered FlatState) (tape : Tape) → metered_memory (state_after (spending flat_after) s tape) ≡ state_after (spending after) (metered_memory s) tape
memory_along s [] = refl
memory_along s (i ∷ tape) =
    spent (taking_of i.action) (state_after (spending flat_after) s tape) i.action ∙ ap (λ m. spending after m i.action) (memory_along s tape)

-- nor is a reply to a machine
same_reply : (s : Metered FlatState) (action : Action) → IsTrue (is_of_machine action) → metered reply_in s action ≡ metered memory_reply (metered_memory s) action
same_reply s (Enter size) asked = refl
same_reply s Turn asked = refl
same_reply s (Leave base size) asked = refl
same_reply s (Load address width) asked = refl
same_reply s (Store address bytes) asked = refl
same_reply s (Out bytes) asked = absurd (cc)
same_reply s In asked = absurd (cc)
same_reply s (Malloc size) asked = absurd (cc)
same_reply s (Calls call) asked = absurd (cc)
same_reply s Returns asked = absurd (cc)
same_reply s Start asked = absurd (cc)
same_reply s Finish asked = absurd (cc)
same_reply s Barrier asked = absurd (cc)
same_reply s (Wait address) asked = absurd (cc)
same_reply s WaitFault asked = absurd (cc)
same_reply s DimFault asked = absurd (cc)
same_reply s (Fault kind) asked = absurd (cc)
same_reply s (End result) asked = absurd (cc)

pub flat-follows : (start : FlatState) (units : ℕ) (tape : Tape) → Follows (flat start units) (metered memory_reply) (spending after) tape (state_after (spending after) (with_units start.memory units) tape)
flat-follows start units tape = record {
  replies = λ more i of_machine asked.
      same_reply (state_after (spending flat_after) (with_units start units) (more ++ tape)) i.action asked
      ∙ ap (λ s. metered memory_reply s i.action)
      (memory_along (with_units start units) (more ++ tape) ∙ after_both (spending after) (with_units start.memory units) more tape);
}
