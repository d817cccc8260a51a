-- Main's memory as contracts see it.
use Rattle.std.specs.Prelude.{ℕ, List, Bool, true, false}
use Rattle.css_semantics.specs.Dialogue.{Action, Reply}
use Rattle.css_semantics.specs.Actions.{Access, Enters, Leaves, Loads, Stores, Allots, NoAccess, access_of}
use Rattle.css_semantics.specs.Memory.{Memory, stack_place, after}
use Rattle.css_semantics.specs.Flat.{memory_reply}
use Rattle.css_isa.specs.Spaces.{IsStackPlace}
use Rattle.css_semantics.proofs.StackPlaces as places

-- main's flat memory, and for each of its pages how many of the page's bytes are those of marked windows
pub record Main : Type 0 where
  pub memory : Memory
  pub pages : List ℕ

-- it replies as the flat memory does
abbrev pub main_reply : Main → Action → Reply
main_reply s action = memory_reply s.memory action

-- and becomes what that becomes
abbrev pub main_after : Main → Action → Main
main_after s action = record s { memory = after s.memory action }

abbrev pub main_place : Main → ℕ
main_place s = stack_place s.memory

-- entries and leavings move the stack place by a frame's size, and nothing else moves it
pub place_moves : IsStackPlace main_reply main_after main_place
place_moves = record {
  enters = λ s. places.enters s.memory;
  lowers = λ s. places.lowers s.memory;
  leaves = λ s. places.leaves s.memory;
  loads = λ s. places.loads s.memory;
  stores = λ s. places.stores s.memory;
}

-- an access to a memory, the heap among it
abbrev pub is_access : Access → Bool
is_access (Enters size) = true
is_access (Leaves base size) = true
is_access (Loads address width) = true
is_access (Stores address bytes) = true
is_access (Allots size) = true
is_access NoAccess = false

abbrev pub is_of_memory : Action → Bool
is_of_memory action = is_access (access_of action)
