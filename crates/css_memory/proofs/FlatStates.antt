-- The flat world's state is a memory and an input.
use Rattle.std.proofs.Common.{◌≡◌, true, refl, ap, ◌∙◌}
use Rattle.css_semantics.specs.Dialogue.{Action, Enter, Turn, Leave, Load, Store, Out, In, Malloc, Calls, Returns, Start, Finish, Barrier, Wait, WaitFault, DimFault, Fault, End}
use Rattle.css_semantics.specs.Memory.{Memory, after}
use Rattle.css_semantics.specs.Flat.{FlatState, memory_reply, reply_in, flat_after, input_after}
use Rattle.css_memory.specs.Main.{Main, main_reply, main_after, is_of_memory}

by_memory : (s : FlatState) (action : Action) → is_of_memory action ≡ true → reply_in s action ≡ memory_reply s.memory action
by_memory s (Enter size) is = refl
by_memory s Turn is = absurd (cc)
by_memory s (Leave base size) is = refl
by_memory s (Load address width) is = refl
by_memory s (Store address bytes) is = refl
by_memory s (Out bytes) is = absurd (cc)
by_memory s In is = absurd (cc)
by_memory s (Malloc size) is = refl
by_memory s (Calls call) is = absurd (cc)
by_memory s Returns is = absurd (cc)
by_memory s Start is = absurd (cc)
by_memory s Finish is = absurd (cc)
by_memory s Barrier is = absurd (cc)
by_memory s (Wait address) is = absurd (cc)
by_memory s WaitFault is = absurd (cc)
by_memory s DimFault is = absurd (cc)
by_memory s (Fault kind) is = absurd (cc)
by_memory s (End result) is = absurd (cc)

pub replies : (s : FlatState) (m : Main) (action : Action) → s.memory ≡ m.memory → is_of_memory action ≡ true → reply_in s action ≡ main_reply m action
replies s m action same is = by_memory s action is ∙ ap (λ n. memory_reply n action) same

abbrev state_with : Memory → FlatState → Action → FlatState
state_with n s action = record { memory = n; input = input_after s.input action }

pub learns : (s : FlatState) (m : Main) (action : Action) → s.memory ≡ m.memory → flat_after s action ≡ record { memory = (main_after m action).memory; input = input_after s.input action }
learns s m action same = ap (λ n. state_with (after n action) s action) same
