-- Main's frames and a task's make the whole stack, along a tape.
use Rattle.std.proofs.Common.{◌≤◌, ◌≡◌, ℕ, Bool, true, false, List, [], ◌∷◌, ◌++◌, length, drop, replicate, Option, Some, None, is_none, refl, ap, ◌∙◌, arith, if◌then◌else◌}
use Rattle.std.proofs.lemmas.List.{length-append, length-drop, length-replicate}
use Rattle.css_semantics.specs.Dialogue.{Action, Enter, Leave, Store, Malloc, Calls, Returns, Call, Tape, item}
use Rattle.css_semantics.specs.Memory.{Memory, rounded_up, has_heap, is_live, stack_place, stored, after, memory_after}
use Rattle.css_semantics.specs.Tasks.{Body, body, body_after}
use Rattle.css_semantics.specs.TaskSpaces.{total}
use Rattle.css_semantics.proofs.StackPlaces.{length-overlaid}
use Rattle.css_in_place.proofs.TaskBytes.{total_more}

-- an action that neither enters nor leaves a function, and neither calls a task nor returns from one
abbrev pub IsStill : Action → Type 0
IsStill (Enter n) = ⊥
IsStill (Leave base n) = ⊥
IsStill (Calls call) = ⊥
IsStill Returns = ⊥
IsStill _ = Unit {0}

stored_length : (b : Bool) (m : Memory) (address : ℕ) (bytes : List ℕ) → length (if b then stored m address bytes else m).stack ≡ length m.stack
stored_length true m address bytes = length-overlaid (stack_place m) m.stack address bytes
stored_length false m address bytes = refl

stored_calls : (b : Bool) (m : Memory) (address : ℕ) (bytes : List ℕ) → (if b then stored m address bytes else m).calls ≡ m.calls
stored_calls true m address bytes = refl
stored_calls false m address bytes = refl

grown_length : (b : Bool) (m : Memory) (n : ℕ) → length (if b then record m { heap = m.heap ++ replicate (rounded_up 16 n) 0 } else m).stack ≡ length m.stack
grown_length true m n = refl
grown_length false m n = refl

grown_calls : (b : Bool) (m : Memory) (n : ℕ) → (if b then record m { heap = m.heap ++ replicate (rounded_up 16 n) 0 } else m).calls ≡ m.calls
grown_calls true m n = refl
grown_calls false m n = refl

still_length : (m : Memory) (action : Action) → IsStill action → length (after m action).stack ≡ length m.stack
still_length m (Enter n) still = absurd still
still_length m (Leave base n) still = absurd still
still_length m (Store address bytes) still = stored_length (is_live m address (length bytes)) m address bytes
still_length m (Malloc n) still = grown_length (has_heap m n) m n
still_length m _ still = refl

still_calls : (m : Memory) (action : Action) → IsStill action → (after m action).calls ≡ m.calls
still_calls m (Enter n) still = absurd still
still_calls m (Leave base n) still = absurd still
still_calls m (Store address bytes) still = stored_calls (is_live m address (length bytes)) m address bytes
still_calls m (Malloc n) still = grown_calls (has_heap m n) m n
still_calls m _ still = refl

still_body : (o : Option Body) (action : Action) → IsStill action → is_none (body_after o action) ≡ is_none o
still_body o (Calls call) still = absurd still
still_body o Returns still = absurd still
still_body None _ still = refl
still_body (Some b) _ still = refl

-- frames that main's stack may have
abbrev pub AreWithin : List ℕ → Type 0
AreWithin frames = (total frames ≤ 1048576) × (length frames ≤ 32768)

entry_within : (b : Bool) (mains : List ℕ) (n : ℕ) → (b ≡ true → AreWithin (n ∷ mains)) → AreWithin mains → AreWithin (if b then n ∷ mains else mains)
entry_within true mains n fits within = fits refl
entry_within false mains n fits within = within

one_fewer : (mains : List ℕ) → AreWithin mains → AreWithin (drop 1 mains)
one_fewer [] within = within
one_fewer (n ∷ mains) within = (omega (arith, within.0, total_more n mains), omega (arith, within.1))

leaving_within : (b : Bool) (mains : List ℕ) → AreWithin mains → AreWithin (if b then drop 1 mains else mains)
leaving_within true mains within = one_fewer mains within
leaving_within false mains within = within

entered_body : (o : Option Body) (n : ℕ) → is_none (body_after o (Enter n)) ≡ is_none o
entered_body None n = refl
entered_body (Some b) n = refl

left_body : (o : Option Body) (base n : ℕ) → is_none (body_after o (Leave base n)) ≡ is_none o
left_body None base n = refl
left_body (Some b) base n = refl

module _ (start : Memory) where
  abbrev pub flat_after : Tape → Memory
  flat_after t = memory_after start t

  -- The stack is made of these frames; main runs, or a task; and those are main's, within its limit.
  pub record Stands (is_main : Bool) (frames mains : List ℕ) (t : Tape) : Type 0 where
    pub deep : length (flat_after t).stack ≡ total frames
    pub opened : (flat_after t).calls ≡ length frames
    pub who : is_none (body t) ≡ is_main
    pub within : AreWithin mains

  pub at_first : start.stack ≡ [] → start.calls ≡ 0 → Stands true [] [] []
  at_first none zero = record { deep = ap length none; opened = zero; who = refl; within = (omega arith, omega arith) }

  module _ (t : Tape) (line : ℕ) where
    pub kept_by : (is_main : Bool) (frames mains : List ℕ) (action : Action) → IsStill action → Stands is_main frames mains t → Stands is_main frames mains (item action line ∷ t)
    kept_by is_main frames mains action still s = record {
      deep = still_length (flat_after t) action still ∙ s.deep;
      opened = still_calls (flat_after t) action still ∙ s.opened;
      who = still_body (body t) action still ∙ s.who;
      within = s.within;
    }

    pub after_entry : (is_main : Bool) (frames mains : List ℕ) (n : ℕ) → (is_main ≡ true → AreWithin (n ∷ mains)) → Stands is_main frames mains t → Stands is_main (n ∷ frames) (if is_main then n ∷ mains else mains) (item (Enter n) line ∷ t)
    after_entry is_main frames mains n fits s = record {
      deep = omega (arith, length-append (replicate n 0) (flat_after t).stack, length-replicate {A = ℕ} n 0, s.deep, total_more n frames);
      opened = omega (arith, s.opened);
      who = entered_body (body t) n ∙ s.who;
      within = entry_within is_main mains n fits s.within;
    }

    pub after_leaving : (is_main : Bool) (frames mains : List ℕ) (base n : ℕ) → Stands is_main (n ∷ frames) mains t → Stands is_main frames (if is_main then drop 1 mains else mains) (item (Leave base n) line ∷ t)
    after_leaving is_main frames mains base n s = record {
      deep = omega (arith, length-drop n (flat_after t).stack, s.deep, total_more n frames);
      opened = omega (arith, s.opened);
      who = left_body (body t) base n ∙ s.who;
      within = leaving_within is_main mains s.within;
    }

    pub after_call : (frames mains : List ℕ) (call : Call) → Stands true frames mains t → Stands false frames mains (item (Calls call) line ∷ t)
    after_call frames mains call s = record {
      deep = s.deep;
      opened = s.opened;
      who = refl;
      within = s.within;
    }

    pub after_return : (frames mains : List ℕ) → Stands false frames mains t → Stands true frames mains (item Returns line ∷ t)
    after_return frames mains s = record {
      deep = s.deep;
      opened = s.opened;
      who = refl;
      within = s.within;
    }
