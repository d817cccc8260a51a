-- At a task's call, the body in the flat memory has the dialogue of the task by itself, and leaves the outs in the windows.
use Rattle.std.proofs.Common.{◌≡◌, ℕ, ◌+◌, ◌-◌, ◌≤◌, Bool, true, false, not, ◌&&◌, List, [], ◌++◌, length, slice_index, Option, Some, None, refl, sym, ap, subst, ◌∙◌, arith, if◌then◌else◌}
use Rattle.std.proofs.lemmas.List.{nil_from_length}
use Rattle.css_base.specs.declared.limits.Limits.{Limits}
use Rattle.css_semantics.specs.Dialogue.{Returns, Says, Call, Outcome, Goes, Stops, Tape, World, item}
use Rattle.css_semantics.specs.Worlds.{state_after}
use Rattle.css_semantics.specs.Memory.{Memory, heap_top, is_between, is_live_byte, byte_at, memory_after}
use Rattle.css_semantics.specs.Flat.{FlatState, IsLaidOut}
use Rattle.css_semantics.proofs.LaidOut.{laid_along}
use Rattle.css_semantics.specs.Tasks.{Use, entry_of, body}
use Rattle.css_semantics.specs.Rules.{is_unwritten}
use Rattle.css_semantics.specs.Verdict.{judged_in}
use Rattle.css_semantics.specs.Alone.{Solitude, task_place, task_byte, byte_of_regions, outs, alone_after, at_entry, alone_world}
use Rattle.css_semantics.specs.TaskSpaces.{total}
use Rattle.css_vm.specs.Code.{Code, call_of}
use Rattle.css_vm.specs.Machine.{alone}
use Rattle.css_vm.specs.Soundness.{Spot, Itself, IsSound}
use Rattle.css_in_place.specs.InPlace.{alone_from, IsBodyTape, IsAtCall, inputs_at, written_back, SpeaksAlike, LeavesAlike, RunsAlike}
use Rattle.css_in_place.proofs.Alike.{open_frames, AreAlike, IsGood, Same, IsOver, body_same}
use Rattle.css_in_place.proofs.Given.{written_is_windowed, is_written, is_windowed, IsWindowed, IsCalled}
use Rattle.css_in_place.proofs.Shapes.{shape_self}
use Rattle.css_in_place.proofs.Fronts.{in_front, clear_around}
use Rattle.css_in_place.proofs.Worlds.{Holds, known_at_return, worlds_alike}
use Rattle.css_in_place.proofs.Entry.{given_live}
use Rattle.css_in_place.proofs.Inputs.{is_unread, given_have, given_byte}
use Rattle.css_in_place.proofs.Written.{written_is}

-- where nothing is stored yet
none_stored : (b : Bool) → (b && not false) ≡ false → b ≡ false
none_stored true h = absurd (cc)
none_stored false h = refl

module _ (code : Code) (limits : Limits) (start : FlatState) (tape : Tape) (k : ℕ) (arguments : List ℕ) (line : ℕ) (uses : List Use) (place : ℕ) (at : IsAtCall code limits start tape k arguments line uses place) where
  abbrev m : Memory
  m = memory_after start.memory tape

  abbrev call : Call
  call = call_of k at.routine at.shape arguments at.dimensions place

  laid : IsLaidOut limits.memory m
  laid = laid_along limits.memory start.memory tape at.starts.laid_out

  within : (length m.stack ≤ 1048576) × (m.calls ≤ 32768)
  within = at.within

  pub above : place + length m.stack ≡ m.end
  above = omega (arith, at.place_is, laid.end, within.0, at.in_range.memory.0)

  -- main's memory at the call
  pub called : IsCalled uses place m
  called = record {
    limit = laid.limit;
    stack = above;
    bytes = within.0;
    calls = within.1;
    room = omega (arith, laid.room, laid.end);
    live = λ a held.
        ap (λ t. is_live_byte (memory_after start.memory t) a) at.call
        ∙ given_live start.memory limits at.before call at.allowed at.by_main a (subst (λ us. IsWindowed us a) at.uses_are held);
  }

  -- what lies below the stack leaves the task room
  pub room_below : heap_top m + 16384 ≤ place
  room_below = omega (arith, called.room, above, within.0)

  first_holds : Holds limits start uses (inputs_at m uses) place m tape []
  first_holds = record {
    body_is = ap body at.call ∙ ap (λ us. Some (entry_of us place)) (sym at.uses_are);
    uses_are = refl;
    place_is = refl;
    frames_are = refl;
    machine = tt;
    step = record {
      around = m;
      is = ap (λ n. let f : Memory = record m { calls = n } in f) (omega arith);
      shape = shape_self m;
      place_is = refl;
      deep = refl;
      bytes = omega arith;
      has = λ a held. given_have m a uses held;
      same = λ a held known. sym (given_byte m a uses held (none_stored (is_unread uses a) known));
      others = λ a live out. refl;
    };
  }

  module _ (plans : List (List Spot)) (sound : IsSound code plans) where
    abbrev world : World
    world = alone_world limits uses (inputs_at m uses) place

    abbrev Stays : Tape → Type 0
    Stays = Holds limits start uses (inputs_at m uses) place m tape

    abbrev AreWorldsAlike : Type 0
    AreWorldsAlike = AreAlike (judged_in limits start) world tape place Stays

    alike : AreWorldsAlike
    alike = worlds_alike limits start uses (inputs_at m uses) place m tape called

    abbrev Over : Option ℕ → Tape → Type 0
    Over = IsOver code (judged_in limits start) world tape place k Stays alike plans sound

    runs : (n : ℕ) → Same tape Over (alone_from (judged_in limits start) code k arguments line n tape) (alone world code k arguments line n)
    runs n = body_same code (judged_in limits start) world tape place k Stays alike plans sound arguments line n first_holds (Itself at.routine at.shape at.function at.task)

    speaks : SpeaksAlike code limits start tape k arguments line uses place
    speaks n = (runs n).is

    -- ---- what is left

    module _ (t : Tape) (holds : Stays t) (none : open_frames t ≡ []) (line' value : ℕ) (says : world t (item Returns line') ≡ Says value) where
      abbrev s : Solitude
      s = state_after alone_after (at_entry uses (inputs_at m uses) place) t

      abbrev around : Memory
      around = holds.step.around

      no_frame : s.body.frames ≡ []
      no_frame = holds.frames_are ∙ none

      empty : s.memory.stack ≡ []
      empty = nil_from_length s.memory.stack (holds.step.deep ∙ ap total no_frame)

      around_is : memory_after start.memory (t ++ tape) ≡ around
      around_is =
          holds.step.is
          ∙ ap (λ frames. in_front s.memory.stack (length frames) around) no_frame
          ∙ ap (λ stack. in_front stack 0 around) empty
          ∙ ap (λ n. let f : Memory = record around { calls = n } in f) (omega arith)

      known : (a : ℕ) → IsWindowed uses a → is_unwritten s.body a ≡ false
      known = known_at_return limits start uses (inputs_at m uses) place m tape called t holds line' value says

      -- a byte of main's isn't one of the task's stack
      task_byte_is : (a : ℕ) → is_live_byte m a ≡ true → task_byte s.memory a ≡ byte_of_regions s.memory.regions a
      task_byte_is a live =
          let out : is_between (place - length s.memory.stack) place a ≡ false = clear_around s.memory.stack 0 m place above room_below (omega (arith, ap length empty)) a live in
          ap (λ b. if b then slice_index s.memory.stack (a - task_place s.memory) else byte_of_regions s.memory.regions a)
          (ap (λ p. is_between (p - length s.memory.stack) p a) (holds.step.place_is ∙ holds.place_is) ∙ out)

      left_byte : (a : ℕ) → is_live_byte m a ≡ true → (h : Bool) → is_written uses a ≡ h → byte_at around a ≡ (if h then task_byte s.memory a else byte_at m a)
      left_byte a live true has =
          holds.step.same a (ap (λ us. is_windowed us a) holds.uses_are ∙ written_is_windowed uses a has) (known a (written_is_windowed uses a has))
          ∙ sym (task_byte_is a live)
      left_byte a live false out = holds.step.others a live (ap (λ us. is_written us a) holds.uses_are ∙ out)

      -- behind the body the windows have the outs, and nothing else has changed
      left_is : memory_after start.memory (t ++ tape) ≡ written_back m uses (outs s.memory uses)
      left_is =
          around_is
          ∙ sym (written_is s.memory uses m around (omega (arith, room_below, above)) (omega (arith, above)) holds.step.shape (λ a live. left_byte a live (is_written uses a) refl))

    body_tape : (o : Outcome (Option ℕ)) → IsGood Over o → IsBodyTape o
    body_tape (Goes (Some cell) t) good = (good.0, good.1, good.3, good.4.machine)
    body_tape (Goes None t) good = tt
    body_tape (Stops why t) good = good

    leaves : LeavesAlike code limits start tape k arguments line uses place
    leaves n cell t is =
        let over : Over (Some cell) t = subst (IsGood Over) is (runs n).good in
        rw over.3 (left_is over.0 over.4 over.5 over.1 over.2 over.6)

pub runs_alike : (code : Code) (plans : List (List Spot)) → IsSound code plans → (limits : Limits) (start : FlatState) (tape : Tape) (k : ℕ) (arguments : List ℕ) (line : ℕ) (uses : List Use) (place : ℕ) → IsAtCall code limits start tape k arguments line uses place
    → RunsAlike code limits start tape k arguments line uses place
runs_alike code plans sound limits start tape k arguments line uses place at = record {
  dialogue = speaks code limits start tape k arguments line uses place at plans sound;
  memory = leaves code limits start tape k arguments line uses place at plans sound;
  tape_is = λ n. body_tape code limits start tape k arguments line uses place at plans sound _ (runs code limits start tape k arguments line uses place at plans sound n).good;
}
