-- While a task's body runs in place, the flat memory replies as its own memory does, to what breaks no rule.
use Rattle.std.proofs.Common.{inl, inr, Bool, not, ◌||◌, slice_index, ◌≡◌, ℕ, suc, ◌+◌, ◌-◌, ◌<◌, ◌≤◌, min, ◌==◌, true, false, ◌&&◌, nat_le, nat_lt, List, [], ◌∷◌, ◌++◌, length, replicate, drop, None, refl, sym, ap, ◌∙◌, append_assoc, arith, if◌then◌else◌}
use Rattle.std.proofs.lemmas.Bool.{not-true, leb-false, ltb-false, and_from, or_parts, le-leb, lt-ltb, eq-eqb}
use Rattle.std.proofs.lemmas.List.{length-append, length-drop, length-replicate, drop-append-le}
use Rattle.css_base.specs.declared.limits.Limits.{Limits}
use Rattle.css_semantics.specs.Dialogue.{Action, Enter, Turn, Leave, Load, Store, Out, In, Malloc, Calls, Returns, Start, Finish, Barrier, Wait, WaitFault, DimFault, Fault, End, Says, Fails, Refuses}
use Rattle.css_base.specs.declared.rule.Rule.TheVariants.{MainStack}
use Rattle.css_semantics.specs.Memory.{Memory, stack_place, big_endian, is_between, is_live_byte, byte_at, bytes_at, is_live, overlaid, stored, after}
use Rattle.css_semantics.specs.Flat.{erased_stack, has_room, is_innermost, memory_reply}
use Rattle.css_semantics.specs.Tasks.{Body, reads, writes, body_behind}
use Rattle.css_semantics.specs.Rules.{is_given_for, has_stored, is_unwritten, task_stack, is_too_deep, checks_of_task, first_broken}
use Rattle.css_semantics.specs.Alone as tasks
use Rattle.css_semantics.specs.Alone.{TaskMemory, task_place, task_bytes, byte_of_regions, overlaid_region, is_first, task_after, task_reply}
use Rattle.css_semantics.proofs.StackPlaces.{length-overlaid}
use Rattle.css_semantics.proofs.Checks.{are_kept}
use Rattle.css_semantics.specs.TaskSpaces.{total}
use Rattle.css_semantics.proofs.TaskWorlds.{total-from}
use Rattle.css_in_place.proofs.Alike.{Asks}
use Rattle.css_in_place.proofs.TaskBytes.{between_parts, total_more, regions_stay, regions_byte}
use Rattle.css_in_place.proofs.Shapes.{live_same, shape_on, shape_stored, byte_stored}
use Rattle.css_in_place.proofs.Fronts.{in_front, clear_around, stored_front}
use Rattle.css_in_place.proofs.Given.{is_written, IsWindowed, IsGiven, inside_is_given, between_by, windows_all, none_from, one_is_written, IsCalled, InStep, at_end, below, short, lowest, task_lowest, window_live, are_live, are_same}

-- a task's stack takes one more frame
shallow : (frames : List ℕ) (size : ℕ) → is_too_deep task_stack frames size ≡ false → (size + total frames ≤ 16384) × (length frames < 1024)
shallow frames size fine =
    let parts = or_parts _ (nat_le 1024 (length frames)) fine in
    (omega (arith, ltb-false 16384 _ parts.0, total-from size frames), leb-false 1024 (length frames) parts.1)

module _ (limits : Limits) (b : Body) (at_call : Memory) (called : IsCalled b.uses b.place at_call) (m : Memory) (tm : TaskMemory) (step : InStep b at_call m tm) where
  abbrev front : Memory
  front = in_front tm.stack (length b.frames) step.around

  high : 16384 ≤ b.place
  high = omega (arith, below b at_call called m tm step)

  has_length : length front.stack ≡ total b.frames + length step.around.stack
  has_length = omega (arith, length-append tm.stack step.around.stack, step.deep)

  at_lowest : stack_place front ≡ b.place - total b.frames
  at_lowest = lowest b at_call called m tm step

  at_task_lowest : task_place tm ≡ b.place - total b.frames
  at_task_lowest = task_lowest b at_call called m tm step

  at_the_end : b.place + length step.around.stack ≡ front.end
  at_the_end = at_end b at_call called m tm step

  limit_is : front.limit ≡ erased_stack
  limit_is = step.shape.limit ∙ called.limit

  -- ---- what is replied

  finds_room : (size : ℕ) → is_too_deep task_stack b.frames size ≡ false → has_room front size ≡ true
  finds_room size fine =
      let fits = shallow b.frames size fine in
      let most : 1064960 ≤ front.end = omega (arith, called.room, step.shape.end) in
      rw limit_is
      (and_from (nat_le (length front.stack + size) (min 1064960 front.end)) (nat_lt front.calls 33792)
      (le-leb (length front.stack + size) (min 1064960 front.end) (omega (arith, has_length, fits.0, step.shape.stack, called.bytes, most)))
      (lt-ltb front.calls 33792 (omega (arith, fits.1, step.shape.calls, called.calls))))

  enters_same : (size : ℕ) → is_too_deep task_stack b.frames size ≡ false → memory_reply m (Enter size) ≡ task_reply tm b.frames (Enter size)
  enters_same size fine =
      ap (λ (m : Memory). memory_reply m (Enter size)) step.is
      ∙ ap (λ b. if b then Says (stack_place front - size) else Refuses MainStack) (finds_room size fine)
      ∙ ap (λ n. Says (n - size)) (at_lowest ∙ sym at_task_lowest)

  is_inner : (base size : ℕ) → Asks b.place b.frames (Leave base size) → is_innermost front base size ≡ true
  is_inner base size asks =
      let more : total b.frames ≡ size + total asks.0 = ap total asks.1 ∙ total_more size asks.0 in
      let opened : length b.frames ≡ suc (length asks.0) = ap length asks.1 in
      and_from (base + length front.stack == front.end) (nat_le size (length front.stack) && nat_lt 0 front.calls)
      (eq-eqb (base + length front.stack) front.end (omega (arith, asks.2, has_length, at_the_end, step.bytes, high)))
      (and_from (nat_le size (length front.stack)) (nat_lt 0 front.calls)
      (le-leb size (length front.stack) (omega (arith, has_length, more))) (lt-ltb 0 front.calls (omega (arith, opened))))

  -- the frame that is left is the task's innermost one
  pub is_inner_task : (base size : ℕ) → Asks b.place b.frames (Leave base size) → tasks.is_innermost tm b.frames base size ≡ true
  is_inner_task base size asks =
      let more : total b.frames ≡ size + total asks.0 = ap total asks.1 ∙ total_more size asks.0 in
      let is : is_first size b.frames ≡ true = ap (is_first size) asks.1 ∙ eq-eqb size size refl in
      and_from (base + length tm.stack == tm.place) (nat_le size (length tm.stack) && is_first size b.frames)
      (eq-eqb (base + length tm.stack) tm.place (omega (arith, asks.2, step.deep, step.place_is, step.bytes, high)))
      (and_from (nat_le size (length tm.stack)) (is_first size b.frames) (le-leb size (length tm.stack) (omega (arith, step.deep, more))) is)

  leaves_same : (base size : ℕ) → Asks b.place b.frames (Leave base size) → memory_reply m (Leave base size) ≡ task_reply tm b.frames (Leave base size)
  leaves_same base size asks =
      ap (λ (m : Memory). memory_reply m (Leave base size)) step.is
      ∙ ap (λ b. if b then Says 0 else Fails) (is_inner base size asks ∙ sym (is_inner_task base size asks))

  module _ (address size : ℕ) (inside : (a : ℕ) → address ≤ a → a < address + size → IsGiven b a) where
    all_live : is_live m address size ≡ true
    all_live = are_live b at_call called m tm step address size inside

    loads_same : ((a : ℕ) → address ≤ a → a < address + size → is_unwritten b a ≡ false) → memory_reply m (Load address size) ≡ task_reply tm b.frames (Load address size)
    loads_same known =
        ap (λ live. if live then Says (big_endian (bytes_at m address size)) else Fails) all_live
        ∙ ap (λ bytes. Says (big_endian bytes)) (are_same b at_call called m tm step address size (λ a above below. (inside a above below, known a above below)))

  pub reply_same : (action : Action) → Asks b.place b.frames action → first_broken (checks_of_task limits b action) ≡ None → memory_reply m action ≡ task_reply tm b.frames action
  reply_same (Enter size) asks none = enters_same size (are_kept (checks_of_task limits b (Enter size)) none).1.1.1.1.0
  reply_same Turn asks none = refl
  reply_same (Leave base size) asks none = leaves_same base size asks
  reply_same (Load address width) asks none =
      let kept = are_kept (checks_of_task limits b (Load address width)) none in
      loads_same address width (inside_is_given b address width kept.0) (none_from (is_unwritten b) address width kept.1.1.0)
  reply_same (Store address bytes) asks none =
      ap (λ live. if live then Says 0 else Fails) (all_live address (length bytes) (inside_is_given b address (length bytes) (are_kept (checks_of_task limits b (Store address bytes)) none).0))
  reply_same (Out bytes) asks none = absurd asks
  reply_same In asks none = absurd asks
  reply_same (Malloc size) asks none = absurd asks
  reply_same (Calls call) asks none = absurd asks
  reply_same Returns asks none = refl
  reply_same Start asks none = refl
  reply_same Finish asks none = refl
  reply_same Barrier asks none = refl
  reply_same (Wait address) asks none = refl
  reply_same WaitFault asks none = refl
  reply_same DimFault asks none = refl
  reply_same (Fault kind) asks none = refl
  reply_same (End result) asks none = refl

  -- ---- what comes of it

  entered_step : (size : ℕ) → is_too_deep task_stack b.frames size ≡ false → InStep (body_behind b (Enter size)) at_call (after m (Enter size)) (task_after tm (Enter size))
  entered_step size fine =
      let fits = shallow b.frames size fine in
      let more = total_more size b.frames in
      let counted : length b.frames + step.around.calls + 1 ≡ suc (length b.frames) + step.around.calls = omega arith in
      record {
        around = step.around;
        is = ap (λ (m : Memory). after m (Enter size)) step.is
            ∙ ap (λ n. let f : Memory = record step.around { stack = replicate size 0 ++ (tm.stack ++ step.around.stack); calls = n } in f) counted
            ∙ ap (λ stack. let f : Memory = record step.around { stack = stack; calls = suc (length b.frames) + step.around.calls } in f) (sym (append_assoc (replicate size 0) tm.stack step.around.stack));
        shape = step.shape;
        place_is = step.place_is;
        deep = omega (arith, length-append (replicate size 0) tm.stack, length-replicate {A = ℕ}, step.deep, more);
        bytes = omega (arith, fits.0, more);
        has = step.has;
        same = step.same;
        others = step.others;
      }

  left_step : (base size : ℕ) (others : List ℕ) → b.frames ≡ size ∷ others → InStep (body_behind b (Leave base size)) at_call (after m (Leave base size)) (task_after tm (Leave base size))
  left_step base size others is =
      let inner = drop 1 b.frames in
      let rest : inner ≡ others = ap (λ frames. drop 1 frames) is in
      let more : total b.frames ≡ size + total inner = ap total is ∙ total_more size others ∙ ap (λ frames. size + total frames) (sym rest) in
      let opened : length b.frames ≡ suc (length inner) = ap length is ∙ ap (λ (frames : List ℕ). suc (length frames)) (sym rest) in
      let counted : length b.frames + step.around.calls - 1 ≡ length inner + step.around.calls = omega (arith, opened) in
      record {
        around = step.around;
        is = ap (λ (m : Memory). after m (Leave base size)) step.is
            ∙ ap (λ n. let f : Memory = record step.around { stack = drop size (tm.stack ++ step.around.stack); calls = n } in f) counted
            ∙ ap (λ stack. let f : Memory = record step.around { stack = stack; calls = length inner + step.around.calls } in f) (drop-append-le size tm.stack step.around.stack (omega (arith, more, step.deep)));
        shape = step.shape;
        place_is = step.place_is;
        deep = omega (arith, length-drop size tm.stack, step.deep, more);
        bytes = omega (arith, step.bytes, more);
        has = step.has;
        same = step.same;
        others = step.others;
      }

  -- units don't matter
  with_units : (n : ℕ) → InStep (record { uses = b.uses; place = b.place; frames = b.frames; units = n; stored = b.stored }) at_call m tm
  with_units n = record {
    around = step.around;
    is = step.is;
    shape = step.shape;
    place_is = step.place_is;
    deep = step.deep;
    bytes = step.bytes;
    has = step.has;
    same = step.same;
    others = step.others;
  }

  -- ---- stores

  module _ (address : ℕ) (new : List ℕ) (inside : (a : ℕ) → address ≤ a → a < address + length new → IsGiven b a)
      (fixed : (a : ℕ) → address ≤ a → a < address + length new → is_given_for (λ d. not (writes d)) b a ≡ false) where
    abbrev is_stored : ℕ → Bool
    is_stored a = is_between address (address + length new) a

    -- a byte of main's that the task may not write isn't stored
    not_stored : (a : ℕ) → is_live_byte step.around a ≡ true → is_written b.uses a ≡ false → (h : Bool) → is_stored a ≡ h → h ≡ false
    not_stored a live out false is = refl
    not_stored a live out true is =
        let parts = between_parts address (address + length new) a is in
        elim (inside a parts.0 parts.1) [
          | inl framed ↦
              let clear : is_between (b.place - total b.frames) b.place a ≡ false =
              ap (λ n. is_between (b.place - n) b.place a) (sym step.deep)
              ∙ clear_around tm.stack (length b.frames) step.around b.place (at_end b at_call called m tm step) (below b at_call called m tm step) (short b at_call called m tm step) a live in
              absurd (cc (between_by (b.place - total b.frames) b.place a framed.0 framed.1, clear))
          | inr held ↦ absurd (cc (one_is_written b.uses a held (fixed a parts.0 parts.1), out))
        ]

    -- a byte of a window that is stored now, or was known before
    stored_same : (a : ℕ) → IsWindowed b.uses a → (h : Bool) → is_stored a ≡ h → is_unwritten (body_behind b (Store address new)) a ≡ false
        → (if h then slice_index new (a - address) else byte_at step.around a) ≡ (if h then slice_index new (a - address) else byte_of_regions tm.regions a)
    stored_same a held true is known = refl
    stored_same a held false is known =
        step.same a held (ap (λ h. is_given_for (λ d. not (reads d)) b a && not (h || has_stored b a)) (sym is) ∙ known)

    stored_step : InStep (body_behind b (Store address new)) at_call (after m (Store address new)) (task_after tm (Store address new))
    stored_step = record {
      around = stored step.around address new;
      is = ap (λ b. if b then stored m address new else m) (all_live address (length new) inside)
          ∙ ap (λ (m : Memory). stored m address new) step.is
          ∙ stored_front tm.stack (length b.frames) step.around b.place (at_end b at_call called m tm step) (below b at_call called m tm step) (short b at_call called m tm step) address new
          ∙ ap (λ n. in_front (overlaid n tm.stack address new) (length b.frames) (stored step.around address new)) (ap (λ p. p - length tm.stack) (sym step.place_is));
      shape = shape_on (stored step.around address new) step.around at_call (shape_stored step.around address new) step.shape;
      place_is = step.place_is;
      deep = length-overlaid (task_place tm) tm.stack address new ∙ step.deep;
      bytes = step.bytes;
      has = λ a held. regions_stay address new tm.regions a ∙ step.has a held;
      same = λ a held known.
          byte_stored step.around address new a (window_live b at_call called m tm step a held)
          ∙ stored_same a held (is_stored a) refl known ∙ sym (regions_byte address new a tm.regions (step.has a held));
      others = λ a live out.
          let here : is_live_byte step.around a ≡ true = live_same step.around at_call step.shape a ∙ live in
          byte_stored step.around address new a here
          ∙ ap (λ h. if h then slice_index new (a - address) else byte_at step.around a) (not_stored a here out (is_stored a) refl)
          ∙ step.others a live out;
    }

  pub step_after : (action : Action) → Asks b.place b.frames action → first_broken (checks_of_task limits b action) ≡ None → InStep (body_behind b action) at_call (after m action) (task_after tm action)
  step_after (Enter size) asks none = entered_step size (are_kept (checks_of_task limits b (Enter size)) none).1.1.1.1.0
  step_after Turn asks none = with_units (b.units + 1)
  step_after (Leave base size) asks none = left_step base size asks.0 asks.1
  step_after (Load address width) asks none = with_units (b.units + 0)
  step_after (Store address bytes) asks none =
      let kept = are_kept (checks_of_task limits b (Store address bytes)) none in
      stored_step address bytes (inside_is_given b address (length bytes) kept.0) (none_from (is_given_for (λ d. not (writes d)) b) address (length bytes) kept.1.0)
  step_after (Out bytes) asks none = absurd asks
  step_after In asks none = absurd asks
  step_after (Malloc size) asks none = absurd asks
  step_after (Calls call) asks none = absurd asks
  step_after Returns asks none = absurd asks
  step_after Start asks none = absurd asks
  step_after Finish asks none = absurd asks
  step_after Barrier asks none = absurd asks
  step_after (Wait address) asks none = absurd asks
  step_after WaitFault asks none = absurd asks
  step_after DimFault asks none = absurd asks
  step_after (Fault kind) asks none = absurd asks
  step_after (End result) asks none = absurd asks

  -- where no rule refuses the return, each byte of a window is the task's
  pub returned_known : first_broken (checks_of_task limits b Returns) ≡ None → (a : ℕ) → IsWindowed b.uses a → is_unwritten b a ≡ false
  returned_known none a held =
      not-true (is_unwritten b a) (windows_all (λ a. not (is_unwritten b a)) b.uses (are_kept (checks_of_task limits b Returns) none).1.1.1.0 a held)
