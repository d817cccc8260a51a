-- What a task is given lies in the flat memory with the bytes of its own, while its body runs in place.
use Rattle.std.proofs.Common.{◌≡◌, ◌⊎◌, inl, inr, ℕ, zero, suc, ◌+◌, ◌-◌, ◌<◌, ◌≤◌, Bool, true, false, not, ◌&&◌, ◌||◌, nat_le, nat_lt, List, [], ◌∷◌, length, slice_index, refl, sym, ap, ap₂, ◌∙◌, arith, if◌then◌else◌}
use Rattle.std.specs.List.{list_any}
use Rattle.std.proofs.lemmas.Bool.{and_parts, and_from, or_parts, leb-true, le-leb, lt-ltb, not-false, not-true}
use Rattle.std.proofs.lemmas.Bool.Decides.{nat_tests}
use Rattle.css_semantics.specs.Memory.{all_from, Memory, heap_top, stack_place, is_between, is_live_byte, byte_at, is_live, bytes_at}
use Rattle.css_semantics.specs.Flat.{erased_stack}
use Rattle.css_semantics.specs.Tasks.{Use, Body, plain, writes, rows_have, has_byte}
use Rattle.css_semantics.specs.Pending.{some_from}
use Rattle.css_semantics.proofs.Windows.{window_gives}
use Rattle.css_semantics.specs.Rules.{all_of_window, is_unwritten, is_in_row, is_in_window, is_in_frame, is_outside}
use Rattle.css_semantics.specs.Alone.{TaskMemory, task_place, task_byte, task_bytes, byte_of_regions}
use Rattle.css_semantics.specs.TaskSpaces.{total}
use Rattle.css_in_place.proofs.TaskBytes.{total_more, is_in_regions}
use Rattle.css_in_place.proofs.Shapes.{SameShape, live_same, top_same}
use Rattle.css_in_place.proofs.Fronts.{in_front, front_lowest, live_around, byte_around, clear_around, live_front, byte_front}

-- a window of these has the byte
abbrev pub is_windowed : List Use → ℕ → Bool
is_windowed uses a = list_any (λ u. has_byte u.window a) uses

abbrev pub IsWindowed : List Use → ℕ → Type 0
IsWindowed uses a = is_windowed uses a ≡ true

-- a window of these that is written has the byte
abbrev pub is_written : List Use → ℕ → Bool
is_written uses a = list_any (λ u. writes u.direction && has_byte u.window a) uses

-- a byte that a task may use: its frames', or its windows'
abbrev pub IsGiven : Body → ℕ → Type 0
IsGiven b a = ((b.place - total b.frames ≤ a) × (a < b.place)) ⊎ IsWindowed b.uses a

-- ---- what isn't outside

one_of : (a b : Bool) → (a || b) ≡ true → (a ≡ true) ⊎ (b ≡ true)
one_of true b h = inl refl
one_of false b h = inr h

pub one_of_two : {P : Type 0} (a b : Bool) → (a || b) ≡ true → (a ≡ true → P) → (b ≡ true → P) → P
one_of_two true b h first second = first refl
one_of_two false b h first second = second h

pub or_left : (a b : Bool) → a ≡ true → (a || b) ≡ true
or_left a b h = ap (λ x. x || b) h

pub or_right : (a b : Bool) → b ≡ true → (a || b) ≡ true
or_right true b h = refl
or_right false b h = h

pub between_by : (from to a : ℕ) → from ≤ a → a < to → is_between from to a ≡ true
between_by from to a above below = and_from (nat_le from a) (nat_lt a to) (le-leb from a above) (lt-ltb a to below)

module _ (address size a : ℕ) (above : address ≤ a) (below : a < address + size) where
  row_has : (rows base width stride : ℕ) → is_in_row rows base width stride address size ≡ true → rows_have rows base width stride a ≡ true
  row_has zero base width stride held = absurd (cc)
  row_has (suc rows) base width stride held =
      elim (one_of (nat_le base address && nat_le (address + size) (base + width)) (is_in_row rows (base + stride) width stride address size) held) [
        | inl here ↦
            let parts = and_parts (nat_le base address) (nat_le (address + size) (base + width)) here in
            let from = leb-true base address parts.0 in
            let to = leb-true (address + size) (base + width) parts.1 in
            or_left (is_between base (base + width) a) (rows_have rows (base + stride) width stride a) (between_by base (base + width) a (omega (arith, from)) (omega (arith, to)))
        | inr later ↦ or_right (is_between base (base + width) a) (rows_have rows (base + stride) width stride a) (row_has rows (base + stride) width stride later)
      ]

  windows_have : (uses : List Use) → list_any (λ u. is_in_window u.window address size) uses ≡ true → IsWindowed uses a
  windows_have [] held = absurd (cc)
  windows_have (u ∷ uses) held =
      elim (one_of (is_in_window u.window address size) (list_any (λ u. is_in_window u.window address size) uses) held) [
        | inl here ↦ or_left (has_byte u.window a) (list_any (λ u. has_byte u.window a) uses) (row_has u.window.rows u.window.base u.window.width u.window.stride here)
        | inr later ↦ or_right (has_byte u.window a) (list_any (λ u. has_byte u.window a) uses) (windows_have uses later)
      ]

  frames_have : (place : ℕ) (frames : List ℕ) → is_in_frame place frames address size ≡ true → (place - total frames ≤ a) × (a < place)
  frames_have place [] held = absurd (cc)
  frames_have place (frame ∷ frames) held =
      elim (one_of (nat_le (place - total frames - frame) address && nat_le (address + size) (place - total frames)) (is_in_frame place frames address size) held) [
        | inl here ↦
            let parts = and_parts (nat_le (place - total frames - frame) address) (nat_le (address + size) (place - total frames)) here in
            let from = leb-true (place - total frames - frame) address parts.0 in
            let to = leb-true (address + size) (place - total frames) parts.1 in
            (omega (arith, from, total_more frame frames), omega (arith, to))
        | inr later ↦
            let rest = frames_have place frames later in
            (omega (arith, rest.0, total_more frame frames), rest.1)
      ]

  given_by : (b : Body) → is_outside b address size ≡ false → IsGiven b a
  given_by b inside =
      elim (one_of (list_any (λ u. is_in_window u.window address size) b.uses) (is_in_frame b.place b.frames address size)
      (not-false (list_any (λ u. is_in_window u.window address size) b.uses || is_in_frame b.place b.frames address size) inside)) [
        | inl windowed ↦ inr (windows_have b.uses windowed)
        | inr framed ↦ inl (frames_have b.place b.frames framed)
      ]

-- each byte of an access that isn't outside is one that the task may use
pub inside_is_given : (b : Body) (address size : ℕ) → is_outside b address size ≡ false → (a : ℕ) → address ≤ a → a < address + size → IsGiven b a
inside_is_given b address size inside a above below = given_by address size a above below b inside

-- ---- what holds of bytes

-- what holds of all bytes of each window
pub windows_all : (test : ℕ → Bool) (uses : List Use) → list_any (λ u. not (all_of_window test u.window)) uses ≡ false → (a : ℕ) → IsWindowed uses a → test a ≡ true
windows_all test [] none a held = absurd (cc)
windows_all test (u ∷ uses) none a held =
    let parts = or_parts (not (all_of_window test u.window)) (list_any (λ u. not (all_of_window test u.window)) uses) none in
    one_of_two (has_byte u.window a) (is_windowed uses a) held
    (λ here. window_gives test u.window (not-false (all_of_window test u.window) parts.0) a here)
    (λ later. windows_all test uses parts.1 a later)

-- what none of some bytes has
pub none_from : (test : ℕ → Bool) (address width : ℕ) → some_from test address width ≡ false → (a : ℕ) → address ≤ a → a < address + width → test a ≡ false
none_from test address width none a above below =
    let all : all_from (λ a. not (test a)) address width ≡ true = not-false (all_from (λ a. not (test a)) address width) none in
    let here : is_between address (address + width) a ≡ true = between_by address (address + width) a above below in
    not-true (test a) (window_gives (λ a. not (test a)) (plain address width) (rw all refl) a (rw here refl))

-- a byte of a window is one of a window that is written, or of one that isn't
pub one_is_written : (uses : List Use) (a : ℕ) → IsWindowed uses a → list_any (λ u. not (writes u.direction) && has_byte u.window a) uses ≡ false → is_written uses a ≡ true
one_is_written [] a held none = absurd (cc)
one_is_written (u ∷ uses) a held none =
    let parts = or_parts (not (writes u.direction) && has_byte u.window a) (list_any (λ u. not (writes u.direction) && has_byte u.window a) uses) none in
    one_of_two (has_byte u.window a) (is_windowed uses a) held
    (λ here. or_left (writes u.direction && has_byte u.window a) (is_written uses a) (here_written (writes u.direction) (has_byte u.window a) here parts.0))
    (λ later. or_right (writes u.direction && has_byte u.window a) (is_written uses a) (one_is_written uses a later parts.1))
  where
    here_written : (w h : Bool) → h ≡ true → (not w && h) ≡ false → (w && h) ≡ true
    here_written true h has out = has
    here_written false h has out = absurd (cc)

pub written_is_windowed : (uses : List Use) (a : ℕ) → is_written uses a ≡ true → IsWindowed uses a
written_is_windowed [] a held = absurd (cc)
written_is_windowed (u ∷ uses) a held =
    one_of_two (writes u.direction && has_byte u.window a) (is_written uses a) held
    (λ here. or_left (has_byte u.window a) (is_windowed uses a) (and_parts (writes u.direction) (has_byte u.window a) here).1)
    (λ later. or_right (has_byte u.window a) (is_windowed uses a) (written_is_windowed uses a later))

-- ---- the memory

-- Main's memory at a task's call: its stack ends at the task's place and is within main's limits, what is live below leaves the task
-- room, and each byte of a window is live.
pub record IsCalled (uses : List Use) (place : ℕ) (at_call : Memory) : Type 0 where
  pub limit : at_call.limit ≡ erased_stack
  pub stack : place + length at_call.stack ≡ at_call.end
  pub bytes : length at_call.stack ≤ 1048576
  pub calls : at_call.calls ≤ 32768
  pub room : heap_top at_call + 1064960 ≤ at_call.end
  pub live : (a : ℕ) → IsWindowed uses a → is_live_byte at_call a ≡ true

-- The flat memory while a task's body runs: the task's stack is in front of a memory that is as at the call, but for bytes that the
-- task may write; there each byte of a window is the task's own, unless it is only written and isn't written yet.
pub record InStep (b : Body) (at_call m : Memory) (tm : TaskMemory) : Type 0 where
  pub around : Memory
  pub is : m ≡ in_front tm.stack (length b.frames) around
  pub shape : SameShape around at_call
  pub place_is : tm.place ≡ b.place
  pub deep : length tm.stack ≡ total b.frames
  pub bytes : total b.frames ≤ 16384
  pub has : (a : ℕ) → IsWindowed b.uses a → is_in_regions tm.regions a ≡ true
  pub same : (a : ℕ) → IsWindowed b.uses a → is_unwritten b a ≡ false → byte_at around a ≡ byte_of_regions tm.regions a
  pub others : (a : ℕ) → is_live_byte at_call a ≡ true → is_written b.uses a ≡ false → byte_at around a ≡ byte_at at_call a

module _ (b : Body) (at_call : Memory) (called : IsCalled b.uses b.place at_call) (m : Memory) (tm : TaskMemory) (step : InStep b at_call m tm) where
  abbrev depth : ℕ
  depth = total b.frames

  pub at_end : b.place + length step.around.stack ≡ step.around.end
  at_end = omega (arith, called.stack, step.shape.stack, step.shape.end)

  pub below : heap_top step.around + 16384 ≤ b.place
  below = omega (arith, top_same step.around at_call step.shape, called.room, called.stack, called.bytes)

  pub short : length tm.stack ≤ 16384
  short = omega (arith, step.deep, step.bytes)

  pub lowest : stack_place (in_front tm.stack (length b.frames) step.around) ≡ b.place - depth
  lowest = front_lowest tm.stack (length b.frames) step.around b.place at_end below short ∙ ap (λ n. b.place - n) step.deep

  pub task_lowest : task_place tm ≡ b.place - depth
  task_lowest = ap₂ (λ p n. p - n) step.place_is step.deep

  -- a byte of a window is live without the task's stack
  pub window_live : (a : ℕ) → IsWindowed b.uses a → is_live_byte step.around a ≡ true
  window_live a held = live_same step.around at_call step.shape a ∙ called.live a held

  given_live : (a : ℕ) → IsGiven b a → is_live_byte m a ≡ true
  given_live a given =
      rw step.is (elim given [
        | inl framed ↦ live_front tm.stack (length b.frames) step.around b.place at_end below short a (omega (arith, framed.0, step.deep)) framed.1
        | inr in_window ↦ live_around tm.stack (length b.frames) step.around b.place at_end below short a (window_live a in_window)
      ])

  -- a byte of the task's stack
  in_frames : (a : ℕ) → b.place - depth ≤ a → a < b.place → byte_at m a ≡ task_byte tm a
  in_frames a above under =
      let framed : is_between (task_place tm) tm.place a ≡ true = rw (task_lowest, step.place_is) (between_by (b.place - depth) b.place a above under) in
      let mine : byte_at (in_front tm.stack (length b.frames) step.around) a ≡ slice_index tm.stack (a - task_place tm) =
      byte_front tm.stack (length b.frames) step.around b.place at_end below short a (omega (arith, above, step.deep)) under
      ∙ ap (λ n. slice_index tm.stack (a - n)) (ap (λ n. n - length tm.stack) (sym step.place_is)) in
      ap (λ (m : Memory). byte_at m a) step.is ∙ mine
      ∙ sym (ap (λ b. if b then slice_index tm.stack (a - task_place tm) else byte_of_regions tm.regions a) framed)

  in_windows : (a : ℕ) → IsWindowed b.uses a → is_unwritten b a ≡ false → byte_at m a ≡ task_byte tm a
  in_windows a held known =
      let live = window_live a held in
      let out : is_between (task_place tm) tm.place a ≡ false =
      ap (λ p. is_between (p - length tm.stack) p a) step.place_is ∙ clear_around tm.stack (length b.frames) step.around b.place at_end below short a live in
      ap (λ (m : Memory). byte_at m a) step.is
      ∙ byte_around tm.stack (length b.frames) step.around b.place at_end below short a live
      ∙ step.same a held known
      ∙ sym (ap (λ b. if b then slice_index tm.stack (a - task_place tm) else byte_of_regions tm.regions a) out)

  given_byte : (a : ℕ) → IsGiven b a → is_unwritten b a ≡ false → byte_at m a ≡ task_byte tm a
  given_byte a (inl framed) known = in_frames a framed.0 framed.1
  given_byte a (inr held) known = in_windows a held known

  -- bytes that the task may use are live
  pub are_live : (address width : ℕ) → ((a : ℕ) → address ≤ a → a < address + width → IsGiven b a) → is_live m address width ≡ true
  are_live address zero each = refl
  are_live address (suc width) each =
      and_from (is_live_byte m address) (is_live m (address + 1) width) (given_live address (each address (omega arith) (omega arith)))
      (are_live (address + 1) width (λ a above below. each a (omega (arith, above)) (omega (arith, below))))

  -- and those that it may read are its own
  pub are_same : (address width : ℕ) → ((a : ℕ) → address ≤ a → a < address + width → IsGiven b a × (is_unwritten b a ≡ false)) → bytes_at m address width ≡ task_bytes tm address width
  are_same address zero each = refl
  are_same address (suc width) each =
      let here = each address (omega arith) (omega arith) in
      ap₂ (λ byte bytes. byte ∷ bytes) (given_byte address here.0 here.1)
      (are_same (address + 1) width (λ a above below. each a (omega (arith, above)) (omega (arith, below))))
