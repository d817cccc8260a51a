-- What a task's memory does, where its windows' bytes and its stack are kept apart.
use Rattle.std.proofs.Common.{◌≡◌, ℕ, zero, suc, ◌+◌, ◌-◌, ◌<◌, ◌≤◌, Bool, true, false, not, ◌&&◌, ◌||◌, List, ◌∷◌, length, take, drop, replicate, fold, map, slice_get, slice_index, nat_le, nat_lt, ◌==◌, Some, inl, inr, refl, ap, ap₂, sym, subst, ◌∙◌, arith, if◌then◌else◌}
use Rattle.std.specs.List.{list_any}
use Rattle.std.proofs.lemmas.Bool.{and_parts, leb-true, ltb-true}
use Rattle.std.proofs.lemmas.Bool.Decides.{nat_tests}
use Rattle.std.proofs.lemmas.List.{length-append, length-replicate, length-drop}
use Rattle.css_base.specs.declared.direction.Direction.{Direction}
use Rattle.css_base.specs.declared.ending.Stop.{Stop}
use Rattle.css_base.specs.declared.rule.Rule.{Rule}
use Rattle.css_base.specs.declared.rule.Rule.TheVariants as rules
use Rattle.css_semantics.specs.Dialogue.{Enter, Leave, Load, Store, Reply, Says, Fails, Refuses}
use Rattle.css_semantics.specs.Memory.{big_endian, big_endian_bytes, is_between, overlaid}
use Rattle.css_semantics.specs.Tasks.{Use, writes}
use Rattle.css_semantics.specs.Pending.{some_from}
use Rattle.css_semantics.specs.Rules.{task_stack, is_too_deep, is_in_window, is_in_frame, is_given_for}
use Rattle.css_semantics.specs.Alone.{task_place, task_bytes, overlaid_region, is_first, is_innermost}
use Rattle.css_semantics.specs.TaskSpaces.{TaskState, place_of, holds, is_given, entry_reply, space_reply, space_behind, space_after}
use Rattle.css_semantics.proofs.StackPlaces.{length-overlaid}
use Rattle.css_semantics.proofs.TaskWorlds.{total-from, left_total}
use Rattle.css_semantics.proofs.TaskBytes.{frame_in_stack, overlaid_out}
use Rattle.css_vm.proofs.Bytes.{length-big_endian_bytes}
use Rattle.css_vm.specs.Spaces.{IsRefusal, bytes_of}
use Rattle.css_vm.specs.declared.space.Width.{Width}
use Rattle.css_vm.specs.declared.space.Width.TheVariants as widths
use Rattle.css_task.specs.declared.placed.Placed.{Placed}
use Rattle.css_task.specs.OffsetSets.{has_bit}
use Rattle.css_task.specs.Rooms.{bytes_from, body_of}
use Rattle.css_task.specs.Cells.{addresses, Kept, room, kept_reply, kept_left, kept_after, stored_at}
use Rattle.css_task.specs.Placing.{use_of, uses_of, IsHit}
use Rattle.css_task.specs.Keeping.{is_fixed, IsFixed, listed}
use Rattle.css_task.specs.IsRoom.{kept_with, IsRoom}
use Rattle.css_task.proofs.CellAccess.{flags_same, window_bytes, stack_known, stack_writable, stores_same, flags_stored, kept_bytes, kept_flags, same_store, writable, are_kept, first_of}
use Rattle.css_task.proofs.RoomWorlds.{fits_by}
use Rattle.css_task.proofs.Hits.{hit_at, hit_flag, hit_kind, hit_within}

none_by : (b : Bool) → (b ≡ true → ⊥) → b ≡ false
none_by true never = absurd (never refl)
none_by false never = refl

or_true : (b : Bool) → (b || true) ≡ true
or_true true = refl
or_true false = refl

and_false : (b : Bool) → (b && false) ≡ false
and_false true = refl
and_false false = refl

or_none : (a b : Bool) → a ≡ false → b ≡ false → (a || b) ≡ false
or_none a b is is' = rw (is, is')

-- each access has a byte, and at most eight
pub some_bytes : (w : Width) → (1 ≤ bytes_of w) × (bytes_of w ≤ 8)
some_bytes widths.W8 = (omega arith, omega arith)
some_bytes widths.W16 = (omega arith, omega arith)
some_bytes widths.W32 = (omega arith, omega arith)
some_bytes widths.W64 = (omega arith, omega arith)

-- what was said where something is given
given_by : (b : Bool) (x value : ℕ) → (if b then Says x else Refuses rules.OutsideArguments) ≡ Says value → (b ≡ true) × (x ≡ value)
given_by true x value is = (refl, cc)
given_by false x value is = absurd (cc)

refused_by : (b : Bool) (x : ℕ) (stop : Stop) → IsRefusal (if b then Says x else Refuses rules.OutsideArguments) stop → b ≡ false
refused_by true x stop is = absurd is
refused_by false x stop is = refl

-- the kinds of replies
outside_reply : (outside other : Bool) (rule : Rule) (r : Reply) → outside ≡ true → (if outside then Refuses rules.OutsideArguments else (if other then Refuses rule else r)) ≡ Refuses rules.OutsideArguments
outside_reply outside other rule r is = ap (λ b. if b then Refuses rules.OutsideArguments else (if other then Refuses rule else r)) is

other_reply : (outside other : Bool) (rule : Rule) (r : Reply) → outside ≡ false → other ≡ true → (if outside then Refuses rules.OutsideArguments else (if other then Refuses rule else r)) ≡ Refuses rule
other_reply outside other rule r is is' = rw (is, is')

plain_reply : (outside other : Bool) (rule : Rule) (r : Reply) → outside ≡ false → other ≡ false → (if outside then Refuses rules.OutsideArguments else (if other then Refuses rule else r)) ≡ r
plain_reply outside other rule r is is' = rw (is, is')

module _ (all : List Placed) (s : TaskState) (bytes words : List ℕ) (is : IsRoom all s bytes words) where
  abbrev m : Kept
  m = kept_with all s bytes words

  abbrev us : List Use
  us = uses_of all

  abbrev framed : (address count : ℕ) → Bool
  framed address count = is_in_frame s.memory.place s.frames address count

  abbrev windowed : (address count : ℕ) → Bool
  windowed address count = list_any (λ u. is_in_window u.window address count) us

  given_is : (address count : ℕ) → is_given s address count ≡ framed address count
  given_is address count = ap (λ rs. list_any (holds address count) rs || framed address count) is.none

  inside : (address count : ℕ) → framed address count ≡ true → (s.memory.place - length s.memory.stack ≤ address) × (address + count ≤ s.memory.place)
  inside address count held =
      let both = frame_in_stack s.memory.place s.frames address count (omega (arith, is.whole, is.short, is.high)) held in
      (omega (arith, both.0, is.whole), both.1)

  clear : (address count : ℕ) → framed address count ≡ true → (t : ℕ) → t < count → (s.memory.place - 16384 ≤ address + t) × (address + t < s.memory.place)
  clear address count held t below =
      let both = inside address count held in
      (omega (arith, both.0, is.short), omega (arith, both.1, below))

  in_frame : (address count : ℕ) → framed address count ≡ true → not (windowed address count || framed address count) ≡ false
  in_frame address count held = rw held (ap not (or_true (windowed address count)))

  in_window : (address count : ℕ) → windowed address count ≡ true → not (windowed address count || framed address count) ≡ false
  in_window address count held = rw held

  in_none : (address count : ℕ) → windowed address count ≡ false → framed address count ≡ false → not (windowed address count || framed address count) ≡ true
  in_none address count out out' = ap not (or_none (windowed address count) (framed address count) out out')

  -- ---- loads

  stack_bytes : (address count : ℕ) → s.memory.place - length s.memory.stack ≤ address → address + count ≤ s.memory.place → bytes_from (room m) address count ≡ task_bytes s.memory address count
  stack_bytes address zero above below = refl
  stack_bytes address (suc count) above below =
      let here : is_between (s.memory.place - length s.memory.stack) s.memory.place address ≡ true = grind (arith, nat_tests) in
      rw here (ap (λ bs. slice_index s.memory.stack (address - (s.memory.place - length s.memory.stack)) ∷ bs) (stack_bytes (address + 1) count (omega (arith, above)) (omega (arith, below))))

  pub loads_stack : (address count value : ℕ) → space_reply s (Load address count) ≡ Says value → kept_reply m (Load address count) ≡ Says value
  loads_stack address count value says =
      let given = given_by (is_given s address count) (big_endian (task_bytes s.memory address count)) value says in
      let held = sym (given_is address count) ∙ given.0 in
      let both = inside address count held in
      plain_reply (not (windowed address count || framed address count)) (some_from (room m).unwritten address count) rules.ReadUnwritten (Says (big_endian (bytes_from (room m) address count)))
      (in_frame address count held)
      (stack_known us s.memory.place s.memory.stack s.frames bytes words is.are is.short is.high address count (clear address count held))
      ∙ ap (λ bs. Says (big_endian bs)) (stack_bytes address count both.0 both.1) ∙ ap Says given.1

  pub load_refused : (address count : ℕ) (stop : Stop) → IsRefusal (space_reply s (Load address count)) stop → framed address count ≡ false
  load_refused address count stop refusal =
      sym (given_is address count) ∙ refused_by (is_given s address count) (big_endian (task_bytes s.memory address count)) stop refusal

  pub store_refused : (address : ℕ) (new : List ℕ) (stop : Stop) → IsRefusal (space_reply s (Store address new)) stop → framed address (length new) ≡ false
  store_refused address new stop refusal =
      sym (given_is address (length new)) ∙ refused_by (is_given s address (length new)) 0 stop refusal

  pub load_outside : (address count : ℕ) → framed address count ≡ false → windowed address count ≡ false → kept_reply m (Load address count) ≡ Refuses rules.OutsideArguments
  load_outside address count out out' =
      outside_reply (not (windowed address count || framed address count)) (some_from (room m).unwritten address count) rules.ReadUnwritten (Says (big_endian (bytes_from (room m) address count)))
      (in_none address count out' out)

  pub store_outside : (address : ℕ) (new : List ℕ) → framed address (length new) ≡ false → windowed address (length new) ≡ false → kept_reply m (Store address new) ≡ Refuses rules.OutsideArguments
  store_outside address new out out' =
      outside_reply (not (windowed address (length new) || framed address (length new))) (some_from (is_given_for (λ d. not (writes d)) (body_of (room m))) address (length new)) rules.WroteInput (Says 0)
      (in_none address (length new) out' out)

  module _ (address count offset : ℕ) (direction : Direction) (hit : IsHit all address count offset direction) (held : windowed address count ≡ true) where
    unread : some_from (room m).unwritten address count ≡ some_from (has_bit words) offset count
    unread = flags_same us s.memory.place s.memory.stack s.frames bytes words is.are is.short is.high address offset count (hit_at all address count offset direction hit)

    pub load_unwritten : some_from (has_bit words) offset count ≡ true → kept_reply m (Load address count) ≡ Refuses rules.ReadUnwritten
    load_unwritten some =
        other_reply (not (windowed address count || framed address count)) (some_from (room m).unwritten address count) rules.ReadUnwritten (Says (big_endian (bytes_from (room m) address count)))
        (in_window address count held) (unread ∙ some)

    pub loads_window : 1 ≤ count → some_from (has_bit words) offset count ≡ false → (value : ℕ) → value ≡ big_endian (take count (drop offset bytes)) → kept_reply m (Load address count) ≡ Says value
    loads_window one known value value_is =
        plain_reply (not (windowed address count || framed address count)) (some_from (room m).unwritten address count) rules.ReadUnwritten (Says (big_endian (bytes_from (room m) address count)))
        (in_window address count held) (unread ∙ known)
        ∙ ap (λ bs. Says (big_endian bs)) (window_bytes us s.memory.place s.memory.stack s.frames bytes words is.are is.short is.high address offset count
        (omega (arith, is.are.long, hit_within all address count offset direction hit one)) (hit_at all address count offset direction hit))
        ∙ ap Says (sym value_is)

  -- ---- stores in the stack

  pub stores_stack : (address : ℕ) (new : List ℕ) (r : ℕ) → space_reply s (Store address new) ≡ Says r → kept_reply m (Store address new) ≡ Says 0
  stores_stack address new r says =
      let held = sym (given_is address (length new)) ∙ (given_by (is_given s address (length new)) 0 r says).0 in
      plain_reply (not (windowed address (length new) || framed address (length new))) (some_from (is_given_for (λ d. not (writes d)) (body_of (room m))) address (length new)) rules.WroteInput (Says 0)
      (in_frame address (length new) held)
      (stack_writable us s.memory.place s.memory.stack s.frames bytes words is.are is.short is.high address (length new) (clear address (length new) held))

  not_there : (address : ℕ) (new : List ℕ) → framed address (length new) ≡ true → (k at : ℕ) → slice_get (addresses us) k ≡ Some at → is_between address (address + length new) at ≡ false
  not_there address new held k at there =
      none_by (is_between address (address + length new) at) (λ within.
      let parts = and_parts (nat_le address at) (nat_lt at (address + length new)) within in
      let both = inside address (length new) held in
      let from = leb-true address at parts.0 in
      let to = ltb-true at (address + length new) parts.1 in
      elim (is.are.clear k at there) [
        | inl below ↦ absurd (omega (arith, below, from, both.0, is.short))
        | inr above ↦ absurd (omega (arith, above, to, both.1))
      ])

  pub stored_stack : (address : ℕ) (new : List ℕ) (r : ℕ) → space_reply s (Store address new) ≡ Says r → (s' : TaskState) → s' ≡ space_after s (Store address new)
      → (kept_with all s' bytes words ≡ kept_after m (Store address new)) × IsRoom all s' bytes words
  stored_stack address new r says s' learns =
      let held = sym (given_is address (length new)) ∙ (given_by (is_given s address (length new)) 0 r says).0 in
      let out = not_there address new held in (
        ap (λ s. kept_with all s bytes words) learns
            ∙ ap₂ (λ bs fs. let k : Kept = record { uses = us; place = s.memory.place; stack = overlaid (task_place s.memory) s.memory.stack address new; frames = s.frames; bytes = bs; unwritten = fs } in k)
            (kept_bytes (addresses us) bytes address new is.are.long out) (kept_flags (addresses us) (has_bit words) 0 address (length new) out),
        subst (λ s. IsRoom all s bytes words) (sym learns) (record {
          placed = is.placed;
          are = is.are;
          none = ap (map (overlaid_region address new)) is.none;
          whole = length-overlaid (task_place s.memory) s.memory.stack address new ∙ is.whole;
          short = omega (arith, length-overlaid (task_place s.memory) s.memory.stack address new, is.short);
          high = is.high;
        }),
      )

  -- ---- stores in a window

  module _ (address offset : ℕ) (new : List ℕ) (direction : Direction) (hit : IsHit all address (length new) offset direction) (held : windowed address (length new) ≡ true) where
    pub store_fixed : 1 ≤ length new → writes direction ≡ false → kept_reply m (Store address new) ≡ Refuses rules.WroteInput
    store_fixed one unwritten =
        let kind : is_fixed (use_of hit.placed) ≡ true = ap (λ d. not (writes d)) (sym hit.direction_is) ∙ ap not unwritten in
        let fixed = first_of (is_given_for (λ d. not (writes d)) (body_of (room m))) address (length new) one (hit_kind all address (length new) offset direction hit is_fixed kind one) in
        other_reply (not (windowed address (length new) || framed address (length new))) (some_from (is_given_for (λ d. not (writes d)) (body_of (room m))) address (length new)) rules.WroteInput (Says 0)
        (in_window address (length new) held) fixed

    module _ (written : writes direction ≡ true) where
      not_fixed : (t : ℕ) → t < length new → IsFixed us (offset + t) → ⊥
      not_fixed t below fixed =
          let flag = hit_flag all address (length new) offset direction hit is_fixed t below in
          let is_written : writes hit.placed.direction ≡ true = ap writes (sym hit.direction_is) ∙ written in
          absurd (cc)

      pub stores_window : kept_reply m (Store address new) ≡ Says 0
      stores_window =
          plain_reply (not (windowed address (length new) || framed address (length new))) (some_from (is_given_for (λ d. not (writes d)) (body_of (room m))) address (length new)) rules.WroteInput (Says 0)
          (in_window address (length new) held)
          (writable us s.memory.place bytes words is.are address offset (length new) (hit_at all address (length new) offset direction hit) not_fixed)

      stack_stays : 1 ≤ length new → length new ≤ 8 → overlaid (task_place s.memory) s.memory.stack address new ≡ s.memory.stack
      stack_stays one few =
          let first : address + 0 ≡ address = omega arith in
          let low = is.are.clear (offset + 0) (address + 0) (hit_at all address (length new) offset direction hit 0 (omega (arith, one))) in
          let high = is.are.clear (offset + (length new - 1)) (address + (length new - 1)) (hit_at all address (length new) offset direction hit (length new - 1) (omega (arith, one))) in
          elim low [
            | inr above ↦ overlaid_out (task_place s.memory) s.memory.stack address new (inr (omega (arith, above, is.short, is.high)))
            | inl below ↦ elim high [
              | inl under ↦ overlaid_out (task_place s.memory) s.memory.stack address new (inl (omega (arith, under, is.short, one)))
              | inr over ↦ absurd (omega (arith, over, below, few, is.high))
            ]
          ]

      pub stored_window : (bytes' words' : List ℕ) → bytes' ≡ overlaid 0 bytes offset new → length words' ≡ length words
          → ((k : ℕ) → has_bit words' k ≡ (not (is_between offset (offset + length new) k) && has_bit words k)) → 1 ≤ length new → length new ≤ 8
          → (kept_with all s bytes' words' ≡ kept_after m (Store address new)) × IsRoom all s bytes' words'
      stored_window bytes' words' bytes_are as_many fewer one few =
          let stays = stack_stays one few in
          let same = same_store us s.memory.place bytes words is.are address offset (length new) (hit_at all address (length new) offset direction hit) not_fixed in
          let bytes_is : bytes' ≡ stored_at (addresses us) bytes address new = bytes_are ∙ stores_same (addresses us) bytes 0 address offset new is.are.long same in
          let flags_are = flags_stored (addresses us) (has_bit words) (has_bit words') 0 address offset (length new) fewer same in (
            ap (λ st. let k : Kept = record { uses = us; place = s.memory.place; stack = st; frames = s.frames; bytes = bytes'; unwritten = listed (has_bit words') 0 (addresses us) } in k) (sym stays)
                ∙ ap₂ (λ bs fs. let k : Kept = record { uses = us; place = s.memory.place; stack = overlaid (task_place s.memory) s.memory.stack address new; frames = s.frames; bytes = bs; unwritten = fs } in k) bytes_is flags_are,
            subst (λ bs. IsRoom all s bs words') (sym bytes_is) (record {
              placed = is.placed;
              are = are_kept us s.memory.place bytes words words' is.are address new as_many
                  (λ k known. fewer k ∙ ap (λ b. not (is_between offset (offset + length new) k) && b) known ∙ and_false (not (is_between offset (offset + length new) k)));
              none = is.none;
              whole = is.whole;
              short = is.short;
              high = is.high;
            }),
          )

  -- by the number that is stored
  module _ (address offset count : ℕ) (w : Width) (value : ℕ) (direction : Direction) (same : count ≡ bytes_of w) (hit : IsHit all address count offset direction) (held : windowed address count ≡ true) where
    abbrev new : List ℕ
    new = big_endian_bytes (bytes_of w) value

    long : length new ≡ bytes_of w
    long = length-big_endian_bytes (bytes_of w) value

    as_long : count ≡ length new
    as_long = same ∙ sym long

    hit_there : IsHit all address (length new) offset direction
    hit_there = subst (λ n. IsHit all address n offset direction) as_long hit

    held_there : windowed address (length new) ≡ true
    held_there = subst (λ n. windowed address n ≡ true) as_long held

    one : 1 ≤ length new
    one = omega (arith, long, (some_bytes w).0)

    pub number_fixed : writes direction ≡ false → kept_reply m (Store address new) ≡ Refuses rules.WroteInput
    number_fixed fixed = store_fixed address offset new direction hit_there held_there one fixed

    module _ (written : writes direction ≡ true) where
      pub number_says : kept_reply m (Store address new) ≡ Says 0
      number_says = stores_window address offset new direction hit_there held_there written

      pub number_stored : (bytes' words' : List ℕ) → bytes' ≡ overlaid 0 bytes offset new → length words' ≡ length words
          → ((k : ℕ) → has_bit words' k ≡ (not (is_between offset (offset + count) k) && has_bit words k))
          → (kept_with all s bytes' words' ≡ kept_after m (Store address new)) × IsRoom all s bytes' words'
      number_stored bytes' words' bytes_are as_many fewer =
          stored_window address offset new direction hit_there held_there written bytes' words' bytes_are as_many
          (λ k. fewer k ∙ ap (λ n. not (is_between offset (offset + n) k) && has_bit words k) as_long) one (omega (arith, long, (some_bytes w).1))

  -- ---- entries and leavings

  entered_by : (deep : Bool) (r : Reply) (base : ℕ) → (if deep then Refuses rules.TaskStack else r) ≡ Says base → deep ≡ false
  entered_by true r base says = absurd (cc)
  entered_by false r base says = refl

  pub entered : (size base : ℕ) → space_reply s (Enter size) ≡ Says base → (s' : TaskState) → s' ≡ space_after s (Enter size)
      → (kept_with all s' bytes words ≡ kept_after m (Enter size)) × IsRoom all s' bytes words
  entered size base says s' learns =
      let shallow = entered_by (is_too_deep task_stack s.frames size) (entry_reply (place_of s) size) base says in
      let fits = fits_by (fold (λ sum f. sum + f) size s.frames) (nat_le 1024 (length s.frames)) shallow in
      let whole = total-from size s.frames in
      let more = total-from (0 + size) s.frames in
      let long = length-append (replicate size 0) s.memory.stack in
      let zeros = length-replicate {A = ℕ} size 0 in (
        ap (λ s. kept_with all s bytes words) learns,
        subst (λ s. IsRoom all s bytes words) (sym learns) (record {
          placed = is.placed;
          are = is.are;
          none = is.none;
          whole = omega (arith, long, zeros, more, is.whole);
          short = omega (arith, long, zeros, fits, whole, is.whole);
          high = is.high;
        }),
      )

  left_by : (b : Bool) (r : ℕ) → (if b then Says 0 else Fails) ≡ Says r → b ≡ true
  left_by true r says = refl
  left_by false r says = absurd (cc)

  leaving_by : (b : Bool) (base size : ℕ) → b ≡ true → is_innermost s.memory s.frames base size ≡ true
      → IsRoom all (if b then space_behind s (Leave base size) else s) bytes words
  leaving_by false base size held inner = absurd (cc)
  leaving_by true base size held inner =
      let parts = and_parts (nat_le size (length s.memory.stack)) (is_first size s.frames)
      (and_parts (base + length s.memory.stack == s.memory.place) (nat_le size (length s.memory.stack) && is_first size s.frames) inner).1 in
      let rest = left_total s.frames size parts.1 in
      record {
        placed = is.placed;
        are = is.are;
        none = is.none;
        whole = omega (arith, length-drop size s.memory.stack, rest, is.whole);
        short = omega (arith, length-drop size s.memory.stack, is.short);
        high = is.high;
      }

  kept_leaving : (b : Bool) (base size : ℕ) → kept_with all (if b then space_behind s (Leave base size) else s) bytes words ≡ (if b then kept_left m size else m)
  kept_leaving true base size = refl
  kept_leaving false base size = refl

  pub left : (base size r : ℕ) → space_reply s (Leave base size) ≡ Says r → (s' : TaskState) → s' ≡ space_after s (Leave base size)
      → (kept_with all s' bytes words ≡ kept_after m (Leave base size)) × IsRoom all s' bytes words
  left base size r says s' learns =
      let b = is_innermost s.memory s.frames base size in
      let held = left_by b r says in (
        ap (λ s. kept_with all s bytes words) learns ∙ kept_leaving b base size,
        subst (λ s. IsRoom all s bytes words) (sym learns) (leaving_by b base size held held),
      )
