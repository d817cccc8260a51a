-- The world of a task alone replies to a machine as the task's room does, with a task's units.
use Rattle.std.proofs.Common.{◌≡◌, ℕ, zero, suc, ◌+◌, ◌-◌, ◌≤◌, Bool, true, false, not, ◌&&◌, ◌||◌, List, [], ◌∷◌, length, replicate, map, fold, slice_index, Option, Some, None, option_map, unwrap_or, nat_le, nat_lt, ◌==◌, IsTrue, refl, ap, ap₂, sym, ◌∙◌, arith, add-zero, if◌then◌else◌}
use Rattle.std.specs.List.{list_any}
use Rattle.std.proofs.lemmas.Bool.{and_parts, leb-true, ltb-true, le-leb}
use Rattle.std.proofs.lemmas.Bool.Decides.{nat_tests}
use Rattle.std.proofs.lemmas.List.{length-append, length-replicate, length-drop, append-nil}
use Rattle.css_base.specs.declared.limits.Limits.{Limits}
use Rattle.css_base.specs.declared.rule.Rule.TheVariants as rules
use Rattle.css_semantics.specs.Dialogue.{Action, Enter, Turn, Leave, Load, Store, Out, In, Malloc, Calls, Returns, Start, Finish, Barrier, Wait, WaitFault, DimFault, Fault, End, Tape, Says, Fails, Refuses}
use Rattle.css_semantics.specs.Worlds.{state_after, is_of_machine, is_fault, AreOfMachine, Follows}
use Rattle.css_semantics.specs.Memory.{big_endian, is_between, overlaid}
use Rattle.css_semantics.specs.Units.{Metered, with_units, within, metered, spending}
use Rattle.css_semantics.specs.Tasks.{Use, reads, writes}
use Rattle.css_semantics.specs.Pending.{some_from}
use Rattle.css_semantics.specs.Rules.{check, first_broken, judged_reply, task_stack, is_too_deep, is_in_window, is_in_frame, is_outside, is_given_for, is_unwritten, has_stored}
use Rattle.css_semantics.specs.Alone.{Region, Solitude, task_place, task_byte, task_bytes, is_in_region, byte_of_regions, overlaid_region, is_first, is_innermost, alone_reply, alone_behind, alone_after, at_entry, alone_world}
use Rattle.css_semantics.specs.TaskSpaces.{total}
use Rattle.css_semantics.proofs.StackPlaces.{length-overlaid}
use Rattle.css_semantics.proofs.TaskWorlds.{total-from, left_total}
use Rattle.css_task.specs.Rooms.{Room, byte_of, body_of, bytes_from, room_reply, new_byte, left, stored, room_after}

-- functions that are equal everywhere
pub same_everywhere : {B : Type 0} (f g : ℕ → B) → ((n : ℕ) → f n ≡ g n) → f ≡ g
same_everywhere f g each = λ i n. each n i

-- ---- the room of a task by itself

-- the byte at an address, of the first region that has it
abbrev pub byte_in : List Region → ℕ → Option ℕ
byte_in [] at = None
byte_in (r ∷ regions) at = if is_in_region r at then Some (slice_index r.bytes (at - r.base)) else byte_in regions at

abbrev pub room_of : Solitude → Room
room_of s = record {
  uses = s.body.uses;
  place = s.memory.place;
  stack = s.memory.stack;
  frames = s.body.frames;
  bytes = byte_in s.memory.regions;
  unwritten = is_unwritten s.body;
}

abbrev pub counted : (limit : ℕ) → Solitude → Metered Room
counted limit s = with_units (room_of s) (limit - s.body.units)

-- what stays so along each tape: the windows; the stack is made of the frames, and has room below it
pub record Stands (uses : List Use) (s : Solitude) : Type 0 where
  pub uses_are : s.body.uses ≡ uses
  pub same_place : s.body.place ≡ s.memory.place
  pub room : 16384 ≤ s.memory.place
  pub stack : length s.memory.stack ≡ total s.body.frames

-- ---- bytes

or_zero : (b : Bool) (x : ℕ) (o : Option ℕ) (y : ℕ) → y ≡ unwrap_or o 0 → (if b then x else y) ≡ unwrap_or (if b then Some x else o) 0
or_zero true x o y is = refl
or_zero false x o y is = is

region_bytes_are : (regions : List Region) (at : ℕ) → byte_of_regions regions at ≡ unwrap_or (byte_in regions at) 0
region_bytes_are [] at = refl
region_bytes_are (r ∷ regions) at =
    or_zero (is_in_region r at) (slice_index r.bytes (at - r.base)) (byte_in regions at) (byte_of_regions regions at) (region_bytes_are regions at)

pub byte_is : (s : Solitude) (at : ℕ) → task_byte s.memory at ≡ byte_of (room_of s) at
byte_is s at =
    ap (λ n. if is_between (task_place s.memory) s.memory.place at then slice_index s.memory.stack (at - task_place s.memory) else n)
    (region_bytes_are s.memory.regions at)

pub bytes_are : (s : Solitude) (at width : ℕ) → task_bytes s.memory at width ≡ bytes_from (room_of s) at width
bytes_are s at zero = refl
bytes_are s at (suc width) = ap₂ (λ byte bytes. byte ∷ bytes) (byte_is s at) (bytes_are s (at + 1) width)

-- ---- replies

unit_reply : (deep room : Bool) (limit used x : ℕ) → (deep ≡ false → room ≡ true) → (left : ℕ) → limit - used ≡ left
    → judged_reply (first_broken (check rules.OutsideArguments false ∷ check rules.WroteInput false ∷ check rules.ReadUnwritten false ∷ check rules.LeftUnwritten false
    ∷ check rules.TaskStack deep ∷ check rules.Units (nat_le limit used) ∷ [])) (Says x)
    ≡ within left (if deep then Refuses rules.TaskStack else (if room then Says x else Fails))
unit_reply true room limit used x fine zero left = refl
unit_reply true room limit used x fine (suc n) left = refl
unit_reply false room limit used x fine zero left =
    let none : nat_le limit used ≡ true = grind (arith, nat_tests) in
    rw (fine refl, none)
unit_reply false room limit used x fine (suc n) left =
    let some : nat_le limit used ≡ false = grind (arith, nat_tests) in
    rw (fine refl, some)

load_reply : (outside unread : Bool) (x : ℕ)
    → judged_reply (first_broken (check rules.OutsideArguments outside ∷ check rules.WroteInput false ∷ check rules.ReadUnwritten unread ∷ check rules.LeftUnwritten false
    ∷ check rules.TaskStack false ∷ check rules.Units false ∷ [])) (Says x)
    ≡ (if outside then Refuses rules.OutsideArguments else (if unread then Refuses rules.ReadUnwritten else Says x))
load_reply true unread x = refl
load_reply false true x = refl
load_reply false false x = refl

store_reply : (outside fixed : Bool)
    → judged_reply (first_broken (check rules.OutsideArguments outside ∷ check rules.WroteInput fixed ∷ check rules.ReadUnwritten false ∷ check rules.LeftUnwritten false
    ∷ check rules.TaskStack false ∷ check rules.Units false ∷ [])) (Says 0)
    ≡ (if outside then Refuses rules.OutsideArguments else (if fixed then Refuses rules.WroteInput else Says 0))
store_reply true fixed = refl
store_reply false true = refl
store_reply false false = refl

pub fits_by : (sum : ℕ) (many : Bool) → (nat_lt 16384 sum || many) ≡ false → sum ≤ 16384
fits_by sum many shallow = grind (arith, nat_tests)

module _ (limits : Limits) (uses : List Use) (s : Solitude) (stands : Stands uses s) where
  -- an entry that isn't too deep finds room
  room_below : (size : ℕ) → is_too_deep task_stack s.body.frames size ≡ false → nat_le size (task_place s.memory) ≡ true
  room_below size shallow =
      let whole = total-from size s.body.frames in
      let stack = stands.stack in
      let room = stands.room in
      let fits : fold (λ sum f. sum + f) size s.body.frames ≤ 16384 = fits_by (fold (λ sum f. sum + f) size s.body.frames) (nat_le 1024 (length s.body.frames)) shallow in
      le-leb size (task_place s.memory) (omega (arith, whole, stack, room, fits))

  -- the replies are the same
  pub same_reply : (action : Action) → IsTrue (is_of_machine action) → alone_reply limits s action ≡ metered room_reply (counted limits.task_units s) action
  same_reply (Enter size) machine =
      unit_reply (is_too_deep task_stack s.body.frames size) (nat_le size (task_place s.memory)) limits.task_units s.body.units (task_place s.memory - size) (room_below size) (limits.task_units - s.body.units) refl
  same_reply Turn machine = unit_reply false true limits.task_units s.body.units 0 (λ h. refl) (limits.task_units - s.body.units) refl
  same_reply (Leave base size) machine = refl
  same_reply (Load address width) machine =
      load_reply (is_outside s.body address width) (some_from (is_unwritten s.body) address width) (big_endian (task_bytes s.memory address width))
      ∙ ap (λ place. if not (list_any (λ u. is_in_window u.window address width) s.body.uses || is_in_frame place s.body.frames address width) then Refuses rules.OutsideArguments
      else (if some_from (is_unwritten s.body) address width then Refuses rules.ReadUnwritten else Says (big_endian (task_bytes s.memory address width)))) stands.same_place
      ∙ ap (λ bytes. if is_outside (body_of (room_of s)) address width then Refuses rules.OutsideArguments
      else (if some_from (is_unwritten s.body) address width then Refuses rules.ReadUnwritten else Says (big_endian bytes))) (bytes_are s address width)
  same_reply (Store address bytes) machine =
      store_reply (is_outside s.body address (length bytes)) (some_from (is_given_for (λ d. not (writes d)) s.body) address (length bytes))
      ∙ ap (λ place. if not (list_any (λ u. is_in_window u.window address (length bytes)) s.body.uses || is_in_frame place s.body.frames address (length bytes)) then Refuses rules.OutsideArguments
      else (if some_from (is_given_for (λ d. not (writes d)) s.body) address (length bytes) then Refuses rules.WroteInput else Says 0)) stands.same_place
  same_reply (Out bytes) machine = absurd (cc)
  same_reply In machine = absurd (cc)
  same_reply (Malloc size) machine = absurd (cc)
  same_reply (Calls call) machine = absurd (cc)
  same_reply Returns machine = absurd (cc)
  same_reply Start machine = absurd (cc)
  same_reply Finish machine = absurd (cc)
  same_reply Barrier machine = absurd (cc)
  same_reply (Wait address) machine = absurd (cc)
  same_reply WaitFault machine = absurd (cc)
  same_reply DimFault machine = absurd (cc)
  same_reply (Fault kind) machine = absurd (cc)
  same_reply (End result) machine = absurd (cc)

-- ---- what actions do

between_parts : (from to a : ℕ) → is_between from to a ≡ true → (from ≤ a) × (suc a ≤ to)
between_parts from to a h =
    let parts = and_parts (nat_le from a) (nat_lt a to) h in
    (leb-true from a parts.0, ltb-true a to parts.1)

-- a byte of bytes in which something is stored
pub overlaid_byte : (from : ℕ) (bytes : List ℕ) (address : ℕ) (new : List ℕ) (k : ℕ) → suc k ≤ length bytes → slice_index (overlaid from bytes address new) k ≡ new_byte address new (from + k) (slice_index bytes k)
overlaid_byte from [] address new k below = absurd (omega arith)
overlaid_byte from (b ∷ bytes) address new zero below =
    let same : from ≡ from + 0 = omega arith in
    ap (λ n. new_byte address new n b) same
overlaid_byte from (b ∷ bytes) address new (suc k) below =
    let on : from + 1 + k ≡ from + suc k = omega arith in
    overlaid_byte (from + 1) bytes address new k (omega arith) ∙ ap (λ n. new_byte address new n (slice_index bytes k)) on

stored_in : (address : ℕ) (new : List ℕ) (r : Region) (regions : List Region) (at : ℕ) (b : Bool) → is_in_region r at ≡ b
    → byte_in (map (overlaid_region address new) regions) at ≡ option_map (new_byte address new at) (byte_in regions at)
    → (if b then Some (slice_index (overlaid r.base r.bytes address new) (at - r.base)) else byte_in (map (overlaid_region address new) regions) at)
    ≡ option_map (new_byte address new at) (if b then Some (slice_index r.bytes (at - r.base)) else byte_in regions at)
stored_in address new r regions at false is rest = rest
stored_in address new r regions at true is rest =
    let parts = between_parts r.base (r.base + length r.bytes) at is in
    let there : r.base + (at - r.base) ≡ at = omega (arith, parts.0) in
    ap Some (overlaid_byte r.base r.bytes address new (at - r.base) (omega (arith, parts.0, parts.1))
    ∙ ap (λ n. new_byte address new n (slice_index r.bytes (at - r.base))) there)

bytes_stored : (address : ℕ) (new : List ℕ) (regions : List Region) (at : ℕ)
    → byte_in (map (overlaid_region address new) regions) at ≡ option_map (new_byte address new at) (byte_in regions at)
bytes_stored address new [] at = refl
bytes_stored address new (r ∷ regions) at =
    ap (λ n. if is_between r.base (r.base + n) at then Some (slice_index (overlaid r.base r.bytes address new) (at - r.base)) else byte_in (map (overlaid_region address new) regions) at)
    (length-overlaid r.base r.bytes address new)
    ∙ stored_in address new r regions at (is_in_region r at) refl (bytes_stored address new regions at)

and_true : (b : Bool) → (b && true) ≡ b
and_true true = refl
and_true false = refl

still_unwritten : (given here before : Bool) → ((given && not before) && not here) ≡ (given && not (here || before))
still_unwritten true true true = refl
still_unwritten true true false = refl
still_unwritten true false before = and_true (not before)
still_unwritten false here before = refl

room_stored : (s : Solitude) (address : ℕ) (new : List ℕ) → stored (room_of s) address new ≡ room_of (alone_behind s (Store address new))
room_stored s address new =
    ap₂ (λ (bytes : ℕ → Option ℕ) (unwritten : ℕ → Bool). let r : Room = record {
      uses = s.body.uses;
      place = s.memory.place;
      stack = overlaid (task_place s.memory) s.memory.stack address new;
      frames = s.body.frames;
      bytes = bytes;
      unwritten = unwritten;
    } in r)
    (same_everywhere _ _ (λ at. sym (bytes_stored address new s.memory.regions at)))
    (same_everywhere _ _ (λ at. still_unwritten (is_given_for (λ d. not (reads d)) s.body at) (is_between address (address + length new) at) (has_stored s.body at)))

counted_leaving : (limit : ℕ) (b : Bool) (s : Solitude) (base size : ℕ)
    → with_units (if b then left (room_of s) size else room_of s) (limit - s.body.units)
    ≡ counted limit (if b then alone_behind s (Leave base size) else s)
counted_leaving limit true s base size = ap (λ n. with_units (left (room_of s) size) (limit - n)) (sym (add-zero s.body.units))
counted_leaving limit false s base size = refl

-- the states go along
pub same_after : (limit : ℕ) (s : Solitude) (action : Action) → IsTrue (is_of_machine action || is_fault action)
    → spending room_after (counted limit s) action ≡ counted limit (alone_after s action)
same_after limit s (Enter size) machine = ap (λ n. with_units (room_of (alone_behind s (Enter size))) n) (omega arith)
same_after limit s Turn machine = ap (λ n. with_units (room_of s) n) (omega arith)
same_after limit s (Leave base size) machine = counted_leaving limit (is_innermost s.memory s.body.frames base size) s base size
same_after limit s (Load address width) machine = ap (λ n. with_units (room_of s) (limit - n)) (sym (add-zero s.body.units))
same_after limit s (Store address bytes) machine =
    ap (λ r. with_units r (limit - s.body.units)) (room_stored s address bytes)
    ∙ ap (λ n. with_units (room_of (alone_behind s (Store address bytes))) (limit - n)) (sym (add-zero s.body.units))
same_after limit s (Fault kind) machine = ap (λ n. with_units (room_of s) (limit - n)) (sym (add-zero s.body.units))
same_after limit s (Out bytes) machine = absurd (cc)
same_after limit s In machine = absurd (cc)
same_after limit s (Malloc size) machine = absurd (cc)
same_after limit s (Calls call) machine = absurd (cc)
same_after limit s Returns machine = absurd (cc)
same_after limit s Start machine = absurd (cc)
same_after limit s Finish machine = absurd (cc)
same_after limit s Barrier machine = absurd (cc)
same_after limit s (Wait address) machine = absurd (cc)
same_after limit s WaitFault machine = absurd (cc)
same_after limit s DimFault machine = absurd (cc)
same_after limit s (End result) machine = absurd (cc)

leaving_stands : (uses : List Use) (s : Solitude) (base size : ℕ) (b : Bool) → is_innermost s.memory s.body.frames base size ≡ b → Stands uses s
    → Stands uses (if b then alone_behind s (Leave base size) else s)
leaving_stands uses s base size false is stands = stands
leaving_stands uses s base size true is stands =
    let inner = (and_parts (base + length s.memory.stack == s.memory.place) (nat_le size (length s.memory.stack) && is_first size s.body.frames) is).1 in
    let parts = and_parts (nat_le size (length s.memory.stack)) (is_first size s.body.frames) inner in
    record {
      uses_are = stands.uses_are;
      same_place = stands.same_place;
      room = stands.room;
      stack = omega (arith, length-drop size s.memory.stack, left_total s.body.frames size parts.1, stands.stack);
    }

same_stands : (uses : List Use) (s : Solitude) (units : ℕ) → Stands uses s
    → Stands uses (record { memory = s.memory; body = record { uses = s.body.uses; place = s.body.place; frames = s.body.frames; units = units; stored = s.body.stored } })
same_stands uses s units stands = record { uses_are = stands.uses_are; same_place = stands.same_place; room = stands.room; stack = stands.stack }

pub stands_after : (uses : List Use) (s : Solitude) (action : Action) → IsTrue (is_of_machine action || is_fault action) → Stands uses s → Stands uses (alone_after s action)
stands_after uses s (Enter size) machine stands = record {
  uses_are = stands.uses_are;
  same_place = stands.same_place;
  room = stands.room;
  stack = omega (arith, length-append (replicate size 0) s.memory.stack, length-replicate {A = ℕ} size 0, total-from (0 + size) s.body.frames, stands.stack);
}
stands_after uses s Turn machine stands = same_stands uses s (s.body.units + 1) stands
stands_after uses s (Leave base size) machine stands = leaving_stands uses s base size (is_innermost s.memory s.body.frames base size) refl stands
stands_after uses s (Load address width) machine stands = same_stands uses s (s.body.units + 0) stands
stands_after uses s (Store address bytes) machine stands = record {
  uses_are = stands.uses_are;
  same_place = stands.same_place;
  room = stands.room;
  stack = length-overlaid (task_place s.memory) s.memory.stack address bytes ∙ stands.stack;
}
stands_after uses s (Fault kind) machine stands = same_stands uses s (s.body.units + 0) stands
stands_after uses s (Out bytes) machine stands = absurd (cc)
stands_after uses s In machine stands = absurd (cc)
stands_after uses s (Malloc size) machine stands = absurd (cc)
stands_after uses s (Calls call) machine stands = absurd (cc)
stands_after uses s Returns machine stands = absurd (cc)
stands_after uses s Start machine stands = absurd (cc)
stands_after uses s Finish machine stands = absurd (cc)
stands_after uses s Barrier machine stands = absurd (cc)
stands_after uses s (Wait address) machine stands = absurd (cc)
stands_after uses s WaitFault machine stands = absurd (cc)
stands_after uses s DimFault machine stands = absurd (cc)
stands_after uses s (End result) machine stands = absurd (cc)

-- ---- along a tape

pub stands_along : (uses : List Use) (s : Solitude) (tape : Tape) → AreOfMachine tape → Stands uses s → Stands uses (state_after alone_after s tape)
stands_along uses s [] machine stands = stands
stands_along uses s (i ∷ tape) machine stands = stands_after uses (state_after alone_after s tape) i.action machine.0 (stands_along uses s tape machine.1 stands)

pub counted_along : (limit : ℕ) (s : Solitude) (tape : Tape) → AreOfMachine tape → state_after (spending room_after) (counted limit s) tape ≡ counted limit (state_after alone_after s tape)
counted_along limit s [] machine = refl
counted_along limit s (i ∷ tape) machine =
    ap (λ m. spending room_after m i.action) (counted_along limit s tape machine.1) ∙ same_after limit (state_after alone_after s tape) i.action machine.0

-- From its start on, the world of a task alone replies to a machine as its room does, with the task's units.
pub world_follows : (limits : Limits) (uses : List Use) (inputs : List (List ℕ)) (place : ℕ) → Stands uses (at_entry uses inputs place)
    → Follows (alone_world limits uses inputs place) (metered room_reply) (spending room_after) [] (counted limits.task_units (at_entry uses inputs place))
world_follows limits uses inputs place stands = record {
  replies = λ more i machine asked.
      let s = state_after alone_after (at_entry uses inputs place) more in
      ap (λ t. alone_reply limits (state_after alone_after (at_entry uses inputs place) t) i.action) (append-nil more)
      ∙ same_reply limits uses s (stands_along uses (at_entry uses inputs place) more machine stands) i.action asked
      ∙ ap (λ m. metered room_reply m i.action) (sym (counted_along limits.task_units (at_entry uses inputs place) more machine));
}
