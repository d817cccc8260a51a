-- The world of a task alone replies to a machine as the space of its memory and frames does, with a task's units.
use Rattle.std.proofs.Common.{◌≡◌, ℕ, zero, suc, ◌+◌, ◌-◌, ◌*◌, ◌≤◌, Bool, true, false, not, ◌&&◌, ◌||◌, List, [], ◌∷◌, ◌++◌, length, take, drop, replicate, map, filter, fold, nat_le, nat_lt, nat_eq, ◌==◌, IsTrue, All, refl, ap, sym, subst, ◌∙◌, arith, add-zero, if◌then◌else◌}
use Rattle.std.specs.List.{list_any}
use Rattle.std.proofs.lemmas.Bool.{and_parts, leb-true, eqb-true, le-leb}
use Rattle.std.proofs.lemmas.Bool.Decides.{nat_tests}
use Rattle.std.proofs.lemmas.List.{length-append, length-replicate, length-drop, append-nil}
use Rattle.css_base.specs.declared.direction.Direction.TheVariants as directions
use Rattle.css_base.specs.declared.limits.Limits.{Limits}
use Rattle.css_base.specs.declared.rule.Rule.TheVariants as rules
use Rattle.css_semantics.specs.Dialogue.{Action, Enter, Turn, Leave, Load, Store, Out, In, Malloc, Calls, Returns, Start, Finish, Barrier, Wait, WaitFault, DimFault, Fault, End, Item, Tape, Reply, Says, Fails, Refuses}
use Rattle.css_semantics.specs.Worlds.{state_after, is_of_machine, is_fault, AreOfMachine, Follows}
use Rattle.css_semantics.specs.Memory.{all_from, big_endian, overlaid}
use Rattle.css_semantics.specs.Units.{Metered, with_units, within, metered, spending}
use Rattle.css_semantics.specs.Tasks.{Window, plain, Use, Body, reads, writes, window_length, has_byte, frames_after}
use Rattle.css_semantics.specs.Pending.{some_from}
use Rattle.css_semantics.specs.Rules.{Check, check, first_broken, judged_reply, checks_of_task, wants_unit, task_stack, is_too_deep, is_in_window, is_in_frame, is_given_for, is_unwritten, has_stored, all_of_window}
use Rattle.css_semantics.specs.Alone.{Region, TaskMemory, Solitude, task_place, task_bytes, task_after, overlaid_region, is_first, is_innermost, task_reply, alone_reply, alone_behind, alone_after, at_entry, alone_world, given_regions, regions_of, first_input}
use Rattle.css_semantics.proofs.StackPlaces.{length-overlaid}
use Rattle.css_semantics.proofs.Windows.{window_by}
use Rattle.css_semantics.specs.TaskSpaces.{TaskState, place_of, holds, is_given, entry_reply, space_reply, space_behind, space_after, total}

-- ---- sums of frames

pub total-from : (first : ℕ) (frames : List ℕ) → fold (λ sum f. sum + f) first frames ≡ first + total frames
total-from first [] = sym (add-zero first)
total-from first (f ∷ frames) = omega (arith, total-from (first + f) frames, total-from (0 + f) frames)

-- ---- rules that can't be broken here

-- a window that is read and written
abbrev pub IsBoth : Use → Type 0
IsBoth u = u.direction ≡ directions.InOut

pub all_head : {X : Type 0} (P : X → Type 0) (x : X) (xs : List X) → All P (x ∷ xs) → P x
all_head P x xs all = all 0 x (omega arith)

pub all_tail : {X : Type 0} (P : X → Type 0) (x : X) (xs : List X) → All P (x ∷ xs) → All P xs
all_tail P x xs all = λ k d within. all (suc k) d (omega (arith, within))

pub all_cons : {X : Type 0} (P : X → Type 0) (x : X) (xs : List X) → P x → All P xs → All P (x ∷ xs)
all_cons P x xs head tail zero d within = head
all_cons P x xs head tail (suc k) d within = tail k d (omega (arith, within))

none_unread : (uses : List Use) (address : ℕ) → All IsBoth uses → list_any (λ u. not (reads u.direction) && has_byte u.window address) uses ≡ false
none_unread [] address both = refl
none_unread (u ∷ uses) address both = rw (all_head IsBoth u uses both, none_unread uses address (all_tail IsBoth u uses both))

none_unwritten : (uses : List Use) (address : ℕ) → All IsBoth uses → list_any (λ u. not (writes u.direction) && has_byte u.window address) uses ≡ false
none_unwritten [] address both = refl
none_unwritten (u ∷ uses) address both = rw (all_head IsBoth u uses both, none_unwritten uses address (all_tail IsBoth u uses both))

all_pass : (test : ℕ → Bool) (address width : ℕ) → ((a : ℕ) → test a ≡ false) → all_from (λ a. not (test a)) address width ≡ true
all_pass test address zero never = refl
all_pass test address (suc width) never = rw (never address, all_pass test (address + 1) width never)

none_passes : (test : ℕ → Bool) (address width : ℕ) → ((a : ℕ) → test a ≡ false) → some_from test address width ≡ false
none_passes test address width never = ap not (all_pass test address width never)

-- ---- the state of the space

-- what the space is, where the task by itself is in a state
abbrev pub space_of : Solitude → TaskState
space_of s = record { memory = s.memory; frames = s.body.frames }

abbrev pub counted : (limit : ℕ) → Solitude → Metered TaskState
counted limit s = with_units (space_of s) (limit - s.body.units)

-- what stays so along each tape: the windows, and their rows' regions; the stack is made of the frames, and has room below it
pub record Stands (uses : List Use) (s : Solitude) : Type 0 where
  pub uses_are : s.body.uses ≡ uses
  pub same_place : s.body.place ≡ s.memory.place
  pub room : 16384 ≤ s.memory.place
  pub stack : length s.memory.stack ≡ total s.body.frames
  pub regions : (address size : ℕ) → list_any (holds address size) s.memory.regions ≡ list_any (λ u. is_in_window u.window address size) uses

-- ---- replies

-- an entry or a turn, by whether it is too deep, and the units
unit_reply : (deep room : Bool) (limit used x : ℕ) → (deep ≡ false → room ≡ true) → (left : ℕ) → limit - used ≡ left
    → judged_reply (first_broken (check rules.OutsideArguments false ∷ check rules.WroteInput false ∷ check rules.ReadUnwritten false ∷ check rules.LeftUnwritten false
    ∷ check rules.TaskStack deep ∷ check rules.Units (nat_le limit used) ∷ [])) (Says x)
    ≡ within left (if deep then Refuses rules.TaskStack else (if room then Says x else Fails))
unit_reply true room limit used x fine zero left = refl
unit_reply true room limit used x fine (suc n) left = refl
unit_reply false room limit used x fine zero left =
    let none : nat_le limit used ≡ true = grind (arith, nat_tests) in
    rw (fine refl, none)
unit_reply false room limit used x fine (suc n) left =
    let some : nat_le limit used ≡ false = grind (arith, nat_tests) in
    rw (fine refl, some)

-- a load or a store, by whether it is outside
access_reply : (given unread : Bool) (x : ℕ) → unread ≡ false
    → judged_reply (first_broken (check rules.OutsideArguments (not given) ∷ check rules.WroteInput false ∷ check rules.ReadUnwritten unread ∷ check rules.LeftUnwritten false
    ∷ check rules.TaskStack false ∷ check rules.Units false ∷ [])) (Says x)
    ≡ (if given then Says x else Refuses rules.OutsideArguments)
access_reply true unread x none = rw none
access_reply false unread x none = refl

store_reply : (given unwritten : Bool) → unwritten ≡ false
    → judged_reply (first_broken (check rules.OutsideArguments (not given) ∷ check rules.WroteInput unwritten ∷ check rules.ReadUnwritten false ∷ check rules.LeftUnwritten false
    ∷ check rules.TaskStack false ∷ check rules.Units false ∷ [])) (Says 0)
    ≡ (if given then Says 0 else Refuses rules.OutsideArguments)
store_reply true unwritten none = rw none
store_reply false unwritten none = refl

fits_by : (sum : ℕ) (many : Bool) → (nat_lt 16384 sum || many) ≡ false → sum ≤ 16384
fits_by sum many shallow = grind (arith, nat_tests)

module _ (limits : Limits) (uses : List Use) (both : All IsBoth uses) (s : Solitude) (stands : Stands uses s) where
  -- an entry that isn't too deep finds room
  room_below : (size : ℕ) → is_too_deep task_stack s.body.frames size ≡ false → nat_le size (task_place s.memory) ≡ true
  room_below size shallow =
      let whole = total-from size s.body.frames in
      let stack = stands.stack in
      let room = stands.room in
      let fits : fold (λ sum f. sum + f) size s.body.frames ≤ 16384 = fits_by (fold (λ sum f. sum + f) size s.body.frames) (nat_le 1024 (length s.body.frames)) shallow in
      le-leb size (task_place s.memory) (omega (arith, whole, stack, room, fits))

  given_same : (address size : ℕ) → not (list_any (λ u. is_in_window u.window address size) s.body.uses || is_in_frame s.body.place s.body.frames address size) ≡ not (is_given (space_of s) address size)
  given_same address size = rw (stands.uses_are, stands.same_place, stands.regions address size)

  unread : (address width : ℕ) → some_from (is_unwritten s.body) address width ≡ false
  unread address width = none_passes (is_unwritten s.body) address width (λ a. rw (stands.uses_are, none_unread uses a both))

  unwritten : (address width : ℕ) → some_from (is_given_for (λ d. not (writes d)) s.body) address width ≡ false
  unwritten address width = none_passes (is_given_for (λ d. not (writes d)) s.body) address width (λ a. rw (stands.uses_are, none_unwritten uses a both))

  -- the replies are the same
  pub same_reply : (action : Action) → IsTrue (is_of_machine action) → alone_reply limits s action ≡ metered space_reply (counted limits.task_units s) action
  same_reply (Enter size) machine =
      unit_reply (is_too_deep task_stack s.body.frames size) (nat_le size (task_place s.memory)) limits.task_units s.body.units (task_place s.memory - size) (room_below size) (limits.task_units - s.body.units) refl
  same_reply Turn machine = unit_reply false true limits.task_units s.body.units 0 (λ h. refl) (limits.task_units - s.body.units) refl
  same_reply (Leave base size) machine = refl
  same_reply (Load address width) machine =
      ap (λ b. judged_reply (first_broken (check rules.OutsideArguments b ∷ check rules.WroteInput false ∷ check rules.ReadUnwritten (some_from (is_unwritten s.body) address width) ∷ check rules.LeftUnwritten false ∷ check rules.TaskStack false ∷ check rules.Units false ∷ [])) (Says (big_endian (task_bytes s.memory address width)))) (given_same address width)
      ∙ access_reply (is_given (space_of s) address width) (some_from (is_unwritten s.body) address width) (big_endian (task_bytes s.memory address width)) (unread address width)
  same_reply (Store address bytes) machine =
      ap (λ b. judged_reply (first_broken (check rules.OutsideArguments b ∷ check rules.WroteInput (some_from (is_given_for (λ d. not (writes d)) s.body) address (length bytes)) ∷ check rules.ReadUnwritten false ∷ check rules.LeftUnwritten false ∷ check rules.TaskStack false ∷ check rules.Units false ∷ [])) (Says 0)) (given_same address (length bytes))
      ∙ store_reply (is_given (space_of s) address (length bytes)) (some_from (is_given_for (λ d. not (writes d)) s.body) address (length bytes)) (unwritten address (length bytes))
  same_reply (Out bytes) machine = absurd (cc)
  same_reply In machine = absurd (cc)
  same_reply (Malloc size) machine = absurd (cc)
  same_reply (Calls call) machine = absurd (cc)
  same_reply Returns machine = absurd (cc)
  same_reply Start machine = absurd (cc)
  same_reply Finish machine = absurd (cc)
  same_reply Barrier machine = absurd (cc)
  same_reply (Wait address) machine = absurd (cc)
  same_reply WaitFault machine = absurd (cc)
  same_reply DimFault machine = absurd (cc)
  same_reply (Fault kind) machine = absurd (cc)
  same_reply (End result) machine = absurd (cc)

  kept_written : (a : ℕ) → is_unwritten s.body a ≡ false
  kept_written a = rw (stands.uses_are, none_unread uses a both)

  none_left : (some : List Use) → list_any (λ u. not (all_of_window (λ a. not (is_unwritten s.body a)) u.window)) some ≡ false
  none_left [] = refl
  none_left (u ∷ some) = rw (window_by (λ a. not (is_unwritten s.body a)) u.window (λ a has. ap not (kept_written a)), none_left some)

  -- nothing refuses the return
  pub returns_says : alone_reply limits s Returns ≡ Says 0
  returns_says =
      ap (λ b. judged_reply (first_broken (check rules.OutsideArguments false ∷ check rules.WroteInput false ∷ check rules.ReadUnwritten false ∷ check rules.LeftUnwritten b ∷ check rules.TaskStack false ∷ check rules.Units false ∷ [])) (Says 0)) (none_left s.body.uses)

-- ---- what actions do

counted_leaving : (limit : ℕ) (b : Bool) (s : Solitude) (base size : ℕ)
    → with_units (if b then space_behind (space_of s) (Leave base size) else space_of s) (limit - s.body.units)
    ≡ counted limit (if b then alone_behind s (Leave base size) else s)
counted_leaving limit true s base size = ap (λ n. with_units (space_behind (space_of s) (Leave base size)) (limit - n)) (sym (add-zero s.body.units))
counted_leaving limit false s base size = refl

-- the states go along
pub same_after : (limit : ℕ) (s : Solitude) (action : Action) → IsTrue (is_of_machine action || is_fault action)
    → spending space_after (counted limit s) action ≡ counted limit (alone_after s action)
same_after limit s (Enter size) machine = ap (λ n. with_units (space_behind (space_of s) (Enter size)) n) (omega arith)
same_after limit s Turn machine = ap (λ n. with_units (space_of s) n) (omega arith)
same_after limit s (Leave base size) machine = counted_leaving limit (is_innermost s.memory s.body.frames base size) s base size
same_after limit s (Load address width) machine = ap (λ n. with_units (space_of s) (limit - n)) (sym (add-zero s.body.units))
same_after limit s (Store address bytes) machine = ap (λ n. with_units (space_behind (space_of s) (Store address bytes)) (limit - n)) (sym (add-zero s.body.units))
same_after limit s (Fault kind) machine = ap (λ n. with_units (space_of s) (limit - n)) (sym (add-zero s.body.units))
same_after limit s (Out bytes) machine = absurd (cc)
same_after limit s In machine = absurd (cc)
same_after limit s (Malloc size) machine = absurd (cc)
same_after limit s (Calls call) machine = absurd (cc)
same_after limit s Returns machine = absurd (cc)
same_after limit s Start machine = absurd (cc)
same_after limit s Finish machine = absurd (cc)
same_after limit s Barrier machine = absurd (cc)
same_after limit s (Wait address) machine = absurd (cc)
same_after limit s WaitFault machine = absurd (cc)
same_after limit s DimFault machine = absurd (cc)
same_after limit s (End result) machine = absurd (cc)

-- a store moves no region
holds_stored : (regions : List Region) (at : ℕ) (new : List ℕ) (address size : ℕ)
    → list_any (holds address size) (map (overlaid_region at new) regions) ≡ list_any (holds address size) regions
holds_stored [] at new address size = refl
holds_stored (r ∷ regions) at new address size = rw (length-overlaid r.base r.bytes at new, holds_stored regions at new address size)

-- what is left of the frames
pub left_total : (frames : List ℕ) (size : ℕ) → is_first size frames ≡ true → total frames ≡ size + total (drop 1 frames)
left_total [] size first = absurd (cc)
left_total (f ∷ frames) size first = omega (arith, eqb-true f size first, total-from (0 + f) frames)

leaving_stands : (uses : List Use) (s : Solitude) (base size : ℕ) (b : Bool) → is_innermost s.memory s.body.frames base size ≡ b → Stands uses s
    → Stands uses (if b then alone_behind s (Leave base size) else s)
leaving_stands uses s base size false is stands = stands
leaving_stands uses s base size true is stands =
    let inner = (and_parts (base + length s.memory.stack == s.memory.place) (nat_le size (length s.memory.stack) && is_first size s.body.frames) is).1 in
    let parts = and_parts (nat_le size (length s.memory.stack)) (is_first size s.body.frames) inner in
    record {
      uses_are = stands.uses_are;
      same_place = stands.same_place;
      room = stands.room;
      stack = omega (arith, length-drop size s.memory.stack, left_total s.body.frames size parts.1, stands.stack);
      regions = stands.regions;
    }

pub stands_after : (uses : List Use) (s : Solitude) (action : Action) → IsTrue (is_of_machine action || is_fault action) → Stands uses s → Stands uses (alone_after s action)
stands_after uses s (Enter size) machine stands = record {
  uses_are = stands.uses_are;
  same_place = stands.same_place;
  room = stands.room;
  stack = omega (arith, length-append (replicate size 0) s.memory.stack, length-replicate {A = ℕ} size 0, total-from (0 + size) s.body.frames, stands.stack);
  regions = stands.regions;
}
stands_after uses s Turn machine stands = record { uses_are = stands.uses_are; same_place = stands.same_place; room = stands.room; stack = stands.stack; regions = stands.regions }
stands_after uses s (Leave base size) machine stands = leaving_stands uses s base size (is_innermost s.memory s.body.frames base size) refl stands
stands_after uses s (Load address width) machine stands = record { uses_are = stands.uses_are; same_place = stands.same_place; room = stands.room; stack = stands.stack; regions = stands.regions }
stands_after uses s (Store address bytes) machine stands = record {
  uses_are = stands.uses_are;
  same_place = stands.same_place;
  room = stands.room;
  stack = length-overlaid (task_place s.memory) s.memory.stack address bytes ∙ stands.stack;
  regions = λ at size. holds_stored s.memory.regions address bytes at size ∙ stands.regions at size;
}
stands_after uses s (Fault kind) machine stands = record { uses_are = stands.uses_are; same_place = stands.same_place; room = stands.room; stack = stands.stack; regions = stands.regions }
stands_after uses s (Out bytes) machine stands = absurd (cc)
stands_after uses s In machine stands = absurd (cc)
stands_after uses s (Malloc size) machine stands = absurd (cc)
stands_after uses s (Calls call) machine stands = absurd (cc)
stands_after uses s Returns machine stands = absurd (cc)
stands_after uses s Start machine stands = absurd (cc)
stands_after uses s Finish machine stands = absurd (cc)
stands_after uses s Barrier machine stands = absurd (cc)
stands_after uses s (Wait address) machine stands = absurd (cc)
stands_after uses s WaitFault machine stands = absurd (cc)
stands_after uses s DimFault machine stands = absurd (cc)
stands_after uses s (End result) machine stands = absurd (cc)

-- ---- along a tape

pub stands_along : (uses : List Use) (s : Solitude) (tape : Tape) → AreOfMachine tape → Stands uses s → Stands uses (state_after alone_after s tape)
stands_along uses s [] machine stands = stands
stands_along uses s (i ∷ tape) machine stands = stands_after uses (state_after alone_after s tape) i.action machine.0 (stands_along uses s tape machine.1 stands)

pub counted_along : (limit : ℕ) (s : Solitude) (tape : Tape) → AreOfMachine tape → state_after (spending space_after) (counted limit s) tape ≡ counted limit (state_after alone_after s tape)
counted_along limit s [] machine = refl
counted_along limit s (i ∷ tape) machine =
    ap (λ m. spending space_after m i.action) (counted_along limit s tape machine.1) ∙ same_after limit (state_after alone_after s tape) i.action machine.0

-- From its start on, the world of a task alone replies to a machine as the space does, with the task's units.
pub world_follows : (limits : Limits) (uses : List Use) (inputs : List (List ℕ)) (place : ℕ) → All IsBoth uses → Stands uses (at_entry uses inputs place)
    → Follows (alone_world limits uses inputs place) (metered space_reply) (spending space_after) [] (counted limits.task_units (at_entry uses inputs place))
world_follows limits uses inputs place both stands = record {
  replies = λ more i machine asked.
      let s = state_after alone_after (at_entry uses inputs place) more in
      ap (λ t. alone_reply limits (state_after alone_after (at_entry uses inputs place) t) i.action) (append-nil more)
      ∙ same_reply limits uses both s (stands_along uses (at_entry uses inputs place) more machine stands) i.action asked
      ∙ ap (λ m. metered space_reply m i.action) (sym (counted_along limits.task_units (at_entry uses inputs place) more machine));
}

-- ---- the regions' places

-- where a region lies, as a window
abbrev pub row_of : Region → Window
row_of r = plain r.base (length r.bytes)

rows_stored : (regions : List Region) (at : ℕ) (new : List ℕ) → map row_of (map (overlaid_region at new) regions) ≡ map row_of regions
rows_stored [] at new = refl
rows_stored (r ∷ regions) at new = rw (length-overlaid r.base r.bytes at new, rows_stored regions at new)

rows_leaving : (b : Bool) (s : Solitude) (base size : ℕ) → map row_of (if b then alone_behind s (Leave base size) else s).memory.regions ≡ map row_of s.memory.regions
rows_leaving true s base size = refl
rows_leaving false s base size = refl

-- no action moves a region
pub rows_after : (s : Solitude) (action : Action) → map row_of (alone_after s action).memory.regions ≡ map row_of s.memory.regions
rows_after s (Store address bytes) = rows_stored s.memory.regions address bytes
rows_after s (Leave base size) = rows_leaving (is_innermost s.memory s.body.frames base size) s base size
rows_after s (Enter size) = refl
rows_after s Turn = refl
rows_after s (Load address width) = refl
rows_after s (Out bytes) = refl
rows_after s In = refl
rows_after s (Malloc size) = refl
rows_after s (Calls call) = refl
rows_after s Returns = refl
rows_after s Start = refl
rows_after s Finish = refl
rows_after s Barrier = refl
rows_after s (Wait address) = refl
rows_after s WaitFault = refl
rows_after s DimFault = refl
rows_after s (Fault kind) = refl
rows_after s (End result) = refl

pub rows_along : (s : Solitude) (tape : Tape) → map row_of (state_after alone_after s tape).memory.regions ≡ map row_of s.memory.regions
rows_along s [] = refl
rows_along s (i ∷ tape) = rows_after (state_after alone_after s tape) i.action ∙ rows_along s tape
