-- Plain tapes.
use Rattle.std.proofs.Common.{◌≡◌, ℕ, ◌+◌, ◌-◌, ◌≤◌, Bool, true, false, ◌&&◌, ◌||◌, if◌then◌else◌, [], ◌∷◌, ◌++◌, refl, sym, ap, ◌∙◌, arith}
use Rattle.std.proofs.lemmas.List.{append-nil}
use Rattle.css_semantics.specs.Dialogue.{Action, Enter, Turn, Load, Calls, Returns, Start, Finish, Barrier, Wait, WaitFault, DimFault, Item, item, Tape, Outcome, tape_of, output, written_by}
use Rattle.css_semantics.specs.Worlds.{state_after}
use Rattle.css_semantics.specs.Memory.{Memory, memory_after}
use Rattle.css_semantics.specs.Flat.{FlatState, flat_after, flat_at}
use Rattle.css_semantics.specs.Tasks.{is_started}
use Rattle.css_semantics.specs.Units.{Metered, with_units, spending}
use Rattle.css_semantics.specs.Plain.{is_of_tasks, is_loading, is_left_out, plain, entries}
use Rattle.css_semantics.specs.Actions.{access_of}

-- an item that isn't left out stays
pub plain_stays : (i : Item) (tape : Tape) → is_left_out i ≡ false → plain (i ∷ tape) ≡ i ∷ plain tape
plain_stays i tape is = ap (λ b. if b then plain tape else i ∷ plain tape) is

neither : (tasks loads : Bool) → tasks ≡ false → (tasks || (loads && false)) ≡ false
neither true loads is = absurd (cc)
neither false true is = refl
neither false false is = refl

-- what isn't of tasks, and isn't asked aside
pub stays_in : (action : Action) (line : ℕ) → is_of_tasks action ≡ false → is_left_out (item action line) ≡ false
stays_in action line is = neither (is_of_tasks action) (is_loading (access_of action)) is

pub plain_keeps : (action : Action) (line : ℕ) (tape : Tape) → is_of_tasks action ≡ false → plain (item action line ∷ tape) ≡ item action line ∷ plain tape
plain_keeps action line tape is = plain_stays (item action line) tape (stays_in action line is)

-- what is of tasks doesn't stay
pub plain_without : (action : Action) (line : ℕ) (tape : Tape) → is_of_tasks action ≡ true → plain (item action line ∷ tape) ≡ plain tape
plain_without action line tape is = rw is refl

pub entries_append : (newer tape : Tape) → entries (newer ++ tape) ≡ entries newer + entries tape
entries_append [] tape = omega arith
entries_append (i ∷ newer) tape = omega (arith, entries_append newer tape)

-- an item with these parts
abbrev made : Action → (line : ℕ) → Bool → Item
made action line aside = record { action = action; line = line; is_aside = aside }

-- on a plain tape nothing was started
started_by : (action : Action) (line : ℕ) (aside : Bool) (tape : Tape) → is_started (plain tape) ≡ false → is_started (plain (made action line aside ∷ tape)) ≡ false
started_by (Load address width) line true tape h = h
started_by (Load address width) line false tape h = h
started_by (Enter size) line aside tape h = h
started_by action line aside tape h = h

pub never_started : (tape : Tape) → is_started (plain tape) ≡ false
never_started [] = refl
never_started (i ∷ tape) = started_by i.action i.line i.is_aside tape (never_started tape)

-- a plain tape writes the same
written_plainly : (action : Action) (line : ℕ) (aside : Bool) (tape : Tape) → output (plain tape) ≡ output tape → output (plain (made action line aside ∷ tape)) ≡ output tape ++ written_by action
written_plainly (Load address width) line true tape h = h ∙ sym (append-nil (output tape))
written_plainly (Load address width) line false tape h = ap (λ bytes. bytes ++ []) h
written_plainly (Calls call) line aside tape h = h ∙ sym (append-nil (output tape))
written_plainly Returns line aside tape h = h ∙ sym (append-nil (output tape))
written_plainly Start line aside tape h = h ∙ sym (append-nil (output tape))
written_plainly Finish line aside tape h = h ∙ sym (append-nil (output tape))
written_plainly Barrier line aside tape h = h ∙ sym (append-nil (output tape))
written_plainly (Wait address) line aside tape h = h ∙ sym (append-nil (output tape))
written_plainly WaitFault line aside tape h = h ∙ sym (append-nil (output tape))
written_plainly DimFault line aside tape h = h ∙ sym (append-nil (output tape))
written_plainly action line aside tape h = ap (λ bytes. bytes ++ written_by action) h

pub same_output : (tape : Tape) → output (plain tape) ≡ output tape
same_output [] = refl
same_output (i ∷ tape) = written_plainly i.action i.line i.is_aside tape (same_output tape)

append_by : (b : Bool) (i : Item) (whole newer tape : Tape) → whole ≡ newer ++ tape → (if b then whole else i ∷ whole) ≡ (if b then newer else i ∷ newer) ++ tape
append_by true i whole newer tape h = h
append_by false i whole newer tape h = ap (λ t. i ∷ t) h

pub plain_append : (newer tape : Tape) → plain (newer ++ tape) ≡ plain newer ++ plain tape
plain_append [] tape = refl
plain_append (i ∷ newer) tape = append_by (is_left_out i) i (plain (newer ++ tape)) (plain newer) (plain tape) (plain_append newer tape)

module _ (start : FlatState) (n : ℕ) where
  -- the state behind a plain tape, and the units that are left there
  left_by : (action : Action) (line : ℕ) (aside : Bool) (tape : Tape) → state_after (spending flat_after) (with_units start n) (plain tape) ≡ with_units (flat_at start tape) (n - entries tape)
      → state_after (spending flat_after) (with_units start n) (plain (made action line aside ∷ tape)) ≡ with_units (flat_at start (made action line aside ∷ tape)) (n - entries (made action line aside ∷ tape))
  left_by (Load address width) line true tape h = h ∙ ap (with_units (flat_at start tape)) (omega arith)
  left_by (Load address width) line false tape h = ap (λ s. spending flat_after s (Load address width)) h ∙ ap (with_units (flat_at start tape)) (omega arith)
  left_by (Enter size) line aside tape h = ap (λ s. spending flat_after s (Enter size)) h ∙ ap (with_units (flat_after (flat_at start tape) (Enter size))) (omega arith)
  left_by Turn line aside tape h = ap (λ s. spending flat_after s Turn) h ∙ ap (with_units (flat_at start tape)) (omega arith)
  left_by (Calls call) line aside tape h = h ∙ ap (with_units (flat_at start tape)) (omega arith)
  left_by Returns line aside tape h = h ∙ ap (with_units (flat_at start tape)) (omega arith)
  left_by Start line aside tape h = h ∙ ap (with_units (flat_at start tape)) (omega arith)
  left_by Finish line aside tape h = h ∙ ap (with_units (flat_at start tape)) (omega arith)
  left_by Barrier line aside tape h = h ∙ ap (with_units (flat_at start tape)) (omega arith)
  left_by (Wait address) line aside tape h = h ∙ ap (with_units (flat_at start tape)) (omega arith)
  left_by WaitFault line aside tape h = h ∙ ap (with_units (flat_at start tape)) (omega arith)
  left_by DimFault line aside tape h = h ∙ ap (with_units (flat_at start tape)) (omega arith)
  left_by action line aside tape h = ap (λ s. spending flat_after s action) h ∙ ap (with_units (flat_after (flat_at start tape) action)) (omega arith)

  pub left_behind : (tape : Tape) → state_after (spending flat_after) (with_units start n) (plain tape) ≡ with_units (flat_at start tape) (n - entries tape)
  left_behind [] = ap (with_units start) (omega arith)
  left_behind (i ∷ tape) = left_by i.action i.line i.is_aside tape (left_behind tape)

-- units change no state
only_by : (start : FlatState) (n : ℕ) (action : Action) (tape : Tape) → (state_after (spending flat_after) (with_units start n) tape).state ≡ flat_at start tape
    → (spending flat_after (state_after (spending flat_after) (with_units start n) tape) action).state ≡ flat_after (flat_at start tape) action
only_by start n (Enter size) tape h = ap (λ s. flat_after s (Enter size)) h
only_by start n Turn tape h = h
only_by start n action tape h = ap (λ s. flat_after s action) h

state_only : (start : FlatState) (n : ℕ) (tape : Tape) → (state_after (spending flat_after) (with_units start n) tape).state ≡ flat_at start tape
state_only start n [] = refl
state_only start n (i ∷ tape) = only_by start n i.action tape (state_only start n tape)

pub same_state : (start : FlatState) (tape : Tape) → flat_at start (plain tape) ≡ flat_at start tape
same_state start tape = sym (state_only start 0 (plain tape)) ∙ ap (λ (s : Metered FlatState). s.state) (left_behind start 0 tape)

pub same_memory : (start : Memory) (tape : Tape) → memory_after start (plain tape) ≡ memory_after start tape
same_memory start tape = ap (λ (s : FlatState). s.memory) (same_state (record { memory = start; input = [] }) tape)
