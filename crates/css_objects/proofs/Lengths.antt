-- Kept versions stay as long as their windows.
use Rattle.std.proofs.Common.{◌≡◌, ℕ, zero, suc, ◌+◌, ◌*◌, Bool, true, false, not, ◌||◌, List, [], ◌∷◌, ◌++◌, length, map, take, drop, nat_lt, is_none, slice_get, Option, Some, None, IfSome, refl, sym, ap, ◌∙◌, subst, arith, if◌then◌else◌}
use Rattle.std.specs.Prelude.{IsPermutation}
use Rattle.std.specs.List.{list_any, remove}
use Rattle.std.proofs.Math.Nat.{suc-mul, zero-mul}
use Rattle.std.proofs.lemmas.Bool.{ltb-true}
use Rattle.std.proofs.lemmas.List.{length-append}
use Rattle.std.proofs.lemmas.List.Elements.{All-nil, All-cons, All-append, All-take, All-drop, All-head, All-tail, All-weaker, All-filter, All-push, All-map}
use Rattle.std.proofs.lemmas.List.Sorted.{IsPermutation-sym, All-permutation}
use Rattle.css_semantics.specs.Dialogue as dialogue
use Rattle.css_semantics.specs.Dialogue.{Action, Enter, Turn, Leave, Load, Store, Out, In, Malloc, Calls, Returns, Start, Finish, Barrier, Wait, WaitFault, DimFault, Fault, End, Tape}
use Rattle.css_semantics.specs.Memory.{Memory, bytes_at, memory_after}
use Rattle.css_semantics.specs.Tasks as tasks
use Rattle.css_semantics.specs.Tasks.{is_same_window, window_length, writes, body, called, has_byte}
use Rattle.css_semantics.specs.Pending.{some_from}
use Rattle.css_semantics.specs.Verdict.{bytes_of_rows}
use Rattle.css_record.specs.declared.window.Window as records
use Rattle.css_record.specs.Windows.{window}
use Rattle.css_objects.specs.declared.version.Held.{Held}
use Rattle.css_objects.specs.declared.version.Held.TheVariants as held
use Rattle.css_objects.specs.declared.pending.Version.{Version}
use Rattle.css_objects.specs.declared.pending.Version.TheVariants as lent
use Rattle.css_objects.specs.declared.pending.Pending.{Pending}
use Rattle.css_objects.specs.Table.{Entry, Table, all_entries, windows, is_written, is_other, without}
use Rattle.css_objects.specs.Stored.{IsTaken}
use Rattle.css_objects.specs.Versions.{versions, kept_first, left_by, kept_in}
use Rattle.css_objects.specs.Seen.{IsLent, IsShown}
use Rattle.css_objects.specs.Naming.{Given, with_version, with_snapshot, with_one, next_out, with_given}
use Rattle.css_objects.specs.Current.{given_in, entries_after, current, Kept, kept_of, with_kept, entries_at, StandsFor}
use Rattle.css_objects.specs.Lengths.{IsOfLength, IsLentOfLength, AreLong, AreCopiesLong, IsFirstOfLength, AreKeptLong, IsValueOfLength, AreValuesLong}
use Rattle.css_objects.proofs.Keeping.{filter-append}
use Rattle.css_objects.proofs.Generations.{windows_append}

abbrev IsLong : Entry → Type 0
IsLong e = IsOfLength (window_length (window e.window)) e.version

abbrev IsCopyLong : Given → Type 0
IsCopyLong g = IfSome g.snapshot (λ bytes. length bytes ≡ window_length (window g.window))

-- ---- calls

long_one : (number out : ℕ) (es : List Entry) (g : Given) → AreLong es → IsCopyLong g → AreLong (with_one number out es g)
long_one number out es g long copy = by (writes g.direction) g.snapshot copy
  where
    changed : Entry → Entry
    changed e = if is_same_window (window g.window) (window e.window) then record { window = e.window; version = held.Made number out } else e

    each : (e : Entry) → IsLong e → IsLong (changed e)
    each e is = case (is_same_window (window g.window) (window e.window))
      where
        case : (b : Bool) → IsLong (if b then record { window = e.window; version = held.Made number out } else e)
        case true = tt
        case false = is

    version : (b : Bool)
        → AreLong
        (if b then map (λ e. if is_same_window (window g.window) (window e.window) then record { window = e.window; version = held.Made number out } else e) es
        else es ++ record { window = g.window; version = held.Made number out } ∷ [])
    version true = All-map IsLong changed es (All-weaker IsLong (λ e. IsLong (changed e)) each es long)
    version false = All-push IsLong es (record { window = g.window; version = held.Made number out }) long tt

    read : (bytes : List ℕ) → length bytes ≡ window_length (window g.window) → (b : Bool) → AreLong (if b then es else es ++ record { window = g.window; version = held.Kept bytes None } ∷ [])
    read bytes is true = long
    read bytes is false = All-push IsLong es (record { window = g.window; version = held.Kept bytes None }) long is

    by : (b : Bool) (s : Option (List ℕ)) → IfSome s (λ bytes. length bytes ≡ window_length (window g.window)) → AreLong (if b then with_version es g.window (held.Made number out) else with_snapshot es g.window s)
    by true s is = version (list_any (λ e. is_same_window (window g.window) (window e.window)) es)
    by false None is = long
    by false (Some bytes) is = read bytes is (list_any (λ e. is_same_window (window g.window) (window e.window)) es)

long_given : (number out : ℕ) (es : List Entry) (gs : List Given) → AreLong es → AreCopiesLong gs → AreLong (with_given number out es gs)
long_given number out es [] long copies = long
long_given number out es (g ∷ gs) long copies =
    long_given number (next_out out g.direction) (with_one number out es g) gs (long_one number out es g long (All-head IsCopyLong g gs copies)) (All-tail IsCopyLong g gs copies)

pub calls_long : (number : ℕ) (old new : List Entry) (gs : List Given) → AreLong old → AreCopiesLong gs → IsPermutation new (with_given number 0 old gs) → AreLong new
calls_long number old new gs long copies permuted =
    All-permutation IsLong (with_given number 0 old gs) new (IsPermutation-sym new (with_given number 0 old gs) permuted) (long_given number 0 old gs long copies)

-- ---- stores and waits

long_removed : (es : List Entry) (place : ℕ) → AreLong es → AreLong (remove es place)
long_removed es place long = All-append IsLong (take place es) (drop (suc place) es) (All-take IsLong place es long) (All-drop IsLong (suc place) es long)

pub stores_long : (old new : Table) (address count : ℕ) (w : records.Window) → AreLong (all_entries old) → IsTaken old address count new w → AreLong (all_entries new)
stores_long old new address count w long is = subst AreLong (sym is.rest) (long_removed (all_entries old) is.place long)

pub waits_long : (old new : Table) (base : ℕ) → AreLong (all_entries old) → new.rows ≡ without base old.rows → new.blocks ≡ without base old.blocks → AreLong (all_entries new)
waits_long old new base long rows blocks =
    let taken : all_entries new ≡ without base (all_entries old) =
    ap (λ es. es ++ new.blocks) rows ∙ ap (λ es. without base old.rows ++ es) blocks ∙ sym (filter-append (λ e. is_other base e.window) old.rows old.blocks) in
    subst AreLong (sym taken) (All-filter (λ e. is_other base e.window) IsLong (all_entries old) long)

-- ---- generations

kept_first_long : (count : ℕ) (v : Held) (kept : List (List ℕ)) → IsOfLength count v → IsFirstOfLength count v kept → IsOfLength count (kept_first v kept)
kept_first_long count (held.Made task out) [] long first = tt
kept_first_long count (held.Made task out) (bytes ∷ kept) long first = first
kept_first_long count (held.Kept bytes maker) kept long first = long

kept_long : (es fs : List Entry) (kept : List (List ℕ)) → AreLong es → AreKeptLong es kept → windows fs ≡ windows es → versions fs ≡ kept_in (versions es) kept → AreLong fs
kept_long [] [] kept long fits same_windows same_versions = All-nil IsLong
kept_long [] (f ∷ fs) kept long fits same_windows same_versions = absurd (cc)
kept_long (e ∷ es) [] kept long fits same_windows same_versions = absurd (cc)
kept_long (e ∷ es) (f ∷ fs) kept long fits same_windows same_versions =
    let w : f.window ≡ e.window = cc in
    let v : f.version ≡ kept_first e.version kept = cc in
    let ws : windows fs ≡ windows es = cc in
    let vs : versions fs ≡ kept_in (versions es) (left_by e.version kept) = cc in
    let here = kept_first_long (window_length (window e.window)) e.version kept (All-head IsLong e es long) fits.0 in
    All-cons IsLong f fs
    (subst (λ (x : records.Window). IsOfLength (window_length (window x)) f.version) (sym w)
    (subst (IsOfLength (window_length (window e.window))) (sym v) here))
    (kept_long es fs (left_by e.version kept) (All-tail IsLong e es long) fits.1 ws vs)

pub generations_long : (old new : Table) (kept : List (List ℕ)) → AreLong (all_entries old) → AreKeptLong (all_entries old) kept → windows new.rows ≡ windows old.rows → windows new.blocks ≡ windows old.blocks
    → versions (all_entries new) ≡ kept_in (versions (all_entries old)) kept → AreLong (all_entries new)
generations_long old new kept long fits rows blocks is =
    kept_long (all_entries old) (all_entries new) kept long fits
    (windows_append new.rows new.blocks ∙ ap (λ ws. ws ++ windows new.blocks) rows ∙ ap (λ ws. windows old.rows ++ ws) blocks ∙ sym (windows_append old.rows old.blocks)) is

-- ---- objects that are lent

all_at : (es : List Entry) (i : ℕ) (e : Entry) → AreLong es → slice_get es i ≡ Some e → IsLong e
all_at [] i e long at = absurd (cc)
all_at (x ∷ es) zero e long at = let same : x ≡ e = cc in subst IsLong same (All-head IsLong x es long)
all_at (x ∷ es) (suc i) e long at = all_at es i e (All-tail IsLong x es long) at

lent_long : (count : ℕ) (v : Held) (l : Version) → IsOfLength count v → IsLent v l → IsLentOfLength count l
lent_long count (held.Made task out) (lent.Made t o) long is = tt
lent_long count (held.Made task out) (lent.Kept bytes) long is = absurd is
lent_long count (held.Kept bytes maker) (lent.Made t o) long is = tt
lent_long count (held.Kept bytes maker) (lent.Kept b) long is = ap length is ∙ long

pub shown_long : (t : Table) (p : Pending) → AreLong (all_entries t) → IsShown t p → IsLentOfLength (window_length (window p.window)) p.version
shown_long t p long is =
    let e = is.shown.entry in
    subst (λ (x : records.Window). IsLentOfLength (window_length (window x)) p.version) (sym is.shown.shows.window)
    (lent_long (window_length (window e.window)) e.version p.version (all_at (all_entries t) is.place e long is.shown.at) is.shown.shows.version)

-- ---- along a tape

bytes_long : (m : Memory) (address width : ℕ) → length (bytes_at m address width) ≡ width
bytes_long m address zero = refl
bytes_long m address (suc width) = ap suc (bytes_long m (address + 1) width)

rows_long : (m : Memory) (rows base width stride : ℕ) → length (bytes_of_rows m rows base width stride) ≡ rows * width
rows_long m zero base width stride = omega (arith, zero-mul width)
rows_long m (suc rows) base width stride =
    let rest = bytes_of_rows m rows (base + stride) width stride in
    omega (arith, length-append (bytes_at m base width) rest, bytes_long m base width, rows_long m rows (base + stride) width stride, suc-mul rows width)

copies_long : (m : Memory) (arguments : List dialogue.Argument) → AreCopiesLong (map (given_in m) arguments)
copies_long m [] = All-nil IsCopyLong
copies_long m (a ∷ arguments) =
    let w = tasks.window a in
    All-cons IsCopyLong (given_in m a) (map (given_in m) arguments) (rows_long m w.rows w.base w.width w.stride) (copies_long m arguments)

long_after : (is_main : Bool) (number : ℕ) (m : Memory) (es : List Entry) (action : Action) → AreLong es → AreLong (entries_after is_main number m es action)
long_after true number m es (Calls call) long = long_given number 0 es (map (given_in m) call.arguments) long (copies_long m call.arguments)
long_after false number m es (Calls call) long = long
long_after true number m es (Store address bytes) long = All-filter (λ e. is_written e || not (some_from (has_byte (window e.window)) address (length bytes))) IsLong es long
long_after false number m es (Store address bytes) long = long
long_after is_main number m es (Wait address) long = All-filter (λ e. is_other address e.window) IsLong es long
long_after is_main number m es Barrier long = All-nil IsLong
long_after is_main number m es Finish long = All-nil IsLong
long_after is_main number m es (End result) long = All-nil IsLong
long_after is_main number m es (Enter size) long = long
long_after is_main number m es Turn long = long
long_after is_main number m es (Leave base size) long = long
long_after is_main number m es (Load address width) long = long
long_after is_main number m es (Out bytes) long = long
long_after is_main number m es In long = long
long_after is_main number m es (Malloc size) long = long
long_after is_main number m es Returns long = long
long_after is_main number m es Start long = long
long_after is_main number m es WaitFault long = long
long_after is_main number m es DimFault long = long
long_after is_main number m es (Fault kind) long = long

current_long : (start : Memory) (tape : Tape) → AreLong (current start tape)
current_long start [] = All-nil IsLong
current_long start (i ∷ tape) = long_after (is_none (body tape)) (called tape) (memory_after start tape) (current start tape) i.action (current_long start tape)

kept_of_long : (k : Kept) (count : ℕ) (v : Held) → IsOfLength count v → IsValueOfLength k count v → IsOfLength count (kept_of k v)
kept_of_long k count (held.Made task out) long value = by (nat_lt task k.first) refl
  where
    by : (b : Bool) → nat_lt task k.first ≡ b → IsOfLength count (if b then held.Kept (k.value task out) (Some task) else held.Made task out)
    by true below = value (ltb-true task k.first below)
    by false above = tt
kept_of_long k count (held.Kept bytes maker) long value = long

values_long : (k : Kept) (es : List Entry) → AreLong es → AreValuesLong k es → AreLong (map (with_kept k) es)
values_long k [] long values = All-nil IsLong
values_long k (e ∷ es) long values =
    All-cons IsLong (with_kept k e) (map (with_kept k) es)
    (kept_of_long k (window_length (window e.window)) e.version (All-head IsLong e es long) (All-head (λ x. IsValueOfLength k (window_length (window x.window)) x.version) e es values))
    (values_long k es (All-tail IsLong e es long) (All-tail (λ x. IsValueOfLength k (window_length (window x.window)) x.version) e es values))

pub tapes_long : (k : Kept) (start : Memory) (tape : Tape) (t : Table) → StandsFor k start tape t → AreValuesLong k (current start tape) → AreLong (all_entries t)
tapes_long k start tape t stands values =
    All-permutation IsLong (entries_at k start tape) (all_entries t) (IsPermutation-sym (all_entries t) (entries_at k start tape) stands) (values_long k (current start tape) (current_long start tape) values)
