-- A table in which bytes have come in the places of versions that tasks make, and one that main stores into.
use Rattle.std.proofs.Common.{◌≡◌, ℕ, ◌+◌, ◌<◌, Bool, true, false, not, ◌||◌, List, [], ◌∷◌, ◌++◌, length, map, nat_lt, is_none, Option, Some, None, All, refl, sym, ap, ◌∙◌, subst, arith, if◌then◌else◌}
use Rattle.std.specs.Prelude.{IsPermutation}
use Rattle.std.specs.List.{list_any}
use Rattle.std.proofs.lemmas.Bool.{lt-ltb}
use Rattle.std.proofs.lemmas.List.Elements.{All-nil, All-head, All-tail, All-weaker, All-filter, All-push, All-map}
use Rattle.std.proofs.lemmas.List.Sorted.{IsPermutation-sym, IsPermutation-map, All-permutation}
use Rattle.css_semantics.specs.Dialogue.{Action, Enter, Turn, Leave, Load, Store, Out, In, Malloc, Calls, Returns, Start, Finish, Barrier, Wait, WaitFault, DimFault, Fault, End, Tape}
use Rattle.css_semantics.specs.Memory.{Memory, memory_after}
use Rattle.css_semantics.specs.Tasks.{is_same_window, writes, body, called, called_after, has_byte}
use Rattle.css_semantics.specs.Pending.{some_from}
use Rattle.css_record.specs.declared.window.Window as records
use Rattle.css_record.specs.Windows.{window}
use Rattle.css_objects.specs.declared.version.Held.{Held}
use Rattle.css_objects.specs.declared.version.Held.TheVariants as held
use Rattle.css_objects.specs.Table.{Entry, Table, all_entries, windows, is_written, is_other}
use Rattle.css_objects.specs.Versions.{versions, made_in, kept_in}
use Rattle.css_objects.specs.Naming.{Given, with_version, with_snapshot, with_one, next_out, with_given}
use Rattle.css_objects.specs.Current.{given_in, entries_after, current, Kept, kept_of, with_kept, entries_at, StandsFor, value_of, kept_to}

-- ---- versions are those of tasks that were called

abbrev IsBelow : ℕ → Held → Type 0
IsBelow n (held.Made task out) = task < n
IsBelow n (held.Kept bytes by) = Unit {0}

abbrev IsEntryBelow : ℕ → Entry → Type 0
IsEntryBelow n e = IsBelow n e.version

more_below : (n : ℕ) (v : Held) → IsBelow n v → IsBelow (n + 1) v
more_below n (held.Made task out) below = omega (arith, below)
more_below n (held.Kept bytes by) below = tt

below_one : (n number out : ℕ) (es : List Entry) (g : Given) → number < n → All (IsEntryBelow n) es → All (IsEntryBelow n) (with_one number out es g)
below_one n number out es g inside all = by (writes g.direction) g.snapshot
  where
    changed : Entry → Entry
    changed e = if is_same_window (window g.window) (window e.window) then record { window = e.window; version = held.Made number out } else e

    each : (e : Entry) → IsEntryBelow n e → IsEntryBelow n (changed e)
    each e below = case (is_same_window (window g.window) (window e.window))
      where
        case : (b : Bool) → IsEntryBelow n (if b then record { window = e.window; version = held.Made number out } else e)
        case true = inside
        case false = below

    version : (b : Bool)
        → All (IsEntryBelow n)
        (if b then map (λ e. if is_same_window (window g.window) (window e.window) then record { window = e.window; version = held.Made number out } else e) es
        else es ++ record { window = g.window; version = held.Made number out } ∷ [])
    version true = All-map (IsEntryBelow n) changed es (All-weaker (IsEntryBelow n) (λ e. IsEntryBelow n (changed e)) each es all)
    version false = All-push (IsEntryBelow n) es (record { window = g.window; version = held.Made number out }) all inside

    read : (bytes : List ℕ) (b : Bool) → All (IsEntryBelow n) (if b then es else es ++ record { window = g.window; version = held.Kept bytes None } ∷ [])
    read bytes true = all
    read bytes false = All-push (IsEntryBelow n) es (record { window = g.window; version = held.Kept bytes None }) all tt

    by : (b : Bool) (s : Option (List ℕ)) → All (IsEntryBelow n) (if b then with_version es g.window (held.Made number out) else with_snapshot es g.window s)
    by true s = version (list_any (λ e. is_same_window (window g.window) (window e.window)) es)
    by false None = all
    by false (Some bytes) = read bytes (list_any (λ e. is_same_window (window g.window) (window e.window)) es)

below_given : (n number out : ℕ) (es : List Entry) (gs : List Given) → number < n → All (IsEntryBelow n) es → All (IsEntryBelow n) (with_given number out es gs)
below_given n number out es [] inside all = all
below_given n number out es (g ∷ gs) inside all = below_given n number (next_out out g.direction) (with_one number out es g) gs inside (below_one n number out es g inside all)

below_after : (is_main : Bool) (n : ℕ) (m : Memory) (es : List Entry) (action : Action) → All (IsEntryBelow n) es → All (IsEntryBelow (called_after n action)) (entries_after is_main n m es action)
below_after true n m es (Calls call) all =
    below_given (n + 1) n 0 es (map (given_in m) call.arguments) (omega arith) (All-weaker (IsEntryBelow n) (IsEntryBelow (n + 1)) (λ e below. more_below n e.version below) es all)
below_after false n m es (Calls call) all = All-weaker (IsEntryBelow n) (IsEntryBelow (n + 1)) (λ e below. more_below n e.version below) es all
below_after true n m es (Store address bytes) all = All-filter (λ e. is_written e || not (some_from (has_byte (window e.window)) address (length bytes))) (IsEntryBelow n) es all
below_after false n m es (Store address bytes) all = all
below_after is_main n m es (Wait address) all = All-filter (λ e. is_other address e.window) (IsEntryBelow n) es all
below_after is_main n m es Barrier all = All-nil (IsEntryBelow n)
below_after is_main n m es Finish all = All-nil (IsEntryBelow n)
below_after is_main n m es (End result) all = All-nil (IsEntryBelow n)
below_after is_main n m es (Enter size) all = all
below_after is_main n m es Turn all = all
below_after is_main n m es (Leave base size) all = all
below_after is_main n m es (Load address width) all = all
below_after is_main n m es (Out bytes) all = all
below_after is_main n m es In all = all
below_after is_main n m es (Malloc size) all = all
below_after is_main n m es Returns all = all
below_after is_main n m es Start all = all
below_after is_main n m es WaitFault all = all
below_after is_main n m es DimFault all = all
below_after is_main n m es (Fault kind) all = all

current_below : (start : Memory) (tape : Tape) → All (IsEntryBelow (called tape)) (current start tape)
current_below start [] = All-nil (IsEntryBelow 0)
current_below start (i ∷ tape) = below_after (is_none (body tape)) (called tape) (memory_after start tape) (current start tape) i.action (current_below start tape)

-- ---- bytes in the places of versions

kept_below : (k : Kept) (n : ℕ) (v : Held) → IsBelow n v → IsBelow n (kept_of k v)
kept_below k n (held.Made task out) below = by (nat_lt task k.first)
  where
    by : (b : Bool) → IsBelow n (if b then held.Kept (k.value task out) (Some task) else held.Made task out)
    by true = tt
    by false = below
kept_below k n (held.Kept bytes by) below = tt

-- what is kept later has what was kept before
kept_twice : (k : Kept) (n : ℕ) (v : Held) → IsBelow n v → kept_of (kept_to k n) (kept_of k v) ≡ kept_of (kept_to k n) v
kept_twice k n (held.Made task out) below = by (nat_lt task k.first)
  where
    by : (b : Bool) → kept_of (kept_to k n) (if b then held.Kept (k.value task out) (Some task) else held.Made task out) ≡ (if nat_lt task n then held.Kept (k.value task out) (Some task) else held.Made task out)
    by true = sym (ap (λ c. if c then held.Kept (k.value task out) (Some task) else held.Made task out) (lt-ltb task n below))
    by false = refl
kept_twice k n (held.Kept bytes by) below = refl

all_twice : (k : Kept) (n : ℕ) (es : List Entry) → All (IsEntryBelow n) es → map (with_kept (kept_to k n)) (map (with_kept k) es) ≡ map (with_kept (kept_to k n)) es
all_twice k n [] all = refl
all_twice k n (e ∷ es) all =
    ap (λ v. let x : Entry = record { window = e.window; version = v } in x ∷ map (with_kept (kept_to k n)) (map (with_kept k) es)) (kept_twice k n e.version (All-head (IsEntryBelow n) e es all))
    ∙ ap (λ xs. with_kept (kept_to k n) e ∷ xs) (all_twice k n es (All-tail (IsEntryBelow n) e es all))

-- the values of all that tasks make, in the places of those
kept_all : (k : Kept) (n : ℕ) (es : List Entry) → All (IsEntryBelow n) es → kept_in (versions es) (map (value_of k) (made_in (versions es))) ≡ versions (map (with_kept (kept_to k n)) es)
kept_all k n [] all = refl
kept_all k n (e ∷ es) all = by e.version (All-head (IsEntryBelow n) e es all) (kept_all k n es (All-tail (IsEntryBelow n) e es all))
  where
    by : (v : Held) → IsBelow n v → kept_in (versions es) (map (value_of k) (made_in (versions es))) ≡ versions (map (with_kept (kept_to k n)) es)
        → kept_in (v ∷ versions es) (map (value_of k) (made_in (v ∷ versions es))) ≡ kept_of (kept_to k n) v ∷ versions (map (with_kept (kept_to k n)) es)
    by (held.Made task out) below rest =
        ap (λ vs. held.Kept (k.value task out) (Some task) ∷ vs) rest
        ∙ ap (λ c. (if c then held.Kept (k.value task out) (Some task) else held.Made task out) ∷ versions (map (with_kept (kept_to k n)) es)) (sym (lt-ltb task n below))
    by (held.Kept bytes maker) below rest = ap (λ vs. held.Kept bytes maker ∷ vs) rest

kept_windows : (k : Kept) (es : List Entry) → windows (map (with_kept k) es) ≡ windows es
kept_windows k [] = refl
kept_windows k (e ∷ es) = ap (λ ws. e.window ∷ ws) (kept_windows k es)

same_entries : (es fs : List Entry) → windows es ≡ windows fs → versions es ≡ versions fs → es ≡ fs
same_entries [] [] of_windows of_versions = refl
same_entries [] (f ∷ fs) of_windows of_versions = absurd (cc)
same_entries (e ∷ es) [] of_windows of_versions = absurd (cc)
same_entries (e ∷ es) (f ∷ fs) of_windows of_versions =
    let w : e.window ≡ f.window = cc in
    let v : e.version ≡ f.version = cc in
    let ws : windows es ≡ windows fs = cc in
    let vs : versions es ≡ versions fs = cc in
    ap (λ (x : records.Window). let y : Entry = record { window = x; version = e.version } in y ∷ es) w
    ∙ ap (λ (u : Held). let y : Entry = record { window = f.window; version = u } in y ∷ es) v ∙ ap (λ xs. f ∷ xs) (same_entries es fs ws vs)

pub windows_append : (es fs : List Entry) → windows (es ++ fs) ≡ windows es ++ windows fs
windows_append [] fs = refl
windows_append (e ∷ es) fs = ap (λ ws. e.window ∷ ws) (windows_append es fs)

pub generation_follows : (k : Kept) (start : Memory) (tape : Tape) (old new : Table) → StandsFor k start tape old → windows new.rows ≡ windows old.rows → windows new.blocks ≡ windows old.blocks
    → versions (all_entries new) ≡ kept_in (versions (all_entries old)) (map (value_of k) (made_in (versions (all_entries old)))) → StandsFor (kept_to k (called tape)) start tape new
generation_follows k start tape old new stands rows blocks kept =
    subst (λ (xs : List Entry). IsPermutation xs (entries_at (kept_to k (called tape)) start tape)) (sym is)
    (subst (IsPermutation (map (with_kept (kept_to k (called tape))) (all_entries old))) (all_twice k (called tape) (current start tape) (current_below start tape))
    (IsPermutation-map (with_kept (kept_to k (called tape))) (all_entries old) (entries_at k start tape) stands))
  where
    below : All (IsEntryBelow (called tape)) (all_entries old)
    below =
        All-permutation (IsEntryBelow (called tape)) (entries_at k start tape) (all_entries old) (IsPermutation-sym (all_entries old) (entries_at k start tape) stands)
        (All-map (IsEntryBelow (called tape)) (with_kept k) (current start tape)
        (All-weaker (IsEntryBelow (called tape)) (λ e. IsEntryBelow (called tape) (with_kept k e)) (λ e h. kept_below k (called tape) e.version h) (current start tape) (current_below start tape)))

    same_windows : windows (all_entries new) ≡ windows (all_entries old)
    same_windows =
        windows_append new.rows new.blocks ∙ ap (λ ws. ws ++ windows new.blocks) rows ∙ ap (λ ws. windows old.rows ++ ws) blocks
        ∙ sym (windows_append old.rows old.blocks)

    is : all_entries new ≡ map (with_kept (kept_to k (called tape))) (all_entries old)
    is =
        same_entries (all_entries new) (map (with_kept (kept_to k (called tape))) (all_entries old))
        (same_windows ∙ sym (kept_windows (kept_to k (called tape)) (all_entries old))) (kept ∙ kept_all k (called tape) (all_entries old) below)
