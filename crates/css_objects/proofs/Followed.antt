-- What a call along a tape reads and gives, and a table that stands for the tape's objects.
use Rattle.std.proofs.Common.{◌≡◌, ℕ, suc, ◌≤◌, Bool, true, false, not, ◌||◌, List, [], ◌∷◌, ◌++◌, length, map, filter, nat_lt, is_none, is_some, Option, Some, None, option_map, refl, sym, ap, ◌∙◌, subst, arith, if◌then◌else◌}
use Rattle.std.specs.Prelude.{IsPermutation}
use Rattle.std.specs.List.{list_any}
use Rattle.std.proofs.lemmas.Bool.{false≢true, ltb-true}
use Rattle.std.proofs.lemmas.List.{length-map}
use Rattle.std.proofs.lemmas.List.Folds.{list_any-append}
use Rattle.std.proofs.lemmas.List.Sorted.{IsPermutation-sym, IsPermutation-trans, list_any-IsPermutation}
use Rattle.css_base.specs.declared.direction.Direction.{Direction}
use Rattle.css_base.specs.declared.direction.Direction.TheVariants as directions
use Rattle.css_semantics.specs.Dialogue as dialogue
use Rattle.css_semantics.specs.Dialogue.{Action, Enter, Turn, Leave, Load, Store, Out, In, Malloc, Calls, Returns, Start, Finish, Barrier, Wait, WaitFault, DimFault, Fault, End, Item, Tape}
use Rattle.css_semantics.specs.Memory.{Memory, memory_after}
use Rattle.css_semantics.specs.Tasks as tasks
use Rattle.css_semantics.specs.Tasks.{is_same_window, reads, writes, body, called, has_byte}
use Rattle.css_semantics.specs.Pending.{some_from}
use Rattle.css_semantics.specs.Verdict.{bytes_of_window}
use Rattle.css_record.specs.declared.window.Window as records
use Rattle.css_record.specs.Windows.{window}
use Rattle.css_arguments.specs.declared.argument.Argument as code
use Rattle.css_arguments.specs.Arguments.{given, AreWindows}
use Rattle.css_arguments.proofs.Lists.{any_map}
use Rattle.css_objects.specs.declared.version.Held.{Held}
use Rattle.css_objects.specs.declared.version.Held.TheVariants as held
use Rattle.css_objects.specs.Table.{Entry, Table, all_entries, objects, object, is_written, is_other}
use Rattle.css_objects.specs.Naming.{Given, given_by, version_of, or_snapshot, read_for, and_read, read_by, with_version, with_read, with_snapshot, with_one, next_out, with_given}
use Rattle.css_objects.specs.Current.{coded, given_in, entries_after, current, Kept, kept_of, with_kept, entries_at, StandsFor, AreSnapshots}
use Rattle.css_objects.proofs.Keeping.{filter-map, filter-turned, filter-append}
use Rattle.css_objects.proofs.Probes.{same_window}
use Rattle.css_objects.proofs.Orders.{find-permuted}
use Rattle.css_objects.proofs.Holding.{version_there as there_version}
use Rattle.css_objects.proofs.Giving.{given_permuted}
use Rattle.css_objects.proofs.Currents.{stands_by}

abbrev of_window : records.Window → Entry → Bool
of_window w e = is_same_window (window w) (window e.window)

abbrev given_version : records.Window → Held → Entry → Entry
given_version w v e = if of_window w e then record { window = e.window; version = v } else e

-- ---- snapshots that are there where they are needed

-- with the bytes that a memory has there
abbrev filled : Memory → Given → Given
filled m g = record { window = g.window; direction = g.direction; snapshot = Some (bytes_of_window m (window g.window)) }

-- what is read and has no object has these bytes
abbrev pub AreThere : Memory → List Entry → List Given → Type 0
AreThere m es [] = Unit {0}
AreThere m es (g ∷ gs) =
    (reads g.direction ≡ true → list_any (of_window g.window) es ≡ false → g.snapshot ≡ Some (bytes_of_window m (window g.window))) × AreThere m es gs

left_false : (x y : Bool) → (x || y) ≡ false → x ≡ false
left_false true y h = h
left_false false y h = refl

-- an object that isn't there behind a pointer wasn't there before
module _ (u : records.Window) where
  any_version : (es : List Entry) (w : records.Window) (v : Held) → list_any (of_window u) (map (given_version w v) es) ≡ list_any (of_window u) es
  any_version [] w v = refl
  any_version (e ∷ es) w v = by (of_window w e) (any_version es w v)
    where
      by : (b : Bool) → list_any (of_window u) (map (given_version w v) es) ≡ list_any (of_window u) es
          → (of_window u (if b then record { window = e.window; version = v } else e) || list_any (of_window u) (map (given_version w v) es)) ≡ (of_window u e || list_any (of_window u) es)
      by true rest = ap (λ b. of_window u e || b) rest
      by false rest = ap (λ b. of_window u e || b) rest

  none_more : (es : List Entry) (e : Entry) → list_any (of_window u) (es ++ e ∷ []) ≡ false → list_any (of_window u) es ≡ false
  none_more es e none = left_false (list_any (of_window u) es) (list_any (of_window u) (e ∷ [])) (sym (list_any-append (of_window u) es (e ∷ [])) ∙ none)

  none_before : (number out : ℕ) (es : List Entry) (g : Given) → list_any (of_window u) (with_one number out es g) ≡ false → list_any (of_window u) es ≡ false
  none_before number out es g = by (writes g.direction) g.snapshot
    where
      version : (b : Bool) → list_any (of_window u) (if b then map (given_version g.window (held.Made number out)) es else es ++ record { window = g.window; version = held.Made number out } ∷ []) ≡ false → list_any (of_window u) es ≡ false
      version true none = sym (any_version es g.window (held.Made number out)) ∙ none
      version false none = none_more es (record { window = g.window; version = held.Made number out }) none

      read : (bytes : List ℕ) (b : Bool) → list_any (of_window u) (if b then es else es ++ record { window = g.window; version = held.Kept bytes None } ∷ []) ≡ false → list_any (of_window u) es ≡ false
      read bytes true none = none
      read bytes false none = none_more es (record { window = g.window; version = held.Kept bytes None }) none

      by : (b : Bool) (s : Option (List ℕ)) → list_any (of_window u) (if b then with_version es g.window (held.Made number out) else with_snapshot es g.window s) ≡ false → list_any (of_window u) es ≡ false
      by true s none = version (list_any (of_window g.window) es) none
      by false None none = none
      by false (Some bytes) none = read bytes (list_any (of_window g.window) es) none

there_more : (m : Memory) (number out : ℕ) (es : List Entry) (g : Given) (gs : List Given) → AreThere m es gs → AreThere m (with_one number out es g) gs
there_more m number out es g [] there = tt
there_more m number out es g (h ∷ gs) there = (λ read none. there.0 read (none_before h.window number out es g none), there_more m number out es g gs there.1)

reads_or_writes : (d : Direction) → writes d ≡ false → reads d ≡ true
reads_or_writes directions.In none = refl
reads_or_writes directions.Out none = absurd (cc)
reads_or_writes directions.InOut none = absurd (cc)

one_filled : (m : Memory) (number out : ℕ) (es : List Entry) (g : Given) → (reads g.direction ≡ true → list_any (of_window g.window) es ≡ false → g.snapshot ≡ Some (bytes_of_window m (window g.window)))
    → with_one number out es g ≡ with_one number out es (filled m g)
one_filled m number out es g there = by (writes g.direction) refl
  where
    bytes : List ℕ
    bytes = bytes_of_window m (window g.window)

    same : (c : Bool) → list_any (of_window g.window) es ≡ c → (s : Option (List ℕ)) → (c ≡ false → s ≡ Some bytes) → with_snapshot es g.window s ≡ with_read es g.window bytes
    same true stands None only = sym (ap (λ b. if b then es else es ++ record { window = g.window; version = held.Kept bytes None } ∷ []) stands)
    same true stands (Some other) only =
        ap (λ b. if b then es else es ++ record { window = g.window; version = held.Kept other None } ∷ []) stands
        ∙ sym (ap (λ b. if b then es else es ++ record { window = g.window; version = held.Kept bytes None } ∷ []) stands)
    same false stands s only = ap (with_snapshot es g.window) (only refl)

    by : (b : Bool) → writes g.direction ≡ b → (if b then with_version es g.window (held.Made number out) else with_snapshot es g.window g.snapshot)
        ≡ (if b then with_version es g.window (held.Made number out) else with_read es g.window bytes)
    by true is = refl
    by false is = same (list_any (of_window g.window) es) refl g.snapshot (λ none. there (reads_or_writes g.direction is) none)

given_filled : (m : Memory) (number out : ℕ) (es : List Entry) (gs : List Given) → AreThere m es gs → with_given number out es gs ≡ with_given number out es (map (filled m) gs)
given_filled m number out es [] there = refl
given_filled m number out es (g ∷ gs) there =
    given_filled m number (next_out out g.direction) (with_one number out es g) gs (there_more m number out es g gs there.1)
    ∙ ap (λ xs. with_given number (next_out out g.direction) xs (map (filled m) gs)) (one_filled m number out es g there.0)

reads_filled : (m : Memory) (es : List Entry) (gs : List Given) → AreThere m es gs → read_by es gs ≡ read_by es (map (filled m) gs)
reads_filled m es [] there = refl
reads_filled m es (g ∷ gs) there =
    ap (λ o. and_read o (read_by es gs)) (one (reads g.direction) refl) ∙ ap (and_read (read_for es (filled m g))) (reads_filled m es gs there.1)
  where
    bytes : List ℕ
    bytes = bytes_of_window m (window g.window)

    none : version_of es g.window ≡ None → list_any (of_window g.window) es ≡ false
    none no_version = by (list_any (of_window g.window) es) (there_version es g.window)
      where
        by : (b : Bool) → is_some (version_of es g.window) ≡ b → b ≡ false
        by true there = absurd (false≢true (ap is_some (sym no_version) ∙ there))
        by false there = refl

    version : (o : Option Held) → version_of es g.window ≡ o → reads g.direction ≡ true → or_snapshot o g.snapshot ≡ or_snapshot o (Some bytes)
    version (Some v) is read = refl
    version None is read = ap (or_snapshot None) (there.0 read (none is))

    one : (b : Bool) → reads g.direction ≡ b → (if b then or_snapshot (version_of es g.window) g.snapshot else None) ≡ (if b then or_snapshot (version_of es g.window) (Some bytes) else None)
    one true is = version (version_of es g.window) refl is
    one false is = refl

-- ---- what is kept

module _ (k : Kept) (number : ℕ) (later : k.first ≤ number) where
  stays_made : (out : ℕ) → kept_of k (held.Made number out) ≡ held.Made number out
  stays_made out = by (nat_lt number k.first) refl
    where
      by : (b : Bool) → nat_lt number k.first ≡ b → (if b then held.Kept (k.value number out) (Some number) else held.Made number out) ≡ held.Made number out
      by true below = absurd (omega (arith, ltb-true number k.first below, later))
      by false above = refl

  kept_version : (es : List Entry) (w : records.Window) (v : Held) → kept_of k v ≡ v → with_version (map (with_kept k) es) w v ≡ map (with_kept k) (with_version es w v)
  kept_version es w v stays = by (list_any (of_window w) (map (with_kept k) es)) (list_any (of_window w) es) (any_map (with_kept k) (of_window w) es)
    where
      each : (xs : List Entry) → map (given_version w v) (map (with_kept k) xs) ≡ map (with_kept k) (map (given_version w v) xs)
      each [] = refl
      each (x ∷ xs) = ap (λ e. e ∷ map (given_version w v) (map (with_kept k) xs)) (one (of_window w x)) ∙ ap (λ es. with_kept k (given_version w v x) ∷ es) (each xs)
        where
          one : (b : Bool) → (if b then record { window = x.window; version = v } else with_kept k x) ≡ with_kept k (if b then record { window = x.window; version = v } else x)
          one true = ap (λ u. let e : Entry = record { window = x.window; version = u } in e) (sym stays)
          one false = refl

      more : (xs : List Entry) → map (with_kept k) xs ++ record { window = w; version = v } ∷ [] ≡ map (with_kept k) (xs ++ record { window = w; version = v } ∷ [])
      more [] = ap (λ u. let e : Entry = record { window = w; version = u } in e ∷ []) (sym stays)
      more (x ∷ xs) = ap (λ es. with_kept k x ∷ es) (more xs)

      by : (b c : Bool) → b ≡ c
          → (if b then map (given_version w v) (map (with_kept k) es) else map (with_kept k) es ++ record { window = w; version = v } ∷ [])
          ≡ map (with_kept k) (if c then map (given_version w v) es else es ++ record { window = w; version = v } ∷ [])
      by true true same = each es
      by false false same = more es
      by true false same = absurd (cc)
      by false true same = absurd (cc)

  kept_read : (es : List Entry) (w : records.Window) (bytes : List ℕ) → with_read (map (with_kept k) es) w bytes ≡ map (with_kept k) (with_read es w bytes)
  kept_read es w bytes = by (list_any (of_window w) (map (with_kept k) es)) (list_any (of_window w) es) (any_map (with_kept k) (of_window w) es)
    where
      more : (xs : List Entry) → map (with_kept k) xs ++ record { window = w; version = held.Kept bytes None } ∷ [] ≡ map (with_kept k) (xs ++ record { window = w; version = held.Kept bytes None } ∷ [])
      more [] = refl
      more (x ∷ xs) = ap (λ es. with_kept k x ∷ es) (more xs)

      by : (b c : Bool) → b ≡ c
          → (if b then map (with_kept k) es else map (with_kept k) es ++ record { window = w; version = held.Kept bytes None } ∷ [])
          ≡ map (with_kept k) (if c then es else es ++ record { window = w; version = held.Kept bytes None } ∷ [])
      by true true same = refl
      by false false same = more es
      by true false same = absurd (cc)
      by false true same = absurd (cc)

  kept_one : (out : ℕ) (es : List Entry) (g : Given) → with_one number out (map (with_kept k) es) g ≡ map (with_kept k) (with_one number out es g)
  kept_one out es g = by (writes g.direction) g.snapshot
    where
      by : (b : Bool) (s : Option (List ℕ))
          → (if b then with_version (map (with_kept k) es) g.window (held.Made number out) else with_snapshot (map (with_kept k) es) g.window s)
          ≡ map (with_kept k) (if b then with_version es g.window (held.Made number out) else with_snapshot es g.window s)
      by true s = kept_version es g.window (held.Made number out) (stays_made out)
      by false None = refl
      by false (Some bytes) = kept_read es g.window bytes

  kept_given : (out : ℕ) (es : List Entry) (gs : List Given) → with_given number out (map (with_kept k) es) gs ≡ map (with_kept k) (with_given number out es gs)
  kept_given out es [] = refl
  kept_given out es (g ∷ gs) =
      ap (λ xs. with_given number (next_out out g.direction) xs gs) (kept_one out es g) ∙ kept_given (next_out out g.direction) (with_one number out es g) gs

-- ---- objects of one window each

abbrev AreSingle : List Entry → Type 0
AreSingle es = (w : records.Window) → length (filter (of_window w) es) ≤ 1

none_filtered : {X : Type 0} (p : X → Bool) (xs : List X) → list_any p xs ≡ false → filter p xs ≡ []
none_filtered p [] none = refl
none_filtered p (x ∷ xs) none = by (p x) none (none_filtered p xs)
  where
    by : (b : Bool) → (b || list_any p xs) ≡ false → (list_any p xs ≡ false → filter p xs ≡ []) → (if b then x ∷ filter p xs else filter p xs) ≡ []
    by true h rest = absurd (cc)
    by false h rest = rest h

fewer : {X : Type 0} (p : X → Bool) (xs : List X) → length (filter p xs) ≤ length xs
fewer p [] = omega arith
fewer p (x ∷ xs) = by (p x) (fewer p xs)
  where
    by : (b : Bool) → length (filter p xs) ≤ length xs → length (if b then x ∷ filter p xs else filter p xs) ≤ suc (length xs)
    by true rest = omega arith
    by false rest = omega arith

single_filter : (p : Entry → Bool) (es : List Entry) → AreSingle es → AreSingle (filter p es)
single_filter p es single w =
    omega (arith, ap length (filter-turned (of_window w) p es), fewer p (filter (of_window w) es), single w)

append_nothing : {X : Type 0} (xs : List X) → xs ++ [] ≡ xs
append_nothing [] = refl
append_nothing (x ∷ xs) = ap (λ ys. x ∷ ys) (append_nothing xs)

single_more : (es : List Entry) (e : Entry) → AreSingle es → list_any (of_window e.window) es ≡ false → AreSingle (es ++ e ∷ [])
single_more es e single none u = by (of_window u e) refl
  where
    whole : filter (of_window u) (es ++ e ∷ []) ≡ filter (of_window u) es ++ filter (of_window u) (e ∷ [])
    whole = filter-append (of_window u) es (e ∷ [])

    by : (b : Bool) → of_window u e ≡ b → length (filter (of_window u) (es ++ e ∷ [])) ≤ 1
    by true same =
        let here = same_window u e.window same in
        let empty = none_filtered (of_window u) es (subst (λ (x : records.Window). list_any (of_window x) es ≡ false) (sym here) none) in
        let is = whole ∙ ap (λ (b : Bool). filter (of_window u) es ++ (if b then e ∷ [] else [])) same ∙ ap (λ (xs : List Entry). xs ++ e ∷ []) empty in
        omega (arith, ap length is)
    by false other =
        let is = whole ∙ ap (λ (b : Bool). filter (of_window u) es ++ (if b then e ∷ [] else [])) other ∙ append_nothing (filter (of_window u) es) in
        omega (arith, ap length is, single u)

single_given : (es : List Entry) (w : records.Window) (v : Held) (u : records.Window) → length (filter (of_window u) (map (given_version w v) es)) ≡ length (filter (of_window u) es)
single_given [] w v u = refl
single_given (e ∷ es) w v u = by (of_window w e) (of_window u e) refl (single_given es w v u)
  where
    by : (b c : Bool) → of_window u e ≡ c → length (filter (of_window u) (map (given_version w v) es)) ≡ length (filter (of_window u) es)
        → length (filter (of_window u) ((if b then record { window = e.window; version = v } else e) ∷ map (given_version w v) es)) ≡ length (filter (of_window u) (e ∷ es))
    by true true is rest = rw is (ap suc rest)
    by true false is rest = rw is rest
    by false true is rest = rw is (ap suc rest)
    by false false is rest = rw is rest

single_one : (number out : ℕ) (es : List Entry) (g : Given) → AreSingle es → AreSingle (with_one number out es g)
single_one number out es g single = by (writes g.direction) g.snapshot
  where
    version : (v : Held) (b : Bool) → list_any (of_window g.window) es ≡ b → AreSingle (if b then map (given_version g.window v) es else es ++ record { window = g.window; version = v } ∷ [])
    version v true there = λ u. omega (arith, single_given es g.window v u, single u)
    version v false none = single_more es (record { window = g.window; version = v }) single none

    read : (bytes : List ℕ) (b : Bool) → list_any (of_window g.window) es ≡ b → AreSingle (if b then es else es ++ record { window = g.window; version = held.Kept bytes None } ∷ [])
    read bytes true there = single
    read bytes false none = single_more es (record { window = g.window; version = held.Kept bytes None }) single none

    by : (b : Bool) (s : Option (List ℕ)) → AreSingle (if b then with_version es g.window (held.Made number out) else with_snapshot es g.window s)
    by true s = version (held.Made number out) (list_any (of_window g.window) es) refl
    by false None = single
    by false (Some bytes) = read bytes (list_any (of_window g.window) es) refl

single_all : (number out : ℕ) (es : List Entry) (gs : List Given) → AreSingle es → AreSingle (with_given number out es gs)
single_all number out es [] single = single
single_all number out es (g ∷ gs) single = single_all number (next_out out g.direction) (with_one number out es g) gs (single_one number out es g single)

nothing_single : AreSingle []
nothing_single w = omega arith

single_after : (is_main : Bool) (number : ℕ) (m : Memory) (es : List Entry) (action : Action) → AreSingle es → AreSingle (entries_after is_main number m es action)
single_after true number m es (Calls call) single = single_all number 0 es (map (given_in m) call.arguments) single
single_after false number m es (Calls call) single = single
single_after true number m es (Store address bytes) single = single_filter (λ e. is_written e || not (some_from (has_byte (window e.window)) address (length bytes))) es single
single_after false number m es (Store address bytes) single = single
single_after is_main number m es (Wait address) single = single_filter (λ e. is_other address e.window) es single
single_after is_main number m es Barrier single = nothing_single
single_after is_main number m es Finish single = nothing_single
single_after is_main number m es (End result) single = nothing_single
single_after is_main number m es (Enter size) single = single
single_after is_main number m es Turn single = single
single_after is_main number m es (Leave base size) single = single
single_after is_main number m es (Load address width) single = single
single_after is_main number m es (Out bytes) single = single
single_after is_main number m es In single = single
single_after is_main number m es (Malloc size) single = single
single_after is_main number m es Returns single = single
single_after is_main number m es Start single = single
single_after is_main number m es WaitFault single = single
single_after is_main number m es DimFault single = single
single_after is_main number m es (Fault kind) single = single

current_single : (start : Memory) (tape : Tape) → AreSingle (current start tape)
current_single start [] = nothing_single
current_single start (i ∷ tape) = single_after (is_none (body tape)) (called tape) (memory_after start tape) (current start tape) i.action (current_single start tape)

kept_single : (k : Kept) (es : List Entry) → AreSingle es → AreSingle (map (with_kept k) es)
kept_single k es single w =
    omega (arith, ap length (filter-map (with_kept k) (of_window w) es), length-map (filter (of_window w) es) (with_kept k), single w)

-- ---- what a call reads

filled_is : (m : Memory) (ws : List records.Window) (arguments : List code.Argument) (ss : List (Option (List ℕ))) → map window ws ≡ map tasks.window (map given arguments) → length ss ≡ length arguments
    → map (filled m) (given_by ws arguments ss) ≡ map (given_in m) (map given arguments)
filled_is m [] [] ss same long = refl
filled_is m [] (a ∷ arguments) ss same long = absurd (cc)
filled_is m (w ∷ ws) [] ss same long = absurd (cc)
filled_is m (w ∷ ws) (a ∷ arguments) [] same long = absurd (omega arith)
filled_is m (w ∷ ws) (a ∷ arguments) (s ∷ ss) same long =
    let first : window w ≡ tasks.window (given a) = cc in
    let rest : map window ws ≡ map tasks.window (map given arguments) = cc in
    ap (λ (x : tasks.Window). let g : Given = record { window = coded x; direction = a.direction; snapshot = Some (bytes_of_window m x) } in g ∷ map (filled m) (given_by ws arguments ss)) first
    ∙ ap (λ gs. given_in m (given a) ∷ gs) (filled_is m ws arguments ss rest (omega arith))

same_versions : (es fs : List Entry) → ((w : records.Window) → version_of es w ≡ version_of fs w) → (gs : List Given) → read_by es gs ≡ read_by fs gs
same_versions es fs same [] = refl
same_versions es fs same (g ∷ gs) =
    ap (λ o. and_read (if reads g.direction then or_snapshot o g.snapshot else None) (read_by es gs)) (same g.window) ∙ ap (and_read (read_for fs g)) (same_versions es fs same gs)

module _ (k : Kept) (start : Memory) (tape : Tape) (t : Table) (stands : StandsFor k start tape t) where
  abbrev m : Memory
  m = memory_after start tape

  abbrev E : List Entry
  E = entries_at k start tape

  pub table_version : (w : records.Window) → version_of (all_entries t) w ≡ version_of E w
  table_version w =
      ap (option_map (λ e. e.version))
      (sym
      (find-permuted (of_window w) E (all_entries t) (IsPermutation-sym (all_entries t) E stands) (kept_single k (current start tape) (current_single start tape) w)))

  there_by : (gs : List Given) → AreSnapshots m (objects t) gs → AreThere m E gs
  there_by [] copies = tt
  there_by (g ∷ gs) copies = (
    λ read none.
        copies 0 g refl read
        (any_map object (λ o. is_same_window (window g.window) o.window) (all_entries t)
        ∙ list_any-IsPermutation (of_window g.window) (all_entries t) E stands ∙ none),
    there_by gs (λ i h at. copies (suc i) h at),
  )

  module _ (call : dialogue.Call) (arguments : List code.Argument) (ws : List records.Window) (snapshots : List (Option (List ℕ))) (same : call.arguments ≡ map given arguments)
      (are : AreWindows arguments ws) (long : length snapshots ≡ length arguments) (copies : AreSnapshots m (objects t) (given_by ws arguments snapshots)) where
    gs : List Given
    gs = given_by ws arguments snapshots

    as_given : map (filled m) (given_by ws arguments snapshots) ≡ map (given_in m) call.arguments
    as_given = filled_is m ws arguments snapshots are.same long ∙ ap (map (given_in m)) (sym same)

    pub reads_follow : read_by (all_entries t) (given_by ws arguments snapshots) ≡ read_by E (map (given_in m) call.arguments)
    reads_follow =
        same_versions (all_entries t) E table_version (given_by ws arguments snapshots)
        ∙ reads_filled m E (given_by ws arguments snapshots) (there_by (given_by ws arguments snapshots) copies) ∙ ap (read_by E) as_given

    pub call_follows : (i : Item) (new : Table) → is_none (body tape) ≡ true → i.action ≡ Calls call → k.first ≤ called tape
        → IsPermutation (all_entries new) (with_given (called tape) 0 (all_entries t) (given_by ws arguments snapshots)) → StandsFor k start (i ∷ tape) new
    call_follows i new by_main is later entered =
        stands_by k start tape i (Calls call) new is
        (rw by_main
        (IsPermutation-trans (all_entries new) (with_given (called tape) 0 (all_entries t) (given_by ws arguments snapshots))
        (map (with_kept k) (with_given (called tape) 0 (current start tape) (map (given_in m) call.arguments))) entered
        (subst (IsPermutation (with_given (called tape) 0 (all_entries t) (given_by ws arguments snapshots))) chain
        (given_permuted (called tape) 0 (all_entries t) E (given_by ws arguments snapshots) stands))))
      where
        chain : with_given (called tape) 0 E (given_by ws arguments snapshots) ≡ map (with_kept k) (with_given (called tape) 0 (current start tape) (map (given_in m) call.arguments))
        chain =
            given_filled m (called tape) 0 E (given_by ws arguments snapshots) (there_by (given_by ws arguments snapshots) copies)
            ∙ ap (with_given (called tape) 0 E) as_given ∙ kept_given k (called tape) later 0 (current start tape) (map (given_in m) call.arguments)
