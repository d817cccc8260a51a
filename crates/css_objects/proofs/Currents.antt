-- What becomes of the pending objects of a tape, and of a table that stands for them.
use Rattle.std.proofs.Common.{◌≡◌, ℕ, Bool, true, false, not, ◌||◌, ◌==◌, List, [], ◌∷◌, ◌++◌, length, map, filter, fold, nat_lt, is_some, is_none, Some, None, refl, sym, ap, ◌∙◌, subst, if◌then◌else◌}
use Rattle.std.specs.Prelude.{IsPermutation}
use Rattle.std.specs.List.{list_any}
use Rattle.std.proofs.lemmas.List.Sorted.{IsPermutation-refl, IsPermutation-map}
use Rattle.css_semantics.specs.Dialogue as dialogue
use Rattle.css_semantics.specs.Dialogue.{Action, Enter, Turn, Leave, Load, Store, Out, In, Malloc, Calls, Returns, Start, Finish, Barrier, Wait, WaitFault, DimFault, Fault, End, Item, Tape}
use Rattle.css_semantics.specs.Memory.{Memory, memory_after}
use Rattle.css_semantics.specs.Tasks as tasks
use Rattle.css_semantics.specs.Tasks.{is_same_window, reads, writes, body, called, has_byte}
use Rattle.css_semantics.specs.Pending.{Object, some_from, is_named_by, with_argument, pending_after, pending}
use Rattle.css_semantics.specs.Verdict.{bytes_of_window}
use Rattle.css_record.specs.declared.window.Window as records
use Rattle.css_record.specs.Windows.{window}
use Rattle.css_arguments.proofs.Lists.{any_map}
use Rattle.css_objects.specs.declared.version.Held.{Held}
use Rattle.css_objects.specs.declared.version.Held.TheVariants as held
use Rattle.css_objects.specs.Table.{Entry, Table, no_objects, all_entries, objects, object, maker, is_written, is_other, without}
use Rattle.css_objects.specs.Stored.{without_read}
use Rattle.css_objects.specs.Naming.{with_version, with_read, with_one, next_out, with_given}
use Rattle.css_objects.specs.Current.{coded, given_in, entries_after, current, is_change, Kept, kept_of, with_kept, entries_at, StandsFor}
use Rattle.css_objects.proofs.Keeping.{filter-map, filter-append}
use Rattle.css_objects.proofs.Orders.{filter-permuted}

-- ---- the objects are the pending ones

abbrev of_window : records.Window → Entry → Bool
of_window w e = is_same_window (window w) (window e.window)

or_true : (b : Bool) → (b || true) ≡ true
or_true true = refl
or_true false = refl

or_false : (b : Bool) → (b || false) ≡ b
or_false true = refl
or_false false = refl

-- one more pointer
module _ (m : Memory) (number out : ℕ) (es : List Entry) (a : dialogue.Argument) where
  abbrev w : records.Window
  w = coded (tasks.window a)

  abbrev marked : Object → Object
  marked o = if is_named_by a o then record o { is_written = o.is_written || writes a.direction } else o

  abbrev made : Entry → Entry
  made e = if of_window w e then record { window = e.window; version = held.Made number out } else e

  objects_made : writes a.direction ≡ true → (xs : List Entry) → map object (map made xs) ≡ map marked (map object xs)
  objects_made writes [] = refl
  objects_made is_output (x ∷ xs) = ap (λ o. o ∷ map object (map made xs)) (by (of_window w x)) ∙ ap (λ os. marked (object x) ∷ os) (objects_made is_output xs)
    where
      by : (b : Bool) → object (if b then record { window = x.window; version = held.Made number out } else x)
          ≡ (if b then record { window = window x.window; is_written = is_written x || writes a.direction } else object x)
      by true = ap (λ c. let o : Object = record { window = window x.window; is_written = c } in o) (sym (ap (λ c. is_written x || c) is_output ∙ or_true (is_written x)))
      by false = refl

  objects_same : writes a.direction ≡ false → (xs : List Entry) → map object xs ≡ map marked (map object xs)
  objects_same none [] = refl
  objects_same none (x ∷ xs) = ap (λ o. o ∷ map object xs) (by (of_window w x)) ∙ ap (λ os. marked (object x) ∷ os) (objects_same none xs)
    where
      by : (b : Bool) → object x ≡ (if b then record { window = window x.window; is_written = is_written x || writes a.direction } else object x)
      by true = ap (λ c. let o : Object = record { window = window x.window; is_written = c } in o) (sym (ap (λ c. is_written x || c) none ∙ or_false (is_written x)))
      by false = refl

  one_more : (v : Held) → writes a.direction ≡ is_some (maker v) → map object (es ++ record { window = w; version = v } ∷ []) ≡ map object es ++ record { window = tasks.window a; is_written = writes a.direction } ∷ []
  one_more v same = appended es
    where
      appended : (xs : List Entry) → map object (xs ++ record { window = w; version = v } ∷ []) ≡ map object xs ++ record { window = tasks.window a; is_written = writes a.direction } ∷ []
      appended [] = ap (λ c. let o : Object = record { window = tasks.window a; is_written = c } in o ∷ []) (sym same)
      appended (x ∷ xs) = ap (λ os. object x ∷ os) (appended xs)

  there : list_any (of_window w) es ≡ list_any (is_named_by a) (map object es)
  there = sym (any_map object (is_named_by a) es)

  pub objects_one : map object (with_one number out es (given_in m a)) ≡ with_argument (map object es) a
  objects_one = by (writes a.direction) refl (list_any (of_window w) es) refl
    where
      by : (b : Bool) → writes a.direction ≡ b → (c : Bool) → list_any (of_window w) es ≡ c
          → map object (if b then with_version es w (held.Made number out) else with_read es w (bytes_of_window m (tasks.window a))) ≡ with_argument (map object es) a
      by true is true stands = rw (stands, sym there ∙ stands) (objects_made is es)
      by true is false stands = rw (stands, sym there ∙ stands) (one_more (held.Made number out) is)
      by false is true stands = rw (stands, sym there ∙ stands) (objects_same is es)
      by false is false stands = rw (stands, sym there ∙ stands) (one_more (held.Kept (bytes_of_window m (tasks.window a)) None) is)

pub objects_given : (m : Memory) (number out : ℕ) (es : List Entry) (arguments : List dialogue.Argument)
    → map object (with_given number out es (map (given_in m) arguments)) ≡ fold with_argument (map object es) arguments
objects_given m number out es [] = refl
objects_given m number out es (a ∷ arguments) =
    objects_given m number (next_out out a.direction) (with_one number out es (given_in m a)) arguments
    ∙ ap (λ os. fold with_argument os arguments) (objects_one m number out es a)

objects_after : (is_main : Bool) (number : ℕ) (m : Memory) (es : List Entry) (action : Action) → map object (entries_after is_main number m es action) ≡ pending_after is_main (map object es) action
objects_after true number m es (Calls call) = objects_given m number 0 es call.arguments
objects_after false number m es (Calls call) = refl
objects_after true number m es (Store address bytes) =
    sym (filter-map object (λ o. o.is_written || not (some_from (has_byte o.window) address (length bytes))) es)
objects_after false number m es (Store address bytes) = refl
objects_after is_main number m es (Wait address) = sym (filter-map object (λ o. not (o.window.base == address)) es)
objects_after is_main number m es Barrier = refl
objects_after is_main number m es Finish = refl
objects_after is_main number m es (End result) = refl
objects_after is_main number m es (Enter size) = refl
objects_after is_main number m es Turn = refl
objects_after is_main number m es (Leave base size) = refl
objects_after is_main number m es (Load address width) = refl
objects_after is_main number m es (Out bytes) = refl
objects_after is_main number m es In = refl
objects_after is_main number m es (Malloc size) = refl
objects_after is_main number m es Returns = refl
objects_after is_main number m es Start = refl
objects_after is_main number m es WaitFault = refl
objects_after is_main number m es DimFault = refl
objects_after is_main number m es (Fault kind) = refl

pub current_pending : (start : Memory) (tape : Tape) → map object (current start tape) ≡ pending tape
current_pending start [] = refl
current_pending start (i ∷ tape) =
    objects_after (is_none (body tape)) (called tape) (memory_after start tape) (current start tape) i.action
    ∙ ap (λ os. pending_after (is_none (body tape)) os i.action) (current_pending start tape)

-- ---- what is kept

kept_written : (k : Kept) (v : Held) → is_some (maker (kept_of k v)) ≡ is_some (maker v)
kept_written k (held.Made task out) = by (nat_lt task k.first)
  where
    by : (b : Bool) → is_some (maker (if b then held.Kept (k.value task out) (Some task) else held.Made task out)) ≡ true
    by true = refl
    by false = refl
kept_written k (held.Kept bytes by) = refl

kept_objects : (k : Kept) (es : List Entry) → map object (map (with_kept k) es) ≡ map object es
kept_objects k [] = refl
kept_objects k (e ∷ es) =
    ap (λ c. let o : Object = record { window = window e.window; is_written = c } in o ∷ map object (map (with_kept k) es)) (kept_written k e.version)
    ∙ ap (λ os. object e ∷ os) (kept_objects k es)

pub table_pending : (k : Kept) (start : Memory) (tape : Tape) (t : Table) → StandsFor k start tape t → IsPermutation (objects t) (pending tape)
table_pending k start tape t stands =
    subst (IsPermutation (objects t)) (kept_objects k (current start tape) ∙ current_pending start tape)
    (IsPermutation-map object (all_entries t) (entries_at k start tape) stands)

-- a filter that looks at windows and at what is written alone
filter_kept : (k : Kept) (p : Entry → Bool) → ((e : Entry) → p (with_kept k e) ≡ p e) → (es : List Entry) → filter p (map (with_kept k) es) ≡ map (with_kept k) (filter p es)
filter_kept k p same [] = refl
filter_kept k p same (e ∷ es) = by (p (with_kept k e)) (p e) (same e) (filter_kept k p same es)
  where
    by : (b c : Bool) → b ≡ c → filter p (map (with_kept k) es) ≡ map (with_kept k) (filter p es)
        → (if b then with_kept k e ∷ filter p (map (with_kept k) es) else filter p (map (with_kept k) es)) ≡ map (with_kept k) (if c then e ∷ filter p es else filter p es)
    by true true of_b rest = ap (λ xs. with_kept k e ∷ xs) rest
    by false false of_b rest = rest
    by true false of_b rest = absurd (cc)
    by false true of_b rest = absurd (cc)

-- ---- stores, waits, ends, and all else

module _ (k : Kept) (start : Memory) (tape : Tape) (i : Item) where
  abbrev main : Bool
  main = is_none (body tape)

  abbrev here : List Entry
  here = current start tape

  pub stands_by : (action : Action) (t : Table) → i.action ≡ action → IsPermutation (all_entries t) (map (with_kept k) (entries_after main (called tape) (memory_after start tape) here action)) → StandsFor k start (i ∷ tape) t
  stands_by action t is permuted =
      subst (λ (x : Action). IsPermutation (all_entries t) (map (with_kept k) (entries_after main (called tape) (memory_after start tape) here x))) (sym is) permuted

  pub stored_follows : (old new : Table) (address : ℕ) (bytes : List ℕ) → StandsFor k start tape old → main ≡ true → i.action ≡ Store address bytes
      → all_entries new ≡ without_read (all_entries old) address (length bytes) → StandsFor k start (i ∷ tape) new
  stored_follows old new address bytes stands by_main is taken =
      stands_by (Store address bytes) new is
      (rw (by_main, taken)
      (subst (IsPermutation (filter stays (all_entries old))) (filter_kept k stays same here) (filter-permuted stays (all_entries old) (entries_at k start tape) stands)))
    where
      stays : Entry → Bool
      stays e = is_written e || not (some_from (has_byte (window e.window)) address (length bytes))

      same : (e : Entry) → stays (with_kept k e) ≡ stays e
      same e = ap (λ b. b || not (some_from (has_byte (window e.window)) address (length bytes))) (kept_written k e.version)

  pub waited_follows : (old new : Table) (address : ℕ) → StandsFor k start tape old → i.action ≡ Wait address → new.rows ≡ without address old.rows → new.blocks ≡ without address old.blocks
      → StandsFor k start (i ∷ tape) new
  waited_follows old new address stands is rows blocks =
      let taken : all_entries new ≡ without address (all_entries old) =
      ap (λ es. es ++ new.blocks) rows ∙ ap (λ es. without address old.rows ++ es) blocks
      ∙ sym (filter-append (λ e. is_other address e.window) old.rows old.blocks) in
      stands_by (Wait address) new is
      (rw taken
      (subst (IsPermutation (without address (all_entries old))) (filter_kept k (λ e. is_other address e.window) (λ e. refl) here)
      (filter-permuted (λ e. is_other address e.window) (all_entries old) (entries_at k start tape) stands)))

  pub unchanged_follows : (t : Table) → StandsFor k start tape t → is_change main i.action ≡ false → StandsFor k start (i ∷ tape) t
  unchanged_follows t stands none = stands_by i.action t refl (subst (λ (xs : List Entry). IsPermutation (all_entries t) (map (with_kept k) xs)) (sym (stays main i.action none)) stands)
    where
      stays : (b : Bool) (action : Action) → is_change b action ≡ false → entries_after b (called tape) (memory_after start tape) here action ≡ here
      stays true (Calls call) h = absurd (cc)
      stays false (Calls call) h = refl
      stays true (Store address bytes) h = absurd (cc)
      stays false (Store address bytes) h = refl
      stays b (Wait address) h = absurd (cc)
      stays b Barrier h = absurd (cc)
      stays b Finish h = absurd (cc)
      stays b (End result) h = absurd (cc)
      stays b (Enter size) h = refl
      stays b Turn h = refl
      stays b (Leave base size) h = refl
      stays b (Load address width) h = refl
      stays b (Out bytes) h = refl
      stays b In h = refl
      stays b (Malloc size) h = refl
      stays b Returns h = refl
      stays b Start h = refl
      stays b WaitFault h = refl
      stays b DimFault h = refl
      stays b (Fault kind) h = refl

  pub barrier_follows : i.action ≡ Barrier → StandsFor k start (i ∷ tape) no_objects
  barrier_follows is = stands_by Barrier no_objects is (IsPermutation-refl [])

  pub finish_follows : i.action ≡ Finish → StandsFor k start (i ∷ tape) no_objects
  finish_follows is = stands_by Finish no_objects is (IsPermutation-refl [])

  pub end_follows : (result : _) → i.action ≡ End result → StandsFor k start (i ∷ tape) no_objects
  end_follows result is = stands_by (End result) no_objects is (IsPermutation-refl [])

pub begins : (k : Kept) (start : Memory) → StandsFor k start [] no_objects
begins k start = IsPermutation-refl []
