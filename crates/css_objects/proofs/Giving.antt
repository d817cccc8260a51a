-- What a call is given, one pointer after another.
use Rattle.std.proofs.Common.{◌≡◌, ℕ, zero, suc, ◌+◌, ◌≤◌, Bool, true, false, ◌&&◌, ◌||◌, List, [], ◌∷◌, ◌++◌, length, map, drop, slice_get, is_some, Option, Some, None, MatchOption, refl, sym, ap, ◌∙◌, subst, arith, if◌then◌else◌}
use Rattle.std.specs.List.{list_any}
use Rattle.std.specs.List.Sorted.{IsPermutation}
use Rattle.std.proofs.lemmas.List.{length-map}
use Rattle.std.proofs.lemmas.List.Folds.{list_any-append}
use Rattle.std.proofs.lemmas.List.Sorted.{IsPermutation-refl, IsPermutation-trans, IsPermutation-map, IsPermutation-append_left, list_any-IsPermutation}
use Rattle.std.proofs.lemmas.Bool.{or_from}
use Rattle.std.proofs.lemmas.Option.{slice_get_within}
use Rattle.css_base.specs.declared.direction.Direction.{Direction}
use Rattle.css_semantics.specs.Tasks as tasks
use Rattle.css_semantics.specs.Tasks.{is_same_window, writes}
use Rattle.css_semantics.specs.Pending.{Object}
use Rattle.css_semantics.specs.Rules.{overlap, overlaps_partly}
use Rattle.css_record.specs.declared.window.Window as coded
use Rattle.css_record.specs.Windows.{window}
use Rattle.css_arguments.specs.declared.argument.Argument as code
use Rattle.css_objects.specs.declared.version.Held.{Held}
use Rattle.css_objects.specs.declared.version.Held.TheVariants as held
use Rattle.css_arguments.specs.Arguments.{given, AreWindows}
use Rattle.css_arguments.specs.Lists.{Each}
use Rattle.css_objects.specs.Table.{Entry, object}
use Rattle.css_objects.specs.Naming.{Given, version_of, AreClear, given_by, and_read, read_for, read_by, renames, with_version, with_read, with_snapshot, with_one, next_out, with_given}
use Rattle.css_arguments.proofs.Lists.{any_map, place_map}
use Rattle.css_arguments.proofs.Looking.{within, drop_at, drop_over}
use Rattle.css_objects.proofs.Stores.{none_any}
use Rattle.css_objects.proofs.Holding.{version_there}

-- ---- pointers by their places

pub given_at : (ws : List coded.Window) (args : List code.Argument) (ss : List (Option (List ℕ))) (i : ℕ) (w : coded.Window) (a : code.Argument) (s : Option (List ℕ))
    → slice_get ws i ≡ Some w → slice_get args i ≡ Some a → slice_get ss i ≡ Some s → slice_get (given_by ws args ss) i ≡ Some (record { window = w; direction = a.direction; snapshot = s })
given_at [] args ss i w a s of_w of_a of_s = absurd (cc)
given_at (x ∷ ws) [] ss i w a s of_w of_a of_s = absurd (cc)
given_at (x ∷ ws) (y ∷ args) [] i w a s of_w of_a of_s = absurd (cc)
given_at (x ∷ ws) (y ∷ args) (z ∷ ss) zero w a s of_w of_a of_s =
    let p : x ≡ w = cc in
    let q : y ≡ a = cc in
    let r : z ≡ s = cc in
    ap (λ (v : coded.Window). Some (let g : Given = record { window = v; direction = y.direction; snapshot = z } in g)) p
    ∙ ap (λ (b : code.Argument). Some (let g : Given = record { window = w; direction = b.direction; snapshot = z } in g)) q
    ∙ ap (λ (t : Option (List ℕ)). Some (let g : Given = record { window = w; direction = a.direction; snapshot = t } in g)) r
given_at (x ∷ ws) (y ∷ args) (z ∷ ss) (suc i) w a s of_w of_a of_s = given_at ws args ss i w a s of_w of_a of_s

pub given_few : (ws : List coded.Window) (args : List code.Argument) (ss : List (Option (List ℕ))) → length (given_by ws args ss) ≤ length ws
given_few [] args ss = omega arith
given_few (x ∷ ws) [] ss = omega arith
given_few (x ∷ ws) (y ∷ args) [] = omega arith
given_few (x ∷ ws) (y ∷ args) (z ∷ ss) = omega (arith, given_few ws args ss)

pub read_few : (es : List Entry) (gs : List Given) → length (read_by es gs) ≤ length gs
read_few es [] = omega arith
read_few es (g ∷ gs) = by (read_for es g) (read_few es gs)
  where
    by : (o : Option Held) → length (read_by es gs) ≤ length gs → length (and_read o (read_by es gs)) ≤ suc (length gs)
    by None few = omega arith
    by (Some v) few = omega arith

-- ---- versions that are read

pub ReadTo : List Entry → List Given → (place : ℕ) → List Held → Type 0
ReadTo es gs place versions = versions ++ read_by es (drop place gs) ≡ read_by es gs

pub read_begin : (es : List Entry) (gs : List Given) → ReadTo es gs 0 []
unfolding ReadTo
read_begin es gs = refl

pub read_none : (es : List Entry) (gs : List Given) (place : ℕ) (versions : List Held) (g : Given) → ReadTo es gs place versions → slice_get gs place ≡ Some g → None ≡ read_for es g → ReadTo es gs (place + 1) versions
unfolding ReadTo
read_none es gs place versions g to at none =
    ap (λ o. versions ++ and_read o (read_by es (drop (place + 1) gs))) none ∙ sym (ap (λ xs. versions ++ read_by es xs) (drop_at gs place g at)) ∙ to

pub read_some : (es : List Entry) (gs : List Given) (place : ℕ) (versions : List Held) (g : Given) (v : Held) → ReadTo es gs place versions → slice_get gs place ≡ Some g → Some v ≡ read_for es g → ReadTo es gs (place + 1) (versions ++ v ∷ [])
unfolding ReadTo
read_some es gs place versions g v to at one =
    append_one versions v (read_by es (drop (place + 1) gs))
    ∙ ap (λ o. versions ++ and_read o (read_by es (drop (place + 1) gs))) one ∙ sym (ap (λ xs. versions ++ read_by es xs) (drop_at gs place g at)) ∙ to
  where
    append_one : (xs : List Held) (y : Held) (ys : List Held) → (xs ++ y ∷ []) ++ ys ≡ xs ++ y ∷ ys
    append_one [] y ys = refl
    append_one (x ∷ xs) y ys = ap (λ zs. x ∷ zs) (append_one xs y ys)

pub read_end : (es : List Entry) (gs : List Given) (place : ℕ) (versions : List Held) → ReadTo es gs place versions → length gs ≤ place → versions ≡ read_by es gs
unfolding ReadTo
read_end es gs place versions to over =
    sym (append_none versions) ∙ sym (ap (λ xs. versions ++ read_by es xs) (drop_over gs place over)) ∙ to
  where
    append_none : (xs : List Held) → xs ++ [] ≡ xs
    append_none [] = refl
    append_none (x ∷ xs) = ap (λ zs. x ∷ zs) (append_none xs)

-- ---- objects in another order

pub one_permuted : (number out : ℕ) (es fs : List Entry) (g : Given) → IsPermutation es fs → IsPermutation (with_one number out es g) (with_one number out fs g)
one_permuted number out es fs g permuted = by (writes g.direction)
  where
    version : (w : coded.Window) (v : Held) → IsPermutation (with_version es w v) (with_version fs w v)
    version w v =
        step (list_any (λ (e : Entry). is_same_window (window w) (window e.window)) es) (list_any (λ (e : Entry). is_same_window (window w) (window e.window)) fs)
        (list_any-IsPermutation (λ (e : Entry). is_same_window (window w) (window e.window)) es fs permuted)
      where
        step : (b c : Bool) → b ≡ c
            → IsPermutation (if b then map (λ (e : Entry). if is_same_window (window w) (window e.window) then record { window = e.window; version = v } else e) es else es ++ record { window = w; version = v } ∷ []) (if c then map (λ (e : Entry). if is_same_window (window w) (window e.window) then record { window = e.window; version = v } else e) fs else fs ++ record { window = w; version = v } ∷ [])
        step true true same = IsPermutation-map (λ (e : Entry). if is_same_window (window w) (window e.window) then record { window = e.window; version = v } else e) es fs permuted
        step false false same = IsPermutation-append_left (record { window = w; version = v } ∷ []) es fs permuted
        step true false same = absurd (cc)
        step false true same = absurd (cc)

    read : (w : coded.Window) (bytes : List ℕ) → IsPermutation (with_read es w bytes) (with_read fs w bytes)
    read w bytes =
        step (list_any (λ (e : Entry). is_same_window (window w) (window e.window)) es) (list_any (λ (e : Entry). is_same_window (window w) (window e.window)) fs)
        (list_any-IsPermutation (λ (e : Entry). is_same_window (window w) (window e.window)) es fs permuted)
      where
        step : (b c : Bool) → b ≡ c
            → IsPermutation (if b then es else es ++ record { window = w; version = held.Kept bytes None } ∷ []) (if c then fs else fs ++ record { window = w; version = held.Kept bytes None } ∷ [])
        step true true same = permuted
        step false false same = IsPermutation-append_left (record { window = w; version = held.Kept bytes None } ∷ []) es fs permuted
        step true false same = absurd (cc)
        step false true same = absurd (cc)

    snapshot : (w : coded.Window) (s : Option (List ℕ)) → IsPermutation (with_snapshot es w s) (with_snapshot fs w s)
    snapshot w None = permuted
    snapshot w (Some bytes) = read w bytes

    by : (b : Bool) → IsPermutation (if b then with_version es g.window (held.Made number out) else with_snapshot es g.window g.snapshot)
        (if b then with_version fs g.window (held.Made number out) else with_snapshot fs g.window g.snapshot)
    by true = version g.window (held.Made number out)
    by false = snapshot g.window g.snapshot

pub given_permuted : (number out : ℕ) (es fs : List Entry) (gs : List Given) → IsPermutation es fs → IsPermutation (with_given number out es gs) (with_given number out fs gs)
given_permuted number out es fs [] permuted = permuted
given_permuted number out es fs (g ∷ gs) permuted =
    given_permuted number (next_out out g.direction) (with_one number out es g) (with_one number out fs g) gs (one_permuted number out es fs g permuted)

-- ---- windows that stay clear

module _ (q : coded.Window → Bool) where
  clear_version : (es : List Entry) (w : coded.Window) (v : Held) → list_any (λ e. q e.window) es ≡ false → q w ≡ false → list_any (λ e. q e.window) (with_version es w v) ≡ false
  clear_version es w v none one = by (list_any (λ (e : Entry). is_same_window (window w) (window e.window)) es)
    where
      kept : (xs : List Entry) → list_any (λ (e : Entry). q e.window) (map (λ e. if is_same_window (window w) (window e.window) then record { window = e.window; version = v } else e) xs) ≡ list_any (λ (e : Entry). q e.window) xs
      kept [] = refl
      kept (x ∷ xs) = step (is_same_window (window w) (window x.window)) (kept xs)
        where
          step : (b : Bool) → list_any (λ (e : Entry). q e.window) (map (λ e. if is_same_window (window w) (window e.window) then record { window = e.window; version = v } else e) xs) ≡ list_any (λ (e : Entry). q e.window) xs
              → list_any (λ (e : Entry). q e.window) ((if b then record { window = x.window; version = v } else x) ∷ map (λ e. if is_same_window (window w) (window e.window) then record { window = e.window; version = v } else e) xs)
              ≡ list_any (λ (e : Entry). q e.window) (x ∷ xs)
          step true rest = ap (λ b. q x.window || b) rest
          step false rest = ap (λ b. q x.window || b) rest

      by : (b : Bool) → list_any (λ (e : Entry). q e.window)
          (if b then map (λ e. if is_same_window (window w) (window e.window) then record { window = e.window; version = v } else e) es else es ++ record { window = w; version = v } ∷ []) ≡ false
      by true = kept es ∙ none
      by false =
          list_any-append (λ (e : Entry). q e.window) es (record { window = w; version = v } ∷ [])
          ∙ or_from (list_any (λ (e : Entry). q e.window) es) (q w || false) none (or_from (q w) false one refl)

  clear_read : (es : List Entry) (w : coded.Window) (bytes : List ℕ) → list_any (λ e. q e.window) es ≡ false → q w ≡ false → list_any (λ e. q e.window) (with_read es w bytes) ≡ false
  clear_read es w bytes none one = by (list_any (λ (e : Entry). is_same_window (window w) (window e.window)) es)
    where
      by : (b : Bool) → list_any (λ (e : Entry). q e.window) (if b then es else es ++ record { window = w; version = held.Kept bytes None } ∷ []) ≡ false
      by true = none
      by false =
          list_any-append (λ (e : Entry). q e.window) es (record { window = w; version = held.Kept bytes None } ∷ [])
          ∙ or_from (list_any (λ (e : Entry). q e.window) es) (q w || false) none (or_from (q w) false one refl)

  clear_one : (number out : ℕ) (es : List Entry) (g : Given) → list_any (λ e. q e.window) es ≡ false → q g.window ≡ false → list_any (λ e. q e.window) (with_one number out es g) ≡ false
  clear_one number out es g none one = by (writes g.direction) g.snapshot
    where
      by : (b : Bool) (s : Option (List ℕ)) → list_any (λ (e : Entry). q e.window) (if b then with_version es g.window (held.Made number out) else with_snapshot es g.window s) ≡ false
      by true s = clear_version es g.window (held.Made number out) none one
      by false None = none
      by false (Some bytes) = clear_read es g.window bytes none one

-- ---- what was entered so far

pub record GivenTo (number : ℕ) (ws : List coded.Window) (gs : List Given) (old : List Entry) (place out : ℕ) (new : List Entry) : Type 0 where
  pub permuted : IsPermutation (with_given number out new (drop place gs)) (with_given number 0 old gs)
  pub few : out ≤ place
  pub clear : Each ws (λ w. list_any (λ o. overlap (window w) o.window) (map object new) ≡ false)

pub given_begin : (number : ℕ) (ws : List coded.Window) (gs : List Given) (old : List Entry) → Each ws (λ w. list_any (λ o. overlap (window w) o.window) (map object old) ≡ false) → GivenTo number ws gs old 0 0 old
given_begin number ws gs old clear = record { permuted = IsPermutation-refl (with_given number 0 old gs); few = omega arith; clear = clear }

next_few : (out : ℕ) (d : Direction) → next_out out d ≤ out + 1
next_few out d = by (writes d)
  where
    by : (b : Bool) → (if b then out + 1 else out) ≤ out + 1
    by true = omega arith
    by false = omega arith

pub given_next : (number : ℕ) (ws : List coded.Window) (gs : List Given) (old : List Entry) (place out : ℕ) (now new : List Entry) (g : Given) → GivenTo number ws gs old place out now → slice_get gs place ≡ Some g
    → Each ws (λ v. overlap (window v) (window g.window) ≡ false) → IsPermutation new (with_one number out now g) → GivenTo number ws gs old (place + 1) (next_out out g.direction) new
given_next number ws gs old place out now new g to at apart permuted = record {
  permuted =
      IsPermutation-trans (with_given number (next_out out g.direction) new (drop (place + 1) gs)) (with_given number out now (drop place gs)) (with_given number 0 old gs)
      (subst (IsPermutation (with_given number (next_out out g.direction) new (drop (place + 1) gs))) (sym (ap (with_given number out now) (drop_at gs place g at)))
      (given_permuted number (next_out out g.direction) new (with_one number out now g) (drop (place + 1) gs) permuted))
      to.permuted;
  few = omega (arith, to.few, next_few out g.direction);
  clear = λ i w of_w.
      any_map object (λ o. overlap (window w) o.window) new
      ∙ list_any-IsPermutation (λ (e : Entry). overlap (window w) (window e.window)) new (with_one number out now g) permuted
      ∙ clear_one (λ v. overlap (window w) (window v)) number out now g
      (sym (any_map object (λ o. overlap (window w) o.window) now) ∙ to.clear i w of_w) (apart i w of_w);
}

pub given_end : (number : ℕ) (ws : List coded.Window) (gs : List Given) (old : List Entry) (place out : ℕ) (new : List Entry) → GivenTo number ws gs old place out new → length gs ≤ place → IsPermutation new (with_given number 0 old gs)
given_end number ws gs old place out new to over =
    subst (λ xs. IsPermutation (with_given number out new xs) (with_given number 0 old gs)) (drop_over gs place over) to.permuted

-- ---- windows of a call that is judged

pub window_is : (arguments : List code.Argument) (ws : List coded.Window) → AreWindows arguments ws → (i : ℕ) (w : coded.Window) (a : code.Argument) → slice_get ws i ≡ Some w → slice_get arguments i ≡ Some a → window w ≡ tasks.window (given a)
window_is arguments ws are i w a of_w of_a =
    some_same (window w) (tasks.window (given a))
    (sym (place_map window ws i w of_w) ∙ ap (λ xs. slice_get xs i) are.same
    ∙ place_map tasks.window (map given arguments) i (given a) (place_map given arguments i a of_a))
  where
    some_same : (x y : tasks.Window) → Some x ≡ Some y → x ≡ y
    some_same x y h = cc

pub windows_long : (arguments : List code.Argument) (ws : List coded.Window) → AreWindows arguments ws → length ws ≡ length arguments
windows_long arguments ws are =
    sym (length-map ws window) ∙ ap length are.same ∙ length-map (map given arguments) tasks.window ∙ length-map arguments given

pub clear_call : (arguments : List code.Argument) (ws : List coded.Window) (os : List Object) → AreWindows arguments ws
    → list_any (overlaps_partly os (map given arguments)) (map given arguments) ≡ false → AreClear ws os
clear_call arguments ws os are none = record {
  objects_clear = λ i w of_w.
      let a = argument i w of_w in
      subst (λ (v : tasks.Window). list_any (λ o. overlap v o.window) os ≡ false) (sym a.2)
      (left (list_any (λ o. overlap (tasks.window (given a.0)) o.window) os) (list_any (λ b. overlap (tasks.window (given a.0)) (tasks.window b)) (map given arguments)) (alone i a.0 a.1));
  windows_clear = λ i v of_v j w of_w.
      let a = argument i v of_v in
      let b = argument j w of_w in
      subst (λ (x : tasks.Window). overlap x (window w) ≡ false) (sym a.2)
      (subst (λ (x : tasks.Window). overlap (tasks.window (given a.0)) x ≡ false) (sym b.2)
      (none_any (λ c. overlap (tasks.window (given a.0)) (tasks.window c)) (map given arguments) j (given b.0)
      (right (list_any (λ o. overlap (tasks.window (given a.0)) o.window) os) (list_any (λ c. overlap (tasks.window (given a.0)) (tasks.window c)) (map given arguments)) (alone i a.0 a.1))
      (place_map given arguments j b.0 b.1)));
}
  where
    argument : (i : ℕ) (w : coded.Window) → slice_get ws i ≡ Some w → (a : code.Argument) × (slice_get arguments i ≡ Some a) × (window w ≡ tasks.window (given a))
    argument i w of_w =
        let a = within arguments i (omega (arith, slice_get_within ws i w of_w, windows_long arguments ws are)) in
        (a.0, a.1, window_is arguments ws are i w a.0 of_w a.1)

    alone : (i : ℕ) (a : code.Argument) → slice_get arguments i ≡ Some a → overlaps_partly os (map given arguments) (given a) ≡ false
    alone i a of_a = none_any (overlaps_partly os (map given arguments)) (map given arguments) i (given a) none (place_map given arguments i a of_a)

    left : (x y : Bool) → (x || y) ≡ false → x ≡ false
    left true y h = h
    left false y h = refl

    right : (x y : Bool) → (x || y) ≡ false → y ≡ false
    right true y h = absurd (cc)
    right false y h = h

-- ---- which arguments are renamed

pub renamed_is : (os : List Object) (a : code.Argument) (w : coded.Window) → window w ≡ tasks.window (given a) → (writes a.direction && list_any (λ o. is_same_window (window w) o.window) os) ≡ renames os (given a)
renamed_is os a w is = ap (λ (v : tasks.Window). writes a.direction && list_any (λ o. is_same_window v o.window) os) is

pub held_there : {V : Type 0} (now : V → Held) (r : Option V) (o : Option Held) → MatchOption r (o ≡ None) (λ v. o ≡ Some (now v)) → is_some r ≡ is_some o
held_there now None o none = ap is_some (sym none)
held_there now (Some v) o some = ap is_some (sym some)

pub held_any : (es : List Entry) (w : coded.Window) → is_some (version_of es w) ≡ list_any (λ o. is_same_window (window w) o.window) (map object es)
held_any es w = version_there es w ∙ sym (any_map object (λ o. is_same_window (window w) o.window) es)
