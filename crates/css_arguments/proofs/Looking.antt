-- Lists that are looked at one element after another.
use Rattle.std.proofs.Common.{◌≡◌, ℕ, zero, suc, ◌+◌, ◌<◌, ◌≤◌, Bool, true, false, not, ◌&&◌, ◌||◌, List, [], ◌∷◌, ◌++◌, length, filter, take, drop, fold, slice_get, Option, Some, None, is_some, MatchOption, refl, sym, ap, ◌∙◌, subst, arith, if◌then◌else◌}
use Rattle.std.specs.List.{list_any}
use Rattle.std.proofs.lemmas.Bool.{or_left, or_from, false≢true}
use Rattle.std.proofs.lemmas.List.Folds.{list_any-append}
use Rattle.css_semantics.specs.Dialogue.{Argument}
use Rattle.css_semantics.specs.Memory.{rounded_up}
use Rattle.css_semantics.specs.Tasks.{Window, window, is_same_window, window_length, writes}
use Rattle.css_semantics.specs.Rules.{different, room_of, has_alias}
use Rattle.css_arguments.specs.declared.argument.Argument as code
use Rattle.css_arguments.specs.Arguments.{is_unfit, IsWindowOf}
use Rattle.css_arguments.specs.Rooms.{bytes_of}
use Rattle.css_record.specs.declared.window.Window as coded

pub within : {X : Type 0} (xs : List X) (i : ℕ) → i < length xs → (x : X) × (slice_get xs i ≡ Some x)
within [] i inside = absurd (omega arith)
within (x ∷ xs) zero inside = (x, refl)
within (x ∷ xs) (suc i) inside = within xs i (omega arith)

pub drop_at : {X : Type 0} (xs : List X) (i : ℕ) (x : X) → slice_get xs i ≡ Some x → drop i xs ≡ x ∷ drop (i + 1) xs
drop_at [] i x at = absurd (cc)
drop_at (y ∷ xs) zero x at = ap (λ z. z ∷ xs) (some_inside y x at)
  where
    some_inside : {X : Type 0} (a b : X) → Some a ≡ Some b → a ≡ b
    some_inside a b e = cc
drop_at (y ∷ xs) (suc i) x at = subst (λ (n : ℕ). drop i xs ≡ x ∷ drop n (y ∷ xs)) (let e : suc (i + 1) ≡ suc i + 1 = omega arith in e) (drop_at xs i x at)

pub drop_over : {X : Type 0} (xs : List X) (i : ℕ) → length xs ≤ i → drop i xs ≡ []
drop_over [] zero over = refl
drop_over [] (suc i) over = refl
drop_over (x ∷ xs) zero over = absurd (omega arith)
drop_over (x ∷ xs) (suc i) over = drop_over xs i (omega arith)

pub take_at : {X : Type 0} (xs : List X) (i : ℕ) (x : X) → slice_get xs i ≡ Some x → take (i + 1) xs ≡ take i xs ++ x ∷ []
take_at [] i x at = absurd (cc)
take_at (y ∷ xs) zero x at = ap (λ z. z ∷ []) (some_inside y x at)
  where
    some_inside : {X : Type 0} (a b : X) → Some a ≡ Some b → a ≡ b
    some_inside a b e = cc
take_at (y ∷ xs) (suc i) x at = subst (λ (n : ℕ). take n (y ∷ xs) ≡ y ∷ (take i xs ++ x ∷ [])) (let e : suc (i + 1) ≡ suc i + 1 = omega arith in e) (ap (λ zs. y ∷ zs) (take_at xs i x at))

-- ---- whether one passes

module _ {X : Type 0} (p : X → Bool) (xs : List X) where
  -- none before a place passes, of those from a first one on
  pub AnyLeft : (first place : ℕ) → Type 0
  AnyLeft first place = list_any p (drop place xs) ≡ list_any p (drop first xs)

  pub any_begin : (first : ℕ) → AnyLeft first first
  unfolding AnyLeft
  any_begin first = refl

  pub any_found : (first place : ℕ) (x : X) → AnyLeft first place → slice_get xs place ≡ Some x → p x ≡ true → true ≡ list_any p (drop first xs)
  unfolding AnyLeft
  any_found first place x left at passes =
      sym (or_left (p x) (list_any p (drop (place + 1) xs)) passes) ∙ sym (ap (list_any p) (drop_at xs place x at)) ∙ left

  pub any_next : (first place : ℕ) (x : X) → AnyLeft first place → slice_get xs place ≡ Some x → p x ≡ false → AnyLeft first (place + 1)
  unfolding AnyLeft
  any_next first place x left at fails =
      sym (ap (λ b. b || list_any p (drop (place + 1) xs)) fails) ∙ sym (ap (list_any p) (drop_at xs place x at)) ∙ left

  pub any_over : (first place : ℕ) → AnyLeft first place → length xs ≤ place → false ≡ list_any p (drop first xs)
  unfolding AnyLeft
  any_over first place left over = sym (ap (list_any p) (drop_over xs place over)) ∙ left

  -- the same of the first ones alone
  pub NoneBefore : ℕ → Type 0
  NoneBefore place = list_any p (take place xs) ≡ false

  pub before_begin : NoneBefore 0
  unfolding NoneBefore
  before_begin = refl

  pub before_next : (place : ℕ) (x : X) → NoneBefore place → slice_get xs place ≡ Some x → p x ≡ false → NoneBefore (place + 1)
  unfolding NoneBefore
  before_next place x none at fails =
      ap (list_any p) (take_at xs place x at) ∙ list_any-append p (take place xs) (x ∷ [])
      ∙ or_from (list_any p (take place xs)) (p x || false) none (or_from (p x) false fails refl)

  pub before_end : (place : ℕ) → NoneBefore place → false ≡ list_any p (take place xs)
  unfolding NoneBefore
  before_end place none = sym none

-- one of the first ones passes
pub before_found : {X : Type 0} (p : X → Bool) (xs : List X) (end place : ℕ) (x : X) → place < end → slice_get xs place ≡ Some x → p x ≡ true → true ≡ list_any p (take end xs)
before_found p [] end place x below at passes = absurd (cc)
before_found p (y ∷ xs) zero place x below at passes = absurd (omega arith)
before_found p (y ∷ xs) (suc end) zero x below at passes =
    let same : y ≡ x = cc in
    sym (or_left (p y) (list_any p (take end xs)) (ap p same ∙ passes))
before_found p (y ∷ xs) (suc end) (suc place) x below at passes =
    by (p y) (before_found p xs end place x (omega arith) at passes)
  where
    by : (b : Bool) → true ≡ list_any p (take end xs) → true ≡ (b || list_any p (take end xs))
    by true rest = refl
    by false rest = rest

-- ---- the room of windows

same_filter : {X : Type 0} (q r s : X → Bool) (xs : List X) → ((x : X) → s x ≡ (r x && q x)) → filter q (filter r xs) ≡ filter s xs
same_filter q r s [] same = refl
same_filter q r s (x ∷ xs) same = by (q x) (r x) refl refl (same_filter q r s xs same)
  where
    by : (b c : Bool) → q x ≡ b → r x ≡ c → filter q (filter r xs) ≡ filter s xs
        → filter q (if c then x ∷ filter r xs else filter r xs) ≡ (if s x then x ∷ filter s xs else filter s xs)
    by true true of_q of_r rest = rw (same x, of_r, of_q) (ap (λ ys. x ∷ ys) rest)
    by false true of_q of_r rest = rw (same x, of_r, of_q) rest
    by b false of_q of_r rest = rw (same x, of_r) rest

all_pass : {X : Type 0} (xs : List X) → filter (λ x. true) xs ≡ xs
all_pass [] = refl
all_pass (x ∷ xs) = ap (λ ys. x ∷ ys) (all_pass xs)

abbrev added : ℕ → Window → ℕ
added sum w = sum + rounded_up 128 (window_length w)

-- what differs from the first ones, of those from a place on
abbrev others : List Window → ℕ → List Window
others ws place = filter (λ v. not (list_any (λ u. is_same_window u v) (take place ws))) (different (drop place ws))

-- so many bytes, and those that are still to be added, are the room of all
pub RoomLeft : List Window → (place room : ℕ) → Type 0
RoomLeft ws place room = fold added room (others ws place) ≡ room_of ws

pub room_begin : (ws : List Window) → RoomLeft ws 0 16384
unfolding RoomLeft
room_begin ws = ap (fold added 16384) (all_pass (different ws))

module _ (ws : List Window) (place room : ℕ) (w : Window) (left : RoomLeft ws place room) (at : slice_get ws place ≡ Some w) where
  abbrev is_new : Window → Bool
  is_new v = not (list_any (λ u. is_same_window u v) (take place ws))

  abbrev rest : List Window
  rest = different (drop (place + 1) ws)

  here : others ws place ≡ (if is_new w then w ∷ filter is_new (filter (λ v. not (is_same_window w v)) rest) else filter is_new (filter (λ v. not (is_same_window w v)) rest))
  here = ap (λ xs. filter is_new (different xs)) (drop_at ws place w at)

  later : filter is_new (filter (λ v. not (is_same_window w v)) rest) ≡ others ws (place + 1)
  later =
      same_filter is_new (λ v. not (is_same_window w v)) (λ v. not (list_any (λ u. is_same_window u v) (take (place + 1) ws))) rest
      (λ v.
      ap (λ xs. not (list_any (λ u. is_same_window u v) xs)) (take_at ws place w at)
      ∙ ap not (list_any-append (λ u. is_same_window u v) (take place ws) (w ∷ []))
      ∙ by (list_any (λ u. is_same_window u v) (take place ws)) (is_same_window w v))
    where
      by : (x y : Bool) → not (x || (y || false)) ≡ (not y && not x)
      by true true = refl
      by true false = refl
      by false true = refl
      by false false = refl

  -- a window that stands before
  pub room_old : list_any (λ u. is_same_window u w) (take place ws) ≡ true → RoomLeft ws (place + 1) room
  unfolding RoomLeft
  room_old stands =
      ap (fold added room) (sym later)
      ∙ sym (ap (λ b. fold added room (if not b then w ∷ filter is_new (filter (λ v. not (is_same_window w v)) rest) else filter is_new (filter (λ v. not (is_same_window w v)) rest))) stands)
      ∙ sym (ap (fold added room) here) ∙ left

  -- and one that doesn't
  pub room_new : list_any (λ u. is_same_window u w) (take place ws) ≡ false → RoomLeft ws (place + 1) (room + rounded_up 128 (window_length w))
  unfolding RoomLeft
  room_new none =
      ap (fold added (room + rounded_up 128 (window_length w))) (sym later)
      ∙ sym (ap (λ b. fold added room (if not b then w ∷ filter is_new (filter (λ v. not (is_same_window w v)) rest) else filter is_new (filter (λ v. not (is_same_window w v)) rest))) none)
      ∙ sym (ap (fold added room) here) ∙ left

  pub room_next : RoomLeft ws (place + 1) (room + bytes_of place ws w)
  unfolding RoomLeft
  room_next = by (list_any (λ u. is_same_window u w) (take place ws)) refl
    where
      by : (b : Bool) → list_any (λ u. is_same_window u w) (take place ws) ≡ b → RoomLeft ws (place + 1) (room + (if b then 0 else rounded_up 128 (window_length w)))
      by true stands = subst (RoomLeft ws (place + 1)) (let e : room ≡ room + 0 = omega arith in e) (room_old stands)
      by false none = room_new none

pub room_end : (ws : List Window) (place room : ℕ) → RoomLeft ws place room → length ws ≤ place → room ≡ room_of ws
unfolding RoomLeft
room_end ws place room left over = sym (ap (λ xs. fold added room (filter (λ v. not (list_any (λ u. is_same_window u v) (take place ws))) (different xs))) (drop_over ws place over)) ∙ left

-- ---- windows that stand twice

-- none before a place stands twice
pub AliasLeft : List Argument → ℕ → Type 0
AliasLeft all place = has_alias (drop place all) ≡ has_alias all

pub alias_begin : (all : List Argument) → AliasLeft all 0
unfolding AliasLeft
alias_begin all = refl

module _ (all : List Argument) (place : ℕ) (a : Argument) (left : AliasLeft all place) (at : slice_get all place ≡ Some a) where
  abbrev twice : Argument → Bool
  twice b = is_same_window (window a) (window b) && (writes a.direction || writes b.direction)

  pub alias_found : list_any twice (drop (place + 1) all) ≡ true → true ≡ has_alias all
  unfolding AliasLeft
  alias_found found = sym (or_left (list_any twice (drop (place + 1) all)) (has_alias (drop (place + 1) all)) found) ∙ sym (ap has_alias (drop_at all place a at)) ∙ left

  pub alias_next : list_any twice (drop (place + 1) all) ≡ false → AliasLeft all (place + 1)
  unfolding AliasLeft
  alias_next none = sym (ap (λ b. b || has_alias (drop (place + 1) all)) none) ∙ sym (ap has_alias (drop_at all place a at)) ∙ left

pub alias_over : (all : List Argument) (place : ℕ) → AliasLeft all place → length all ≤ place → false ≡ has_alias all
unfolding AliasLeft
alias_over all place left over = sym (ap has_alias (drop_over all place over)) ∙ left

-- ---- windows of arguments

pub fit_of : (a : code.Argument) (r : Option coded.Window) → MatchOption r (is_unfit a ≡ true) (IsWindowOf a) → is_some r ≡ true → is_unfit a ≡ false
fit_of a None unfit none = absurd (false≢true none)
fit_of a (Some w) of none = of.fit

pub twice_is : (a : Argument) (w : Window) (written answer : Bool) (rest : List Argument) → w ≡ window a → written ≡ writes a.direction
    → answer ≡ list_any (λ b. is_same_window w (window b) && (written || writes b.direction)) rest
    → list_any (λ b. is_same_window (window a) (window b) && (writes a.direction || writes b.direction)) rest ≡ answer
twice_is a w written answer rest of_w of_written is =
    ap (λ v. list_any (λ b. is_same_window v (window b) && (writes a.direction || writes b.direction)) rest) (sym of_w)
    ∙ ap (λ r. list_any (λ b. is_same_window w (window b) && (r || writes b.direction)) rest) (sym of_written) ∙ sym is
