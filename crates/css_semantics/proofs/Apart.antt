-- Pending objects share no byte, while no call is given a window that meets another one in part.
use Rattle.std.proofs.Common.{◌≡◌, Bool, true, false, not, ◌&&◌, ◌||◌, List, [], ◌∷◌, ◌++◌, filter, map, fold, slice_index_or, All, refl, if◌then◌else◌}
use Rattle.std.specs.List.{list_any}
use Rattle.std.proofs.lemmas.Bool.{or_parts}
use Rattle.std.proofs.lemmas.List.Elements.{All-nil, All-cons, All-head, All-tail, All-weaker, All-filter, All-push, All-map}
use Rattle.css_semantics.specs.Dialogue.{Argument}
use Rattle.css_semantics.specs.Tasks.{Window, window, is_same_window, writes}
use Rattle.css_semantics.specs.Pending.{Object, is_named_by, with_argument}
use Rattle.css_semantics.specs.Rules.{share_byte, overlap, overlaps_partly}
use Rattle.css_semantics.specs.Clear.{AreApart}
use Rattle.css_semantics.proofs.Windows.{apart-sym}

-- what no element of a list has
pub none_of : {X : Type 0} (test : X → Bool) (xs : List X) → list_any test xs ≡ false → All (λ x. test x ≡ false) xs
none_of test [] none = All-nil (λ x. test x ≡ false)
none_of test (x ∷ xs) none =
    let parts = or_parts (test x) (list_any test xs) none in
    All-cons (λ x. test x ≡ false) x xs parts.0 (none_of test xs parts.1)

-- ---- lists of objects

abbrev IsApartFrom : List Object → Object → Type 0
IsApartFrom objects o = All (λ p. share_byte o.window p.window ≡ false) objects

kept_apart : (test : Object → Bool) (o : Object) (objects : List Object) (b : Bool) → AreApart (filter test objects) → IsApartFrom (filter test objects) o → AreApart (if b then o ∷ filter test objects else filter test objects)
kept_apart test o objects true apart from = (from, apart)
kept_apart test o objects false apart from = apart

pub filter-apart : (test : Object → Bool) (objects : List Object) → AreApart objects → AreApart (filter test objects)
filter-apart test [] apart = tt
filter-apart test (o ∷ objects) apart =
    kept_apart test o objects (test o) (filter-apart test objects apart.1)
    (All-filter test (λ p. share_byte o.window p.window ≡ false) objects apart.0)

map-apart : (f : Object → Object) → ((o : Object) → (f o).window ≡ o.window) → (objects : List Object) → AreApart objects → AreApart (map f objects)
map-apart f same [] apart = tt
map-apart f same (o ∷ objects) apart = (
  All-map (λ p. share_byte (f o).window p.window ≡ false) f objects
      (All-weaker (λ p. share_byte o.window p.window ≡ false) (λ p. share_byte (f o).window (f p).window ≡ false) (λ p h. rw (same o, same p) h) objects apart.0),
  map-apart f same objects apart.1,
)

push-apart : (objects : List Object) (o : Object) → AreApart objects → All (λ p. share_byte p.window o.window ≡ false) objects → AreApart (objects ++ o ∷ [])
push-apart [] o apart from = (All-nil (λ p. share_byte o.window p.window ≡ false), tt)
push-apart (p ∷ objects) o apart from = (
  All-push (λ q. share_byte p.window q.window ≡ false) objects o apart.0 (All-head (λ p. share_byte p.window o.window ≡ false) p objects from),
  push-apart objects o apart.1 (All-tail (λ p. share_byte p.window o.window ≡ false) p objects from),
)

-- ---- arguments

-- a window meets none of the objects in part
abbrev IsFreeOf : List Object → Window → Type 0
IsFreeOf objects w = All (λ o. overlap w o.window ≡ false) objects

abbrev marked : Argument → Object → Object
marked a o = if is_named_by a o then record o { is_written = o.is_written || writes a.direction } else o

window_stays : (b : Bool) (written : Bool) (o : Object) → (let p : Object = if b then record o { is_written = written } else o in p.window) ≡ o.window
window_stays true written o = refl
window_stays false written o = refl

marked_window : (a : Argument) (o : Object) → (marked a o).window ≡ o.window
marked_window a o = window_stays (is_named_by a o) (o.is_written || writes a.direction) o

-- a window that meets another one, though not in part, is that one
shares_nothing : (share same : Bool) → (share && not same) ≡ false → same ≡ false → share ≡ false
shares_nothing true same partly apart = absurd (cc)
shares_nothing false same partly apart = refl

new_apart : (a : Argument) (objects : List Object) → IsFreeOf objects (window a) → list_any (is_named_by a) objects ≡ false → All (λ o. share_byte o.window (window a) ≡ false) objects
new_apart a [] free none = All-nil (λ o. share_byte o.window (window a) ≡ false)
new_apart a (o ∷ objects) free none =
    let parts = or_parts (is_named_by a o) (list_any (is_named_by a) objects) none in
    let here = All-head (λ o. overlap (window a) o.window ≡ false) o objects free in
    All-cons (λ o. share_byte o.window (window a) ≡ false) o objects
    (apart-sym (window a) o.window (shares_nothing (share_byte (window a) o.window) (is_same_window (window a) o.window) here parts.0))
    (new_apart a objects (All-tail (λ o. overlap (window a) o.window ≡ false) o objects free) parts.1)

abbrev new_object : Argument → Object
new_object a = record { window = window a; is_written = writes a.direction }

abbrev joined : Argument → List Object → Bool → List Object
joined a objects is_old = if is_old then map (marked a) objects else objects ++ new_object a ∷ []

joined-apart : (a : Argument) (objects : List Object) (is_old : Bool) → list_any (is_named_by a) objects ≡ is_old → AreApart objects → IsFreeOf objects (window a) → AreApart (joined a objects is_old)
joined-apart a objects true old apart free = map-apart (marked a) (marked_window a) objects apart
joined-apart a objects false new apart free = push-apart objects (new_object a) apart (new_apart a objects free new)

joined-free : (a : Argument) (objects : List Object) (is_old : Bool) (w : Window) → overlap w (window a) ≡ false → IsFreeOf objects w → IsFreeOf (joined a objects is_old) w
joined-free a objects true w other free =
    All-map (λ o. overlap w o.window ≡ false) (marked a) objects
    (All-weaker (λ o. overlap w o.window ≡ false) (λ o. overlap w (marked a o).window ≡ false) (λ o h. rw (marked_window a o) h) objects free)
joined-free a objects false w other free = All-push (λ o. overlap w o.window ≡ false) objects (new_object a) free other

-- of some arguments each meets none of the objects in part, and none of the others
abbrev AreFree : List Object → List Argument → Type 0
AreFree objects arguments = All (λ a. IsFreeOf objects (window a)) arguments

abbrev FitTogether : List Argument → Type 0
FitTogether arguments = All (λ a. All (λ b. overlap (window a) (window b) ≡ false) arguments) arguments

pub called_apart : (objects : List Object) (arguments : List Argument) → AreApart objects → AreFree objects arguments → FitTogether arguments → AreApart (fold with_argument objects arguments)
called_apart objects [] apart free fit = apart
called_apart objects (a ∷ rest) apart free fit =
    let is_old = list_any (is_named_by a) objects in
    let others = All-tail (λ b. All (λ c. overlap (window b) (window c) ≡ false) (a ∷ rest)) a rest fit in
    called_apart (with_argument objects a) rest
    (joined-apart a objects is_old refl apart (All-head (λ b. IsFreeOf objects (window b)) a rest free))
    (λ k d below. joined-free a objects is_old (window (slice_index_or rest k d)) (All-head (λ c. overlap (window (slice_index_or rest k d)) (window c) ≡ false) a rest (others k d below))
    (All-tail (λ b. IsFreeOf objects (window b)) a rest free k d below))
    (All-weaker (λ b. All (λ c. overlap (window b) (window c) ≡ false) (a ∷ rest)) (λ b. All (λ c. overlap (window b) (window c) ≡ false) rest)
    (λ b h. All-tail (λ c. overlap (window b) (window c) ≡ false) a rest h) rest others)

fits_by : (objects : List Object) (arguments : List Argument) (a : Argument) → overlaps_partly objects arguments a ≡ false → IsFreeOf objects (window a) × All (λ b. overlap (window a) (window b) ≡ false) arguments
fits_by objects arguments a fine =
    let parts = or_parts (list_any (λ o. overlap (window a) o.window) objects) (list_any (λ b. overlap (window a) (window b)) arguments) fine in
    (none_of (λ o. overlap (window a) o.window) objects parts.0, none_of (λ b. overlap (window a) (window b)) arguments parts.1)

-- a call that isn't refused keeps them apart
pub call-apart : (objects : List Object) (arguments : List Argument) → AreApart objects → list_any (overlaps_partly objects arguments) arguments ≡ false → AreApart (fold with_argument objects arguments)
call-apart objects arguments apart fine =
    let each = none_of (overlaps_partly objects arguments) arguments fine in
    called_apart objects arguments apart
    (λ k d below. (fits_by objects arguments (slice_index_or arguments k d) (each k d below)).0)
    (λ k d below. (fits_by objects arguments (slice_index_or arguments k d) (each k d below)).1)
