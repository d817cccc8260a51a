-- Bytes on pages without a marked window.
use Rattle.std.proofs.Common.{◌≡◌, ℕ, ◌+◌, ◌*◌, ◌≤◌, ◌<◌, Bool, true, false, not, ◌&&◌, List, [], ◌∷◌, map, refl, ap, arith}
use Rattle.std.specs.List.{list_any}
use Rattle.std.proofs.lemmas.Bool.{or_left, or_right, false_from_ne_true, not-true, not-false}
use Rattle.css_semantics.specs.Memory.{all_from}
use Rattle.css_semantics.specs.Tasks.{Window, has_byte}
use Rattle.css_semantics.specs.Pending.{Object, some_from}
use Rattle.css_semantics.specs.Rules.{meets}
use Rattle.css_semantics.proofs.WindowRanges.{have_gives, rows_by}
use Rattle.css_memory.specs.Pages.{page_of, is_on, touches}
use Rattle.css_memory.proofs.Ranges.{all_gives, all_by}

-- a window has each of its bytes on the byte's page
byte_on : (w : Window) (a : ℕ) → has_byte w a ≡ true → is_on (page_of a) w ≡ true
byte_on w a has =
    let row = have_gives w.rows w.base w.width w.stride a has in
    rows_by w.rows w.base w.width w.stride (4096 * page_of a) (4096 * page_of a + 4096) row.0 row.1 (omega (arith, row.2)) (omega (arith, row.3))

abbrev windows : List Object → List Window
windows objects = map (λ o. o.window) objects

none_first : (page : ℕ) (o : Object) (objects : List Object) → list_any (is_on page) (windows (o ∷ objects)) ≡ false → is_on page o.window ≡ false
none_first page o objects none =
    false_from_ne_true (is_on page o.window) (λ on. cc (or_left (is_on page o.window) (list_any (is_on page) (windows objects)) on))

none_later : (page : ℕ) (o : Object) (objects : List Object) → list_any (is_on page) (windows (o ∷ objects)) ≡ false → list_any (is_on page) (windows objects) ≡ false
none_later page o objects none =
    false_from_ne_true (list_any (is_on page) (windows objects)) (λ on. cc (or_right (is_on page o.window) (list_any (is_on page) (windows objects)) on))

and_false : (a b : Bool) → b ≡ false → (a && b) ≡ false
and_false true b is = is
and_false false b is = refl

meets_none : (which : Object → Bool) (objects : List Object) (address n : ℕ)
    → ((a : ℕ) → address ≤ a → a < address + n → list_any (is_on (page_of a)) (windows objects) ≡ false) → meets which objects address n ≡ false
meets_none which [] address n none = refl
meets_none which (o ∷ objects) address n none =
    let here : some_from (has_byte o.window) address n ≡ false =
    ap not (all_by (λ a. not (has_byte o.window a)) address n
    (λ a above below. ap not (false_from_ne_true (has_byte o.window a) (λ has. cc (byte_on o.window a has, none_first (page_of a) o objects (none a above below)))))) in
    let later = meets_none which objects address n (λ a above below. none_later (page_of a) o objects (none a above below)) in
    rw (and_false (which o) (some_from (has_byte o.window) address n) here, later) refl

pub untouched : (which : Object → Bool) (objects : List Object) (address n : ℕ) → touches (map (λ o. o.window) objects) address n ≡ false → meets which objects address n ≡ false
untouched which objects address n none =
    let all = not-false (all_from (λ a. not (list_any (is_on (page_of a)) (windows objects))) address n) none in
    meets_none which objects address n (λ a above below.
    not-true (list_any (is_on (page_of a)) (windows objects)) (all_gives (λ a. not (list_any (is_on (page_of a)) (windows objects))) address n all a above below))
