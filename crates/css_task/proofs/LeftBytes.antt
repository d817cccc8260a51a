-- What a task leaves in its windows is what is kept of their bytes.
use Rattle.std.proofs.Common.{◌≡◌, ℕ, zero, suc, ◌+◌, ◌*◌, ◌<◌, ◌≤◌, Bool, true, false, List, [], ◌∷◌, ◌++◌, length, take, drop, slice_get, Some, refl, ap, ap₂, sym, ◌∙◌, append_assoc, arith, if◌then◌else◌}
use Rattle.std.proofs.lemmas.List.{drop-drop, length-append}
use Rattle.std.proofs.lemmas.Option.{slice_get_within}
use Rattle.css_semantics.specs.Tasks.{Use, window_length, writes}
use Rattle.css_task.specs.Rooms.{bytes_from, rows_from, outs_from}
use Rattle.css_task.specs.Cells.{window_addresses, addresses, Kept, room}
use Rattle.css_task.specs.Keeping.{AreKept, kept}
use Rattle.css_task.specs.GivenBytes.{left_bytes}
use Rattle.css_task.proofs.CellAccess.{window_bytes}
use Rattle.css_task.proofs.Found.{length-window}
use Rattle.css_task.proofs.Rows.{get-left, get-right, rows_at}

nothing : (a b : ℕ) → take {A = ℕ} a [] ≡ take {A = ℕ} b []
nothing zero zero = refl
nothing zero (suc b) = refl
nothing (suc a) zero = refl
nothing (suc a) (suc b) = refl

take_more : (a b : ℕ) (xs : List ℕ) → take a xs ++ take b (drop a xs) ≡ take (a + b) xs
take_more zero b xs =
    let same : b ≡ 0 + b = omega arith in
    ap (λ n. take n xs) same
take_more (suc a) b [] = nothing b (suc a + b)
take_more (suc a) b (x ∷ xs) =
    let on : suc (a + b) ≡ suc a + b = omega arith in
    ap (λ rest. x ∷ rest) (take_more a b xs) ∙ ap (λ n. take n (x ∷ xs)) on

module _ (uses : List Use) (end : ℕ) (stack frames bytes words : List ℕ) (are : AreKept uses end bytes words) (short : length stack ≤ 16384) (high : 16384 ≤ end) where
  abbrev m : Kept
  m = kept uses end stack frames bytes words

  -- a row
  row_left : (base width index : ℕ) → index + width ≤ length bytes → ((t : ℕ) → t < width → slice_get (addresses uses) (index + t) ≡ Some (base + t))
      → bytes_from (room m) base width ≡ take width (drop index bytes)
  row_left base width index within stand = window_bytes uses end stack frames bytes words are short high base index width within stand

  -- rows that stand one behind the other
  pub rows_left : (rows base width stride index : ℕ) → index + rows * width ≤ length bytes
      → ((row column : ℕ) → row < rows → column < width → slice_get (addresses uses) (index + (row * width + column)) ≡ Some (base + (row * stride + column)))
      → rows_from (room m) rows base width stride ≡ take (rows * width) (drop index bytes)
  rows_left zero base width stride index within stand =
      let none : 0 ≡ 0 * width = omega arith in
      ap (λ n. take n (drop index bytes)) none
  rows_left (suc rows) base width stride index within stand =
      let fits : index + width ≤ length bytes = omega (arith, within) in
      let fits' : index + width + rows * width ≤ length bytes = omega (arith, within) in
      let at : (t : ℕ) → index + t ≡ index + (0 * width + t) = λ t. omega arith in
      let at' : (t : ℕ) → base + (0 * stride + t) ≡ base + t = λ t. omega arith in
      let there : (row column : ℕ) → index + width + (row * width + column) ≡ index + (suc row * width + column) = λ row column. omega arith in
      let there' : (row column : ℕ) → base + (suc row * stride + column) ≡ base + stride + (row * stride + column) = λ row column. omega arith in
      let all : width + rows * width ≡ suc rows * width = omega arith in
      ap₂ (λ a b. a ++ b)
      (row_left base width index fits (λ t below. ap (slice_get (addresses uses)) (at t) ∙ stand 0 t (omega arith) below ∙ ap Some (at' t)))
      (rows_left rows (base + stride) width stride (index + width) fits' (λ row column below below'.
      ap (slice_get (addresses uses)) (there row column) ∙ stand (suc row) column (omega (arith, below)) below' ∙ ap Some (there' row column)))
      ∙ ap (λ xs. take width (drop index bytes) ++ take (rows * width) xs) (sym (drop-drop width index bytes))
      ∙ take_more width (rows * width) (drop index bytes) ∙ ap (λ n. take n (drop index bytes)) all

  -- the bytes of windows that stand behind others
  outs_by : (b : Bool) (u : Use) (first : List ℕ) (some : List (List ℕ)) → rows_from (room m) u.window.rows u.window.base u.window.width u.window.stride ≡ first
      → (if b then rows_from (room m) u.window.rows u.window.base u.window.width u.window.stride ∷ [] else []) ++ some ≡ (if b then first ∷ some else some)
  outs_by true u first some is = ap (λ bytes. bytes ∷ some) is
  outs_by false u first some is = refl

  pub outs_left : (some : List Use) (before : List ℕ) → before ++ addresses some ≡ addresses uses → outs_from (room m) some ≡ left_bytes some (drop (length before) bytes)
  outs_left [] before is = refl
  outs_left (u ∷ some) before is =
      let n = window_length u.window in
      let own = window_addresses u.window in
      let long : length before + n ≤ length bytes =
      omega (arith, are.long, ap (λ xs. length xs) is, length-append before (own ++ addresses some), length-append own (addresses some), length-window u.window) in
      let first = rows_left u.window.rows u.window.base u.window.width u.window.stride (length before) long (λ row column below below'.
      let inside : row * u.window.width + column < length own = slice_get_within own (row * u.window.width + column) (u.window.base + (row * u.window.stride + column)) (rows_at u.window.rows u.window.base u.window.width u.window.stride row column below below') in
      ap (λ all. slice_get all (length before + (row * u.window.width + column))) (sym is)
      ∙ get-right before (own ++ addresses some) (row * u.window.width + column)
      ∙ get-left own (addresses some) (row * u.window.width + column) inside
      ∙ rows_at u.window.rows u.window.base u.window.width u.window.stride row column below below') in
      let further : length (before ++ own) ≡ length before + n = omega (arith, length-append before own, length-window u.window) in
      let rest = outs_left some (before ++ own) (append_assoc before own (addresses some) ∙ is) ∙ ap (λ k. left_bytes some (drop k bytes)) further ∙ ap (left_bytes some) (sym (drop-drop n (length before) bytes)) in
      outs_by (writes u.direction) u (take n (drop (length before) bytes)) (outs_from (room m) some) first
      ∙ ap (λ rest. if writes u.direction then take n (drop (length before) bytes) ∷ rest else rest) rest
