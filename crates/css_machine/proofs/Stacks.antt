-- Cells with the top at the end; read from the top down, those from a floor on are an activation's stack.
use Rattle.std.proofs.Common.{◌≡◌, ℕ, zero, suc, add-zero, ◌+◌, ◌-◌, ◌<◌, ◌≤◌, List, [], ◌∷◌, ◌++◌, length, get_or, take, drop, set, reverse, refl, ap, sym, ◌∙◌, arith}
use Rattle.std.proofs.lemmas.List.{reverse-append, get_or-drop, take_more, take_more_set, length-set, length-reverse, length-take-le, length-drop, drop-append-le}
use Rattle.std.proofs.lemmas.Grind.{reverse_onto}

-- a cell more on top
own_more : (floor : ℕ) (front : List ℕ) (cell : ℕ) → floor ≤ length front → reverse (drop floor (front ++ cell ∷ [])) ≡ cell ∷ reverse (drop floor front)
own_more floor front cell within =
    ap reverse (drop-append-le floor front (cell ∷ []) within) ∙ reverse-append (drop floor front) (cell ∷ [])

-- the cell below the top is the topmost one, before those below it
pub top_first : (floor top : ℕ) (cells : List ℕ) → floor ≤ top → top < length cells → reverse (drop floor (take (top + 1) cells)) ≡ get_or cells top 0 ∷ reverse (drop floor (take top cells))
top_first floor top cells low high =
    let front : floor ≤ length (take top cells) = omega (arith, length-take-le top cells (omega arith)) in
    ap (λ l. reverse (drop floor l)) (take_more cells top 0 high) ∙ own_more floor (take top cells) (get_or cells top 0) front

-- a cell that is written there
pub set_first : (floor top : ℕ) (cells : List ℕ) (cell : ℕ) → floor ≤ top → top < length cells → reverse (drop floor (take (top + 1) (set cells top cell))) ≡ cell ∷ reverse (drop floor (take top cells))
set_first floor top cells cell low high =
    let front : floor ≤ length (take top cells) = omega (arith, length-take-le top cells (omega arith)) in
    ap (λ l. reverse (drop floor l)) (take_more_set cells top cell high) ∙ own_more floor (take top cells) cell front

-- the number of an activation's cells
pub own_length : (floor top : ℕ) (cells : List ℕ) → floor ≤ top → top ≤ length cells → length (reverse (drop floor (take top cells))) ≡ top - floor
own_length floor top cells low high =
    length-reverse (drop floor (take top cells)) ∙ length-drop floor (take top cells) ∙ ap (λ n. n - floor) (length-take-le top cells high)

-- and of those below
pub below_length : (floor top : ℕ) (cells : List ℕ) → floor ≤ top → top ≤ length cells → length (take floor cells) ≡ floor
below_length floor top cells low high = length-take-le floor cells (omega arith)

-- ---- many cells

one_further : (top count : ℕ) → top + suc count ≡ top + count + 1
one_further top count = omega arith

-- the stack without so many of the topmost cells
pub without_topmost : (floor top count : ℕ) (cells : List ℕ) → floor ≤ top → top + count ≤ length cells → reverse (drop floor (take top cells)) ≡ drop count (reverse (drop floor (take (top + count) cells)))
without_topmost floor top zero cells low high = rw (add-zero top) refl
without_topmost floor top (suc count) cells low high =
    rw (one_further top count, top_first floor (top + count) cells (omega arith) (omega arith)) (without_topmost floor top count cells low (omega arith))

-- so many of the topmost cells, the lowest first
pub topmost_cells : (floor top count : ℕ) (cells : List ℕ) → floor ≤ top → top + count ≤ length cells → take count (drop top cells) ≡ reverse (take count (reverse (drop floor (take (top + count) cells))))
topmost_cells floor top zero cells low high = refl
topmost_cells floor top (suc count) cells low high =
    let one : suc count ≡ count + 1 = omega arith in
    let within : count < length (drop top cells) = omega (arith, length-drop top cells) in
    let last = get_or cells (top + count) 0 in
    let below = reverse (drop floor (take (top + count) cells)) in
    let first : reverse (drop floor (take (top + suc count) cells)) ≡ last ∷ below = ap (λ n. reverse (drop floor (take n cells))) (one_further top count) ∙ top_first floor (top + count) cells (omega arith) (omega arith) in
    ap (λ n. take n (drop top cells)) one
    ∙ take_more (drop top cells) count 0 within
    ∙ ap (λ x. take count (drop top cells) ++ x ∷ []) (get_or-drop top cells count 0)
    ∙ ap (λ l. l ++ last ∷ []) (topmost_cells floor top count cells low (omega arith))
    ∙ sym (reverse_onto (take count below) last [])
    ∙ ap (λ l. reverse (take (suc count) l)) (sym first)

-- ---- the two topmost

-- the second is written, and then the topmost one
pub swapped_first : (floor top : ℕ) (cells : List ℕ) (high low : ℕ) → floor ≤ top → top + 1 < length cells → reverse (drop floor (take (top + 1 + 1) (set (set cells top high) (top + 1) low))) ≡ low ∷ high ∷ reverse (drop floor (take top cells))
swapped_first floor top cells high low within more =
    set_first floor (top + 1) (set cells top high) low (omega arith) (omega (arith, length-set cells top high))
    ∙ ap (λ l. low ∷ l) (set_first floor top cells high within (omega arith))

pub two_first : (floor top : ℕ) (cells : List ℕ) → floor ≤ top → top + 1 < length cells → reverse (drop floor (take (top + 1 + 1) cells)) ≡ get_or cells (top + 1) 0 ∷ get_or cells top 0 ∷ reverse (drop floor (take top cells))
two_first floor top cells within more =
    top_first floor (top + 1) cells (omega arith) more
    ∙ ap (λ l. get_or cells (top + 1) 0 ∷ l) (top_first floor top cells within (omega arith))
