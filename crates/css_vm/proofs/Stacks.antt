-- Cells with the top at the end; read from the top down, those from a floor on are an activation's stack.
use Rattle.std.proofs.Common.{◌≡◌, ℕ, suc, ◌+◌, ◌-◌, ◌<◌, ◌≤◌, List, [], ◌∷◌, ◌++◌, length, get_or, take, drop, set, reverse, refl, ap, sym, ◌∙◌, arith}
use Rattle.std.specs.List.{swap}
use Rattle.std.proofs.lemmas.List.{reverse-append, take_all, take_more, take_more_set, length-set, length-reverse, length-take-le, length-drop, drop-append-le, take-set-le}
use Rattle.std.proofs.lemmas.List.Edits.{swap_is}
use Rattle.css_vm.specs.declared.activations.Saved.{Saved}
use Rattle.css_vm.specs.Stacks.{Parted, parted, callers_of, StandWithin}

-- a cell more on top
own_more : (floor : ℕ) (front : List ℕ) (cell : ℕ) → floor ≤ length front → reverse (drop floor (front ++ cell ∷ [])) ≡ cell ∷ reverse (drop floor front)
own_more floor front cell within =
    ap reverse (drop-append-le floor front (cell ∷ []) within) ∙ reverse-append (drop floor front) (cell ∷ [])

-- the last cell is the topmost one, before those below it
pub top_first : (floor : ℕ) (cells : List ℕ) (last : ℕ) → length cells ≡ last + 1 → floor ≤ last → reverse (drop floor cells) ≡ get_or cells last 0 ∷ reverse (drop floor (take last cells))
top_first floor cells last full within =
    let below : last < length cells = omega arith in
    let all : length cells ≤ last + 1 = omega arith in
    let front : floor ≤ length (take last cells) = omega (arith, length-take-le last cells (omega arith)) in
    ap (λ l. reverse (drop floor l)) (sym (take_all (last + 1) cells all) ∙ take_more cells last 0 below) ∙ own_more floor (take last cells) (get_or cells last 0) front

-- another cell in the topmost one's place
pub set_top_first : (floor : ℕ) (cells : List ℕ) (last cell : ℕ) → length cells ≡ last + 1 → floor ≤ last → reverse (drop floor (set cells last cell)) ≡ cell ∷ reverse (drop floor (take last cells))
set_top_first floor cells last cell full within =
    let below : last < length cells = omega arith in
    let all : length (set cells last cell) ≤ last + 1 = omega (arith, length-set cells last cell) in
    let front : floor ≤ length (take last cells) = omega (arith, length-take-le last cells (omega arith)) in
    ap (λ l. reverse (drop floor l)) (sym (take_all (last + 1) (set cells last cell) all) ∙ take_more_set cells last cell below) ∙ own_more floor (take last cells) cell front

-- the two topmost cells
pub two_first : (floor : ℕ) (cells : List ℕ) (last : ℕ) → length cells ≡ last + 2 → floor ≤ last → reverse (drop floor cells) ≡ get_or cells (last + 1) 0 ∷ get_or cells last 0 ∷ reverse (drop floor (take last cells))
two_first floor cells last full within =
    let below : last < length cells = omega arith in
    let above = get_or cells (last + 1) 0 in
    let front : floor ≤ length (take last cells) = omega (arith, length-take-le last cells (omega arith)) in
    top_first floor cells (last + 1) (omega arith) (omega arith)
    ∙ ap (λ l. above ∷ reverse (drop floor l)) (take_more cells last 0 below)
    ∙ ap (λ l. above ∷ l) (own_more floor (take last cells) (get_or cells last 0) front)

-- and the other way round
pub swap_two_first : (floor : ℕ) (cells : List ℕ) (last : ℕ) → length cells ≡ last + 2 → floor ≤ last → reverse (drop floor (swap cells last (last + 1))) ≡ get_or cells last 0 ∷ get_or cells (last + 1) 0 ∷ reverse (drop floor (take last cells))
swap_two_first floor cells last full within =
    let below : last < length cells = omega arith in
    let low = get_or cells last 0 in
    let high = get_or cells (last + 1) 0 in
    let front : floor ≤ length (take last cells) = omega (arith, length-take-le last cells (omega arith)) in
    ap (λ l. reverse (drop floor l)) (sym (swap_is cells last (last + 1) 0 below (omega arith)))
    ∙ set_top_first floor (set cells last high) (last + 1) low (omega (arith, length-set cells last high)) (omega arith)
    ∙ ap (λ l. low ∷ reverse (drop floor l)) (take_more_set cells last high below)
    ∙ ap (λ l. low ∷ l) (own_more floor (take last cells) high front)

-- a swap above the floor leaves what is below it
pub swap_below : (floor : ℕ) (cells : List ℕ) (last : ℕ) → length cells ≡ last + 2 → floor ≤ last → take floor (swap cells last (last + 1)) ≡ take floor cells
swap_below floor cells last full within =
    let below : last < length cells = omega arith in
    let low = get_or cells last 0 in
    let high = get_or cells (last + 1) 0 in
    ap (take floor) (sym (swap_is cells last (last + 1) 0 below (omega arith)))
    ∙ take-set-le floor (set cells last high) (last + 1) low (omega arith)
    ∙ take-set-le floor cells last high within

-- the number of an activation's cells
pub own_length : (floor : ℕ) (cells : List ℕ) (seen : Parted) → parted floor cells ≡ seen → length seen.own ≡ length cells - floor
own_length floor cells seen view = ap (λ (p : Parted). length p.own) (sym view) ∙ length-reverse (drop floor cells) ∙ length-drop floor cells

-- below the top of two cells there is another
pub first_below : (stack : List ℕ) (top : ℕ) (rest : List ℕ) → stack ≡ top ∷ rest → 2 ≤ length stack → (cell : ℕ) × (others : List ℕ) × (rest ≡ cell ∷ others)
first_below stack top [] e two = absurd (omega (arith, ap length e))
first_below stack top (cell ∷ others) e two = (cell, others, refl)

-- as many callers as are saved
pub callers_count : (saved : List Saved) (cells : List ℕ) → length (callers_of saved cells) ≡ length saved
callers_count [] cells = refl
callers_count (s ∷ saved) cells = ap suc (callers_count saved (take s.floor cells))

pub within_more : (saved : List Saved) (few many : ℕ) → few ≤ many → StandWithin saved few → StandWithin saved many
within_more [] few many le within = tt
within_more (s ∷ saved) few many le within = (omega (arith, within.0), within.1)
