-- Parts in a row, and what is written of each part that has others inside.
use Rattle.std.proofs.Common.{◌≡◌, ℕ, suc, ◌+◌, ◌<◌, ◌≤◌, List, [], ◌∷◌, ◌++◌, length, drop, map, get_or, All, refl, sym, ap, ◌∙◌, subst, arith, append_assoc, length-append, add-one, drop-cons, Vec, Global}
use Rattle.std.proofs.lemmas.List.{append-nil, drop_all}
use Rattle.std.proofs.lemmas.List.Elements.{All-nil, All-cons}
use mathlib.Core.Former.{Count}
use Rattle.css_isa.specs.declared.code.Instr.{Instr}
use Rattle.css_isa.specs.declared.code.Op.TheVariants as ops
use Rattle.css_blocks.specs.declared.part.Part.{Part, Row, Row', Row_of-Part, end_of-Part, more_of-Part, items-the_row-Part, items_hidden-the_row-Part-0}
use Rattle.css_blocks.specs.Pieces.{Piece, Then, Choice, When, Loop, Catch, row, Ways, aimed}
use Rattle.css_blocks.specs.Layout.{size, instr, lower}
use Rattle.css_blocks.specs.declared.part.Way.{Way}
use Rattle.css_blocks.specs.Parts.{shape, shapes, IsSized, AreSized}
use Rattle.css_blocks.proofs.Pieces.{length-lower}

abbrev row_of : Part → (n : Count) × Row_of-Part n
row_of (Row' s ps) = (_, ps)
row_of _ = (_, end_of-Part)

shapes_row : (n : _) (ps : Row_of-Part n) → shapes ps ≡ row (map shape (items-the_row-Part n ps))
shapes_row n end_of-Part = refl
shapes_row n (more_of-Part p ps) = ap (Then (shape p)) (shapes_row _ ps)

-- a row's pieces are those of its vector
pub row_is : (ps : Vec Part Global) → shape (Row ps) ≡ row (map shape ps.items)
row_is ps = let r = row_of (Row ps) in shapes_row r.0 r.1 ∙ ap (λ l. row (map shape l)) (items_hidden-the_row-Part-0 ps)

sized_row : (n : _) (ps : Row_of-Part n) → AreSized ps → All IsSized (items-the_row-Part n ps)
sized_row n end_of-Part h = All-nil IsSized
sized_row n (more_of-Part p ps) h = All-cons IsSized p _ h.0 (sized_row _ ps h.1)

row_sized : (n : _) (ps : Row_of-Part n) → All IsSized (items-the_row-Part n ps) → AreSized ps
row_sized n end_of-Part h = tt
row_sized n (more_of-Part p ps) h = (h 0 p (omega arith), row_sized _ ps (λ k d lt. h (suc k) d (omega (arith, lt))))

pub all_sized : (ps : Vec Part Global) → IsSized (Row ps) → All IsSized ps.items
all_sized ps h = let r = row_of (Row ps) in subst (All IsSized) (items_hidden-the_row-Part-0 ps) (sized_row r.0 r.1 h)

pub is_sized : (ps : Vec Part Global) → All IsSized ps.items → IsSized (Row ps)
is_sized ps h = let r = row_of (Row ps) in row_sized r.0 r.1 (subst (All IsSized) (sym (items_hidden-the_row-Part-0 ps)) h)

-- ---- one more of a row

left_row : (ps : List Part) (i : ℕ) (p : Part) → i < length ps → p ≡ get_or ps i p → row (map shape (drop i ps)) ≡ Then (shape p) (row (map shape (drop (i + 1) ps)))
left_row ps i p within is =
    ap (λ l. row (map shape l)) (drop-cons ps i p within)
    ∙ ap (λ x. Then (shape x) (row (map shape (drop (suc i) ps)))) (sym is)
    ∙ ap (λ k. Then (shape p) (row (map shape (drop k ps)))) (sym (add-one i))

pub one_more_size : (total k whole : ℕ) (ps : List Part) (i : ℕ) (p : Part) → i < length ps → p ≡ get_or ps i p → total + size (row (map shape (drop i ps))) ≡ whole → k ≡ size (shape p) → total + k + size (row (map shape (drop (i + 1) ps))) ≡ whole
one_more_size total k whole ps i p within is before e = let s = ap size (left_row ps i p within is) in omega arith

pub one_more_lowered : (whole c1 c2 : List Instr) (ts : Ways ℕ) (ps : List Part) (i : ℕ) (p : Part) → i < length ps → p ≡ get_or ps i p → c1 ++ lower (row (map shape (drop i ps))) (length c1) ts ≡ whole → c2 ≡ c1 ++ lower (shape p) (length c1) ts → c2 ++ lower (row (map shape (drop (i + 1) ps))) (length c2) ts ≡ whole
one_more_lowered whole c1 c2 ts ps i p within is before e =
    let left = row (map shape (drop (i + 1) ps)) in
    let first = lower (shape p) (length c1) ts in
    let n : length c2 ≡ length c1 + size (shape p) = ap length e ∙ length-append c1 first ∙ ap (λ k. length c1 + k) (length-lower (shape p) (length c1) ts) in
    ap (λ c. c ++ lower left (length c2) ts) e
    ∙ append_assoc c1 first _
    ∙ ap (λ k. c1 ++ (first ++ lower left k ts)) n
    ∙ ap (λ x. c1 ++ lower x (length c1) ts) (sym (left_row ps i p within is))
    ∙ before

-- the whole row
pub row_size : (total : ℕ) (ps : List Part) (i : ℕ) (v : Vec Part Global) → length ps ≤ i → ps ≡ v.items → total + size (row (map shape (drop i ps))) ≡ size (row (map shape ps)) → total ≡ size (shape (Row v))
row_size total ps i v past e h =
    let none = ap (λ l. size (row (map shape l))) (drop_all i ps past) in
    let whole = ap (λ l. size (row (map shape l))) e ∙ ap size (sym (row_is v)) in
    omega arith

pub row_lowered : (c0 c1 : List Instr) (ts : Ways ℕ) (ps : List Part) (i : ℕ) (v : Vec Part Global) → length ps ≤ i → ps ≡ v.items → c1 ++ lower (row (map shape (drop i ps))) (length c1) ts ≡ c0 ++ lower (row (map shape ps)) (length c0) ts → c1 ≡ c0 ++ lower (shape (Row v)) (length c0) ts
row_lowered c0 c1 ts ps i v past e h =
    sym (append-nil c1) ∙ ap (λ l. c1 ++ lower (row (map shape l)) (length c1) ts) (sym (drop_all i ps past)) ∙ h
    ∙ ap (λ l. c0 ++ lower (row (map shape l)) (length c0) ts) e ∙ ap (λ x. c0 ++ lower x (length c0) ts) (sym (row_is v))

-- an element of a row is sized
pub item_sized : (part : Part) (v : Vec Part Global) (ps : List Part) (i : ℕ) (p : Part) → part ≡ Row v → IsSized part → ps ≡ v.items → i < length ps → p ≡ get_or ps i p → IsSized p
item_sized part v ps i p is h e within item =
    subst IsSized (sym item) (subst (All IsSized) (sym e) (all_sized v (subst IsSized is h)) i p within)

-- ---- parts with others inside

pub choice_lowered : (c0 c1 c2 c3 c4 : List Instr) (p q : Piece) (ts : Ways ℕ) (line second end : ℕ) → second ≡ length c0 + 2 + size p → end ≡ second + size q → c1 ≡ c0 ++ instr line (ops.Jumpz second) ∷ [] → c2 ≡ c1 ++ lower p (length c1) ts → c3 ≡ c2 ++ instr line (ops.Jump end) ∷ [] → c4 ≡ c3 ++ lower q (length c3) ts → c4 ≡ c0 ++ lower (Choice line p q) (length c0) ts
choice_lowered c0 c1 c2 c3 c4 p q ts line second end e_second e_end e1 e2 e3 e4 =
    let jz = instr line (ops.Jumpz second) in
    let first = length c0 + 1 in
    let at = first + size p + 1 in
    let l1 : length c1 ≡ first = ap length e1 ∙ length-append c0 (jz ∷ []) in
    let l3 : length c3 ≡ at = omega (arith, ap length e3, length-append c2 (instr line (ops.Jump end) ∷ []), ap length e2, length-append c1 (lower p (length c1) ts), length-lower p (length c1) ts) in
    let s : second ≡ at = omega arith in
    let all : c4 ≡ (((c0 ++ jz ∷ []) ++ lower p (length c1) ts) ++ instr line (ops.Jump end) ∷ []) ++ lower q (length c3) ts = cc in
    let flat : (((c0 ++ jz ∷ []) ++ lower p (length c1) ts) ++ instr line (ops.Jump end) ∷ []) ++ lower q (length c3) ts ≡ c0 ++ jz ∷ (lower p (length c1) ts ++ instr line (ops.Jump end) ∷ lower q (length c3) ts) = simp append_assoc in
    all ∙ flat
    ∙ ap (λ n. c0 ++ jz ∷ (lower p n ts ++ instr line (ops.Jump end) ∷ lower q (length c3) ts)) l1
    ∙ ap (λ n. c0 ++ jz ∷ (lower p first ts ++ instr line (ops.Jump end) ∷ lower q n ts)) l3
    ∙ ap (λ n. c0 ++ jz ∷ (lower p first ts ++ instr line (ops.Jump n) ∷ lower q at ts)) e_end
    ∙ ap (λ n. c0 ++ instr line (ops.Jumpz n) ∷ (lower p first ts ++ instr line (ops.Jump (n + size q)) ∷ lower q at ts)) s

pub when_lowered : (c0 c1 c2 : List Instr) (p : Piece) (ts : Ways ℕ) (line end : ℕ) → end ≡ length c0 + 1 + size p → c1 ≡ c0 ++ instr line (ops.Jumpz end) ∷ [] → c2 ≡ c1 ++ lower p (length c1) ts → c2 ≡ c0 ++ lower (When line p) (length c0) ts
when_lowered c0 c1 c2 p ts line end e_end e1 e2 =
    let jz = instr line (ops.Jumpz end) in
    let l1 : length c1 ≡ length c0 + 1 = ap length e1 ∙ length-append c0 (jz ∷ []) in
    let all : c2 ≡ (c0 ++ jz ∷ []) ++ lower p (length c1) ts = cc in
    let flat : (c0 ++ jz ∷ []) ++ lower p (length c1) ts ≡ c0 ++ jz ∷ lower p (length c1) ts = simp append_assoc in
    all ∙ flat
    ∙ ap (λ n. c0 ++ jz ∷ lower p n ts) l1
    ∙ ap (λ n. c0 ++ instr line (ops.Jumpz n) ∷ lower p (length c0 + 1) ts) e_end

pub loop_lowered : (c0 c1 c2 c3 c4 : List Instr) (p q : Piece) (ts : Ways ℕ) (line start : ℕ) → start ≡ length c0
    → c1 ≡ c0 ++ lower p (length c0) ts → c2 ≡ c1 ++ instr line ops.Turn ∷ [] → c3 ≡ c2 ++ lower q (length c2) ts → c4 ≡ c3 ++ instr line (ops.Jump start) ∷ []
    → c4 ≡ c0 ++ lower (Loop line p q) (length c0) ts
loop_lowered c0 c1 c2 c3 c4 p q ts line start e_start e1 e2 e3 e4 =
    let turn = instr line ops.Turn in
    let cp = lower p (length c0) ts in
    let second = length c0 + size p + 1 in
    let l1 = ap length e1 ∙ length-append c0 cp in
    let l2 : length c2 ≡ second = omega (arith, ap length e2, length-append c1 (turn ∷ []), l1, length-lower p (length c0) ts) in
    let all : c4 ≡ (((c0 ++ cp) ++ turn ∷ []) ++ lower q (length c2) ts) ++ instr line (ops.Jump start) ∷ [] = cc in
    let flat : (((c0 ++ cp) ++ turn ∷ []) ++ lower q (length c2) ts) ++ instr line (ops.Jump start) ∷ [] ≡ c0 ++ (cp ++ turn ∷ (lower q (length c2) ts ++ instr line (ops.Jump start) ∷ [])) = simp append_assoc in
    all ∙ flat
    ∙ ap (λ n. c0 ++ (cp ++ turn ∷ (lower q n ts ++ instr line (ops.Jump start) ∷ []))) l2
    ∙ ap (λ n. c0 ++ (cp ++ turn ∷ (lower q second ts ++ instr line (ops.Jump n) ∷ []))) e_start

pub catch_lowered : (c0 c1 : List Instr) (way : Way) (p : Piece) (ts inside : Ways ℕ) (end : ℕ) → end ≡ length c0 + size p → inside ≡ aimed way end ts → c1 ≡ c0 ++ lower p (length c0) inside → c1 ≡ c0 ++ lower (Catch way p) (length c0) ts
catch_lowered c0 c1 way p ts inside end e_end e_inside e =
    e ∙ ap (λ x. c0 ++ lower p (length c0) x) e_inside ∙ ap (λ n. c0 ++ lower p (length c0) (aimed way n ts)) e_end
