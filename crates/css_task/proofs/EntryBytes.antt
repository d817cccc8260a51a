-- Before a task's entry its regions have the bytes that it is given.
use Rattle.std.proofs.Common.{◌≡◌, ℕ, zero, suc, ◌+◌, ◌-◌, ◌*◌, ◌<◌, ◌≤◌, Bool, true, false, List, [], ◌∷◌, ◌++◌, length, take, drop, replicate, slice_index, Option, Some, None, option_map, nat_le, nat_lt, ◌==◌, refl, ap, sym, ◌∙◌, append_assoc, arith, if◌then◌else◌}
use Rattle.std.proofs.lemmas.Bool.{eqb-true, eq-eqb, and_parts, leb-true, ltb-true}
use Rattle.std.proofs.lemmas.Bool.Decides.{nat_tests}
use Rattle.std.proofs.lemmas.List.{length-take, length-drop, length-replicate, take-append-drop}
use Rattle.css_semantics.specs.Memory.{is_between}
use Rattle.css_semantics.specs.Tasks.{Use, window_length, reads}
use Rattle.css_semantics.specs.Alone.{Region, rows_as_regions, given_regions, first_input}
use Rattle.css_record.specs.Records.{InputsFit}
use Rattle.css_task.specs.Cells.{run, rows_addresses, addresses, cell}
use Rattle.css_task.specs.GivenBytes.{given_bytes}
use Rattle.css_task.proofs.RoomWorlds.{byte_in}
use Rattle.css_task.proofs.Entering.{reads_first, reads_none}

-- the byte that stands with an address
abbrev pub look : (bytes addresses : List ℕ) → (at : ℕ) → Option ℕ
look bytes all at = option_map (slice_index bytes) (cell all at)

next_by : (b : ℕ) (bytes : List ℕ) (o : Option ℕ) → option_map (slice_index (b ∷ bytes)) (option_map suc o) ≡ option_map (slice_index bytes) o
next_by b bytes None = refl
next_by b bytes (Some k) = refl

look_first : (h : Bool) (b : ℕ) (bytes : List ℕ) (o : Option ℕ) → option_map (slice_index (b ∷ bytes)) (if h then Some 0 else option_map suc o) ≡ (if h then Some b else option_map (slice_index bytes) o)
look_first true b bytes o = refl
look_first false b bytes o = next_by b bytes o

between_parts : (from to a : ℕ) → is_between from to a ≡ true → (from ≤ a) × (a < to)
between_parts from to a h =
    let parts = and_parts (nat_le from a) (nat_lt a to) h in
    (leb-true from a parts.0, ltb-true a to parts.1)

none_by : (b : Bool) → (b ≡ true → ⊥) → b ≡ false
none_by true never = absurd (never refl)
none_by false never = refl

not_inside : (base width at : ℕ) → is_between (base + 1) (base + 1 + width) at ≡ false → (base ≡ at → ⊥) → is_between base (base + suc width) at ≡ false
not_inside base width at out other = none_by (is_between base (base + suc width) at) (λ within.
    let parts = between_parts base (base + suc width) at within in
    let inside : is_between (base + 1) (base + 1 + width) at ≡ true = grind (arith, nat_tests, parts.0, parts.1, other) in
    absurd (cc (inside, out)))

row_more : (base width at b : ℕ) (bytes : List ℕ) (o : Option ℕ) (h : Bool) → is_between (base + 1) (base + 1 + width) at ≡ h → (base ≡ at → ⊥)
    → (if h then Some (slice_index bytes (at - (base + 1))) else o) ≡ (if is_between base (base + suc width) at then Some (slice_index (b ∷ bytes) (at - base)) else o)
row_more base width at b bytes o true is other =
    let parts = between_parts (base + 1) (base + 1 + width) at is in
    let inside : is_between base (base + suc width) at ≡ true = grind (arith, nat_tests, parts.0, parts.1) in
    let next : at - base ≡ suc (at - (base + 1)) = omega (arith, parts.0) in
    rw (inside, next)
row_more base width at b bytes o false is other =
    let outside : is_between base (base + suc width) at ≡ false = not_inside base width at is other in
    rw outside

row_by : (h : Bool) (base width at b : ℕ) (bytes : List ℕ) (o : Option ℕ) → (base == at) ≡ h
    → (if h then Some b else (if is_between (base + 1) (base + 1 + width) at then Some (slice_index bytes (at - (base + 1))) else o))
    ≡ (if is_between base (base + suc width) at then Some (slice_index (b ∷ bytes) (at - base)) else o)
row_by true base width at b bytes o is =
    let same = eqb-true base at is in
    let inside : is_between base (base + suc width) at ≡ true = grind (arith, nat_tests) in
    let first : at - base ≡ 0 = omega (arith, same) in
    rw (inside, first)
row_by false base width at b bytes o is = row_more base width at b bytes o (is_between (base + 1) (base + 1 + width) at) refl (λ same. absurd (cc (is, eq-eqb base at same)))

-- a row, and what stands behind it
row_look : (width base : ℕ) (row rest all : List ℕ) (at : ℕ) → length row ≡ width
    → look (row ++ rest) (run base width ++ all) at ≡ (if is_between base (base + width) at then Some (slice_index row (at - base)) else look rest all at)
row_look zero base [] rest all at long =
    let outside : is_between base (base + 0) at ≡ false = none_by (is_between base (base + 0) at) (λ within.
    let parts = between_parts base (base + 0) at within in
    absurd (omega (arith, parts.0, parts.1))) in
    rw outside
row_look zero base (b ∷ row) rest all at long = absurd (cc)
row_look (suc width) base [] rest all at long = absurd (cc)
row_look (suc width) base (b ∷ row) rest all at long =
    look_first (base == at) b (row ++ rest) (cell (run (base + 1) width ++ all) at)
    ∙ ap (λ o. if base == at then Some b else o) (row_look width (base + 1) row rest all at (omega (arith, long)))
    ∙ row_by (base == at) base width at b row (look rest all at) refl

-- rows, and what stands behind them
rows_look : (rows base width stride : ℕ) (bytes rest all : List ℕ) (regions : List Region) (at : ℕ) → length bytes ≡ rows * width → byte_in regions at ≡ look rest all at
    → byte_in (rows_as_regions rows base width stride bytes ++ regions) at ≡ look (bytes ++ rest) (rows_addresses rows base width stride ++ all) at
rows_look zero base width stride [] rest all regions at long is = is
rows_look zero base width stride (b ∷ bytes) rest all regions at long is = absurd (omega (arith, long))
rows_look (suc rows) base width stride bytes rest all regions at long is =
    let first : length (take width bytes) ≡ width = omega (arith, length-take width bytes, long) in
    let others : length (drop width bytes) ≡ rows * width = omega (arith, length-drop width bytes, long) in
    let later = rows_look rows (base + stride) width stride (drop width bytes) rest all regions at others is in
    ap (λ n. if is_between base (base + n) at then Some (slice_index (take width bytes) (at - base)) else byte_in (rows_as_regions rows (base + stride) width stride (drop width bytes) ++ regions) at) first
    ∙ ap (λ o. if is_between base (base + width) at then Some (slice_index (take width bytes) (at - base)) else o) later
    ∙ sym (row_look width base (take width bytes) (drop width bytes ++ rest) (rows_addresses rows (base + stride) width stride ++ all) at first)
    ∙ ap (λ bs. look bs (run base width ++ (rows_addresses rows (base + stride) width stride ++ all)) at) (sym (append_assoc (take width bytes) (drop width bytes) rest) ∙ ap (λ bs. bs ++ rest) (take-append-drop width bytes))
    ∙ ap (λ xs. look (bytes ++ rest) xs at) (sym (append_assoc (run base width) (rows_addresses rows (base + stride) width stride) all))

look_by : (u : Use) (uses : List Use) (inputs : List (List ℕ)) (at : ℕ) (b : Bool) → reads u.direction ≡ b → InputsFit (u ∷ uses) inputs
    → ((inputs : List (List ℕ)) → InputsFit uses inputs → byte_in (given_regions uses inputs) at ≡ look (given_bytes uses inputs) (addresses uses) at)
    → byte_in (given_regions (u ∷ uses) inputs) at ≡ look (given_bytes (u ∷ uses) inputs) (addresses (u ∷ uses)) at
look_by u uses inputs at true is fit later =
    let first = reads_first u uses inputs is fit in
    rw is (rows_look u.window.rows u.window.base u.window.width u.window.stride (first_input inputs) (given_bytes uses (drop 1 inputs)) (addresses uses) (given_regions uses (drop 1 inputs)) at first.long (later (drop 1 inputs) first.rest))
look_by u uses inputs at false is fit later =
    rw is (rows_look u.window.rows u.window.base u.window.width u.window.stride (replicate (window_length u.window) 0) (given_bytes uses inputs) (addresses uses) (given_regions uses inputs) at
    (length-replicate {A = ℕ} (window_length u.window) 0) (later inputs (reads_none u uses inputs is fit)))

-- the byte of a region at an address is the one that is given there
pub given_look : (uses : List Use) (inputs : List (List ℕ)) (at : ℕ) → InputsFit uses inputs → byte_in (given_regions uses inputs) at ≡ look (given_bytes uses inputs) (addresses uses) at
given_look [] inputs at fit = refl
given_look (u ∷ uses) inputs at fit = look_by u uses inputs at (reads u.direction) refl fit (λ inputs fit. given_look uses inputs at fit)
