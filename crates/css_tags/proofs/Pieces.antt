-- The pieces of a block: each begins where the one before it ends, and the last ends where the block does.
use Rattle.std.proofs.Common.{◌≡◌, ◌+◌, ◌-◌, ◌*◌, ◌/◌, ◌%◌, ◌<◌, ◌≤◌, ℕ, zero, suc, map, length, min, take, arith, refl, sym, ap, ◌∙◌, subst, inl, inr, lit<, add-one}
use Rattle.std.specs.List.{sum_by, range_with_len}
use Rattle.std.proofs.lemmas.Bool.{cases_lt}
use Rattle.std.proofs.lemmas.Grind.{div_ceil_times}
use Rattle.std.proofs.lemmas.Nat.{div-mul-add, mod-mul-add, div-add-mod', mod_below}
use Rattle.std.proofs.lemmas.List.FromFn.{sum_by-map-range_with_len_more, take-map-range_with_len, length-map-range_with_len}
use Rattle.std.proofs.lemmas.List.Sums.{sum_by-take-le}
use Rattle.css_tags.specs.declared.piece.Piece.{Piece}
use Rattle.css_tags.specs.Pieces.{piece, pieces, pieces_of_row, count_of_pieces}
use Rattle.css_tags.specs.Groups.{IsWidth}

-- where piece n begins, with k pieces in a row
abbrev pub begins : ℕ → ℕ → ℕ → ℕ
begins width k n = n / k * width + n % k * 16384

next_begins : (width k n : ℕ) → 1 ≤ width → width ≤ k * 16384 → k * 16384 < width + 16384
    → begins width k (n + 1) ≡ begins width k n + min 16384 (width - n % k * 16384)
next_begins width k n least enough few =
    let positive : 0 < k = omega arith in
    let whole : n / k * k + n % k ≡ n = div-add-mod' n k in
    let below : n % k < k = mod_below n k positive in
    elim (cases_lt (n % k + 1) k) [
      | inl inner ↦
          let next : n + 1 ≡ n / k * k + (n % k + 1) = omega (arith, whole) in
          let quotient : (n + 1) / k ≡ n / k = ap (λ m. m / k) next ∙ div-mul-add (n / k) k (n % k + 1) inner in
          let remainder : (n + 1) % k ≡ n % k + 1 = ap (λ m. m % k) next ∙ mod-mul-add (n / k) k (n % k + 1) inner in
          rw (quotient, remainder) (omega arith)
      | inr last ↦
          let next : n + 1 ≡ (n / k + 1) * k + 0 = omega (arith, whole) in
          let quotient : (n + 1) / k ≡ n / k + 1 = ap (λ m. m / k) next ∙ div-mul-add (n / k + 1) k 0 positive in
          let remainder : (n + 1) % k ≡ 0 = ap (λ m. m % k) next ∙ mod-mul-add (n / k + 1) k 0 positive in
          rw (quotient, remainder) (omega arith)
    ]

pub next_piece : (width n : ℕ) → 1 ≤ width → (piece width (n + 1)).start ≡ (piece width n).start + (piece width n).length
unfolding piece
next_piece width n least =
    let bounds = div_ceil_times width 16384 (lit< tt) in
    next_begins width (pieces_of_row width) n least bounds.0 bounds.1

first_piece : (width : ℕ) → 1 ≤ width → (piece width 0).start ≡ 0
unfolding piece
first_piece width least =
    let k = pieces_of_row width in
    let bounds = div_ceil_times width 16384 (lit< tt) in
    let positive : 0 < k = (let enough : width ≤ k * 16384 = bounds.0 in omega (arith, enough, least)) in
    let none : 0 ≡ 0 * k + 0 = omega arith in
    let quotient : 0 / k ≡ 0 = ap (λ m. m / k) none ∙ div-mul-add 0 k 0 positive in
    let remainder : 0 % k ≡ 0 = ap (λ m. m % k) none ∙ mod-mul-add 0 k 0 positive in
    rw (quotient, remainder) (omega arith)

-- the pieces before piece n have as many bytes as there are before it
pub sum_before : (width n : ℕ) → 1 ≤ width
    → sum_by (λ (p : Piece). p.length) (map (piece width) (range_with_len 0 n)) ≡ (piece width n).start
sum_before width zero least = sym (first_piece width least)
sum_before width (suc n) least =
    let At : ℕ → Type 0 =
    λ m. sum_by (λ (p : Piece). p.length) (map (piece width) (range_with_len 0 m)) ≡ (piece width m).start in
    subst At (add-one n) (sum_by-map-range_with_len_more (λ (p : Piece). p.length) (piece width) 0 n n (omega arith)
    ∙ ap (λ s. s + (piece width n).length) (sum_before width n least) ∙ sym (next_piece width n least))

last_piece : (bytes width : ℕ) → IsWidth width bytes → (piece width (count_of_pieces bytes width)).start ≡ bytes
unfolding piece count_of_pieces
last_piece bytes width is =
    let k = pieces_of_row width in
    let least : 1 ≤ width = is.least in
    let bounds = div_ceil_times width 16384 (lit< tt) in
    let positive : 0 < k = (let enough : width ≤ k * 16384 = bounds.0 in omega (arith, enough, least)) in
    let n = bytes / width * k in
    let whole : n ≡ bytes / width * k + 0 = omega arith in
    let quotient : n / k ≡ bytes / width = ap (λ m. m / k) whole ∙ div-mul-add (bytes / width) k 0 positive in
    let remainder : n % k ≡ 0 = ap (λ m. m % k) whole ∙ mod-mul-add (bytes / width) k 0 positive in
    let rows : bytes / width * width + bytes % width ≡ bytes = div-add-mod' bytes width in
    let none : bytes % width ≡ 0 = is.whole in
    rw (quotient, remainder) (omega (arith, rows, none))

-- all pieces together have the block's bytes
pub sum_pieces : (bytes width : ℕ) → IsWidth width bytes → sum_by (λ (p : Piece). p.length) (pieces bytes width) ≡ bytes
sum_pieces bytes width is = sum_before width (count_of_pieces bytes width) is.least ∙ last_piece bytes width is

pub length-pieces : (bytes width : ℕ) → length (pieces bytes width) ≡ count_of_pieces bytes width
length-pieces bytes width = length-map-range_with_len (piece width) 0 (count_of_pieces bytes width)

-- the bytes of the first n pieces
pub sum_taken : (bytes width n : ℕ) → 1 ≤ width → n ≤ count_of_pieces bytes width
    → sum_by (λ (p : Piece). p.length) (take n (pieces bytes width)) ≡ (piece width n).start
sum_taken bytes width n least within =
    ap (sum_by (λ (p : Piece). p.length)) (take-map-range_with_len (piece width) 0 (count_of_pieces bytes width) n within)
    ∙ sum_before width n least

-- a piece lies in the block
pub piece_inside : (bytes width n : ℕ) → IsWidth width bytes → n < count_of_pieces bytes width
    → (piece width n).start + (piece width n).length ≤ bytes
piece_inside bytes width n is below =
    let next : (piece width (n + 1)).start ≡ (piece width n).start + (piece width n).length = next_piece width n is.least in
    let taken = sum_taken bytes width (n + 1) is.least (omega arith) in
    let most = sum_by-take-le (λ (p : Piece). p.length) (pieces bytes width) (n + 1) in
    let whole = sum_pieces bytes width is in
    omega (arith, next, taken, most, whole)

pub piece_fits : (bytes width n k : ℕ) → k ≡ pieces_of_row width → IsWidth width bytes → n < count_of_pieces bytes width
    → n / k * width + n % k * 16384 + min 16384 (width - n % k * 16384) ≤ bytes
unfolding piece
piece_fits bytes width n k same is below = rw same (piece_inside bytes width n is below)

pub piece_is : (width n k : ℕ) → k ≡ pieces_of_row width
    → piece width n ≡ record { start = n / k * width + n % k * 16384; length = min 16384 (width - n % k * 16384) }
unfolding piece
piece_is width n k same = rw same refl

pub count_is : (bytes width k : ℕ) → k ≡ pieces_of_row width → bytes / width * k ≡ count_of_pieces bytes width
unfolding count_of_pieces
count_is bytes width k same = ap (λ m. bytes / width * m) same

at_most : (m : ℕ) → min 16384 m ≤ 16384
at_most m = omega arith

pub piece_small : (width n : ℕ) → (piece width n).length ≤ 16384
unfolding piece
piece_small width n = at_most (width - n % pieces_of_row width * 16384)

in_row : (width k n : ℕ) → 1 ≤ width → width ≤ k * 16384 → k * 16384 < width + 16384
    → begins width k n % width + min 16384 (width - n % k * 16384) ≤ width
in_row width k n least enough few =
    let positive : 0 < k = omega arith in
    let below : n % k < k = mod_below n k positive in
    let short : n % k * 16384 < width = omega arith in
    rw (mod-mul-add (n / k) width (n % k * 16384) short) (omega arith)

-- a piece's bytes stand in one row
pub piece_in_row : (width n : ℕ) → 1 ≤ width → (piece width n).start % width + (piece width n).length ≤ width
unfolding piece
piece_in_row width n least =
    let bounds = div_ceil_times width 16384 (lit< tt) in
    in_row width (pieces_of_row width) n least bounds.0 bounds.1
