-- Numbers as bytes, and bytes that are written over others.
use Rattle.std.proofs.Common.{◌≡◌, ℕ, zero, suc, ◌+◌, ◌-◌, ◌/◌, ◌%◌, ◌≤◌, List, [], ◌∷◌, ◌++◌, length, take, drop, true, false, add-zero, zero-add, refl, arith}
use Rattle.std.proofs.Math.Seq.{drop-cons}
use Rattle.std.proofs.lemmas.List.{drop_all, length-append}
use Rattle.std.proofs.lemmas.Bool.Decides.{nat_tests}
use Rattle.css_semantics.specs.Memory.{is_between, big_endian_bytes, overlaid}

pub length-big_endian_bytes : (count n : ℕ) → length (big_endian_bytes count n) ≡ count
length-big_endian_bytes zero n = refl
length-big_endian_bytes (suc count) n = omega (arith, length-append (big_endian_bytes count (n / 256)) (n % 256 ∷ []), length-big_endian_bytes count (n / 256))

-- ---- bytes over others

-- addresses may be counted from elsewhere
pub overlaid-shift : (base from : ℕ) (bytes : List ℕ) (address : ℕ) (new : List ℕ) → overlaid (base + from) bytes (base + address) new ≡ overlaid from bytes address new
overlaid-shift base from [] address new = refl
overlaid-shift base from (b ∷ bytes) address new =
    let next : base + from + 1 ≡ base + (from + 1) = omega arith in
    let offset : base + from - (base + address) ≡ from - address = omega arith in
    let same : is_between (base + address) (base + address + length new) (base + from) ≡ is_between address (address + length new) from = grind (arith, nat_tests) in
    rw (next, offset, same, overlaid-shift base (from + 1) bytes address new)

-- what is stored in the bytes from an index on
pub drop-overlaid : (count from : ℕ) (bytes : List ℕ) (address : ℕ) (new : List ℕ) → drop count (overlaid from bytes address new) ≡ overlaid (from + count) (drop count bytes) address new
drop-overlaid zero from bytes address new = rw (add-zero from)
drop-overlaid (suc count) from [] address new = refl
drop-overlaid (suc count) from (b ∷ bytes) address new =
    let on : from + 1 + count ≡ from + suc count = omega arith in
    rw (drop-overlaid count (from + 1) bytes address new, on)

-- nothing is stored before this byte and behind it
overlaid_behind : (from : ℕ) (bytes : List ℕ) (address : ℕ) (new : List ℕ) → address + length new ≤ from → overlaid from bytes address new ≡ bytes
overlaid_behind from [] address new behind = refl
overlaid_behind from (b ∷ bytes) address new behind =
    let out : is_between address (address + length new) from ≡ false = grind (arith, nat_tests) in
    rw (out, overlaid_behind (from + 1) bytes address new (omega arith))

overlaid_inside : (from : ℕ) (bytes : List ℕ) (address : ℕ) (new : List ℕ) (k left : ℕ) → from ≡ address + k → k + left ≡ length new → left ≤ length bytes → overlaid from bytes address new ≡ drop k new ++ drop left bytes
overlaid_inside from bytes address new k zero at rest within =
    rw (overlaid_behind from bytes address new (omega arith), drop_all k new (omega arith))
overlaid_inside from [] address new k (suc left) at rest within = absurd (omega arith)
overlaid_inside from (b ∷ bytes) address new k (suc left) at rest within =
    let in_new : is_between address (address + length new) from ≡ true = grind (arith, nat_tests) in
    let here : from - address ≡ k = omega arith in
    let next : from + 1 ≡ address + suc k = omega arith in
    rw (in_new, here, overlaid_inside (from + 1) bytes address new (suc k) left next (omega arith) (omega arith), drop-cons new k 0 (omega arith))

-- a slice of the bytes is copied over
pub spliced : (from : ℕ) (bytes : List ℕ) (offset : ℕ) (new : List ℕ) → offset + length new ≤ length bytes → overlaid from bytes (from + offset) new ≡ take offset bytes ++ (new ++ drop (offset + length new) bytes)
spliced from bytes zero new within = rw (zero-add (length new)) (overlaid_inside from bytes (from + 0) new 0 (length new) (omega arith) (omega arith) (omega arith))
spliced from [] (suc offset) new within = absurd (omega arith)
spliced from (b ∷ bytes) (suc offset) new within =
    let out : is_between (from + suc offset) (from + suc offset + length new) from ≡ false = grind (arith, nat_tests) in
    let on : from + suc offset ≡ from + 1 + offset = omega arith in
    let more : suc offset + length new ≡ suc (offset + length new) = omega arith in
    rw (out, more) (rw on (rw (spliced (from + 1) bytes offset new (omega arith))))
