-- What a task is given, where each window is one row that is read and written: one region for each window, and they share no byte.
use Rattle.std.proofs.Common.{◌≡◌, ℕ, zero, suc, ◌+◌, ◌-◌, ◌*◌, ◌≤◌, ◌<◌, Bool, true, false, ◌||◌, ◌&&◌, List, [], ◌∷◌, ◌++◌, length, take, drop, map, nat_le, nat_lt, All, ◌⊎◌, inl, inr, refl, ap, sym, subst, ◌∙◌, arith, if◌then◌else◌}
use Rattle.std.specs.List.{list_any}
use Rattle.std.proofs.lemmas.Bool.{cases_lt}
use Rattle.std.proofs.lemmas.Bool.Decides.{nat_tests}
use Rattle.std.proofs.lemmas.List.{take_all}
use Rattle.css_base.specs.declared.direction.Direction.TheVariants as directions
use Rattle.css_semantics.specs.Memory.{is_between}
use Rattle.css_semantics.specs.Tasks.{Window, Use, reads, window_length, has_byte, rows_have}
use Rattle.css_semantics.specs.Rules.{share_byte, is_in_window, is_in_row}
use Rattle.css_semantics.specs.Alone.{Region, given_regions, regions_of, rows_as_regions, first_input}
use Rattle.css_semantics.specs.TaskSpaces.{holds, IsClearOf, ArePartedRegions}
use Rattle.css_semantics.proofs.Windows.{apart_gives}
use Rattle.css_semantics.proofs.TaskWorlds.{all_head, all_tail, all_cons}

-- a window that is one row, and is read and written
pub record IsRow (u : Use) : Type 0 where
  pub both : u.direction ≡ directions.InOut
  pub one : u.window.rows ≡ 1
  pub some : 1 ≤ u.window.width

abbrev pub regions_for : List Use → (inputs : List (List ℕ)) → List Region
regions_for (u ∷ uses) (bytes ∷ inputs) = record { base = u.window.base; bytes = bytes } ∷ regions_for uses inputs
regions_for _ _ = []

abbrev pub AreLengths : List Use → (inputs : List (List ℕ)) → Type 0
AreLengths uses inputs = map length inputs ≡ map (λ u. window_length u.window) uses

pub first_length : (u : Use) (uses : List Use) (bytes : List ℕ) (inputs : List (List ℕ)) → AreLengths (u ∷ uses) (bytes ∷ inputs) → length bytes ≡ window_length u.window
first_length u uses bytes inputs lengths = cc lengths

pub other_lengths : (u : Use) (uses : List Use) (bytes : List ℕ) (inputs : List (List ℕ)) → AreLengths (u ∷ uses) (bytes ∷ inputs) → AreLengths uses inputs
other_lengths u uses bytes inputs lengths = cc lengths

pub row_length : (u : Use) → IsRow u → window_length u.window ≡ u.window.width
row_length u is = rw is.one (omega arith)

one_region : (rows base width stride : ℕ) (bytes : List ℕ) → rows ≡ 1 → length bytes ≡ width → rows_as_regions rows base width stride bytes ≡ record { base = base; bytes = bytes } ∷ []
one_region rows base width stride bytes one is = rw (one, take_all width bytes (omega (arith, is)))

-- the regions before the entry are the windows with their inputs
pub given_is : (uses : List Use) (inputs : List (List ℕ)) → All IsRow uses → AreLengths uses inputs → given_regions uses inputs ≡ regions_for uses inputs
given_is [] [] rows lengths = refl
given_is [] (bytes ∷ inputs) rows lengths = absurd (cc)
given_is (u ∷ uses) [] rows lengths = absurd (cc)
given_is (u ∷ uses) (bytes ∷ inputs) rows lengths =
    let is = all_head IsRow u uses rows in
    let here = one_region u.window.rows u.window.base u.window.width u.window.stride bytes is.one (first_length u uses bytes inputs lengths ∙ row_length u is) in
    rw (is.both, here, given_is uses inputs (all_tail IsRow u uses rows) (other_lengths u uses bytes inputs lengths))

or_false : (b : Bool) → (b || false) ≡ b
or_false true = refl
or_false false = refl

in_one_row : (rows base width stride address size : ℕ) → rows ≡ 1 → is_in_row rows base width stride address size ≡ (nat_le base address && nat_le (address + size) (base + width))
in_one_row rows base width stride address size one = rw one (or_false (nat_le base address && nat_le (address + size) (base + width)))

-- some bytes are in a region exactly where they are in a window
pub regions_have : (uses : List Use) (inputs : List (List ℕ)) (address size : ℕ) → All IsRow uses → AreLengths uses inputs
    → list_any (holds address size) (regions_for uses inputs) ≡ list_any (λ u. is_in_window u.window address size) uses
regions_have [] [] address size rows lengths = refl
regions_have [] (bytes ∷ inputs) address size rows lengths = absurd (cc)
regions_have (u ∷ uses) [] address size rows lengths = absurd (cc)
regions_have (u ∷ uses) (bytes ∷ inputs) address size rows lengths =
    let is = all_head IsRow u uses rows in
    let here = in_one_row u.window.rows u.window.base u.window.width u.window.stride address size is.one in
    let long = first_length u uses bytes inputs lengths ∙ row_length u is in
    rw (here, long, regions_have uses inputs address size (all_tail IsRow u uses rows) (other_lengths u uses bytes inputs lengths))

-- ---- windows that share no byte

has_row_byte : (w : Window) (address : ℕ) → w.rows ≡ 1 → w.base ≤ address → address < w.base + w.width → has_byte w address ≡ true
has_row_byte w address one above below =
    let inside : is_between w.base (w.base + w.width) address ≡ true = grind (arith, nat_tests) in
    rw (one, inside)

not_both : (b : Bool) → b ≡ false → b ≡ true → ⊥
not_both true is_false is_true = absurd (cc)
not_both false is_false is_true = absurd (cc)

pub rows_apart : (v w : Window) → v.rows ≡ 1 → w.rows ≡ 1 → 1 ≤ v.width → 1 ≤ w.width → share_byte v w ≡ false → (v.base + v.width ≤ w.base) ⊎ (w.base + w.width ≤ v.base)
rows_apart v w one one' some some' apart =
    elim (cases_lt w.base (v.base + v.width)) [
      | inr behind ↦ inl behind
      | inl before ↦ elim (cases_lt v.base (w.base + w.width)) [
        | inr behind ↦ inr behind
        | inl before' ↦ elim (cases_lt v.base w.base) [
          | inl lower ↦ absurd (not_both (has_byte w w.base) (apart_gives v w apart w.base (has_row_byte v w.base one (omega (arith, lower)) before)) (has_row_byte w w.base one' (omega arith) (omega (arith, some'))))
          | inr higher ↦ absurd (not_both (has_byte w v.base) (apart_gives v w apart v.base (has_row_byte v v.base one (omega arith) (omega (arith, some)))) (has_row_byte w v.base one' higher before'))
        ]
      ]
    ]

-- no two of the windows share a byte
abbrev pub AreApartUses : List Use → Type 0
AreApartUses [] = Unit {0}
AreApartUses (u ∷ uses) = All (λ v. share_byte u.window v.window ≡ false) uses × AreApartUses uses

clear_region : (u v : Use) (bytes : List ℕ) (width : ℕ) → IsRow u → IsRow v → share_byte u.window v.window ≡ false → length bytes ≡ v.window.width → width ≡ u.window.width
    → IsClearOf u.window.base (u.window.base + width) (record { base = v.window.base; bytes = bytes })
clear_region u v bytes width row row' apart long is =
    elim (rows_apart u.window v.window row.one row'.one row.some row'.some apart) [
      | inl before ↦ inl (omega (arith, is, before))
      | inr behind ↦ inr (omega (arith, long, behind))
    ]

clear_regions : (u : Use) (width : ℕ) (uses : List Use) (inputs : List (List ℕ)) → IsRow u → width ≡ u.window.width → All IsRow uses → All (λ v. share_byte u.window v.window ≡ false) uses → AreLengths uses inputs
    → All (IsClearOf u.window.base (u.window.base + width)) (regions_for uses inputs)
clear_regions u width [] [] row is rows apart lengths = λ k d within. absurd (omega (arith, within))
clear_regions u width [] (bytes ∷ inputs) row is rows apart lengths = absurd (cc)
clear_regions u width (v ∷ uses) [] row is rows apart lengths = absurd (cc)
clear_regions u width (v ∷ uses) (bytes ∷ inputs) row is rows apart lengths =
    let row' = all_head IsRow v uses rows in
    all_cons (IsClearOf u.window.base (u.window.base + width)) (record { base = v.window.base; bytes = bytes }) (regions_for uses inputs)
    (clear_region u v bytes width row row' (all_head (λ v. share_byte u.window v.window ≡ false) v uses apart) (first_length v uses bytes inputs lengths ∙ row_length v row') is)
    (clear_regions u width uses inputs row is (all_tail IsRow v uses rows) (all_tail (λ v. share_byte u.window v.window ≡ false) v uses apart) (other_lengths v uses bytes inputs lengths))

pub regions_parted : (uses : List Use) (inputs : List (List ℕ)) → All IsRow uses → AreApartUses uses → AreLengths uses inputs → ArePartedRegions (regions_for uses inputs)
regions_parted [] [] rows apart lengths = tt
regions_parted [] (bytes ∷ inputs) rows apart lengths = absurd (cc)
regions_parted (u ∷ uses) [] rows apart lengths = absurd (cc)
regions_parted (u ∷ uses) (bytes ∷ inputs) rows apart lengths =
    let row = all_head IsRow u uses rows in (
      clear_regions u (length bytes) uses inputs row (first_length u uses bytes inputs lengths ∙ row_length u row) (all_tail IsRow u uses rows) apart.0 (other_lengths u uses bytes inputs lengths),
      regions_parted uses inputs (all_tail IsRow u uses rows) apart.1 (other_lengths u uses bytes inputs lengths),
    )
