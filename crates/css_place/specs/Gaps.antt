-- The gaps between the places out, by the number of the place that ends each.
use Rattle.std.specs.Prelude.{◌+◌, ◌≤◌, ◌≡◌, ◌%◌, ℕ, length, take, drop, All}
use Rattle.css_place.specs.declared.gaps.Gap.{Gap}
use Rattle.css_place.specs.Places.{Store, end_of}
use Rattle.css_place.specs.Holes.{IsFirstFit}

-- the gap, which stands between the places before that number and the others, is the first hole that holds so many
-- addresses
pub record IsFirstGap (store : Store) (bytes : ℕ) (gap : Gap) : Type 0 where
  pub number : gap.index ≤ length store.out
  pub before : All (λ s. end_of s ≤ gap.start) (take gap.index store.out)
  pub after : All (λ s. gap.start + bytes ≤ s.start) (drop gap.index store.out)
  pub inside : gap.start + bytes ≤ store.size
  pub aligned : gap.start % 128 ≡ 0
  pub first : IsFirstFit store bytes gap.start
