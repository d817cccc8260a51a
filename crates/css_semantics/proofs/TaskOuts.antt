-- What a task leaves, where its windows are rows that are read and written: the bytes of its regions.
use Rattle.std.proofs.Common.{◌≡◌, ℕ, zero, suc, ◌+◌, ◌-◌, ◌*◌, ◌≤◌, true, List, [], ◌∷◌, ◌++◌, length, take, drop, map, flat_map, slice_get, Some, All, zero-add, refl, ap, sym, ◌∙◌, arith, if◌then◌else◌}
use Rattle.std.proofs.lemmas.List.{take_all, append-nil}
use Rattle.css_semantics.specs.Tasks.{Window, plain, Use, writes}
use Rattle.css_semantics.specs.Alone.{Region, TaskMemory, task_place, task_bytes, bytes_left, outs}
use Rattle.css_semantics.specs.TaskSpaces.{IsClearOf, ArePartedRegions}
use Rattle.css_semantics.proofs.TaskWorlds.{all_head, all_tail, row_of}
use Rattle.css_semantics.proofs.TaskBytes.{all_at, region_bytes}
use Rattle.css_semantics.proofs.TaskRows.{IsRow}

module _ (m : TaskMemory) (parted : ArePartedRegions m.regions) (clear : All (IsClearOf (task_place m) m.place) m.regions) where
  row_left : (rows base width stride j : ℕ) (r : Region) → rows ≡ 1 → slice_get m.regions j ≡ Some r → base ≡ r.base → width ≡ length r.bytes → bytes_left m rows base width stride ≡ r.bytes
  row_left rows base width stride j r one at from long =
      let bytes = region_bytes m j r base width 0 parted at (all_at (IsClearOf (task_place m) m.place) m.regions j r clear at) (omega (arith, from)) (omega (arith, long)) in
      rw one (append-nil (task_bytes m base width) ∙ bytes ∙ take_all width r.bytes (omega (arith, long)))

  outs_from : (uses : List Use) (rest : List Region) (k : ℕ) → All IsRow uses → map row_of rest ≡ map (λ u. plain u.window.base u.window.width) uses
      → ((j : ℕ) → slice_get m.regions (k + j) ≡ slice_get rest j) → outs m uses ≡ map (λ r. r.bytes) rest
  outs_from [] [] k rows same at = refl
  outs_from [] (r ∷ rest) k rows same at = absurd (cc)
  outs_from (u ∷ uses) [] k rows same at = absurd (cc)
  outs_from (u ∷ uses) (r ∷ rest) k rows same at =
      let is = all_head IsRow u uses rows in
      let head : row_of r ≡ plain u.window.base u.window.width = cc same in
      let tail : map row_of rest ≡ map (λ u. plain u.window.base u.window.width) uses = cc same in
      let base : u.window.base ≡ r.base = sym (ap (λ (w : Window). w.base) head) in
      let width : u.window.width ≡ length r.bytes = sym (ap (λ (w : Window). w.width) head) in
      let here = row_left u.window.rows u.window.base u.window.width u.window.stride (k + 0) r is.one (at 0) base width in
      let next : (j : ℕ) → k + 1 + j ≡ k + suc j = λ j. omega arith in
      let others = outs_from uses rest (k + 1) (all_tail IsRow u uses rows) tail (λ j. ap (slice_get m.regions) (next j) ∙ at (suc j)) in
      rw (is.both, here, others)

  -- what is left is the regions' bytes
  pub outs_are : (uses : List Use) → All IsRow uses → map row_of m.regions ≡ map (λ u. plain u.window.base u.window.width) uses → outs m uses ≡ map (λ r. r.bytes) m.regions
  outs_are uses rows same = outs_from uses m.regions 0 rows same (λ j. ap (slice_get m.regions) (zero-add j))
