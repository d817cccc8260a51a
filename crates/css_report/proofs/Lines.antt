-- The line of some calls.
use Rattle.std.proofs.Common.{◌≡◌, ◌∙◌, ℕ, ◌+◌, List, length, map, sum_by, count_by, refl, sym}
use Rattle.std.proofs.lemmas.List.Folds.{fold-map}
use Rattle.std.proofs.lemmas.Simd.{map-map}
use Rattle.css_record.specs.declared.call.Call.{Call}
use Rattle.css_vm.specs.Code.{Code}
use Rattle.css_report.specs.Calls.{Shown, shown_by}
use Rattle.css_report.specs.Stats.{Stats, IsStatsLine, stats_line, bytes_read, bytes_written, pieces_moved}
use Rattle.css_report.proofs.Depths.{one_depth, depth_exists}

same_numbers : (s t : Stats) → s.tasks ≡ t.tasks → s.reads ≡ t.reads → s.writes ≡ t.writes → s.pieces ≡ t.pieces → s.renamed ≡ t.renamed
    → s.depth ≡ t.depth → stats_line s ≡ stats_line t
same_numbers s t tasks reads writes pieces renamed depth = rw (tasks, reads, writes, pieces, renamed, depth) refl

pub one_line : (calls : List Shown) (a b : List ℕ) → IsStatsLine calls a → IsStatsLine calls b → a ≡ b
one_line calls a b one other =
    let s = one.stats in
    let t = other.stats in
    one.line_is
    ∙ same_numbers s t (one.are.tasks ∙ sym other.are.tasks) (one.are.reads ∙ sym other.are.reads)
    (one.are.writes ∙ sym other.are.writes) (one.are.pieces ∙ sym other.are.pieces) (one.are.renamed ∙ sym other.are.renamed)
    (one_depth (map (λ c. c.producers) calls) s.depth t.depth one.are.depth other.are.depth)
    ∙ sym other.line_is

pub a_line : (calls : List Shown) → (line : List ℕ) × IsStatsLine calls line
a_line calls =
    let depth = depth_exists (map (λ c. c.producers) calls) in
    let s : Stats = record {
      tasks = length calls;
      reads = sum_by (λ c. sum_by bytes_read c.uses) calls;
      writes = sum_by (λ c. sum_by bytes_written c.uses) calls;
      pieces = sum_by (λ c. sum_by pieces_moved c.uses) calls;
      renamed = sum_by (λ c. count_by (λ is. is) c.renamed) calls;
      depth = depth.0;
    } in
    (stats_line s, record { stats = s; are = record { tasks = refl; reads = refl; writes = refl; pieces = refl; renamed = refl; depth = depth.1 }; line_is = refl })

-- ---- what calls show

module _ (code : Code) (names : List (List ℕ)) (calls : List Call) where
  pub renamed_shown : sum_by (λ c. count_by (λ is. is) c.renamed) (map (shown_by code names) calls) ≡ sum_by (λ c. count_by (λ is. is) c.renamed.items) calls
  renamed_shown = fold-map (λ (a : ℕ) (c : Shown). a + count_by (λ is. is) c.renamed) (shown_by code names) 0 calls

  pub producers_shown : map (λ c. c.producers) (map (shown_by code names) calls) ≡ map (λ c. c.producers.items) calls
  producers_shown = map-map (λ (c : Shown). c.producers) (shown_by code names) calls
