-- The line of the numbers of some calls.
use Rattle.std.specs.Prelude.{◌≡◌, ℕ, ◌+◌, ◌*◌, List, ◌++◌, codes, length, map, sum_by, count_by, if◌then◌else◌}
use Rattle.std.specs.Fmt.{decimal}
use Rattle.std.specs.Int.{div_ceil}
use Rattle.css_semantics.specs.Tasks.{Window, Use, window_length, reads, writes}
use Rattle.css_report.specs.Calls.{Shown}
use Rattle.css_report.specs.Depth.{IsDepth}

-- The pieces in which a window is moved: each is at most 16,384 bytes of one row.
abbrev pub pieces_of : Window → ℕ
pieces_of w = w.rows * div_ceil w.width 16384

-- what a task reads of a window, and what it writes
abbrev pub bytes_read : Use → ℕ
bytes_read u = if reads u.direction then window_length u.window else 0

abbrev pub bytes_written : Use → ℕ
bytes_written u = if writes u.direction then window_length u.window else 0

-- the pieces in which it is brought and taken back
abbrev pub pieces_moved : Use → ℕ
pieces_moved u = (if reads u.direction then pieces_of u.window else 0) + (if writes u.direction then pieces_of u.window else 0)

-- The numbers of some calls.
pub record Stats : Type 0 where
  pub tasks : ℕ
  pub reads : ℕ
  pub writes : ℕ
  pub pieces : ℕ
  pub renamed : ℕ
  pub depth : ℕ

-- These are the numbers of the calls: of tasks; of bytes and pieces over all their windows; of the windows that are renamed; and of
-- tasks on the longest chain.
pub record IsStats (calls : List Shown) (s : Stats) : Type 0 where
  pub tasks : s.tasks ≡ length calls
  pub reads : s.reads ≡ sum_by (λ c. sum_by bytes_read c.uses) calls
  pub writes : s.writes ≡ sum_by (λ c. sum_by bytes_written c.uses) calls
  pub pieces : s.pieces ≡ sum_by (λ c. sum_by pieces_moved c.uses) calls
  pub renamed : s.renamed ≡ sum_by (λ c. count_by (λ is. is) c.renamed) calls
  pub depth : IsDepth (map (λ c. c.producers) calls) s.depth

abbrev pub sums_words : (reads writes pieces : ℕ) → List ℕ
sums_words reads writes pieces = codes "reads " ++ decimal reads ++ codes " writes " ++ decimal writes ++ codes " pieces " ++ decimal pieces

abbrev pub stats_line : Stats → List ℕ
stats_line s =
    codes "stats tasks " ++ decimal s.tasks ++ codes " " ++ sums_words s.reads s.writes s.pieces
    ++ codes " renamed " ++ decimal s.renamed ++ codes " depth " ++ decimal s.depth ++ codes "\n"

-- The line of the calls.
pub record IsStatsLine (calls : List Shown) (line : List ℕ) : Type 0 where
  pub stats : Stats
  pub are : IsStats calls stats
  pub line_is : line ≡ stats_line stats
