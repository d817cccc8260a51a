-- Where a text stops being a trace.
use Rattle.std.specs.Prelude.{◌≡◌, ◌<◌, ◌-◌, ℕ, List, ◌++◌, length, Result, Ok, Err}
use Rattle.std.specs.List.{flat_map}
use Rattle.css_traces.specs.declared.traces.Traces.{Traces}
use Rattle.css_traces.specs.declared.trace_line.TraceLine.{TraceLine}
use Rattle.css_traces.specs.declared.fault.TraceFault.{TraceFault}
use Rattle.css_traces.specs.declared.fault.TraceFault.TheVariants as faults
use Rattle.css_traces.specs.Lines.{line_text, trace_lines, trace_text, Fits}

-- The text begins with so many lines of a trace.
pub record BeginsLike (text : List ℕ) (count : ℕ) : Type 0 where
  pub t : Traces
  pub front : List TraceLine
  pub others : List TraceLine
  pub rest : List ℕ
  pub fits : Fits t
  pub lines : trace_lines t ≡ front ++ others
  pub begins : text ≡ flat_map line_text front ++ rest
  pub counted : length front ≡ count

-- The text is no trace's. The lines before this one are those of a trace, and with this one they aren't: so it can't follow them, or
-- it stands behind the text's last one.
pub record IsBadAt (text : List ℕ) (line : ℕ) : Type 0 where
  pub is_none : (t : Traces) → Fits t → text ≡ trace_text t → ⊥
  pub before : BeginsLike text (line - 1)
  pub most : (count : ℕ) → BeginsLike text count → count < line

abbrev pub IsFault : List ℕ → TraceFault → Type 0
IsFault text (faults.Bad line) = IsBadAt text line
IsFault text faults.NoMemory = Unit {0}

-- This trace is read, unless memory runs out.
abbrev pub IsRead : Result Traces TraceFault → Traces → Type 0
IsRead (Ok read) t = read ≡ t
IsRead (Err (faults.Bad line)) t = ⊥
IsRead (Err faults.NoMemory) t = Unit {0}
