-- What a trace shows of a board's entries.
use Rattle.std.specs.Prelude.{◌<◌, ℕ, List, [], length, slice_index_or}
use Rattle.css_traces.specs.declared.board_line.BoardLine.{BoardLine}
use Rattle.css_traces.specs.declared.board_line.BoardLine.TheVariants as lines
use Rattle.css_history.specs.declared.entry.Entry.{Entry}
use Rattle.css_history.specs.declared.entry.Entry.TheVariants as entries

-- the line of an entry, by the names of the functions
abbrev pub line_of : (names : List (List ℕ)) → Entry → BoardLine
line_of names (entries.Submit rec given) = lines.Submit rec.number (slice_index_or names rec.function [])
line_of names (entries.Take w numbers) = lines.Take w numbers
line_of names (entries.Finish w n outs) = lines.Finish w n
line_of names (entries.Stop w n stop line) = lines.Stop w n line stop
line_of names (entries.Back w numbers) = lines.Back w numbers
line_of names (entries.Starved w) = lines.Starved w
line_of names entries.Close = lines.Close

-- a submitted task's function has a name
abbrev pub IsNamed : (names : List (List ℕ)) → Entry → Type 0
IsNamed names (entries.Submit rec given) = rec.function < length names
IsNamed names (entries.Take w numbers) = Unit {0}
IsNamed names (entries.Finish w n outs) = Unit {0}
IsNamed names (entries.Stop w n stop line) = Unit {0}
IsNamed names (entries.Back w numbers) = Unit {0}
IsNamed names (entries.Starved w) = Unit {0}
IsNamed names entries.Close = Unit {0}
