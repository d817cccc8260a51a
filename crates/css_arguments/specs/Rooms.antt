-- What windows take in a local store, one after another.
use Rattle.std.specs.Prelude.{ℕ, List, take, if◌then◌else◌}
use Rattle.std.specs.List.{list_any}
use Rattle.css_semantics.specs.Memory.{rounded_up}
use Rattle.css_semantics.specs.Tasks.{Window, is_same_window, window_length}

-- the bytes of a local store that a window takes which stands at a place of some, if it isn't one of those before
abbrev pub bytes_of : (place : ℕ) → List Window → Window → ℕ
bytes_of place windows w = if list_any (λ v. is_same_window v w) (take place windows) then 0 else rounded_up 128 (window_length w)
