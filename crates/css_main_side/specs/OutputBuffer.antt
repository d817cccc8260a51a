-- Output that passes through a buffer.
use Rattle.std.specs.Prelude.{◌≡◌, ℕ, List, ◌++◌}
use Rattle.css_io.specs.Changes.{Change, Got}

-- the sink got a front of these bytes, and the rest is pending
abbrev pub Passes : Change → List ℕ → List ℕ → Type 0
Passes c bytes pending = (front : List ℕ) × (bytes ≡ front ++ pending) × Got c front
