-- The legal histories of a channel.
use Rattle.std.specs.Prelude.{◌<◌, ℕ, ◌==◌, List, [], ◌∷◌, All}
use Rattle.std.specs.List.{filter, flat_map}
use mathlib.Core.List.{IsPrefix}
use Rattle.css_tags.specs.Plans.{Plan}
use Rattle.css_tags.specs.Entries.{Entry, issue, out, finish, collect}

-- a round of a tag: the worker issues a group, the mover takes it and finishes it, and the worker collects it
abbrev pub round : ℕ → Plan → List Entry
round tag plan = issue tag plan ∷ out tag plan ∷ finish tag plan ∷ collect tag plan ∷ []

-- the entries of a tag, in order
abbrev pub entries_on : ℕ → List Entry → List Entry
entries_on tag history = filter (λ e. e.tag == tag) history

-- there are 32 tags, and the entries of each are round after round, of which the last may have just begun
pub record ChannelLegal (history : List Entry) : Type 0 where
  pub tags : All (λ e. e.tag < 32) history
  pub rounds : (tag : ℕ) → (plans : List Plan) × IsPrefix (entries_on tag history) (flat_map (round tag) plans)
