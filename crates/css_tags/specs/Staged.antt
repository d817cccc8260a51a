-- Blocks whose transfers are complete.
use Rattle.std.specs.Prelude.{ℕ, Bool, List, [], map, if◌then◌else◌}
use Rattle.css_tags.specs.Plans.{Plan}
use Rattle.css_tags.specs.Blocks.{Contents}
use Rattle.css_tags.specs.Groups.{block_after}

-- the blocks of a group in order of its items, and of a put group the bytes that each block had when the group was made
pub record Store : Type 0 where
  pub put : Bool
  pub blocks : List Contents
  pub copies : List (List ℕ)

-- what a group of this plan leaves
abbrev pub staged : Plan → Store
staged plan = record {
  put = plan.put;
  blocks = map block_after plan.items;
  copies = if plan.put then map (λ item. item.bytes) plan.items else [];
}
