use Rattle.std.proofs.Common.{◌≡◌, ◌++◌, List, map, length}
use Rattle.std.specs.Prelude.{All, flat_map}
use Rattle.css_words.specs.Items.{Item, IsItem, spelling, given_by, operand_by}
use Rattle.css_words.specs.KeptWords.{pairs, texts}
use Rattle.css_words.proofs.said.read_parts.Given as goal

-- the words are some items and what is left, and those items are kept
abbrev pub invariant-loop-first : goal.invariant-loop-first
invariant-loop-first l =
    (items : List Item) × All IsItem items × (texts l.words ≡ flat_map spelling items ++ texts l.rest)
    × (pairs l.said.given.items ≡ flat_map given_by items) × (map (λ w. w.now) l.said.operands.items ≡ flat_map operand_by items)

abbrev pub decreases-loop-first : goal.decreases-loop-first
decreases-loop-first l = length l.rest
