use Rattle.css_tree.specs.Marks as marks
use Rattle.css_erasing.proofs.UnmarkedTrees.{unmarked_programs}
use Rattle.css_erasing.proofs.laws.erased_texts_spell_the_unmarked.Goals as goal

pub returns : goal.returns
returns c text p s =
    let others = c.erased_texts_are_accepted.ensures text s.tokens s.tree s.lexed s.parsed in
    record { tokens = others.0; tree = marks.unmarked s.tree; lexed = others.1; parsed = others.2; small = unmarked_programs s.tree p s.small }
