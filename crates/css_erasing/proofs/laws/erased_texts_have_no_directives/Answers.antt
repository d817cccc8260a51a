use Rattle.std.proofs.Common.{subst}
use Rattle.css_lexemes.specs.Lines.{erased}
use Rattle.css_small.specs.Texts.{Spells}
use Rattle.css_small_code.specs.Marks.{HasNoDirectives}
use Rattle.css_erasing.specs.Unmarked.{unmarked}
use Rattle.css_erasing.proofs.laws.erased_texts_have_no_directives.Goals as goal

-- Without its directives once more the text is as it was, so the program without its directives is the program itself.
pub returns : goal.returns
returns c text p s =
    let again = c.erased_texts_spell_the_unmarked.ensures (erased text) p s in
    let there = subst (λ t. Spells t (unmarked p)) (c.erasing_twice_is_once.ensures text) again in
    let same = c.one_reading.ensures.program (erased text) (unmarked p) p there s in
    subst HasNoDirectives same (c.unmarked_has_no_directives.ensures.none_stands p)
