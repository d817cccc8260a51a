use Rattle.css_unmarking.proofs.laws.erased_texts_are_accepted.Goals as goal

pub returns : goal.returns
returns c text tokens tree spelled accepted =
    let found = c.erasing_takes_directives_alone.ensures text tokens spelled (c.no_parted_strings.ensures tokens tree accepted.spells.spelled) in
    (found.others, found.spelled, c.others_spell_the_unmarked.ensures tokens found.others tree accepted found.same)
