use Rattle.css_driver.specs.Request.{whole}
use Rattle.css_driver.proofs.Clauses.{at_two, at_three, at_six, at_seven, at_eight, below_six, at_most_eight, refused_only, smooth_status}
use Rattle.css_driver.proofs.Headlines.{run_answered}
use Rattle.css_driver.proofs.Words.{whole_served}
use Rattle.css_driver.proofs.program.top.Goals as goal

pub answer_words-requires : goal.answer_words-requires
answer_words-requires g c = record { served = whole_served }

pub returns-clause-words : goal.returns-clause-words
returns-clause-words g c = at_two _ _ _ _ _ _ _ _ c.answer_words.ensures.ends

pub returns-clause-shelf : goal.returns-clause-shelf
returns-clause-shelf g c = λ six. (at_six _ _ _ _ _ _ _ _ c.answer_words.ensures.ends six).0

pub returns-clause-shelf_report : goal.returns-clause-shelf_report
returns-clause-shelf_report g c = λ six. let ends = at_six _ _ _ _ _ _ _ _ c.answer_words.ensures.ends six in (ends.1, ends.2)

pub returns-clause-refusal : goal.returns-clause-refusal
returns-clause-refusal g c = at_three _ _ _ _ _ _ _ _ c.answer_words.ensures.ends

pub returns-clause-refusal_only : goal.returns-clause-refusal_only
returns-clause-refusal_only g c = refused_only _ _ _ _ _ _ _ _ c.one_answer.ensures c.answer_words.ensures.ends

pub returns-clause-verdict : goal.returns-clause-verdict
returns-clause-verdict g c = below_six _ _ _ _ _ _ _ _ c.answer_words.ensures.ends

pub returns-clause-sinks : goal.returns-clause-sinks
returns-clause-sinks g c = λ seven. (at_seven _ _ _ _ _ _ _ _ c.answer_words.ensures.ends seven).0

pub returns-clause-sinks_got : goal.returns-clause-sinks_got
returns-clause-sinks_got g c = λ seven. (at_seven _ _ _ _ _ _ _ _ c.answer_words.ensures.ends seven).1

pub returns-clause-memory : goal.returns-clause-memory
returns-clause-memory g c = at_eight _ _ _ _ _ _ _ _ c.answer_words.ensures.ends

pub returns-clause-statuses : goal.returns-clause-statuses
returns-clause-statuses g c = at_most_eight _ _ _ _ _ _ _ _ c.answer_words.ensures.ends

pub returns-clause-complete : goal.returns-clause-complete
returns-clause-complete g c = smooth_status _ _ _ _ _ _ _ _ c.one_answer.ensures c.answer_words.ensures.ends

pub returns-clause-ends : goal.returns-clause-ends
returns-clause-ends g c = c.answer_words.ensures.ends

pub returns-clause-headline : goal.returns-clause-headline
returns-clause-headline g c = λ request text asks runs.
    run_answered
    (record {
      verdicts = c.verdict_is_the_erased_programs.ensures.by_as_much;
      passed = c.points_are_the_erased_programs.ensures.passed;
      images = c.points_are_the_erased_programs.ensures.images;
    })
    c.erased_texts_spell_the_unmarked.ensures whole c.args.words.now request asks runs text _ _ _ _ _ _ c.answer_words.ensures.ends
