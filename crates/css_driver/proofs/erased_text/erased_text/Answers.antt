use Rattle.std.proofs.Common.{inr, refl, ◌∙◌, subst}
use Rattle.css_small.specs.Tree.{program}
use Rattle.css_small.specs.Texts.{Spells, IsRefused}
use Rattle.css_words.specs.declared.command.Command.TheVariants.{Erased}
use Rattle.css_driver.specs.Answer.{IsRunAnswer}
use Rattle.css_driver.proofs.Commands.{erased_back, erased_reads}
use Rattle.css_driver.proofs.Texts.{given_as, refused_as, text_starved}
use Rattle.css_driver.proofs.erased_text.erased_text.Goals as goal

pub returns-in_default : goal.returns-in_default
returns-in_default g c = λ request is limits_are. text_starved c.one_text_answer.ensures request _ _ _ c.args.text.now refl c.finish.ensures

pub run_program-requires-clause-numbers : goal.run_program-requires-clause-numbers
run_program-requires-clause-numbers g c = c.numbers_fit.ensures _ (program c.in-Ok-read_program.tree) c.in-Ok-read_program.ensures.ok

pub run_program-requires-clause-no_directives : goal.run_program-requires-clause-no_directives
run_program-requires-clause-no_directives g c =
    let p = program c.in-Ok-read_program.tree in
    c.erased_texts_have_no_directives.ensures c.args.text.now p
    (subst (λ t. Spells t p) (c.as_slice.ensures.value ∙ c.in-Ok.ensures) c.in-Ok-read_program.ensures.ok)

pub returns-in-Ok-read_program : goal.returns-in-Ok-read_program
returns-in-Ok-read_program g c = λ request is limits_are.
    let text = c.args.text.now in
    let p = program c.in-Ok-read_program.tree in
    let spells = subst (λ t. Spells t p) (c.as_slice.ensures.value ∙ c.in-Ok.ensures) c.in-Ok-read_program.ensures.ok in
    given_as c.one_text_answer.ensures request _ _ _ text Erased is c.args.limits limits_are (λ l. IsRunAnswer l p)
    (λ a one. (p, c.requires.short, spells, one)) (erased_back c.one_reading.ensures.program request.limits text p spells)
    (erased_reads c.one_reading.ensures.apart text p c.requires.short spells) c.run_program.ensures

pub returns-in-Err-Static : goal.returns-in-Err-Static
returns-in-Err-Static g c = λ request is limits_are.
    let fault = c.in-Err-Static.fault in
    let refused = rw c.in-Err-Static.field-0-is at c.in-Err-Static.ensures.refused in
    let of_text = subst (λ t. IsRefused t fault) (c.as_slice.ensures.value ∙ c.in-Ok.ensures) refused in
    refused_as c.one_text_answer.ensures request _ _ _ c.args.text.now fault Erased is (inr (c.requires.short, of_text)) refl
    (rw c.in-Err-Static.field-0-is at c.refuse.ensures)

pub returns : goal.returns
returns g c = λ request is limits_are. text_starved c.one_text_answer.ensures request _ _ _ c.args.text.now refl c.finish-in-Err-NoMemory.ensures
