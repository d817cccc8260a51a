use Rattle.std.proofs.Common.{refl}
use Rattle.css_small.specs.Tree.{program}
use Rattle.css_words.specs.declared.command.Command.TheVariants.{Run}
use Rattle.css_driver.specs.Answer.{IsTaskAnswer}
use Rattle.css_driver.proofs.Commands.{run_back}
use Rattle.css_driver.proofs.Texts.{given_as, refused_as, text_starved}
use Rattle.css_driver.proofs.run_text.run_text.Goals as goal

pub run_tasks-requires-clause-numbers : goal.run_tasks-requires-clause-numbers
run_tasks-requires-clause-numbers g c = c.numbers_fit.ensures _ (program c.in-Ok.tree) c.in-Ok.ensures.ok

pub returns-in-Ok : goal.returns-in-Ok
returns-in-Ok g c = λ request is limits_are.
    let text = c.args.text.now in
    let p = program c.in-Ok.tree in
    let spells = c.in-Ok.ensures.ok in
    given_as c.one_text_answer.ensures request _ _ _ text Run is c.args.limits limits_are (λ l. IsTaskAnswer l p)
    (λ a one. (p, spells, one)) (run_back c.one_reading.ensures.program request.limits text p spells)
    (λ fault refused. c.one_reading.ensures.apart text p fault spells refused) c.run_tasks.ensures

pub returns-in-Err-Static : goal.returns-in-Err-Static
returns-in-Err-Static g c = λ request is limits_are.
    let refused = rw c.in-Err-Static.field-0-is at c.in-Err-Static.ensures.refused in
    refused_as c.one_text_answer.ensures request _ _ _ c.args.text.now c.in-Err-Static.fault Run is refused refl
    (rw c.in-Err-Static.field-0-is at c.refuse.ensures)

pub returns-in-Err-NoMemory : goal.returns-in-Err-NoMemory
returns-in-Err-NoMemory g c = λ request is limits_are. text_starved c.one_text_answer.ensures request _ _ _ c.args.text.now refl c.finish.ensures
