use Rattle.std.proofs.Common.{refl}
use Rattle.css_small.specs.Tree.{program}
use Rattle.css_words.specs.declared.command.Command.TheVariants.{Check}
use Rattle.css_driver.specs.Answer.{accepted}
use Rattle.css_driver.proofs.OneAnswer.{answer_given}
use Rattle.css_driver.proofs.Texts.{refused_as, text_reported, text_starved}
use Rattle.css_driver.proofs.check.check_text.Goals as goal

pub returns-in-Ok : goal.returns-in-Ok
returns-in-Ok g c = λ request out is same.
    text_reported c.one_text_answer.ensures request out _ _ c.args.text.now accepted
    (answer_given request c.args.text.now Check accepted is (program c.in-Ok._program, c.in-Ok.ensures.ok, refl)) refl same c.finish.ensures

pub returns-in-Err-Static : goal.returns-in-Err-Static
returns-in-Err-Static g c = λ request out is same.
    let refused = rw c.in-Err-Static.field-0-is at c.in-Err-Static.ensures.refused in
    refused_as c.one_text_answer.ensures request out _ _ c.args.text.now c.in-Err-Static.fault Check is refused same c.refuse.ensures

pub returns-in-Err-NoMemory : goal.returns-in-Err-NoMemory
returns-in-Err-NoMemory g c = λ request out is same. text_starved c.one_text_answer.ensures request out _ _ c.args.text.now same c.finish-in-Err-NoMemory.ensures
