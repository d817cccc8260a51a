use Rattle.std.proofs.Common.{refl, ap, Err}
use Rattle.css_driver.specs.Ends.{Unheard}
use Rattle.css_driver.proofs.Texts.{ends_refused}
use Rattle.css_driver.proofs.Words.{asks_read, refused_unread, read_served}
use Rattle.css_driver.proofs.answers.answer_words.Goals as goal

pub answer_request-requires-clause-served : goal.answer_request-requires-clause-served
answer_request-requires-clause-served g c = read_served c.args.words.now c.args.built.now c.in-Ok.request c.requires.served c.in-Ok.ensures.ok

pub returns-in-Ok-clause-ends : goal.returns-in-Ok-clause-ends
returns-in-Ok-clause-ends g c = c.answer_request.ensures _ c.args.words.now (asks_read c.args.words.now c.args.built.now c.in-Ok.request c.in-Ok.ensures.ok)

pub returns-in-Ok-clause-refused : goal.returns-in-Ok-clause-refused
returns-in-Ok-clause-refused g c = λ refused. absurd (refused c.args.built.now refl c.in-Ok.request c.in-Ok.ensures.ok)

pub returns-in-Ok-clause-untouched : goal.returns-in-Ok-clause-untouched
returns-in-Ok-clause-untouched g c = λ refused. absurd (refused c.args.built.now refl c.in-Ok.request c.in-Ok.ensures.ok)

pub returns-in-Err-Refused-clause-ends : goal.returns-in-Err-Refused-clause-ends
returns-in-Err-Refused-clause-ends g c =
    ends_refused _ _ _ _ _ _ _ _
    (refused_unread c.args.words.now c.args.built.now (c.in-Err-Refused.ensures.refused (ap (λ e. Err e) c.in-Err-Refused.field-0-is)))
    refl c.finish.ensures

pub returns-in-Err-NoMemory-clause-ends : goal.returns-in-Err-NoMemory-clause-ends
returns-in-Err-NoMemory-clause-ends g c = Unheard refl c.finish-in-Err-NoMemory.ensures
