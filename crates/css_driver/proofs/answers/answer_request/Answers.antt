use Rattle.std.proofs.Common.{refl, ap, Err}
use Rattle.css_driver.specs.Ends.{Unread}
use Rattle.css_driver.proofs.Texts.{answered, answered_any, text_starved}
use Rattle.css_driver.proofs.answers.answer_request.Goals as goal

pub returns-in-Ok : goal.returns-in-Ok
returns-in-Ok g c = λ offer words asks.
    answered offer words _ _ _ _ _ _ c.args.request.now asks c.one_text_answer.ensures c.args.limit c.in-Ok.text.items
    (rw c.text.ensures at c.in-Ok.ensures.ok) c.requires.limit (rw c.as_slice.ensures.value at c.answer_text.ensures)

pub returns-in-Err-Failed : goal.returns-in-Err-Failed
returns-in-Err-Failed g c = λ offer words asks.
    Unread (record {
      request = c.args.request.now;
      asks = asks;
      rose = rw c.text.ensures at (c.in-Err-Failed.ensures.failed (ap (λ e. Err e) c.in-Err-Failed.field-0-is));
    }) refl c.finish.ensures

pub returns-in-Err-NoMemory : goal.returns-in-Err-NoMemory
returns-in-Err-NoMemory g c = λ offer words asks.
    answered_any offer words _ _ _ _ _ _ c.args.request.now asks
    (λ text. text_starved c.one_text_answer.ensures c.args.request.now _ _ _ text refl c.finish-in-Err-NoMemory.ensures)
