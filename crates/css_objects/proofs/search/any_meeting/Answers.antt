use Rattle.std.proofs.Common.{sym, ◌∙◌}
use Rattle.css_objects.proofs.Tables.{meeting_any}
use Rattle.css_objects.proofs.search.any_meeting.Goals as goal

pub returns-clause-answer : goal.returns-clause-answer
returns-clause-answer g c = c.is_some.ensures ∙ sym (meeting_any c.args.rows.now c.args.from c.args.to c.last_meeting.result c.last_meeting.ensures.found)
