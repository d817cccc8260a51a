use Rattle.css_core.proofs.StartsWell.{ends_there, starts}
use Rattle.css_core.proofs.laws.typed_programs_start.Goals as goal

pub returns-clause-start : goal.returns-clause-start
returns-clause-start c size input p typed room = starts size input p typed room

pub returns-clause-globals : goal.returns-clause-globals
returns-clause-globals c size input p typed = ends_there size p typed
