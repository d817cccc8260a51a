use Rattle.css_objects.proofs.Lengths.{calls_long, stores_long, waits_long, generations_long, shown_long, tapes_long}
use Rattle.css_objects.proofs.laws.versions_are_as_long_as_their_windows.Goals as goal

pub returns-clause-calls : goal.returns-clause-calls
returns-clause-calls c = calls_long

pub returns-clause-stores : goal.returns-clause-stores
returns-clause-stores c = stores_long

pub returns-clause-waits : goal.returns-clause-waits
returns-clause-waits c = waits_long

pub returns-clause-generations : goal.returns-clause-generations
returns-clause-generations c = generations_long

pub returns-clause-lent : goal.returns-clause-lent
returns-clause-lent c = shown_long

pub returns-clause-tapes : goal.returns-clause-tapes
returns-clause-tapes c = tapes_long
