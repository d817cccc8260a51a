use Rattle.css_objects.proofs.Currents.{begins, stored_follows, waited_follows, unchanged_follows, barrier_follows, finish_follows, end_follows}
use Rattle.css_objects.proofs.Followed.{call_follows}
use Rattle.css_objects.proofs.Generations.{generation_follows}
use Rattle.css_objects.proofs.laws.tables_follow_tapes.Goals as goal

pub returns-clause-begins : goal.returns-clause-begins
returns-clause-begins c = begins

pub returns-clause-stores : goal.returns-clause-stores
returns-clause-stores c = stored_follows

pub returns-clause-waits : goal.returns-clause-waits
returns-clause-waits c = waited_follows

pub returns-clause-barriers : goal.returns-clause-barriers
returns-clause-barriers c = barrier_follows

pub returns-clause-finishes : goal.returns-clause-finishes
returns-clause-finishes c = finish_follows

pub returns-clause-ends : goal.returns-clause-ends
returns-clause-ends c = end_follows

pub returns-clause-others : goal.returns-clause-others
returns-clause-others c = unchanged_follows

pub returns-clause-calls : goal.returns-clause-calls
returns-clause-calls c = call_follows

pub returns-clause-generations : goal.returns-clause-generations
returns-clause-generations c = generation_follows
