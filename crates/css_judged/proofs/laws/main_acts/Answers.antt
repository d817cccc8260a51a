use Rattle.std.proofs.Common.{refl}
use Rattle.css_semantics.specs.Dialogue.{Out, Start, Finish, Barrier, item}
use Rattle.css_judged.proofs.MainTapes.{acts}
use Rattle.css_judged.proofs.laws.main_acts.Goals as goal

pub returns-clause-acts : goal.returns-clause-acts
returns-clause-acts c = acts

pub returns-clause-writes : goal.returns-clause-writes
returns-clause-writes c = λ limits start tape s bytes line at. acts limits start tape s (item (Out bytes) line) refl at

pub returns-clause-starts : goal.returns-clause-starts
returns-clause-starts c = λ limits start tape s line at. acts limits start tape s (item Start line) refl at

pub returns-clause-finishes : goal.returns-clause-finishes
returns-clause-finishes c = λ limits start tape s line at. acts limits start tape s (item Finish line) refl at

pub returns-clause-waits : goal.returns-clause-waits
returns-clause-waits c = λ limits start tape s line at. acts limits start tape s (item Barrier line) refl at
