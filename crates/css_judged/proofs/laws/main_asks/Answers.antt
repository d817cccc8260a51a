use Rattle.css_judged.proofs.MainTapes.{asks_out, asks_start, asks_finish, asks_barrier, asks_end, asks_call}
use Rattle.css_judged.proofs.laws.main_asks.Goals as goal

pub returns-clause-writes : goal.returns-clause-writes
returns-clause-writes c = λ limits start tape s line bytes at. asks_out limits start tape s at line bytes

pub returns-clause-starts : goal.returns-clause-starts
returns-clause-starts c = λ limits start tape s line at. asks_start limits start tape s at line

pub returns-clause-finishes : goal.returns-clause-finishes
returns-clause-finishes c = λ limits start tape s line at. asks_finish limits start tape s at line

pub returns-clause-waits : goal.returns-clause-waits
returns-clause-waits c = λ limits start tape s line at. asks_barrier limits start tape s at line

pub returns-clause-ends : goal.returns-clause-ends
returns-clause-ends c = λ limits start tape s line value at. asks_end limits start tape s at line value

pub returns-clause-calls : goal.returns-clause-calls
returns-clause-calls c = λ limits start tape s line call at. asks_call limits start tape s at line call
