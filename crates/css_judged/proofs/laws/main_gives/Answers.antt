use Rattle.css_judged.proofs.CallWindows.{call_live, call_within, call_clear}
use Rattle.css_judged.proofs.laws.main_gives.Goals as goal

pub returns-clause-live : goal.returns-clause-live
returns-clause-live c = call_live

pub returns-clause-within : goal.returns-clause-within
returns-clause-within c = call_within

pub returns-clause-clear : goal.returns-clause-clear
returns-clause-clear c limits start tape s base begun at low none = call_clear limits start tape s base begun at none low
