use Rattle.std.proofs.Common.{sym, subst}
use Rattle.css_semantics.specs.Flat.{IsLaidOut}
use Rattle.css_semantics.proofs.LaidOut.{laid_along}
use Rattle.css_judged.proofs.laws.main_has_stack.Goals as goal

pub returns : goal.returns
returns c = λ limits start tape s starts at. subst (IsLaidOut limits.memory) (sym at.memory) (laid_along limits.memory start.memory tape starts.laid_out)
