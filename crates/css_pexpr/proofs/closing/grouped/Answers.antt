use Rattle.std.proofs.Common.{◌≡◌, sym, ap, ◌∙◌}
use Rattle.css_pexpr.specs.Reading.{grouped}
use Rattle.css_pexpr.specs.Shapes.{operand_of}
use Rattle.css_pexpr.specs.Stacks.{stack}
use Rattle.css_pexpr.proofs.Others.{no_bracket}
use Rattle.css_pexpr.proofs.closing.grouped.Goals as goal

pub returns-in_default-opening : goal.returns-in_default-opening
returns-in_default-opening c =
    sym
    (ap (λ s. grouped c.args.manner s (operand_of c.args.last)) c.in-Some.ensures.some
    ∙ no_bracket c.args.manner c.in-Some.opening (stack c.pop.new.self) (operand_of c.args.last) c.in_default-opening.not-Group c.in_default-opening.not-Call)
