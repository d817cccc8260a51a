use Rattle.std.proofs.Common.{◌≡◌, sym, ap, ◌∙◌}
use Rattle.css_pexpr.specs.Reading.{divided}
use Rattle.css_pexpr.specs.Shapes.{operand_of}
use Rattle.css_pexpr.specs.Stacks.{stack}
use Rattle.css_pexpr.proofs.Others.{no_question}
use Rattle.css_pexpr.proofs.closing.divided.Goals as goal

pub returns-in_default-last : goal.returns-in_default-last
returns-in_default-last c =
    sym (ap (λ s. divided s (operand_of c.args.first)) c.in-Some.ensures.some ∙ no_question c.in-Some.last (stack c.pop.new.self) (operand_of c.args.first) c.in_default-last.not-Question)
