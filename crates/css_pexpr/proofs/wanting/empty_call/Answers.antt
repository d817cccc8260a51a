use Rattle.std.proofs.Common.{◌≡◌, Some, sym, ap, ◌∙◌}
use Rattle.css_pexpr.specs.declared.prefix.Lead.TheVariants as leads
use Rattle.css_pexpr.specs.Reading.{led}
use Rattle.css_pexpr.specs.Stacks.{stack}
use Rattle.css_pexpr.proofs.Others.{no_empty_call}
use Rattle.css_pexpr.proofs.wanting.empty_call.Goals as goal

pub returns-in_default : goal.returns-in_default
returns-in_default c =
    λ line. sym (ap (λ s. led c.args.manner s line (Some leads.Close)) c.in_ok-last.ensures.some ∙ no_empty_call c.args.manner c.in_ok-last.last (stack c.pop.new.self) line c.in_default.not-Call)
