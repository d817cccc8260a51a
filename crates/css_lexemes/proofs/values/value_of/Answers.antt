use Rattle.css_lexemes.proofs.Escapes.{value_over}
use Rattle.css_lexemes.proofs.values.value_of.Goals as goal

pub returns-in_default : goal.returns-in_default
returns-in_default c =
    value_over c.args.base c.loop-digit.value c.loop-digit.digit-index _ c.args.digits.now c.requires c.loop-digit-test.true c.loop-digit.invariant c.in_default.ensures
