use Rattle.css_words.specs.KeptWords.{pairs}
use Rattle.css_words.proofs.Pairs.{allowed_by_values}
use Rattle.css_words.proofs.allowed.is_allowed.Goals as goal

pub returns : goal.returns
returns c =
    allowed_by_values c.args.built.now c.args.command c.args.operand.now (pairs c.args.given.now) c.are_values.result
    (c.has_command.ensures.0 c.if-not-has_command.false) (c.are_options_of.ensures.0 c.if-not-are_options_of.false) (c.are_once.ensures.0 c.if-not-are_once.false)
    (c.has_wanted.ensures.0 c.if-not-has_wanted.false) (c.in_ok-fits.ensures.0 c.if-not-fits.false) c.are_values.ensures
