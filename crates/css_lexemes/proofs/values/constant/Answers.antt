use Rattle.std.proofs.Common.{◌∙◌, sym, ap, ◌||◌}
use Rattle.std.specs.Prelude.{codes}
use Rattle.std.proofs.lemmas.Bool.{cond-true}
use Rattle.css_lexemes.specs.Source.{begins_with}
use Rattle.css_lexemes.specs.Values.{number_in}
use Rattle.css_lexemes.proofs.Rests.{rest_is}
use Rattle.css_lexemes.proofs.values.constant.Goals as goal

pub returns-then-is_hexadecimal : goal.returns-then-is_hexadecimal
returns-then-is_hexadecimal c =
    let text = c.args.text.now in
    c.number_of.ensures
    ∙ (ap (number_in 16) (rest_is 2 text)
    ∙ sym (cond-true (begins_with (codes "0x") text || begins_with (codes "0X") text) _ _ (sym c.is_hexadecimal.ensures.value ∙ c.if-is_hexadecimal.true)))
