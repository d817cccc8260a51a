use Rattle.std.proofs.Common.{◌∙◌, refl, sym}
use Rattle.css_words.specs.KeptWords.{texts}
use Rattle.css_words.proofs.FirstItems.{found_joined}
use Rattle.css_words.proofs.part.joined.Goals as goal

pub returns-clause-found : goal.returns-clause-found
returns-clause-found c =
    found_joined c.in-Some.option c.args.name.now c.args.value.now (texts c.args.others.now) _ c.in-Some.ensures (sym c.is_flag.ensures ∙ c.if-is_flag.false) refl refl
