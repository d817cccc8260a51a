use Rattle.std.proofs.Common.{◌≡◌, ◌∷◌, sym, ap, ◌∙◌}
use Rattle.css_base.specs.Tokens.{At, kind_of}
use Rattle.css_tree.specs.Shapes.{expression}
use Rattle.css_parse.specs.Readings.{valued}
use Rattle.css_parse.proofs.Initials.{text_valued, other_valued}
use Rattle.css_parse.proofs.initialiser.valued.Goals as goal

pub returns-in-Ok : goal.returns-in-Ok
returns-in-Ok c = λ line place end ts. sym (text_valued line place end ts (ap kind_of c.in-Text.is) c.in-Ok.ensures.found)

pub returns-in-Err : goal.returns-in-Err
returns-in-Err c = λ line place end ts.
    let front = At (kind_of c.args.first.now) line place end ∷ ts in
    sym (other_valued front (expression c.in-Err.value) c.in-Err.ensures.none) ∙ ap (λ e. valued front (expression e)) c.in-Err.ensures.same
