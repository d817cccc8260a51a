use Rattle.std.proofs.Common.{◌∙◌, sym, ap, drop, ◌&&◌}
use Rattle.std.proofs.lemmas.Bool.{eq-eqb}
use Rattle.css_lex.specs.Refusals.{is_unended, begins_unended}
use Rattle.css_lex.specs.CommentEnd.{plain_bytes}
use Rattle.css_lexemes.proofs.Rests.{rest_is}
use Rattle.css_lex.proofs.CommentBytes.{plain_moved}
use Rattle.css_lex.proofs.bad_bytes.shows_unended.Goals as goal

pub returns-then-source-eq32 : goal.returns-then-source-eq32
returns-then-source-eq32 c =
    let text = c.args.text.now in
    let source = c.args.source in
    c.is_unended_comment.ensures
    ∙ (ap (λ r. is_unended (plain_bytes r)) (rest_is source.place text)
    ∙ (ap is_unended (sym (plain_moved source.place (drop source.place text)))
    ∙ ap (λ s. s && begins_unended text source.place) (sym (eq-eqb source.byte 32 c.if-source-eq32.true))))
