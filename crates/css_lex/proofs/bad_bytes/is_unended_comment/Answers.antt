use Rattle.std.proofs.Common.{◌∙◌, sym, ap, drop, not, ◌∷◌}
use Rattle.css_lex.specs.Refusals.{is_unended}
use Rattle.css_lex.specs.CommentEnd.{plain_bytes}
use Rattle.css_lex.proofs.CommentBytes.{unended_is}
use Rattle.css_lex.proofs.bad_bytes.is_unended_comment.Goals as goal

pub returns : goal.returns
returns c =
    let text = c.args.text.now in
    let first = c.in-Some.ensures in
    let second = c.in-Some-behind_byte.ensures in
    ap not c.is_ended.ensures
    ∙ sym (ap is_unended (first.0 ∙ ap (λ r. 47 ∷ r) second.0) ∙ unended_is (plain_bytes (drop c.in-Some-behind_byte.third text)))
