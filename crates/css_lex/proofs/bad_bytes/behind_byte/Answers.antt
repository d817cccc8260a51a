use Rattle.std.proofs.Common.{◌+◌, ◌∙◌, ◌∷◌, ap, drop, arith}
use Rattle.css_lex.specs.CommentEnd.{plain_bytes}
use Rattle.css_lex.proofs.CommentBytes.{byte_there}
use Rattle.css_lex.proofs.bad_bytes.behind_byte.Goals as goal

pub returns-then-text-at : goal.returns-then-text-at
returns-then-text-at c =
    let text = c.args.text.now in
    let at = c.next_byte-at.result in
    let next = c.next_byte-at.ensures in
    (next.same ∙ (byte_there at text c.if-at-text.true next.plain ∙ ap (λ b. b ∷ plain_bytes (drop (at + 1) text)) c.if-text-at.true), omega (arith, c.if-at-text.true))
