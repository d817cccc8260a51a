use Rattle.std.proofs.Common.{◌+◌, ◌∙◌, ◌++◌, ap, ap₂, sym, subst, drop, length, arith}
use Rattle.css_lex.specs.Refusals.{bad_bytes, unended_comments}
use Rattle.css_lexemes.specs.Rising.{AreBetween}
use Rattle.css_lex.specs.Found.{IsFirst}
use Rattle.css_lexemes.proofs.Erasing.{at_place, rest_at}
use Rattle.css_lexemes.proofs.Places.{from_lower}
use Rattle.css_lex.proofs.CommentBytes.{one_breaks, none_breaks}
use Rattle.css_lex.proofs.bad_bytes.bad_place.Goals as goal

pub returns-in-Some : goal.returns-in-Some
returns-in-Some c =
    let text = c.args.text.now in
    let line = c.args.line.now in
    let i = c.loop-source.source-index in
    let rest = rest_at line i c.loop-source-test.true in
    let h = c.loop-source.invariant in
    subst (IsFirst c.in-Some.breach)
    (sym (ap₂ (λ a b. a ++ b) (h.bytes ∙ ap bad_bytes rest) (h.comments ∙ ap (unended_comments text) rest)))
    (one_breaks text 0 (length text) (at_place line i) (drop (i + 1) line) c.in-Some.breach (subst (AreBetween 0 (length text)) rest h.between)
    (sym c.bad_byte.ensures ∙ c.in-Some.is))

pub loop-source-preserved : goal.loop-source-preserved
loop-source-preserved c =
    let text = c.args.text.now in
    let line = c.args.line.now in
    let i = c.loop-source.source-index in
    let rest = rest_at line i c.loop-source-test.true in
    let h = c.loop-source.invariant in
    let none = none_breaks text (at_place line i) (drop (i + 1) line) (sym c.bad_byte.ensures ∙ c.in_default.is) in
    let between = subst (AreBetween 0 (length text)) rest h.between in
    record {
      bytes = h.bytes ∙ (ap bad_bytes rest ∙ none.0);
      comments = h.comments ∙ (ap (unended_comments text) rest ∙ none.1);
      between = from_lower 0 ((at_place line i).place + 1) (length text) (drop (i + 1) line) (omega arith) between.2;
    }
