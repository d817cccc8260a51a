use Rattle.std.proofs.Common.{◌∙◌, sym, ap, length}
use Rattle.std.specs.Prelude.{bytes_eq}
use Rattle.css_lexemes.proofs.Rests.{rest_is}
use Rattle.css_lexemes.proofs.LineKinds.{pragma_line}
use Rattle.css_lexemes.proofs.line_kind.kind_behind_hash.Goals as goal

pub returns-then-eq-4 : goal.returns-then-eq-4
returns-then-eq-4 c =
    let word = c.word_in_front-word.result.now in
    c.kind_of_pragma.ensures
    ∙ sym (pragma_line c.args.text.now word _ c.word_in_front-word.ensures
    (ap (bytes_eq word) (sym c.as_slice.ensures) ∙ sym c.eq.ensures ∙ c.if-eq.false)
    (ap (bytes_eq word) (sym c.as_slice-else-eq.ensures) ∙ sym c.eq-else-eq.ensures ∙ c.if-eq-2.false)
    (ap (bytes_eq word) (sym c.as_slice-else-eq-2.ensures) ∙ sym c.eq-else-eq-2.ensures ∙ c.if-eq-3.false)
    (ap (bytes_eq word) (sym c.as_slice-else-eq-3.ensures) ∙ sym c.eq-else-eq-3.ensures ∙ c.if-eq-4.true)
    (rest_is (length word) c.args.text.now))
