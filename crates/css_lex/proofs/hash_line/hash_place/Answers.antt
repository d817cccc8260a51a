use Rattle.std.proofs.Common.{sym, ap, ◌∙◌}
use Rattle.std.specs.List.{prefix_len}
use Rattle.css_lexemes.specs.LineKinds.{is_blank, line_kind}
use Rattle.css_lexemes.proofs.Erasing.{at_place}
use Rattle.css_lex.proofs.Hashes.{hash_is}
use Rattle.css_lex.proofs.hash_line.hash_place.Goals as goal

pub returns : goal.returns
returns c =
    let line = c.args.line.now in
    ap (λ n. (at_place line.source.now n).place) (c.blanks_in_front.ensures ∙ ap (prefix_len is_blank) line.same)
    ∙ sym (hash_is line.source.now (λ e. c.requires (ap line_kind line.same ∙ e)))
