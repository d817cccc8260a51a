use Rattle.std.proofs.Common.{length, ap, ◌∙◌, arith, length-drop}
use Rattle.std.proofs.lemmas.List.Folds.{length-prefix_len}
use Rattle.std.proofs.lemmas.List.Sums.{prefix_len-le-length}
use Rattle.css_lexemes.specs.LineKinds.{is_blank}
use Rattle.css_lex.proofs.hash_line.blanks_in_front.Goals as goal

pub returns : goal.returns
returns c =
    let bytes = c.args.line.now.bytes.now in
    let r = ap length c.without_blanks.ensures ∙ length-drop _ bytes in
    let p = length-prefix_len is_blank bytes in
    let l = prefix_len-le-length is_blank bytes in
    omega (arith, r, p, l)
