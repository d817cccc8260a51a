use Rattle.std.proofs.Common.{sym, ap, ◌∙◌, arith}
use Rattle.css_base.specs.Tokens.{lexemes}
use Rattle.css_tree.specs.Shapes.{in_row}
use Rattle.css_small.specs.Trees.{kinds_of, directive_of}
use Rattle.css_small.proofs.Lists.{one_item}
use Rattle.css_small.proofs.Words.{not_one_word, no_word}
use Rattle.css_small.proofs.statements.directive_of.Goals as goal

pub returns-in_default-2 : goal.returns-in_default-2
returns-in_default-2 c = sym (not_one_word c.args.words.now (λ one. let long = c.in_default.len_at_least in omega arith))

pub returns-in_default-kind : goal.returns-in_default-kind
returns-in_default-kind c =
    let all = one_item c.args.words.now c.only-item.result c.in-len1.len_at_least c.in-len1.len_below c.only-item.is in
    sym (ap (λ ts. directive_of (kinds_of (in_row (lexemes ts)))) all ∙ no_word c.only-item.result.kind c.in_default-kind.not-Word)
