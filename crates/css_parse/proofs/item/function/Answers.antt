use Rattle.std.proofs.Common.{sym, ◌∙◌, subst, arith}
use Rattle.std.proofs.lemmas.List.{length-map}
use Rattle.std.specs.Option.{option_map}
use Rattle.css_base.specs.Tokens.{lexeme, lexemes}
use Rattle.css_tree.specs.Shapes.{mark, parameters}
use Rattle.css_parse.specs.ItemReadings.{ReadsBody}
use Rattle.css_parse.proofs.Ends.{end_behind}
use Rattle.css_parse.proofs.Exits.{passed}
use Rattle.css_parse.proofs.OneItem.{one_parameters}
use Rattle.css_parse.proofs.NoItem.{defined_item}
use Rattle.css_parse.proofs.Sound.{before_parameters}
use Rattle.css_parse.proofs.item.function.Goals as goal

pub returns-in_err-parameters-clause-not_spelled : goal.returns-in_err-parameters-clause-not_spelled
returns-in_err-parameters-clause-not_spelled c = λ why all block next rest r b.
    c.in_err-parameters.ensures.not_spelled (passed c.from_residual.result c.in_err-parameters.field-0.0 c.from_residual.ensures.1 why) all next r

pub returns-in_err-body-clause-not_spelled : goal.returns-in_err-body-clause-not_spelled
returns-in_err-body-clause-not_spelled c = λ why all block next rest r b.
    c.in_err-body.ensures.not_spelled (passed c.from_residual-in_err-body.result c.in_err-body.field-0.0 c.from_residual-in_err-body.ensures.1 why) block rest
    (subst (λ l. ReadsBody c.args.levels l block rest) (one_parameters c.args.levels (lexemes c.args.tokens.now) all (parameters c.in_ok-parameters.parameters) r c.in_ok-parameters.ensures.ok).1 b)

pub returns-clause-ok : goal.returns-clause-ok
returns-clause-ok c = λ ts start behind m front n.
    let tokens = c.args.tokens.now in
    let rest = c.in_ok-body.rest.now in
    let before = before_parameters (option_map mark c.args.directive) m front n in
    defined_item c.args.levels ts _ _ (record {
      start = start;
      behind = front.behind;
      middle = behind;
      inside = lexemes c.args.tokens.now;
      next = lexemes c.in_ok-parameters.next.now;
      reads_mark = m;
      line_is = front.line_is;
      reads_specifiers = front.reads_specifiers;
      reads_head = front.reads_head;
      opens = n;
      reads_parameters = c.in_ok-parameters.ensures.ok;
      reads_body = c.in_ok-body.ensures.ok;
      end_is = end_behind before.0 (lexemes tokens) (lexemes rest) before.1
          (omega (arith, length-map tokens lexeme, length-map rest lexeme, c.in_ok-parameters.ensures.shorter, c.in_ok-body.ensures.shorter)) ∙ sym c.end_line.ensures;
    })
