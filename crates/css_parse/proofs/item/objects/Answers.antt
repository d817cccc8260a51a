use Rattle.std.proofs.Common.{◌<◌, ◌-◌, subst, arith}
use Rattle.std.specs.Option.{option_map}
use Rattle.css_base.specs.Tokens.{lexemes}
use Rattle.css_tree.specs.declared.scope.Scope.TheVariants as scopes
use Rattle.css_tree.specs.Shapes.{dimensions, initialiser}
use Rattle.css_parse.specs.Readings.{ReadsFurtherDeclarators}
use Rattle.css_parse.proofs.Exits.{passed}
use Rattle.css_parse.proofs.OneDeclaration.{one_tail}
use Rattle.css_parse.proofs.NoItem.{declared_item}
use Rattle.css_parse.proofs.item.objects.Goals as goal

pub returns-in_err-first-clause-not_spelled : goal.returns-in_err-first-clause-not_spelled
returns-in_err-first-clause-not_spelled c = λ why sizes value next ds rest some r f.
    c.in_err-first.ensures.not_spelled (passed c.from_residual.result c.in_err-first.field-0.0 c.from_residual.ensures.1 why) sizes value next r

pub returns-in_err-declarators-clause-not_spelled : goal.returns-in_err-declarators-clause-not_spelled
returns-in_err-declarators-clause-not_spelled c = λ why sizes value next ds rest some r f.
    c.in_err-declarators.ensures.not_spelled (passed c.from_residual-in_err-declarators.result c.in_err-declarators.field-0.0 c.from_residual-in_err-declarators.ensures.1 why) ds rest
    (subst (λ l. ReadsFurtherDeclarators scopes.File (c.args.levels - 1) l ds rest) (one_tail r c.in_ok-first.ensures.tail).2 f)

pub returns-clause-ok : goal.returns-clause-ok
returns-clause-ok c = λ ts front.
    declared_item c.args.levels ts _ _ (record {
      behind = front.behind;
      some = omega arith;
      line_is = front.line_is;
      reads_specifiers = front.reads_specifiers;
      reads_declarators = c.in_ok-declarators.ensures.ok front.behind (c.in_ok-first.ensures.ok front.behind front.declared_is front.reads_head);
    })
