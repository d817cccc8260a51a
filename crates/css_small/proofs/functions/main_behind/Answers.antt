use Rattle.std.proofs.Common.{◌≡◌, codes, bytes_eq, option_map, true, false, rules, sym, ap, ◌∙◌}
use Rattle.css_tree.specs.Syntax as syntax
use Rattle.css_tree.specs.Shapes as shapes
use Rattle.css_small.specs.Trees.{is_none, is_int, is_empty, is_void_alone, body_of, main_behind}
use Rattle.css_small.proofs.Headers.{in_other_words, main_is}
use Rattle.css_small.proofs.functions.main_behind.Goals as goal

pub returns-clause-ok : goal.returns-clause-ok
returns-clause-ok c =
    let t : syntax.Function = record {
      directive = option_map shapes.mark c.in-Function.directive;
      line = c.in-Function.line;
      end = c.in-Function.end;
      specifiers = c.in-Function.specifiers.items;
      stars = shapes.stars c.in-Function.stars.items;
      name = c.in-Function.name;
      parameters = shapes.parameters c.in-Function.parameters;
      body = option_map shapes.body c.in-Function.body;
    } in
    let defines : shapes.item c.args.item.now ≡ syntax.Define t = ap shapes.item c.in-Function.is in
    let none : is_none t.directive ≡ true = search rules in
    let int : is_int t.specifiers ≡ true = search rules in
    let stars : is_empty t.stars ≡ true = search rules in
    let named : bytes_eq t.name (codes "main") ≡ true = search rules in
    let void : is_void_alone t.parameters ≡ true = search rules in
    let reads : main_behind c.args.functions t ≡ body_of false t.line t.end c.in_main-names.result t.body =
    main_is c.args.functions t none int stars named void ∙ ap (λ n. body_of false t.line t.end n t.body) (sym c.in_main-names.ensures) in
    in_other_words c.with_body.result (λ f gives. (t, defines, reads ∙ gives)) c.with_body.ensures.ok
