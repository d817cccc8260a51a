use Rattle.std.proofs.Common.{◌≡◌, [], ◌∷◌, ◌++◌, Some, None, option_map, true, false, rules, sym, ap, ◌∙◌}
use Rattle.css_tree.specs.Syntax as syntax
use Rattle.css_tree.specs.Shapes as shapes
use Rattle.css_small.specs.Names.{in_function, may_define}
use Rattle.css_small.specs.Trees.{is_void, is_empty, is_task_of, body_of, function_behind}
use Rattle.css_small.proofs.Headers.{in_other_words, function_is, no_void, has_stars, of_item}
use Rattle.css_small.proofs.functions.function_behind.Goals as goal
use Rattle.css_small.proofs.functions.function_behind.Goals.{then-not-is_void-via-then-not-is_void, then-not-is_void-via-else-not-is_void+then-not-is_without_stars}

pub returns-then-not-is_void-clause-not_small : goal.returns-then-not-is_void-clause-not_small
returns-then-not-is_void-clause-not_small c = λ why.
    let t : syntax.Function = record {
      directive = option_map shapes.mark c.in-Function.directive;
      line = c.in-Function.line;
      end = c.in-Function.end;
      specifiers = c.in-Function.specifiers.items;
      stars = shapes.stars c.in-Function.stars.items;
      name = c.in-Function.name;
      parameters = shapes.parameters c.in-Function.parameters;
      body = option_map shapes.body c.in-Function.body;
    } in
    let defines : shapes.item c.args.item.now ≡ syntax.Define t = ap shapes.item c.in-Function.is in
    of_item (λ u. function_behind c.args.before.now u ≡ None) _ t defines (elim c.then-not-is_void.branch [
      | then-not-is_void-via-then-not-is_void w ↦
          let void : is_void t.specifiers ≡ false = search rules in
          no_void c.args.before.now t void
      | then-not-is_void-via-else-not-is_void+then-not-is_without_stars w ↦
          let stars : is_empty t.stars ≡ false = search rules in
          has_stars c.args.before.now t stars
    ])

pub returns-clause-ok : goal.returns-clause-ok
returns-clause-ok c =
    let t : syntax.Function = record {
      directive = option_map shapes.mark c.in-Function.directive;
      line = c.in-Function.line;
      end = c.in-Function.end;
      specifiers = c.in-Function.specifiers.items;
      stars = shapes.stars c.in-Function.stars.items;
      name = c.in-Function.name;
      parameters = shapes.parameters c.in-Function.parameters;
      body = option_map shapes.body c.in-Function.body;
    } in
    let defines : shapes.item c.args.item.now ≡ syntax.Define t = ap shapes.item c.in-Function.is in
    let before = c.args.before.now in
    let parameter = c.in-Some.parameter.now in
    let is_task = c.in-Some-is_task_of.is_task in
    let void : is_void t.specifiers ≡ true = search rules in
    let stars : is_empty t.stars ≡ true = search rules in
    let may : may_define before t.name ≡ true = ap (may_define before) (sym c.as_slice-name.ensures) ∙ c.in_ok-define.ensures.ok.0 in
    let task : is_task_of parameter t.directive ≡ Some is_task = sym c.is_task_of.ensures ∙ c.in-Some-is_task_of.is in
    let found = c.in_ok-names.ensures.ok in
    let reads : function_behind before t ≡ body_of is_task t.line t.end (in_function parameter) t.body =
    function_is before t parameter is_task void stars may c.in-Some.ensures.some found.1 task in
    let names : function_behind before t ≡ body_of is_task t.line t.end c.in_ok-names.names t.body =
    reads ∙ ap (λ n. body_of is_task t.line t.end n t.body) (sym found.0) in
    let behind : c.define.new.before ≡ before ++ t.name ∷ [] = c.in_ok-define.ensures.ok.1 ∙ ap (λ n. before ++ n ∷ []) c.as_slice-name.ensures in
    in_other_words c.with_body.result (λ f gives. (t, defines, names ∙ gives, behind)) c.with_body.ensures.ok

pub returns-clause-not_small : goal.returns-clause-not_small
returns-clause-not_small c = λ why.
    let t : syntax.Function = record {
      directive = option_map shapes.mark c.in-Function.directive;
      line = c.in-Function.line;
      end = c.in-Function.end;
      specifiers = c.in-Function.specifiers.items;
      stars = shapes.stars c.in-Function.stars.items;
      name = c.in-Function.name;
      parameters = shapes.parameters c.in-Function.parameters;
      body = option_map shapes.body c.in-Function.body;
    } in
    let defines : shapes.item c.args.item.now ≡ syntax.Define t = ap shapes.item c.in-Function.is in
    let before = c.args.before.now in
    let parameter = c.in-Some.parameter.now in
    let is_task = c.in-Some-is_task_of.is_task in
    let void : is_void t.specifiers ≡ true = search rules in
    let stars : is_empty t.stars ≡ true = search rules in
    let may : may_define before t.name ≡ true = ap (may_define before) (sym c.as_slice-name.ensures) ∙ c.in_ok-define.ensures.ok.0 in
    let task : is_task_of parameter t.directive ≡ Some is_task = sym c.is_task_of.ensures ∙ c.in-Some-is_task_of.is in
    let found = c.in_ok-names.ensures.ok in
    let reads : function_behind before t ≡ body_of is_task t.line t.end (in_function parameter) t.body =
    function_is before t parameter is_task void stars may c.in-Some.ensures.some found.1 task in
    let names : function_behind before t ≡ body_of is_task t.line t.end c.in_ok-names.names t.body =
    reads ∙ ap (λ n. body_of is_task t.line t.end n t.body) (sym found.0) in
    of_item (λ u. function_behind before u ≡ None) _ t defines (names ∙ c.with_body.ensures.not_small why)
