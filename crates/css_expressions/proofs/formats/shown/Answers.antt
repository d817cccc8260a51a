use Rattle.std.proofs.Common.{◌≡◌, ◌+◌, true, List, length, drop, sym, ap, ◌∙◌, arith}
use Rattle.std.proofs.lemmas.Iterator.Consumers.{YieldsList-turn, YieldsList-end}
use Rattle.std.proofs.lemmas.Iterator.Adapters.{YieldsList-from_vec}
use Rattle.std.proofs.lemmas.List.{map-id, length_push}
use Rattle.css_core.specs.Shapes.{conversion}
use Rattle.css_types.specs.Formats.{is_shown_as}
use Rattle.css_operands.specs.declared.operand.Operand.{Operand}
use Rattle.css_operands.specs.Shapes.{operand}
use Rattle.css_expressions.proofs.Shown.{on, on-none, one_shown, all_shown}
use Rattle.css_expressions.proofs.formats.shown.Goals as goal

pub loop-argument-preserved : goal.loop-argument-preserved
loop-argument-preserved c =
    let gives = c.into_iter-argument-iterator.ensures.into_iter_gives in
    let list = YieldsList-from_vec {s = c.into_iter-argument-iterator.result} c.args.arguments.items gives.0 (gives.1 ∙ c.args.arguments.ok.0) in
    let t = YieldsList-turn list c.loop-argument.yielded c.loop-argument.argument-iterator c.loop-argument.yielded_by _ c.next.new.self c.in-Some.argument c.in-Some.is c.next.ensures.steps in
    let n = length c.loop-argument.yielded in
    let fits : is_shown_as (conversion c.in-Some-next_conversion.kind) (operand c.args.table.now c.in-Some.argument) ≡ true = sym c.is_shown_as.ensures ∙ c.if-not-is_shown_as.false in
    ap (λ m. on c.args.table.now c.args.line c.add.new.all.items c.in-Some-next_conversion.others.now (drop m c.args.arguments.items)) (length_push c.loop-argument.yielded c.in-Some.argument)
    ∙ ap (λ done. on c.args.table.now c.args.line done c.in-Some-next_conversion.others.now (drop (n + 1) c.args.arguments.items)) c.in_ok-add.ensures.ok
    ∙ one_shown c.args.table.now c.args.line c.loop-argument.all.items c.loop-argument.rest.now c.in-Some-next_conversion.others.now c.in-Some-next_conversion.kind
    (c.in-Some-next_conversion.ensures.found c.args.line) c.args.arguments.items n c.in-Some.argument t.0 t.1 c.promoted.result fits c.promoted.ensures
    ∙ c.loop-argument.invariant

pub returns-in-None-next_conversion-clause-ok : goal.returns-in-None-next_conversion-clause-ok
returns-in-None-next_conversion-clause-ok c =
    let gives = c.into_iter-argument-iterator.ensures.into_iter_gives in
    let list = YieldsList-from_vec {s = c.into_iter-argument-iterator.result} c.args.arguments.items gives.0 (gives.1 ∙ c.args.arguments.ok.0) in
    let end = YieldsList-end list c.loop-argument.yielded c.loop-argument.argument-iterator c.loop-argument.yielded_by _ c.next.new.self c.in-None.is c.next.ensures.steps in
    let yielded : List Operand = c.loop-argument.yielded in
    let many : length yielded ≡ length c.args.arguments.items = ap length (sym (map-id yielded) ∙ end.0) in
    sym (on-none c.args.table.now c.args.line c.args.format.now c.args.arguments.items) ∙ sym c.loop-argument.invariant
    ∙ all_shown c.args.table.now c.args.line c.loop-argument.all.items c.loop-argument.rest.now c.args.arguments.items (length yielded)
    (c.in-None-next_conversion.ensures.none c.args.line) (omega (arith, many))
