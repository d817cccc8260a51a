use Rattle.std.proofs.Common.{◌≡◌, ◌+◌, Err, List, length, drop, sym, ap, ◌∙◌, arith}
use Rattle.std.proofs.lemmas.Iterator.Consumers.{YieldsList-turn, YieldsList-end}
use Rattle.std.proofs.lemmas.Iterator.Adapters.{YieldsList-from_vec}
use Rattle.std.proofs.lemmas.List.{map-id, length_push}
use Rattle.css_operands.specs.declared.operand.Operand.{Operand}
use Rattle.css_base.specs.declared.static_fault.StaticName.TheVariants.{TypeMismatch}
use Rattle.css_operands.proofs.Conversions.{on, on-none, one_converted, one_broken, all_converted, some_too_few, none_left, passed}
use Rattle.css_operands.proofs.arguments.converted_arguments.Goals as goal

pub returns-in_err-e-clause-broken : goal.returns-in_err-e-clause-broken
returns-in_err-e-clause-broken c = λ f why.
    let gives = c.into_iter-argument-iterator.ensures.into_iter_gives in
    let list = YieldsList-from_vec {s = c.into_iter-argument-iterator.result} c.args.arguments.items gives.0 (gives.1 ∙ c.args.arguments.ok.0) in
    let t = YieldsList-turn list c.loop-argument.yielded c.loop-argument.argument-iterator c.loop-argument.yielded_by _ c.next.new.self c.in-Some.argument c.in-Some.is c.next.ensures.steps in
    let at = drop (length c.loop-argument.yielded) c.args.arguments.items in
    let breaks = c.in_err-e.ensures.broken f (passed c.from_residual.result c.in_err-e.field-0.0 f c.from_residual.ensures.1 why) in
    sym (on-none c.args.table.now c.args.line c.args.types.now c.args.arguments.items) ∙ sym c.loop-argument.invariant
    ∙ ap (λ ts. on c.args.table.now c.args.line c.loop-argument.all.items ts at) c.in-Some-split_first.ensures.cases.0
    ∙ one_broken c.args.table.now c.args.line c.loop-argument.all.items c.in-Some-split_first.t.now c.in-Some-split_first.others.now c.args.arguments.items (length c.loop-argument.yielded) c.in-Some.argument f t.0 t.1 breaks

pub loop-argument-preserved : goal.loop-argument-preserved
loop-argument-preserved c =
    let gives = c.into_iter-argument-iterator.ensures.into_iter_gives in
    let list = YieldsList-from_vec {s = c.into_iter-argument-iterator.result} c.args.arguments.items gives.0 (gives.1 ∙ c.args.arguments.ok.0) in
    let t = YieldsList-turn list c.loop-argument.yielded c.loop-argument.argument-iterator c.loop-argument.yielded_by _ c.next.new.self c.in-Some.argument c.in-Some.is c.next.ensures.steps in
    let n = length c.loop-argument.yielded in
    ap (λ m. on c.args.table.now c.args.line c.add.new.all.items c.in-Some-split_first.others.now (drop m c.args.arguments.items)) (length_push c.loop-argument.yielded c.in-Some.argument)
    ∙ ap (λ done. on c.args.table.now c.args.line done c.in-Some-split_first.others.now (drop (n + 1) c.args.arguments.items)) c.in_ok-add.ensures.ok
    ∙ one_converted c.args.table.now c.args.line c.loop-argument.all.items c.in-Some-split_first.t.now c.in-Some-split_first.others.now c.args.arguments.items n c.in-Some.argument c.in_ok-e.e.value t.0 t.1 c.in_ok-e.ensures.ok
    ∙ ap (λ ts. on c.args.table.now c.args.line c.loop-argument.all.items ts (drop n c.args.arguments.items)) (sym c.in-Some-split_first.ensures.cases.0)
    ∙ c.loop-argument.invariant

pub returns-in-empty-clause-ok : goal.returns-in-empty-clause-ok
returns-in-empty-clause-ok c =
    let gives = c.into_iter-argument-iterator.ensures.into_iter_gives in
    let list = YieldsList-from_vec {s = c.into_iter-argument-iterator.result} c.args.arguments.items gives.0 (gives.1 ∙ c.args.arguments.ok.0) in
    let end = YieldsList-end list c.loop-argument.yielded c.loop-argument.argument-iterator c.loop-argument.yielded_by _ c.next.new.self c.in-None.is c.next.ensures.steps in
    let yielded : List Operand = c.loop-argument.yielded in
    let many : length yielded ≡ length c.args.arguments.items = ap length (sym (map-id yielded) ∙ end.0) in
    sym (on-none c.args.table.now c.args.line c.args.types.now c.args.arguments.items) ∙ sym c.loop-argument.invariant
    ∙ all_converted c.args.table.now c.args.line c.loop-argument.all.items c.loop-argument.rest.now c.args.arguments.items (length yielded) (omega (arith, many)) (none_left c.loop-argument.rest.now c.in-empty.len_below)

pub returns-in_default-rest-clause-broken : goal.returns-in_default-rest-clause-broken
returns-in_default-rest-clause-broken c = λ f why.
    let gives = c.into_iter-argument-iterator.ensures.into_iter_gives in
    let list = YieldsList-from_vec {s = c.into_iter-argument-iterator.result} c.args.arguments.items gives.0 (gives.1 ∙ c.args.arguments.ok.0) in
    let end = YieldsList-end list c.loop-argument.yielded c.loop-argument.argument-iterator c.loop-argument.yielded_by _ c.next.new.self c.in-None.is c.next.ensures.steps in
    let yielded : List Operand = c.loop-argument.yielded in
    let many : length yielded ≡ length c.args.arguments.items = ap length (sym (map-id yielded) ∙ end.0) in
    let which : record { name = TypeMismatch; line = c.args.line } ≡ f = cc in
    sym (on-none c.args.table.now c.args.line c.args.types.now c.args.arguments.items) ∙ sym c.loop-argument.invariant
    ∙ some_too_few c.args.table.now c.args.line c.loop-argument.all.items c.loop-argument.rest.now c.args.arguments.items (length yielded) (omega (arith, many)) (omega (arith, c.in_default-rest.len_at_least))
    ∙ ap Err which
