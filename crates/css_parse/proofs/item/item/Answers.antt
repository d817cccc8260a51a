use Rattle.std.proofs.Common.{◌≡◌, ◌-◌, ◌+◌, true, false, subst, sym, ◌∙◌, arith}
use Rattle.std.specs.Option.{option_map}
use Rattle.std.proofs.lemmas.Result.{IfOk-weaker}
use Rattle.css_base.specs.Tokens.{lexemes}
use Rattle.css_tree.specs.Shapes.{mark, item}
use Rattle.css_parse.specs.ItemReadings.{ReadsItem}
use Rattle.css_parse.proofs.Exits.{passed, passed_memory}
use Rattle.css_parse.proofs.NoItem.{item_level, no_front, no_function, no_objects_marked, no_objects_unmarked, unmarked_start, is_some-map}
use Rattle.css_parse.proofs.item.item.Goals as goal

pub returns-then-levels-eq0-clause-not_spelled : goal.returns-then-levels-eq0-clause-not_spelled
returns-then-levels-eq0-clause-not_spelled c = λ why i rest r. (let some = item_level c.args.levels (lexemes c.args.tokens.now) i rest r in omega arith)

pub returns-in_err-mark-clause-not_spelled : goal.returns-in_err-mark-clause-not_spelled
returns-in_err-mark-clause-not_spelled c = λ why i rest r. passed_memory c.from_residual.result c.in_err-mark.field-0.0 c.from_residual.ensures.1 why c.in_err-mark.ensures.no_memory

pub returns-in_err-front-clause-not_spelled : goal.returns-in_err-front-clause-not_spelled
returns-in_err-front-clause-not_spelled c = λ why i rest r.
    no_front c.args.levels (lexemes c.args.tokens.now) i rest (option_map mark c.in_ok-mark.mark) (lexemes c.in_ok-mark.start.now) c.in_ok-mark.ensures.ok
    (c.in_err-front.ensures.not_spelled (passed c.from_residual-in_err-front.result c.in_err-front.field-0.0 c.from_residual-in_err-front.ensures.1 why)) r

pub returns-in-Some-clause-ok : goal.returns-in-Some-clause-ok
returns-in-Some-clause-ok c =
    let same : (c.args.levels - 1) + 1 ≡ c.args.levels = omega arith in
    IfOk-weaker c.function.result _ _ (λ x h. subst (λ n. ReadsItem n (lexemes c.args.tokens.now) (item x.0) (lexemes x.1.now)) same
    (h (lexemes c.args.tokens.now) (lexemes c.in_ok-mark.start.now) (lexemes c.in_ok-front.behind.now) c.in_ok-mark.ensures.ok c.in_ok-front.ensures.ok c.in-Some.ensures.found)) c.function.ensures.ok

pub returns-in-Some-clause-not_spelled : goal.returns-in-Some-clause-not_spelled
returns-in-Some-clause-not_spelled c = λ why i rest r.
    no_function c.args.levels (lexemes c.args.tokens.now) i rest (option_map mark c.in_ok-mark.mark) (lexemes c.in_ok-mark.start.now) c.in_ok-mark.ensures.ok c.in_ok-front.ensures.ok c.in-Some.ensures.found
    (c.function.ensures.not_spelled why) r

pub returns-then-is_some-clause-not_spelled : goal.returns-then-is_some-clause-not_spelled
returns-then-is_some-clause-not_spelled c = λ why i rest r.
    no_objects_marked c.args.levels (lexemes c.args.tokens.now) i rest (option_map mark c.in_ok-mark.mark) (lexemes c.in_ok-mark.start.now)
    (is_some-map mark c.in_ok-mark.mark true (sym c.if-is_some.true ∙ c.is_some.ensures)) c.in_ok-mark.ensures.ok c.in_ok-front.ensures.ok c.in_default.ensures.none r

pub returns-clause-ok : goal.returns-clause-ok
returns-clause-ok c =
    let ts = lexemes c.args.tokens.now in
    let same : (c.args.levels - 1) + 1 ≡ c.args.levels = omega arith in
    let e = unmarked_start ts (option_map mark c.in_ok-mark.mark) (lexemes c.in_ok-mark.start.now) (is_some-map mark c.in_ok-mark.mark false (sym c.if-is_some.false ∙ c.is_some.ensures)) c.in_ok-mark.ensures.ok in
    IfOk-weaker c.objects.result _ _ (λ x h. subst (λ n. ReadsItem n ts (item x.0) (lexemes x.1.now)) same
    (subst (λ l. ReadsItem ((c.args.levels - 1) + 1) l (item x.0) (lexemes x.1.now)) (sym e) (h (lexemes c.in_ok-mark.start.now) c.in_ok-front.ensures.ok))) c.objects.ensures.ok

pub returns-clause-not_spelled : goal.returns-clause-not_spelled
returns-clause-not_spelled c = λ why i rest r.
    no_objects_unmarked c.args.levels (lexemes c.args.tokens.now) i rest (option_map mark c.in_ok-mark.mark) (lexemes c.in_ok-mark.start.now)
    (is_some-map mark c.in_ok-mark.mark false (sym c.if-is_some.false ∙ c.is_some.ensures)) c.in_ok-mark.ensures.ok c.in_ok-front.ensures.ok c.in_default.ensures.none
    (c.objects.ensures.not_spelled why) r
