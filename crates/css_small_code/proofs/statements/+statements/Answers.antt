use Rattle.std.proofs.Common.{◌≡◌, ◌++◌, length, map, ap, sym, ◌∙◌, subst, rules, arith}
use Rattle.std.proofs.lemmas.Result.{on_ok_weaker}
use Rattle.css_small.specs.declared.tree.Statement.{the_lemmas}
use Rattle.css_small.specs.Tree.{Block, If, IfElse, While, expression, statement, listed, function}
use Rattle.css_small_code.specs.Code.{statement_code}
use Rattle.css_small_code.specs.Places.{ArePlaced}
use Rattle.css_small_code.proofs.EmittedStatements.{if_emitted, if_else_emitted, while_emitted}
use Rattle.css_small_code.proofs.Trees.{block_is}
use Rattle.css_small_code.proofs.statements.+statements.Goals as goal

pub emit_statement-emit_statements-requires : goal.emit_statement-emit_statements-requires
emit_statement-emit_statements-requires t c =
    let is = ap statement c.in-Block.is ∙ block_is c.in-Block.line c.in-Block.statements ∙ ap (λ all. Block c.in-Block.line (listed all)) (sym c.deref.ensures.value) in
    (search (rules, the_lemmas), subst ArePlaced is c.requires)

pub emit_statement-returns-in-Block : goal.emit_statement-returns-in-Block
emit_statement-returns-in-Block t c =
    let is = ap statement c.in-Block.is ∙ block_is c.in-Block.line c.in-Block.statements ∙ ap (λ all. Block c.in-Block.line (listed all)) (sym c.deref.ensures.value) in
    let functions = map function c.args.functions.now in
    let old = c.args.code.now.items in
    on_ok_weaker c.emit_statements.result (λ e. e ∙ ap (λ s. old ++ statement_code functions s (length old)) (sym is)) c.emit_statements.ensures

pub emit_statement-returns-in_ok-emit_statement-in-If : goal.emit_statement-returns-in_ok-emit_statement-in-If
emit_statement-returns-in_ok-emit_statement-in-If t c =
    let line = c.in-If.line in
    let e = expression c.in-If.condition in
    let is = ap statement c.in-If.is ∙ ap (λ s. If line e (statement s)) (sym c.deref-in-If.ensures) in
    let functions = map function c.args.functions.now in
    let old = c.args.code.now.items in
    let tested = c.in_ok-test-in-If.ensures in
    on_ok_weaker c.end_test.result (λ last. if_emitted functions line old _ _ _ e (statement c.deref-in-If.result.now) c.in_ok-test-in-If.test tested.emits tested.place c.in_ok-emit_statement-in-If.ensures last ∙ ap (λ s. old ++ statement_code functions s (length old)) (sym is)) c.end_test.ensures

pub emit_statement-returns-in_ok-emit_statement-in-IfElse-2 : goal.emit_statement-returns-in_ok-emit_statement-in-IfElse-2
emit_statement-returns-in_ok-emit_statement-in-IfElse-2 t c =
    let line = c.in-IfElse.line in
    let e = expression c.in-IfElse.condition in
    let is = ap statement c.in-IfElse.is ∙ ap (λ s. IfElse line e (statement s) (statement c.in-IfElse.other.value)) (sym c.deref-in-IfElse.ensures)
    ∙ ap (λ s. IfElse line e (statement c.deref-in-IfElse.result.now) (statement s)) (sym c.deref-in-IfElse-2.ensures) in
    let functions = map function c.args.functions.now in
    let old = c.args.code.now.items in
    let tested = c.in_ok-test-in-IfElse.ensures in
    let over = c.in_ok-jump-in-IfElse.ensures in
    on_ok_weaker c.end_else.result (λ last. if_else_emitted functions line old _ _ _ _ _ e (statement c.deref-in-IfElse.result.now) (statement c.deref-in-IfElse-2.result.now) c.in_ok-test-in-IfElse.test c.in_ok-jump-in-IfElse.jump tested.emits tested.place c.in_ok-emit_statement-in-IfElse.ensures over.place over.emits c.in_ok-emit_statement-in-IfElse-2.ensures last
    ∙ ap (λ s. old ++ statement_code functions s (length old)) (sym is)) c.end_else.ensures

pub emit_statement-returns-in_ok-emit-in-While-2 : goal.emit_statement-returns-in_ok-emit-in-While-2
emit_statement-returns-in_ok-emit-in-While-2 t c =
    let line = c.in-While.line in
    let e = expression c.in-While.condition in
    let is = ap statement c.in-While.is ∙ ap (λ s. While line e (statement s)) (sym c.deref-in-While-2.ensures) in
    let functions = map function c.args.functions.now in
    let old = c.args.code.now.items in
    let again = c.in_ok-again-in-While.again in
    let here : again ≡ length old = omega (arith, c.in_ok-again-in-While.ensures, ap length c.deref-in-While.ensures.value) in
    let tested = c.in_ok-test-in-While.ensures in
    on_ok_weaker c.end_test-in-While.result (λ last. while_emitted functions line old _ _ _ _ _ e (statement c.deref-in-While-2.result.now) again c.in_ok-test-in-While.test here tested.emits tested.place c.in_ok-emit-in-While.ensures c.in_ok-emit_statement-in-While.ensures c.in_ok-emit-in-While-2.ensures last
    ∙ ap (λ s. old ++ statement_code functions s (length old)) (sym is)) c.end_test-in-While.ensures
