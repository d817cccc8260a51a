use Rattle.std.proofs.Common.{ap, sym, ◌∙◌, arith}
use Rattle.std.proofs.lemmas.Result.{on_ok_weaker}
use Rattle.css_small.specs.Tree.{Element, Unary, Binary, And, Or, expression}
use Rattle.css_small_code.proofs.Emitted.{element_emitted, load_emitted, unary_emitted, binary_emitted, and_emitted, or_emitted}
use Rattle.css_small_code.proofs.expressions.+emit_expression.Goals as goal

pub returns-in_ok-emit_all-in-Element-2 : goal.returns-in_ok-emit_all-in-Element-2
returns-in_ok-emit_all-in-Element-2 t c =
    let e = expression c.deref.result.now in
    let is = ap expression c.in-Element.is ∙ ap (λ e. Element (expression e)) (sym c.deref.ensures) in
    let placed = element_emitted c.args.line c.args.code.now.items _ _ _ e c.in_ok-emit_all-in-Element.ensures c.in_ok-emit_expression-in-Element.ensures c.in_ok-emit_all-in-Element-2.ensures in
    on_ok_weaker c.emit-in-Element.result (load_emitted c.args.line c.args.code.now.items _ _ _ e is placed) c.emit-in-Element.ensures

pub returns-in_ok-emit_expression-in-Unary : goal.returns-in_ok-emit_expression-in-Unary
returns-in_ok-emit_expression-in-Unary t c =
    let is = ap expression c.in-Unary.is ∙ ap (λ e. Unary c.in-Unary.op (expression e)) (sym c.deref-in-Unary.ensures) in
    on_ok_weaker c.emit_all-in-Unary.result (unary_emitted c.args.line _ _ _ _ _ _ _ is c.in_ok-emit_expression-in-Unary.ensures c.unary_code.ensures) c.emit_all-in-Unary.ensures

pub returns-in_ok-emit_expression-in-Binary-2 : goal.returns-in_ok-emit_expression-in-Binary-2
returns-in_ok-emit_expression-in-Binary-2 t c =
    let is = ap expression c.in-Binary.is ∙ ap (λ e. Binary c.in-Binary.op (expression e) (expression c.in-Binary.right.value)) (sym c.deref-in-Binary.ensures)
    ∙ ap (λ e. Binary c.in-Binary.op (expression c.deref-in-Binary.result.now) (expression e)) (sym c.deref-in-Binary-2.ensures) in
    on_ok_weaker c.emit_all-in-Binary.result (binary_emitted c.args.line _ _ _ _ _ _ _ _ _ is c.in_ok-emit_expression-in-Binary.ensures c.in_ok-emit_expression-in-Binary-2.ensures c.binary_code.ensures) c.emit_all-in-Binary.ensures

pub returns-in_ok-emit_expression-in-And-2 : goal.returns-in_ok-emit_expression-in-And-2
returns-in_ok-emit_expression-in-And-2 t c =
    let is = ap expression c.in-And.is ∙ ap (λ e. And (expression e) (expression c.in-And.right.value)) (sym c.deref-in-And.ensures)
    ∙ ap (λ e. And (expression c.deref-in-And.result.now) (expression e)) (sym c.deref-in-And-2.ensures) in
    on_ok_weaker c.end_and.result (and_emitted c.args.line _ _ _ _ _ _ _ _ _ is c.in_ok-emit_expression-in-And.ensures (omega (arith, c.len-test.ensures, c.emit_expression-in-And.new.code.ok.0)) c.in_ok-emit-in-And.ensures c.in_ok-emit_expression-in-And-2.ensures) c.end_and.ensures

pub returns-in_ok-emit_expression-in-Or-2 : goal.returns-in_ok-emit_expression-in-Or-2
returns-in_ok-emit_expression-in-Or-2 t c =
    let is = ap expression c.in-Or.is ∙ ap (λ e. Or (expression e) (expression c.in-Or.right.value)) (sym c.deref-in-Or.ensures)
    ∙ ap (λ e. Or (expression c.deref-in-Or.result.now) (expression e)) (sym c.deref-in-Or-2.ensures) in
    on_ok_weaker c.end_or.result (or_emitted c.args.line _ _ _ _ _ _ _ _ _ is c.in_ok-emit_expression-in-Or.ensures c.in_ok-jump-in-Or.ensures.0 c.in_ok-jump-in-Or.ensures.1 c.in_ok-emit_expression-in-Or-2.ensures) c.end_or.ensures
