use Rattle.std.proofs.Common.{◌≡◌, Ok, Err, IfOk, sym, ap, subst, ◌∙◌}
use Rattle.css_base.specs.declared.static_fault.StaticName.TheVariants.{Undeclared}
use Rattle.css_tree.specs.Shapes as trees
use Rattle.css_types.specs.Judged.{after}
use Rattle.css_types.specs.Operands.{called}
use Rattle.css_types.specs.Expressions.{operand_of}
use Rattle.css_operands.specs.Shapes.{operand}
use Rattle.css_operands.proofs.Conversions.{passed}
use Rattle.css_expressions.specs.Seen.{seen, meant_by}
use Rattle.css_expressions.proofs.Meanings.{calls_undeclared, calls_meaning}
use Rattle.css_expressions.proofs.Trees.{call_is, cast_read}
use Rattle.css_expressions.proofs.expressions.+expressions.Goals as goal

pub operand_of-returns-in-Call-clause-ok : goal.operand_of-returns-in-Call-clause-ok
operand_of-returns-in-Call-clause-ok t c =
    subst (λ j. IfOk c.call.result (λ a. j ≡ Ok (operand c.args.table.now a)))
    (sym (call_is (seen c.args.table.now c.args.scope.now) c.args.line c.args.tree.now c.in-Call.line c.in-Call.name c.in-Call.arguments c.as_slice-in-Call.result.now c.as_slice-in-Call-2.result.now c.in-Call.is c.as_slice-in-Call.ensures c.as_slice-in-Call-2.ensures.value))
    c.call.ensures.ok

pub operand_of-returns-in-Call-clause-broken : goal.operand_of-returns-in-Call-clause-broken
operand_of-returns-in-Call-clause-broken t c = λ f why.
    call_is (seen c.args.table.now c.args.scope.now) c.args.line c.args.tree.now c.in-Call.line c.in-Call.name c.in-Call.arguments c.as_slice-in-Call.result.now c.as_slice-in-Call-2.result.now c.in-Call.is c.as_slice-in-Call.ensures c.as_slice-in-Call-2.ensures.value
    ∙ c.call.ensures.broken f why

pub operand_of-returns-in-Cast-clause-ok : goal.operand_of-returns-in-Cast-clause-ok
operand_of-returns-in-Cast-clause-ok t c =
    subst (λ j. IfOk c.cast_of.result (λ a. j ≡ Ok (operand c.args.table.now a)))
    (sym (ap (λ s. operand_of (seen c.args.table.now c.args.scope.now) c.args.line (trees.expression s)) c.in-Cast.is
    ∙ ap (cast_read (seen c.args.table.now c.args.scope.now) c.args.line c.in-Cast.to) (sym c.deref-in-Cast.ensures)))
    c.cast_of.ensures.ok

pub operand_of-returns-in-Cast-clause-broken : goal.operand_of-returns-in-Cast-clause-broken
operand_of-returns-in-Cast-clause-broken t c = λ f why.
    ap (λ s. operand_of (seen c.args.table.now c.args.scope.now) c.args.line (trees.expression s)) c.in-Cast.is
    ∙ ap (cast_read (seen c.args.table.now c.args.scope.now) c.args.line c.in-Cast.to) (sym c.deref-in-Cast.ensures)
    ∙ c.cast_of.ensures.broken f why

pub operand_of-returns-in-SizeofType-clause-ok : goal.operand_of-returns-in-SizeofType-clause-ok
operand_of-returns-in-SizeofType-clause-ok t c =
    subst (λ j. IfOk c.size_of_type.result (λ a. j ≡ Ok (operand c.args.table.now a)))
    (sym (ap (λ s. operand_of (seen c.args.table.now c.args.scope.now) c.args.line (trees.expression s)) c.in-SizeofType.is))
    c.size_of_type.ensures.ok

pub operand_of-returns-in-SizeofType-clause-broken : goal.operand_of-returns-in-SizeofType-clause-broken
operand_of-returns-in-SizeofType-clause-broken t c = λ f why.
    ap (λ s. operand_of (seen c.args.table.now c.args.scope.now) c.args.line (trees.expression s)) c.in-SizeofType.is ∙ c.size_of_type.ensures.broken f why

pub call-returns-in_default-meaning-clause-broken : goal.call-returns-in_default-meaning-clause-broken
call-returns-in_default-meaning-clause-broken t c = λ f why.
    let which : record { name = Undeclared; line = c.args.line } ≡ f = cc in
    calls_undeclared c.args.table.now c.args.scope.now c.args.line c.args.name.now (trees.listed c.args.arguments.now) (sym c.in_default.ensures) (sym c.in_default-meaning.ensures)
    ∙ ap Err which

pub call-returns-in_err-values-clause-broken : goal.call-returns-in_err-values-clause-broken
call-returns-in_err-values-clause-broken t c = λ f why.
    calls_meaning c.args.table.now c.args.scope.now c.args.line c.args.name.now (trees.listed c.args.arguments.now) c.in-Some-meaning.meaning.now (sym c.in_default.ensures) (sym c.in-Some-meaning.ensures)
    ∙ ap (λ j. after j (called c.args.line (meant_by c.args.table.now c.in-Some-meaning.meaning.now)))
    (c.in_err-values.ensures.broken f (passed c.from_residual.result c.in_err-values.field-0.0 f c.from_residual.ensures.1 why))

pub call-returns-clause-ok : goal.call-returns-clause-ok
call-returns-clause-ok t c =
    subst (λ j. IfOk c.called.result (λ a. j ≡ Ok (operand c.args.table.now a)))
    (sym (calls_meaning c.args.table.now c.args.scope.now c.args.line c.args.name.now (trees.listed c.args.arguments.now) c.in-Some-meaning.meaning.now (sym c.in_default.ensures) (sym c.in-Some-meaning.ensures)
    ∙ ap (λ j. after j (called c.args.line (meant_by c.args.table.now c.in-Some-meaning.meaning.now))) c.in_ok-values.ensures.ok))
    c.called.ensures.ok

pub call-returns-clause-broken : goal.call-returns-clause-broken
call-returns-clause-broken t c = λ f why.
    calls_meaning c.args.table.now c.args.scope.now c.args.line c.args.name.now (trees.listed c.args.arguments.now) c.in-Some-meaning.meaning.now (sym c.in_default.ensures) (sym c.in-Some-meaning.ensures)
    ∙ ap (λ j. after j (called c.args.line (meant_by c.args.table.now c.in-Some-meaning.meaning.now))) c.in_ok-values.ensures.ok
    ∙ c.called.ensures.broken f why
