use Rattle.std.proofs.Common.{◌+◌, Some, drop, sym, ap, ◌∙◌}
use Rattle.std.specs.Option.{option_map}
use Rattle.css_tree.specs.Shapes as shapes
use Rattle.css_tree.proofs.ChildLists as rows
use Rattle.css_small.specs.Tree.{Block}
use Rattle.css_small.specs.Trees.{statement_of, statements_of}
use Rattle.css_small.proofs.Exits.{passed}
use Rattle.css_small.proofs.StatementRows.{statement-Block}
use Rattle.css_small.proofs.Entries.{stated, not_stated, all_stated, on}
use Rattle.css_small.proofs.statements.+statements.Goals as goal

pub statement_of-returns-in_err-statements_of-in-Block-clause-not_small : goal.statement_of-returns-in_err-statements_of-in-Block-clause-not_small
statement_of-returns-in_err-statements_of-in-Block-clause-not_small t c = λ why.
    let none = c.in_err-statements_of-in-Block.ensures.not_small (passed c.from_residual.result c.in_err-statements_of-in-Block.field-0.0 c.from_residual.ensures.1 why) in
    ap (λ s. statement_of c.args.names.now (shapes.statement s)) c.in-Block.is
    ∙ ap (statement_of c.args.names.now) (rows.statement-Block c.in-Block.block)
    ∙ ap (λ es. option_map (Block c.in-Block.block.line) (statements_of c.args.names.now (shapes.listed_entries es))) (sym c.as_slice.ensures.value)
    ∙ ap (option_map (Block c.in-Block.block.line)) none

pub statement_of-returns-in_ok-statements_of-in-Block-clause-ok : goal.statement_of-returns-in_ok-statements_of-in-Block-clause-ok
statement_of-returns-in_ok-statements_of-in-Block-clause-ok t c =
    let all = c.in_ok-statements_of-in-Block.field-0 in
    ap (λ s. statement_of c.args.names.now (shapes.statement s)) c.in-Block.is
    ∙ ap (statement_of c.args.names.now) (rows.statement-Block c.in-Block.block)
    ∙ ap (λ es. option_map (Block c.in-Block.block.line) (statements_of c.args.names.now (shapes.listed_entries es))) (sym c.as_slice.ensures.value)
    ∙ ap (option_map (Block c.in-Block.block.line)) c.in_ok-statements_of-in-Block.ensures.ok
    ∙ ap Some (sym (statement-Block c.in-Block.block.line all))

pub statements_of-loop-entry-preserved : goal.statements_of-loop-entry-preserved
statements_of-loop-entry-preserved t c =
    let rest = drop (c.loop-entry.entry-index + 1) c.args.entries.now in
    ap (λ done. on c.args.names.now done rest) c.in_ok-add.ensures.ok
    ∙ stated c.args.names.now c.args.entries.now c.loop-entry.entry-index c.entry-item.result c.loop-entry.all.items c.in_ok-entry_of.field-0 c.loop-entry-test.true c.entry-item.is c.in_ok-entry_of.ensures.ok
    ∙ c.loop-entry.invariant

pub statements_of-returns-in_err-entry_of-clause-not_small : goal.statements_of-returns-in_err-entry_of-clause-not_small
statements_of-returns-in_err-entry_of-clause-not_small t c = λ why.
    let none = c.in_err-entry_of.ensures.not_small (passed c.from_residual.result c.in_err-entry_of.field-0.0 c.from_residual.ensures.1 why) in
    sym c.loop-entry.invariant
    ∙ not_stated c.args.names.now c.args.entries.now c.loop-entry.entry-index c.entry-item.result c.loop-entry.all.items c.loop-entry-test.true c.entry-item.is none

pub statements_of-returns-clause-ok : goal.statements_of-returns-clause-ok
statements_of-returns-clause-ok t c =
    sym c.loop-entry.invariant ∙ all_stated c.args.names.now c.args.entries.now c.loop-entry.entry-index c.loop-entry.all.items c.loop-entry-test.false
