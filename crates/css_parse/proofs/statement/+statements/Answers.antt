use Rattle.std.proofs.Common.{◌≡◌, ℕ, ◌<◌, ◌≤◌, [], ◌∷◌, ◌++◌, length, Option, Some, None, false, true, refl, sym, ap, ◌∙◌, subst, arith}
use Rattle.std.proofs.lemmas.List.{nil_from_length}
use Rattle.std.proofs.lemmas.Result.{IfOk-weaker}
use Rattle.css_base.specs.Tokens.{lexeme, lexemes}
use Rattle.css_tree.specs.Syntax.{NoEntries, MoreEntries}
use Rattle.css_tree.specs.Shapes.{expression, statement, entry, listed_entries}
use Rattle.css_tree.specs.declared.statement.Block as blocks
use Rattle.css_parse.specs.declared.form.Form.TheVariants as forms
use Rattle.css_parse.specs.Readings as reads
use Rattle.css_parse.specs.Readings.{ReadsForm, ReadsStatement, ReadsEntries}
use Rattle.std.proofs.lemmas.Bool.{false≢true}
use Rattle.css_parse.proofs.Exits.{passed, passed_memory, not_some, some_not}
use Rattle.css_parse.proofs.Initials.{none_of}
use Rattle.css_parse.proofs.Blocks.{statement-Block}
use Rattle.css_parse.proofs.AsLists.{joined_entries, joined_entries-append, joined_entries-all}
use Rattle.css_parse.proofs.GatheredParts.{one_more_entry, no_entry}
use Rattle.css_parse.proofs.NoStatement.{no_formed, no_evaluated, statement_some, statement_level, no_block, no_if, no_if_first, no_else, no_while, no_while_body, no_do, no_do_while, no_do_condition, no_do_end, no_for, no_for_body, no_declared, no_stated}
use Rattle.css_parse.proofs.statement.+statements.Goals as goal

-- ---- blocks

pub block-returns-in_err-entries-clause-not_spelled : goal.block-returns-in_err-entries-clause-not_spelled
block-returns-in_err-entries-clause-not_spelled t c = λ why s rest r.
    no_block (c.in_err-entries.ensures.not_spelled (passed c.from_residual.result c.in_err-entries.field-0.0 c.from_residual.ensures.1 why)) r

-- ---- if

pub if_statement-returns-in_err-condition-clause-not_spelled : goal.if_statement-returns-in_err-condition-clause-not_spelled
if_statement-returns-in_err-condition-clause-not_spelled t c = λ why s rest r.
    no_if (c.in_err-condition.ensures.not_spelled (passed c.from_residual.result c.in_err-condition.field-0.0 c.from_residual.ensures.1 why)) r

pub if_statement-returns-in_err-first-clause-not_spelled : goal.if_statement-returns-in_err-first-clause-not_spelled
if_statement-returns-in_err-first-clause-not_spelled t c = λ why s rest r.
    no_if_first c.in_ok-condition.ensures.ok
    (c.in_err-first.ensures.not_spelled (passed c.from_residual-in_err-first.result c.in_err-first.field-0.0 c.from_residual-in_err-first.ensures.1 why)) r

pub if_statement-returns-in_err-other-clause-not_spelled : goal.if_statement-returns-in_err-other-clause-not_spelled
if_statement-returns-in_err-other-clause-not_spelled t c = λ why s rest r.
    no_else c.in_ok-condition.ensures.ok c.in_ok-first.ensures.ok c.in-Some.ensures.found
    (c.in_err-other.ensures.not_spelled (passed c.from_residual-in_err-other.result c.in_err-other.field-0.0 c.from_residual-in_err-other.ensures.1 why)) r

-- ---- while

pub while_statement-returns-in_err-condition-clause-not_spelled : goal.while_statement-returns-in_err-condition-clause-not_spelled
while_statement-returns-in_err-condition-clause-not_spelled t c = λ why s rest r.
    no_while (c.in_err-condition.ensures.not_spelled (passed c.from_residual.result c.in_err-condition.field-0.0 c.from_residual.ensures.1 why)) r

pub while_statement-returns-in_err-body-clause-not_spelled : goal.while_statement-returns-in_err-body-clause-not_spelled
while_statement-returns-in_err-body-clause-not_spelled t c = λ why s rest r.
    no_while_body c.in_ok-condition.ensures.ok
    (c.in_err-body.ensures.not_spelled (passed c.from_residual-in_err-body.result c.in_err-body.field-0.0 c.from_residual-in_err-body.ensures.1 why)) r

-- ---- do

pub do_statement-returns-in_err-body-clause-not_spelled : goal.do_statement-returns-in_err-body-clause-not_spelled
do_statement-returns-in_err-body-clause-not_spelled t c = λ why s rest r.
    no_do (c.in_err-body.ensures.not_spelled (passed c.from_residual.result c.in_err-body.field-0.0 c.from_residual.ensures.1 why)) r

pub do_statement-returns-in_default-clause-not_spelled : goal.do_statement-returns-in_default-clause-not_spelled
do_statement-returns-in_default-clause-not_spelled t c = λ why s rest r. no_do_while c.in_ok-body.ensures.ok c.in_default.ensures.none r

pub do_statement-returns-in_err-condition-clause-not_spelled : goal.do_statement-returns-in_err-condition-clause-not_spelled
do_statement-returns-in_err-condition-clause-not_spelled t c = λ why s rest r.
    no_do_condition c.in_ok-body.ensures.ok c.in-Some.ensures.found
    (c.in_err-condition.ensures.not_spelled (passed c.from_residual-in_err-condition.result c.in_err-condition.field-0.0 c.from_residual-in_err-condition.ensures.1 why)) r

pub do_statement-returns-in_default-after_mark-clause-not_spelled : goal.do_statement-returns-in_default-after_mark-clause-not_spelled
do_statement-returns-in_default-after_mark-clause-not_spelled t c = λ why s rest r.
    no_do_end c.in_ok-body.ensures.ok c.in-Some.ensures.found c.in_ok-condition.ensures.ok c.in_default-after_mark.ensures.none r

-- ---- for

pub for_statement-returns-in_err-head-clause-not_spelled : goal.for_statement-returns-in_err-head-clause-not_spelled
for_statement-returns-in_err-head-clause-not_spelled t c = λ why s rest r.
    no_for (c.in_err-head.ensures.not_spelled (passed c.from_residual.result c.in_err-head.field-0.0 c.from_residual.ensures.1 why)) r

pub for_statement-returns-in_err-body-clause-not_spelled : goal.for_statement-returns-in_err-body-clause-not_spelled
for_statement-returns-in_err-body-clause-not_spelled t c = λ why s rest r.
    no_for_body c.in_ok-head.ensures.ok
    (c.in_err-body.ensures.not_spelled (passed c.from_residual-in_err-body.result c.in_err-body.field-0.0 c.from_residual-in_err-body.ensures.1 why)) r

-- ---- on the heap

pub boxed_statement-returns-clause-ok : goal.boxed_statement-returns-clause-ok
boxed_statement-returns-clause-ok t c =
    subst (λ s. ReadsStatement c.args.levels (lexemes c.args.tokens.now) (statement s) (lexemes c.in_ok-inner.rest.now)) (sym c.in_ok-body.ensures.ok) c.in_ok-inner.ensures.ok

pub boxed_statement-returns-in_err-inner-clause-not_spelled : goal.boxed_statement-returns-in_err-inner-clause-not_spelled
boxed_statement-returns-in_err-inner-clause-not_spelled t c = λ why s rest r.
    c.in_err-inner.ensures.not_spelled (passed c.from_residual.result c.in_err-inner.field-0.0 c.from_residual.ensures.1 why) s rest r

pub boxed_statement-returns-in_err-body-clause-not_spelled : goal.boxed_statement-returns-in_err-body-clause-not_spelled
boxed_statement-returns-in_err-body-clause-not_spelled t c = λ why s rest r. passed_memory c.from_residual-in_err-body.result c.in_err-body.field-0.0 c.from_residual-in_err-body.ensures.1 why c.in_err-body.ensures.no_memory

-- ---- statements

pub statement-returns-in_default-clause-not_spelled : goal.statement-returns-in_default-clause-not_spelled
statement-returns-in_default-clause-not_spelled t c = λ why s rest r. statement_some r (ap lexemes (nil_from_length c.args.tokens.now c.in_default.ensures.cases))

pub statement-returns-then-levels-eq0-clause-not_spelled : goal.statement-returns-then-levels-eq0-clause-not_spelled
statement-returns-then-levels-eq0-clause-not_spelled t c = λ why s rest r. (let some = statement_level r in omega arith)

-- ---- what stands in blocks

pub entries-loop-end-preserved : goal.entries-loop-end-preserved
entries-loop-end-preserved t c = record {
  goes = one_more_entry c.args.levels (joined_entries c.loop-end.entries.items) (joined_entries c.add.new.parts.items) (entry c.in_ok-next.next) c.loop-end.invariant.goes
      (λ x. ap (λ l. joined_entries l x) c.in_ok-add.ensures.ok ∙ joined_entries-append c.loop-end.entries.items c.in_ok-next.next x)
      c.in_default.ensures.none c.in_ok-next.ensures.ok;
  shorter = (let s = c.in_ok-next.ensures.shorter in let i = c.loop-end.invariant.shorter in omega arith);
}

pub entries-returns-in-Some-clause-ok : goal.entries-returns-in-Some-clause-ok
entries-returns-in-Some-clause-ok t c =
    subst (λ l. ReadsEntries c.args.levels (lexemes c.args.tokens.now) l (lexemes c.in-Some.end.now)) (joined_entries-all c.loop-end.entries.items)
    (c.loop-end.invariant.goes.more NoEntries (lexemes c.in-Some.end.now) (reads.Closed c.in-Some.ensures.found))

pub entries-returns-in_err-next-clause-not_spelled : goal.entries-returns-in_err-next-clause-not_spelled
entries-returns-in_err-next-clause-not_spelled t c = λ why x rest r.
    let l = c.loop-end.invariant.goes.left x rest r in
    no_entry c.args.levels (lexemes c.loop-end.rest.now) l.0 rest c.in_default.ensures.none (c.in_err-next.ensures.not_spelled (passed c.from_residual.result c.in_err-next.field-0.0 c.from_residual.ensures.1 why)) l.1

pub entry-returns-in_err-mark-clause-not_spelled : goal.entry-returns-in_err-mark-clause-not_spelled
entry-returns-in_err-mark-clause-not_spelled t c = λ why e rest r.
    let m = c.is_directive.ensures.0 c.if-is_directive.true in
    c.in_err-mark.ensures.not_spelled (passed c.from_residual.result c.in_err-mark.field-0.0 c.from_residual.ensures.1 why) m.0 m.1 m.2

pub entry-returns-in_err-next-clause-not_spelled : goal.entry-returns-in_err-next-clause-not_spelled
entry-returns-in_err-next-clause-not_spelled t c = λ why e rest r.
    no_declared (λ m behind k. false≢true (sym c.if-is_directive.false ∙ c.is_directive.ensures.1 (m, behind, k)))
    (λ none. some_not c.next_specifier.result c.is_some.result c.is_some.ensures c.if-is_some.true (c.next_specifier.ensures ∙ none))
    (c.in_err-next.ensures.not_spelled (passed c.from_residual-in_err-next.result c.in_err-next.field-0.0 c.from_residual-in_err-next.ensures.1 why)) r

pub entry-returns-in_err-next-2-clause-not_spelled : goal.entry-returns-in_err-next-2-clause-not_spelled
entry-returns-in_err-next-2-clause-not_spelled t c = λ why e rest r.
    no_stated (λ m behind k. false≢true (sym c.if-is_directive.false ∙ c.is_directive.ensures.1 (m, behind, k)))
    (sym c.next_specifier.ensures ∙ not_some c.next_specifier.result c.is_some.result c.is_some.ensures c.if-is_some.false)
    (c.in_err-next-2.ensures.not_spelled (passed c.from_residual-in_err-next-2.result c.in_err-next-2.field-0.0 c.from_residual-in_err-next-2.ensures.1 why)) r

-- ---- what is read

pub block-returns-clause-ok : goal.block-returns-clause-ok
block-returns-clause-ok t c =
    let b : blocks.Block = record { line = c.args.line; entries = c.in_ok-entries.entries } in
    subst (λ x. ReadsForm forms.Block c.args.levels c.args.line (lexemes c.args.tokens.now) x (lexemes c.in_ok-entries.rest.now)) (sym (statement-Block b)) (reads.Block c.in_ok-entries.ensures.ok)

pub if_statement-returns-in_default-clause-ok : goal.if_statement-returns-in_default-clause-ok
if_statement-returns-in_default-clause-ok t c =
    reads.If (lexemes c.in_ok-condition.behind.now) c.in_ok-condition.ensures.ok
    c.in_ok-first.ensures.ok c.in_default.ensures.none

pub if_statement-returns-clause-ok : goal.if_statement-returns-clause-ok
if_statement-returns-clause-ok t c =
    reads.IfElse (lexemes c.in_ok-condition.behind.now) (lexemes c.in_ok-first.rest.now) (lexemes c.in-Some.next.now) c.in_ok-condition.ensures.ok
    c.in_ok-first.ensures.ok c.in-Some.ensures.found c.in_ok-other.ensures.ok

pub while_statement-returns-clause-ok : goal.while_statement-returns-clause-ok
while_statement-returns-clause-ok t c =
    reads.While (lexemes c.in_ok-condition.behind.now) c.in_ok-condition.ensures.ok c.in_ok-body.ensures.ok

pub do_statement-returns-clause-ok : goal.do_statement-returns-clause-ok
do_statement-returns-clause-ok t c =
    reads.Do (lexemes c.in_ok-body.behind.now) (lexemes c.in-Some.next.now) (lexemes c.in_ok-condition.last.now) c.in_ok-body.ensures.ok
    c.in-Some.ensures.found c.in_ok-condition.ensures.ok c.in-Some-after_mark.ensures.found

pub for_statement-returns-clause-ok : goal.for_statement-returns-clause-ok
for_statement-returns-clause-ok t c =
    subst (λ s. ReadsForm forms.For c.args.levels c.args.line (lexemes c.args.tokens.now) s (lexemes c.in_ok-body.rest.now)) (sym c.into_loop.ensures)
    (reads.For (lexemes c.in_ok-head.behind.now) c.in_ok-head.ensures.ok c.in_ok-body.ensures.ok)

pub statement-returns-in_default-form_of-clause-ok : goal.statement-returns-in_default-form_of-clause-ok
statement-returns-in_default-form_of-clause-ok t c =
    reads.Evaluated (lexeme c.in-Some.first.now) (lexemes c.in-Some.behind.now) (omega arith) (ap lexemes c.in-Some.ensures.cases.0) refl (sym c.form_of.ensures ∙ c.in_default-form_of.is) c.in_ok-value.ensures.ok

pub statement-returns-clause-ok : goal.statement-returns-clause-ok
statement-returns-clause-ok t c =
    let some : 0 < c.args.levels = omega arith in
    IfOk-weaker c.formed.result _ _ (λ x r. reads.Formed (lexeme c.in-Some.first.now) (lexemes c.in-Some.behind.now) c.in-Some-form_of.form some (ap lexemes c.in-Some.ensures.cases.0) (sym c.form_of.ensures ∙ c.in-Some-form_of.is) r) c.formed.ensures.ok

pub entry-returns-then-is_directive-clause-ok : goal.entry-returns-then-is_directive-clause-ok
entry-returns-then-is_directive-clause-ok t c = reads.MarkIn c.in_ok-mark.ensures.ok

pub entry-returns-then-is_some-clause-ok : goal.entry-returns-then-is_some-clause-ok
entry-returns-then-is_some-clause-ok t c = reads.DeclaredIn c.in_ok-next.ensures.ok

pub entry-returns-clause-ok : goal.entry-returns-clause-ok
entry-returns-clause-ok t c =
    reads.StatedIn (λ m behind k. false≢true (sym c.if-is_directive.false ∙ c.is_directive.ensures.1 (m, behind, k)))
    (sym c.next_specifier.ensures ∙ not_some c.next_specifier.result c.is_some.result c.is_some.ensures c.if-is_some.false) c.in_ok-next-2.ensures.ok
