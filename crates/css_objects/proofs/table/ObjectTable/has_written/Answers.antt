use Rattle.std.proofs.Common.{◌≡◌, ◌||◌, ℕ, false, length, sym, subst, ap, ◌∙◌, arith}
use Rattle.css_semantics.specs.Rules.{meets}
use Rattle.css_objects.specs.Table.{Table, objects}
use Rattle.css_objects.specs.Found.{TakesAtMost}
use Rattle.css_objects.proofs.Tables.{none_of_nothing, written_answer, one_search, written-few}
use Rattle.css_objects.proofs.table.ObjectTable.has_written.Goals as goal

pub returns-then-count-eq0-clause-answer : goal.returns-then-count-eq0-clause-answer
returns-then-count-eq0-clause-answer g c =
    subst (λ (n : ℕ). false ≡ meets (λ o. o.is_written) (objects c.args.self.now) c.args.address n) (sym c.if-count-eq0.true)
    (sym (none_of_nothing (λ o. o.is_written) (objects c.args.self.now) c.args.address))

pub returns-then-row-clause-answer : goal.returns-then-row-clause-answer
returns-then-row-clause-answer g c =
    let t = c.self.inside in
    c.if-row.true ∙ sym (ap (λ x. x || c.has_written-block.result) c.if-row.true)
    ∙ written_answer t.rows t.blocks t.written c.args.self.now c.self.invariant c.self.view_is c.args.address c.args.count c.any_meeting-row.result c.has_written-block.result (omega arith)
    (rw (c.from-from.ensures, c.from.ensures) at c.any_meeting-row.ensures.answer)
    (rw (c.from-from.ensures, c.from.ensures) at c.has_written-block.ensures.answer)

pub returns-else-row-clause-answer : goal.returns-else-row-clause-answer
returns-else-row-clause-answer g c =
    let t = c.self.inside in
    sym (ap (λ x. x || c.has_written-block.result) c.if-row.false)
    ∙ written_answer t.rows t.blocks t.written c.args.self.now c.self.invariant c.self.view_is c.args.address c.args.count c.any_meeting-row.result c.has_written-block.result (omega arith)
    (rw (c.from-from.ensures, c.from.ensures) at c.any_meeting-row.ensures.answer)
    (rw (c.from-from.ensures, c.from.ensures) at c.has_written-block.ensures.answer)

pub returns-then-row-clause-cost : goal.returns-then-row-clause-cost
returns-then-row-clause-cost g c =
    let t = c.self.inside in
    subst (λ (x : Table). TakesAtMost (length x.rows) (length x.blocks) 1 c.args.steps.now c.has_written-block.new.steps) c.self.view_is
    (one_search (length t.rows) (length t.written) (length t.blocks) c.args.steps.now c.any_meeting-row.new.steps c.has_written-block.new.steps
    (written-few t.rows t.blocks t.written c.self.invariant) c.any_meeting-row.ensures.cost c.has_written-block.ensures.cost)

pub returns-else-row-clause-cost : goal.returns-else-row-clause-cost
returns-else-row-clause-cost g c =
    let t = c.self.inside in
    subst (λ (x : Table). TakesAtMost (length x.rows) (length x.blocks) 1 c.args.steps.now c.has_written-block.new.steps) c.self.view_is
    (one_search (length t.rows) (length t.written) (length t.blocks) c.args.steps.now c.any_meeting-row.new.steps c.has_written-block.new.steps
    (written-few t.rows t.blocks t.written c.self.invariant) c.any_meeting-row.ensures.cost c.has_written-block.ensures.cost)
