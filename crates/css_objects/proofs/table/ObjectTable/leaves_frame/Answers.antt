use Rattle.std.proofs.Common.{◌≡◌, ◌&&◌, Bool, true, false, not, is_some, is_none, Option, Some, None, refl, sym, ap, ◌∙◌}
use Rattle.css_objects.specs.declared.ordered.Found.{Found}
use Rattle.css_objects.specs.Table.{objects}
use Rattle.css_objects.proofs.Joins.{frame_meets}
use Rattle.css_objects.proofs.Tables.{frame_answer}
use Rattle.css_objects.proofs.table.ObjectTable.leaves_frame.Goals as goal

-- what a test for nothing answers
none_by : (r : Option Found) (answer : Bool) → is_some r ≡ not answer → is_none r ≡ answer
none_by None true is = refl
none_by (Some f) false is = refl
none_by None false is = sym is
none_by (Some f) true is = sym is

pub returns-then-row-clause-answer : goal.returns-then-row-clause-answer
returns-then-row-clause-answer g c =
    let t = c.self.inside in
    sym (none_by c.last_block.result c.is_none-block.result c.is_none-block.ensures)
    ∙ sym (ap (λ x. x && is_none c.last_block.result) (none_by c.last_row.result c.is_none-row.result c.is_none-row.ensures ∙ c.if-row.true))
    ∙ frame_answer t.rows t.blocks c.args.self.now c.self.view_is c.args.window c.last_row.result c.last_block.result c.last_row.ensures.found c.last_block.ensures.found

pub returns-else-row-clause-answer : goal.returns-else-row-clause-answer
returns-else-row-clause-answer g c =
    let t = c.self.inside in
    c.if-row.false
    ∙ sym (ap (λ x. x && is_none c.last_block.result) (none_by c.last_row.result c.is_none-row.result c.is_none-row.ensures ∙ c.if-row.false))
    ∙ frame_answer t.rows t.blocks c.args.self.now c.self.view_is c.args.window c.last_row.result c.last_block.result c.last_row.ensures.found c.last_block.ensures.found

pub returns-then-row-clause-frame : goal.returns-then-row-clause-frame
returns-then-row-clause-frame g c one = frame_meets c.args.window (objects c.args.self.now) c.is_none-block.result (returns-then-row-clause-answer g c) one

pub returns-else-row-clause-frame : goal.returns-else-row-clause-frame
returns-else-row-clause-frame g c one = frame_meets c.args.window (objects c.args.self.now) c.is_none-row.result (returns-else-row-clause-answer g c) one
