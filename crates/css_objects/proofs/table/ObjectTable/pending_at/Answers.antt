use Rattle.std.proofs.Common.{◌≡◌, ◌+◌, false, length, eqb, ap, ◌∙◌, subst, arith}
use Rattle.std.specs.List.{list_any}
use Rattle.css_record.specs.declared.window.Window.{Window}
use Rattle.css_objects.specs.Found.{TakesAtMost}
use Rattle.css_objects.specs.Table.{Table, objects}
use Rattle.css_objects.specs.Seen.{IsShown}
use Rattle.css_objects.proofs.Tables.{one_search, search_scans}
use Rattle.css_objects.proofs.Probes.{shows_left, shows_right, none_at_base}
use Rattle.css_objects.proofs.table.ObjectTable.pending_at.Goals as goal

pub returns-in-Some-clause-answer : goal.returns-in-Some-clause-answer
returns-in-Some-clause-answer g c =
    let t = c.self.inside in (
      ap (λ (w : Window). w.base) c.pending.ensures.window ∙ c.in-Some.ensures.found.same,
      subst (λ (x : Table). IsShown x c.pending.result) c.self.view_is
          (record { place = c.in-Some.f.place; shown = shows_left t.rows t.blocks c.in-Some.f.place c.pending.result c.pending.ensures.shows }),
    )

pub returns-in-Some-clause-cost : goal.returns-in-Some-clause-cost
returns-in-Some-clause-cost g c =
    let t = c.self.inside in
    subst (λ (x : Table). TakesAtMost (length x.rows) (length x.blocks) 1 c.args.steps.now c.find.new.steps) c.self.view_is
    (one_search (length t.rows) (length t.rows) (length t.blocks) c.args.steps.now c.find.new.steps c.find.new.steps (omega arith) c.find.ensures.cost (omega arith))

pub returns-in_err-found-clause-answer : goal.returns-in_err-found-clause-answer
returns-in_err-found-clause-answer g c =
    let t = c.self.inside in
    rw c.from_residual.ensures
    (subst (λ (x : Table). list_any (λ o. eqb o.window.base c.args.base) (objects x) ≡ false) c.self.view_is
    (none_at_base t.rows t.blocks c.args.base c.in-None.ensures.found c.in_err-found.ensures.found))

pub returns-in_err-found-clause-cost : goal.returns-in_err-found-clause-cost
returns-in_err-found-clause-cost g c =
    let t = c.self.inside in
    subst (λ (x : Table). TakesAtMost (length x.rows) (length x.blocks) 1 c.args.steps.now c.find-2.new.steps) c.self.view_is
    (one_search (length t.rows) (length t.rows) (length t.blocks) c.args.steps.now c.find.new.steps c.find-2.new.steps (omega arith) c.find.ensures.cost
    (search_scans (length t.blocks) c.find.new.steps c.find-2.new.steps c.find-2.ensures.cost))

pub returns-clause-answer : goal.returns-clause-answer
returns-clause-answer g c =
    let t = c.self.inside in (
      ap (λ (w : Window). w.base) c.pending-2.ensures.window ∙ c.in_ok-found.ensures.found.same,
      subst (λ (x : Table). IsShown x c.pending-2.result) c.self.view_is
          (record { place = length t.rows + c.in_ok-found.found.place; shown = shows_right t.rows t.blocks c.in_ok-found.found.place c.pending-2.result c.pending-2.ensures.shows }),
    )

pub returns-clause-cost : goal.returns-clause-cost
returns-clause-cost g c =
    let t = c.self.inside in
    subst (λ (x : Table). TakesAtMost (length x.rows) (length x.blocks) 1 c.args.steps.now c.find-2.new.steps) c.self.view_is
    (one_search (length t.rows) (length t.rows) (length t.blocks) c.args.steps.now c.find.new.steps c.find-2.new.steps (omega arith) c.find.ensures.cost
    (search_scans (length t.blocks) c.find.new.steps c.find-2.new.steps c.find-2.ensures.cost))
