use Rattle.std.proofs.Common.{map, sym, ap, ◌∙◌, arith}
use Rattle.std.specs.List.{count_by}
use Rattle.css_base.specs.Tokens.{lexemes}
use Rattle.css_tree.specs.Shapes.{clause}
use Rattle.css_pragma.specs.Directives.{is_priority}
use Rattle.css_pragma.proofs.Exits.{passed}
use Rattle.css_pragma.proofs.Lists.{count_by_mapped}
use Rattle.css_pragma.proofs.AbsentParts.{no_task, task_clauses}
use Rattle.css_pragma.proofs.spelled.task.Goals as goal

pub returns-in_default-clause-not_spelled : goal.returns-in_default-clause-not_spelled
returns-in_default-clause-not_spelled c = λ why all r. c.in_default.ensures.none r.rest r.reads_task

pub returns-in_err-clauses-clause-not_spelled : goal.returns-in_err-clauses-clause-not_spelled
returns-in_err-clauses-clause-not_spelled c = λ why all r.
    no_task all c.in-Some.ensures.found (c.in_err-clauses.ensures.not_spelled (passed c.from_residual.result c.in_err-clauses.field-0.0 c.from_residual.ensures.1 why)) r

pub returns-then-priorities-gt1-clause-not_spelled : goal.returns-then-priorities-gt1-clause-not_spelled
returns-then-priorities-gt1-clause-not_spelled c = λ why all r.
    let once = task_clauses (map clause c.in_ok-clauses.clauses.items) all c.in-Some.ensures.found c.in_ok-clauses.ensures.ok r in
    let same = c.priorities.ensures ∙ ap (count_by (λ x. is_priority (clause x))) c.as_slice.ensures.value ∙ sym (count_by_mapped is_priority clause c.in_ok-clauses.clauses.items) in
    let many = c.if-priorities-gt1.true in
    omega arith

pub returns-clause-ok : goal.returns-clause-ok
returns-clause-ok c =
    let same = c.priorities.ensures ∙ ap (count_by (λ x. is_priority (clause x))) c.as_slice.ensures.value ∙ sym (count_by_mapped is_priority clause c.in_ok-clauses.clauses.items) in
    let few = c.if-priorities-gt1.false in
    record { rest = lexemes c.in-Some.rest.now; reads_task = c.in-Some.ensures.found; reads_clauses = c.in_ok-clauses.ensures.ok; once = omega arith }
