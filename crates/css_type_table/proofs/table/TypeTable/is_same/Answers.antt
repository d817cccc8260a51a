use Rattle.std.proofs.Common.{◌<◌, [], length, get_or, sym, ap, subst, ◌∙◌}
use Rattle.css_type_table.specs.Lists.{list_at, IsRow, IsOnce}
use Rattle.css_type_table.proofs.Growing.{at_none, at_some}
use Rattle.css_type_table.proofs.Same.{same-plain, same-rows, same-row_first, same-row_second}
use Rattle.css_type_table.proofs.table.TypeTable.is_same.Goals as goal

pub returns-in-None-None : goal.returns-in-None-None
returns-in-None-None c =
    c.is_same_plain.ensures
    ∙ sym (same-plain c.args.self.now c.args.a c.args.b (at_none c.number.result c.in-None-None.is-0 c.number.ensures.none) (at_none c.number-2.result c.in-None-None.is-1 c.number-2.ensures.none))

pub returns-in-Some-Some : goal.returns-in-Some-Some
returns-in-Some-Some c =
    let lists = c.args.self.now in
    let i = c.in-Some-Some.i in
    let j = c.in-Some-Some.j in
    let ei = c.in-Some-Some.is-0 in
    let ej = c.in-Some-Some.is-1 in
    c.is_same_listed.ensures
    ∙ sym (same-rows lists c.args.a c.args.b i j (at_some (λ _. IsOnce lists) c.number.result i ei c.number.ensures.once)
    (subst (IsRow lists) ei c.number.ensures.within) (subst (IsRow lists) ej c.number-2.ensures.within)
    (at_some (λ n. 0 < length (get_or lists n [])) c.number.result i ei c.number.ensures.some) (at_some (λ n. 0 < length (get_or lists n [])) c.number-2.result j ej c.number-2.ensures.some)
    (sym c.number.ensures.row ∙ ap (list_at lists) ei) (sym c.number-2.ensures.row ∙ ap (list_at lists) ej))

pub returns-in_default : goal.returns-in_default
returns-in_default c =
    let lists = c.args.self.now in
    let j = c.in_default.field-0-1 in
    let ej = c.in_default.is-1 in
    sym (same-row_second lists c.args.a c.args.b j (at_some (λ n. 0 < length (get_or lists n [])) c.number-2.result j ej c.number-2.ensures.some)
    (at_none c.number.result c.in_default.is-0 c.number.ensures.none) (sym c.number-2.ensures.row ∙ ap (list_at lists) ej))

pub returns-in_default-2 : goal.returns-in_default-2
returns-in_default-2 c =
    let lists = c.args.self.now in
    let i = c.in_default.field-0-0 in
    let ei = c.in_default.is-0 in
    sym (same-row_first lists c.args.a c.args.b i (at_some (λ n. 0 < length (get_or lists n [])) c.number.result i ei c.number.ensures.some)
    (sym c.number.ensures.row ∙ ap (list_at lists) ei) (at_none c.number-2.result c.in_default.is-1 c.number-2.ensures.none))
