use Rattle.std.proofs.Common.{map, ap, sym, ◌∙◌, arith}
use Rattle.std.specs.List.{list_any}
use Rattle.std.proofs.lemmas.List.{with_items_is}
use Rattle.css_semantics.specs.Pending.{is_named_by}
use Rattle.css_judged.specs.Judged.{plain_argument}
use Rattle.css_judged.specs.Objects.{object, as_row}
use Rattle.css_judged.proofs.NearObjects.{with_old, rows_between}
use Rattle.css_judged.proofs.objects.Objects.add.Goals as goal

pub invariant_of-self : goal.invariant_of-self
invariant_of-self c =
    let m = c.self.inside in
    let kept = with_items_is m.items c.write_rows.new.objects (omega (arith, c.write_rows.auto.objects, c.deref_mut.ensures.len)) in
    let written = c.write_rows.ensures ∙ ap (map (as_row c.args.base)) c.deref_mut.ensures.value in
    rw (kept, written) (rows_between m.low m.high c.args.base m.items.items c.self.invariant)

pub returns-then-has_row-clause-added : goal.returns-then-has_row-clause-added
returns-then-has_row-clause-added c =
    let m = c.self.inside in
    let kept = with_items_is m.items c.write_rows.new.objects (omega (arith, c.write_rows.auto.objects, c.deref_mut.ensures.len)) in
    let written = c.write_rows.ensures ∙ ap (map (as_row c.args.base)) c.deref_mut.ensures.value in
    let old = ap (λ os. list_any (is_named_by (plain_argument c.args.base)) (map object os)) c.deref.ensures.value in
    ap (map object) (kept ∙ written) ∙ with_old c.args.base m.items.items c.args.self.now c.self.view_is (sym old ∙ sym c.has_row.ensures ∙ c.if-has_row.true)
