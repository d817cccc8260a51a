use Rattle.std.proofs.Common.{◌≡◌, length, ap, ◌∙◌, arith}
use Rattle.std.proofs.lemmas.List.{with_items_is}
use Rattle.std.specs.Vec.Iter.{into_iter_items}
use Rattle.css_objects.specs.Versions.{versions, kept_in, left_in}
use Rattle.css_objects.specs.Table.{windows, entries}
use Rattle.css_objects.proofs.Tables.{windows-entries, part_windows}
use Rattle.css_objects.proofs.Kept.{part_versions, versions-entries, length-kept}
use Rattle.css_objects.proofs.part.Part.keep.Goals as goal

pub returns-clause-windows : goal.returns-clause-windows
returns-clause-windows c =
    let p = c.self.inside in
    let long : length c.keep_all.new.versions ≡ length p.windows = ap length (c.keep_all.ensures.versions ∙ ap (λ vs. kept_in vs (into_iter_items c.args.kept.now)) c.deref_mut.ensures.value) ∙ length-kept p.versions.items (into_iter_items c.args.kept.now) ∙ c.self.invariant in
    let kept = with_items_is p.versions c.keep_all.new.versions (omega (arith, c.keep_all.auto.versions, c.deref_mut.ensures.len)) in
    ap (λ vs. windows (entries p.windows vs)) kept ∙ windows-entries p.windows c.keep_all.new.versions long ∙ part_windows p.windows p.versions.items c.args.self.now c.self.invariant c.self.view_is

pub returns-clause-versions : goal.returns-clause-versions
returns-clause-versions c =
    let p = c.self.inside in
    let long : length c.keep_all.new.versions ≡ length p.windows = ap length (c.keep_all.ensures.versions ∙ ap (λ vs. kept_in vs (into_iter_items c.args.kept.now)) c.deref_mut.ensures.value) ∙ length-kept p.versions.items (into_iter_items c.args.kept.now) ∙ c.self.invariant in
    let kept = with_items_is p.versions c.keep_all.new.versions (omega (arith, c.keep_all.auto.versions, c.deref_mut.ensures.len)) in
    ap (λ vs. versions (entries p.windows vs)) kept ∙ versions-entries p.windows c.keep_all.new.versions long ∙ c.keep_all.ensures.versions
    ∙ ap (λ vs. kept_in vs (into_iter_items c.args.kept.now)) (c.deref_mut.ensures.value ∙ part_versions p.windows p.versions.items c.args.self.now c.self.invariant c.self.view_is)

pub returns-clause-rest : goal.returns-clause-rest
returns-clause-rest c =
    let p = c.self.inside in
    c.keep_all.ensures.rest ∙ ap (λ vs. left_in vs (into_iter_items c.args.kept.now)) (c.deref_mut.ensures.value ∙ part_versions p.windows p.versions.items c.args.self.now c.self.invariant c.self.view_is)
