use Rattle.std.proofs.Common.{slice_set, ap, ◌∙◌, arith}
use Rattle.css_objects.proofs.Tables.{part_length, part_windows, windows-entries}
use Rattle.css_objects.proofs.Kept.{part_versions, versions-entries}
use Rattle.std.proofs.lemmas.List.{length-set}
use Rattle.css_objects.proofs.part.Part.set.Goals as goal

pub index_mut-requires : goal.index_mut-requires
index_mut-requires c =
    let p = c.self.inside in
    omega (arith, part_length p.windows p.versions.items c.args.self.now c.self.invariant c.self.view_is, c.self.invariant, c.requires)

pub returns-clause-windows : goal.returns-clause-windows
returns-clause-windows c =
    let p = c.self.inside in
    windows-entries p.windows (slice_set p.versions.items c.args.place c.args.version) (length-set p.versions.items c.args.place c.args.version ∙ c.self.invariant)
    ∙ part_windows p.windows p.versions.items c.args.self.now c.self.invariant c.self.view_is

pub returns-clause-versions : goal.returns-clause-versions
returns-clause-versions c =
    let p = c.self.inside in
    versions-entries p.windows (slice_set p.versions.items c.args.place c.args.version) (length-set p.versions.items c.args.place c.args.version ∙ c.self.invariant)
    ∙ ap (λ vs. slice_set vs c.args.place c.args.version) (part_versions p.windows p.versions.items c.args.self.now c.self.invariant c.self.view_is)
