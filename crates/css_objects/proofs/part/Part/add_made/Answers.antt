use Rattle.std.proofs.Common.{◌≡◌, ◌++◌, List, OnOk, subst, ◌∙◌}
use Rattle.css_objects.specs.declared.version.Held.{Held}
use Rattle.css_objects.specs.Versions.{made_in}
use Rattle.css_objects.proofs.Kept.{part_versions}
use Rattle.css_objects.proofs.part.Part.add_made.Goals as goal

pub returns : goal.returns
returns c =
    let p = c.self.inside in
    subst (λ (vs : List Held). OnOk c.add_made.result (c.add_made.new.names.items ≡ c.args.names.now.items ++ made_in vs))
    (c.deref.ensures.value ∙ part_versions p.windows p.versions.items c.args.self.now c.self.invariant c.self.view_is) c.add_made.ensures
