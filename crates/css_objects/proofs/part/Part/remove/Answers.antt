use Rattle.std.proofs.Common.{◌≡◌, ◌<◌, length, sym, ap, ◌∙◌, subst, arith}
use Rattle.std.specs.List.{remove}
use Rattle.std.proofs.lemmas.List.Edits.{length-remove}
use Rattle.css_objects.specs.Ordered.{IsAscending}
use Rattle.css_objects.specs.Table.{entries}
use Rattle.css_objects.proofs.Tables.{part_length, windows-entries}
use Rattle.css_objects.proofs.Edits.{entries-remove}
use Rattle.css_objects.proofs.part.Part.remove.Goals as goal

pub remove-requires : goal.remove-requires
remove-requires c =
    let p = c.self.inside in
    omega (arith, part_length p.windows p.versions.items c.args.self.now c.self.invariant c.self.view_is, c.requires)

pub remove-version-requires : goal.remove-version-requires
remove-version-requires c =
    let p = c.self.inside in
    omega (arith, part_length p.windows p.versions.items c.args.self.now c.self.invariant c.self.view_is, c.self.invariant, c.requires)

pub returns-clause-rest : goal.returns-clause-rest
returns-clause-rest c =
    let p = c.self.inside in
    let within : c.args.place < length p.windows = omega (arith, part_length p.windows p.versions.items c.args.self.now c.self.invariant c.self.view_is, c.requires) in
    ap (λ ws. entries ws c.remove-version.new.self.items) c.remove.ensures.rest
    ∙ ap (λ vs. entries (remove p.windows c.args.place) vs) c.remove-version.ensures.items
    ∙ entries-remove p.windows p.versions.items c.args.place c.self.invariant within
    ∙ ap (λ es. remove es c.args.place) c.self.view_is

pub returns-clause-ascends : goal.returns-clause-ascends
returns-clause-ascends c =
    let p = c.self.inside in
    let within : c.args.place < length p.windows = omega (arith, part_length p.windows p.versions.items c.args.self.now c.self.invariant c.self.view_is, c.requires) in
    let long : length c.remove-version.new.self.items ≡ length c.remove.new.self =
    omega (
      arith,
      ap length c.remove.ensures.rest,
      length-remove p.windows c.args.place within,
      ap length c.remove-version.ensures.items,
      length-remove p.versions.items c.args.place (omega (arith, within, c.self.invariant)),
      c.self.invariant,
    ) in
    subst IsAscending (sym (windows-entries c.remove.new.self c.remove-version.new.self.items long)) c.remove.ensures.ascends
