use Rattle.std.proofs.Common.{refl, ◌<◌, length, arith}
use Rattle.std.proofs.lemmas.Option.{slice_get_within}
use Rattle.css_objects.proofs.Tables.{part_inside, part_entry}
use Rattle.css_objects.proofs.part.Part.pending.Goals as goal
use Rattle.css_objects.proofs.part.Part.pending.Goals.{in-Made, in-Kept}

pub index-version-requires : goal.index-version-requires
index-version-requires c =
    let p = c.self.inside in
    let inside = part_inside p.windows p.versions.items c.args.self.now c.self.invariant c.self.view_is c.args.place c.args.window c.requires in
    omega (arith, slice_get_within p.windows c.args.place c.args.window inside, c.self.invariant)

pub returns-clause-shows : goal.returns-clause-shows
returns-clause-shows c =
    let p = c.self.inside in
    let inside = part_inside p.windows p.versions.items c.args.self.now c.self.invariant c.self.view_is c.args.place c.args.window c.requires in
    let within : c.args.place < length p.versions.items = omega (arith, slice_get_within p.windows c.args.place c.args.window inside, c.self.invariant) in
    record {
      entry = record { window = c.args.window; version = c.index-version.result.now };
      at = part_entry p.windows p.versions.items c.args.self.now c.self.invariant c.self.view_is c.args.place c.args.window c.index-version.result.now c.requires within c.index-version.ensures;
      shows = record {
        window = refl;
        written = c.has_maker-written.ensures;
        version = elim c.match-version.branch [
          | in-Made w ↦ rw (w.version-is, w.in-Made.is) (refl, refl)
          | in-Kept w ↦ rw (w.version-is, w.in-Kept.is) refl
        ];
      };
    }
