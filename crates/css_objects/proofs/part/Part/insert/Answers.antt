use Rattle.std.proofs.Common.{◌≡◌, ◌≤◌, List, length, sym, subst, ap, ◌∙◌, arith}
use Rattle.std.specs.List.{insert}
use Rattle.std.proofs.lemmas.List.Edits.{length-insert}
use Rattle.css_record.specs.declared.window.Window.{Window}
use Rattle.css_objects.specs.Ordered.{IsAscending, IsGap, HasNone}
use Rattle.css_objects.specs.Table.{entries}
use Rattle.css_objects.proofs.Tables.{part_windows, windows-entries}
use Rattle.css_objects.proofs.Inserts.{entries-insert}
use Rattle.css_objects.proofs.part.Part.insert.Goals as goal

pub insert-requires : goal.insert-requires
insert-requires g c =
    let p = c.self.inside in
    subst (λ (ws : List Window). HasNone ws c.args.window.base) (sym (part_windows p.windows p.versions.items c.args.self.now c.self.invariant c.self.view_is)) c.requires

pub returns-clause-ok : goal.returns-clause-ok
returns-clause-ok g c =
    let p = c.self.inside in
    let place = c.in_ok-place.place in
    let ok = c.in_ok-place.ensures.ok in
    let items : c.insert-2.new.self.items ≡ insert p.versions.items place c.args.version = c.in_ok-insert.ensures.items ∙ ap (λ vs. insert vs place c.args.version) c.reserve.ensures.items in
    let within : place ≤ length p.windows = ok.0.within in
    let long : length c.insert-2.new.self.items ≡ length c.insert.new.self =
    omega (
      arith,
      ap length items,
      length-insert p.versions.items place c.args.version (omega (arith, within, c.self.invariant)),
      ap length ok.1,
      length-insert p.windows place c.args.window within,
      c.self.invariant,
    ) in
    record {
      place = place;
      gap = subst (λ (ws : List Window). IsGap ws place c.args.window.base) (part_windows p.windows p.versions.items c.args.self.now c.self.invariant c.self.view_is) ok.0;
      is =
          ap (λ ws. entries ws c.insert-2.new.self.items) ok.1 ∙ ap (entries (insert p.windows place c.args.window)) items
          ∙ entries-insert p.windows p.versions.items place c.args.window c.args.version c.self.invariant within
          ∙ ap (λ es. insert es place (record { window = c.args.window; version = c.args.version })) c.self.view_is;
      ascends = subst IsAscending (sym (windows-entries c.insert.new.self c.insert-2.new.self.items long)) c.in_ok-place.ensures.ascends;
    }
