use Rattle.std.proofs.Common.{◌&&◌, sym, ap, ◌∙◌}
use Rattle.std.specs.List.{list_any}
use Rattle.css_semantics.specs.Tasks.{is_same_window}
use Rattle.css_record.specs.Windows.{window}
use Rattle.css_objects.specs.Table.{all_entries, objects}
use Rattle.css_objects.specs.Naming.{version_of}
use Rattle.css_objects.proofs.Giving.{held_there, held_any}
use Rattle.css_objects.proofs.table.ObjectTable.is_renamed.Goals as goal

pub returns-then-is_written : goal.returns-then-is_written
returns-then-is_written g c =
    c.is_some-there.ensures ∙ held_there (λ v. v.now) c.held.result (version_of (all_entries c.args.self.now) c.args.window.now) c.held.ensures
    ∙ held_any (all_entries c.args.self.now) c.args.window.now
    ∙ sym (ap (λ b. b && list_any (λ o. is_same_window (window c.args.window.now) o.window) (objects c.args.self.now)) (sym c.is_written.ensures ∙ c.if-is_written.true))
