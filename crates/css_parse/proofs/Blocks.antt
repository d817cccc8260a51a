-- A block's entries as a list.
use Rattle.std.proofs.Common.{◌≡◌, ℕ, List, Vec, Global, refl, ap, ◌∙◌}
use mathlib.Core.Former.{Count}
use Rattle.css_tree.specs.declared.statement.Statement as stated
use Rattle.css_tree.specs.declared.statement.Block as blocks
use Rattle.css_tree.specs.Syntax.{Block, MoreEntries}
use Rattle.css_tree.specs.Shapes.{statement, entry, rows, listed_entries}

abbrev entries_of : stated.Statement → (n : Count) × stated.Row_of-Entry n
entries_of (stated.Block' line shape row) = (_, row)
entries_of _ = (_, stated.end_of-Entry)

of_entries : (n : Count) (row : stated.Row_of-Entry n) → rows row ≡ listed_entries (stated.items-the_row-Entry n row)
of_entries n stated.end_of-Entry = refl
of_entries n (stated.more_of-Entry e rest) = ap (MoreEntries (entry e)) (of_entries _ rest)

pub statement-Block : (b : blocks.Block) → statement (stated.Block b) ≡ Block b.line (listed_entries b.entries.items)
statement-Block b =
    let row = entries_of (stated.Block b) in
    ap (Block b.line) (of_entries row.0 row.1 ∙ ap listed_entries (stated.items_hidden-the_row-Entry-0 b.entries))
