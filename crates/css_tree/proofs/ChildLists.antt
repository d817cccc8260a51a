-- What the code holds in a row, as a list.
use Rattle.std.proofs.Common.{◌≡◌, ℕ, List, Vec, Global, refl, ap, ◌∙◌}
use mathlib.Core.Former.{Count}
use Rattle.css_tree.specs.declared.expression.Expression as code
use Rattle.css_tree.specs.declared.declaration.Initialiser as initial
use Rattle.css_tree.specs.declared.statement.Statement as stated
use Rattle.css_tree.specs.declared.statement.Block as blocks
use Rattle.css_tree.specs.Syntax.{Call, More, Braces, MoreParts, Block, MoreEntries}
use Rattle.css_tree.specs.Shapes.{expression, expressions, listed, initialiser, initialisers, listed_parts, statement, entry, rows, listed_entries, body}

-- ---- a call's arguments

abbrev row_of : code.Expression → (n : Count) × code.Row_of-Expression n
row_of (code.Call' line name shape row) = (_, row)
row_of _ = (_, code.end_of-Expression)

expressions-row : (n : Count) (row : code.Row_of-Expression n) → expressions row ≡ listed (code.items-the_row-Expression n row)
expressions-row n code.end_of-Expression = refl
expressions-row n (code.more_of-Expression e rest) = ap (More (expression e)) (expressions-row _ rest)

pub expression-Call : (line : ℕ) (name : List ℕ) (all : Vec code.Expression Global) → expression (code.Call line name all) ≡ Call line name (listed all.items)
expression-Call line name all =
    let row = row_of (code.Call line name all) in
    ap (Call line name) (expressions-row row.0 row.1 ∙ ap listed (code.items_hidden-the_row-Expression-0 all))

-- ---- the parts of an initialiser in braces

abbrev parts_of : initial.Initialiser → (n : Count) × initial.Row_of-Initialiser n
parts_of (initial.List' line shape row) = (_, row)
parts_of _ = (_, initial.end_of-Initialiser)

initialisers-row : (n : Count) (row : initial.Row_of-Initialiser n) → initialisers row ≡ listed_parts (initial.items-the_row-Initialiser n row)
initialisers-row n initial.end_of-Initialiser = refl
initialisers-row n (initial.more_of-Initialiser i rest) = ap (MoreParts (initialiser i)) (initialisers-row _ rest)

pub initialiser-List : (line : ℕ) (all : Vec initial.Initialiser Global) → initialiser (initial.List line all) ≡ Braces line (listed_parts all.items)
initialiser-List line all =
    let row = parts_of (initial.List line all) in
    ap (Braces line) (initialisers-row row.0 row.1 ∙ ap listed_parts (initial.items_hidden-the_row-Initialiser-0 all))

-- ---- the entries of a block

abbrev entries_of : stated.Statement → (n : Count) × stated.Row_of-Entry n
entries_of (stated.Block' line shape row) = (_, row)
entries_of _ = (_, stated.end_of-Entry)

entries-row : (n : Count) (row : stated.Row_of-Entry n) → rows row ≡ listed_entries (stated.items-the_row-Entry n row)
entries-row n stated.end_of-Entry = refl
entries-row n (stated.more_of-Entry e rest) = ap (MoreEntries (entry e)) (entries-row _ rest)

pub statement-Block : (b : blocks.Block) → statement (stated.Block b) ≡ Block (body b).line (body b).entries
statement-Block b =
    let row = entries_of (stated.Block b) in
    ap (Block b.line) (entries-row row.0 row.1 ∙ ap listed_entries (stated.items_hidden-the_row-Entry-0 b.entries))
