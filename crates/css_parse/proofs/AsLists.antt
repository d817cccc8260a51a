-- Arguments, initialisers and entries as lists.
use Rattle.std.proofs.Common.{◌≡◌, ℕ, List, [], ◌∷◌, ◌++◌, Vec, Global, refl, sym, ap, ◌∙◌}
use mathlib.Core.Former.{Count}
use Rattle.css_tree.specs.declared.expression.Expression as coded
use Rattle.css_tree.specs.declared.declaration.Initialiser as initial
use Rattle.css_tree.specs.declared.statement.Entry as entered
use Rattle.css_tree.specs.Syntax.{Call, More, Initialisers, NoParts, MoreParts, Braces, Entries, NoEntries, MoreEntries}
use Rattle.css_tree.specs.Shapes.{expression, expressions, listed, initialiser, initialisers, listed_parts, entry, listed_entries}

abbrev row_of : initial.Initialiser → (n : Count) × initial.Row_of-Initialiser n
row_of (initial.List' line shape row) = (_, row)
row_of _ = (_, initial.end_of-Initialiser)

of_row : (n : Count) (row : initial.Row_of-Initialiser n) → initialisers row ≡ listed_parts (initial.items-the_row-Initialiser n row)
of_row n initial.end_of-Initialiser = refl
of_row n (initial.more_of-Initialiser i rest) = ap (MoreParts (initialiser i)) (of_row _ rest)

pub initialiser-List : (line : ℕ) (all : Vec initial.Initialiser Global) → initialiser (initial.List line all) ≡ Braces line (listed_parts all.items)
initialiser-List line all =
    let row = row_of (initial.List line all) in
    ap (Braces line) (of_row row.0 row.1 ∙ ap listed_parts (initial.items_hidden-the_row-Initialiser-0 all))

-- parts before others
abbrev pub joined_parts : List initial.Initialiser → Initialisers → Initialisers
joined_parts [] others = others
joined_parts (i ∷ is) others = MoreParts (initialiser i) (joined_parts is others)

pub joined_parts-append : (xs : List initial.Initialiser) (x : initial.Initialiser) (others : Initialisers) → joined_parts (xs ++ x ∷ []) others ≡ joined_parts xs (MoreParts (initialiser x) others)
joined_parts-append [] x others = refl
joined_parts-append (y ∷ xs) x others = ap (MoreParts (initialiser y)) (joined_parts-append xs x others)

pub joined_parts-all : (xs : List initial.Initialiser) → joined_parts xs NoParts ≡ listed_parts xs
joined_parts-all [] = refl
joined_parts-all (x ∷ xs) = ap (MoreParts (initialiser x)) (joined_parts-all xs)

-- entries before others
abbrev pub joined_entries : List entered.Entry → Entries → Entries
joined_entries [] others = others
joined_entries (e ∷ es) others = MoreEntries (entry e) (joined_entries es others)

pub joined_entries-append : (xs : List entered.Entry) (x : entered.Entry) (others : Entries) → joined_entries (xs ++ x ∷ []) others ≡ joined_entries xs (MoreEntries (entry x) others)
joined_entries-append [] x others = refl
joined_entries-append (y ∷ xs) x others = ap (MoreEntries (entry y)) (joined_entries-append xs x others)

pub joined_entries-all : (xs : List entered.Entry) → joined_entries xs NoEntries ≡ listed_entries xs
joined_entries-all [] = refl
joined_entries-all (x ∷ xs) = ap (MoreEntries (entry x)) (joined_entries-all xs)

-- ---- a call's arguments

abbrev arguments_of : coded.Expression → (n : Count) × coded.Row_of-Expression n
arguments_of (coded.Call' line name shape row) = (_, row)
arguments_of _ = (_, coded.end_of-Expression)

of_arguments : (n : Count) (row : coded.Row_of-Expression n) → expressions row ≡ listed (coded.items-the_row-Expression n row)
of_arguments n coded.end_of-Expression = refl
of_arguments n (coded.more_of-Expression e rest) = ap (More (expression e)) (of_arguments _ rest)

pub expression-Call : (line : ℕ) (name : List ℕ) (all : Vec coded.Expression Global) → expression (coded.Call line name all) ≡ Call line name (listed all.items)
expression-Call line name all =
    let row = arguments_of (coded.Call line name all) in
    ap (Call line name) (of_arguments row.0 row.1 ∙ ap listed (coded.items_hidden-the_row-Expression-0 all))
