-- Statements in a row.
use Rattle.std.proofs.Common.{◌≡◌, ℕ, List, [], ◌∷◌, ◌++◌, Vec, Global, Option, Some, None, refl, ap, ◌∙◌}
use Rattle.std.specs.Option.{option_map}
use mathlib.Core.Former.{Count}
use Rattle.css_small.specs.declared.tree.Statement as coded
use Rattle.css_small.specs.Tree.{Statements, End, More, Block, statement, statements, listed}
use Rattle.css_small.specs.Trees.{both}

-- ---- a block's statements as a list

abbrev row_of : coded.Statement → (n : Count) × coded.Row_of-Statement n
row_of (coded.Block' line shape row) = (_, row)
row_of _ = (_, coded.end_of-Statement)

listed-row : (n : Count) (row : coded.Row_of-Statement n) → statements row ≡ listed (coded.items-the_row-Statement n row)
listed-row n coded.end_of-Statement = refl
listed-row n (coded.more_of-Statement s rest) = ap (More (statement s)) (listed-row _ rest)

pub statement-Block : (line : ℕ) (all : Vec coded.Statement Global) → statement (coded.Block line all) ≡ Block line (listed all.items)
statement-Block line all =
    let row = row_of (coded.Block line all) in
    ap (Block line) (listed-row row.0 row.1 ∙ ap listed (coded.items_hidden-the_row-Statement-0 all))

-- ---- statements put together one by one

-- statements before others
abbrev pub before : List coded.Statement → Statements → Statements
before [] others = others
before (s ∷ ss) others = More (statement s) (before ss others)

before-append : (done : List coded.Statement) (s : coded.Statement) (others : Statements) → before (done ++ s ∷ []) others ≡ before done (More (statement s) others)
before-append [] s others = refl
before-append (t ∷ done) s others = ap (More (statement t)) (before-append done s others)

pub before-all : (done : List coded.Statement) → before done End ≡ listed done
before-all [] = refl
before-all (s ∷ done) = ap (More (statement s)) (before-all done)

-- one more, where the rest may be none
pub before-more : (done : List coded.Statement) (s : coded.Statement) (others : Option Statements)
    → option_map (before (done ++ s ∷ [])) others ≡ option_map (before done) (both More (Some (statement s)) others)
before-more done s None = refl
before-more done s (Some others) = ap Some (before-append done s others)
