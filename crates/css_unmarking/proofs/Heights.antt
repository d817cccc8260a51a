-- A tree without its marks is as high as the tree.
use Rattle.std.proofs.Common.{◌≡◌, ℕ, ◌+◌, max, [], ◌∷◌, Option, Some, None, option_map, refl, ap, ◌∙◌, arith}
use Rattle.css_tree.specs.Syntax.{Statement, Block, Evaluate, If, IfElse, While, Do, For, Break, Continue, Return, Entries, Declared, Marked, Stated, NoEntries, MoreEntries, Body, Item, Define, Declare, Tree}
use Rattle.css_tree.specs.Heights.{height, height_of_optional, height_of_start, height_of_declaration, height_of_statement, height_of_entries, height_of_list, height_of_body, height_of_item, height_of_tree}
use Rattle.css_tree.specs.Marks.{unmarked_statement, unmarked_entries, unmarked_body, unmarked_item, unmarked}

lower : (n : ℕ) → n ≡ max 0 n
lower n = omega arith

mutual
  statement_height : (s : Statement) → height_of_statement (unmarked_statement s) ≡ height_of_statement s
  statement_height (Block line entries) = ap (λ n. 1 + n) (entries_height entries)
  statement_height (If line e s) = ap (λ n. 1 + max (height e) n) (statement_height s)
  statement_height (IfElse line e s other) =
      ap (λ n. 1 + max (height e) (max n (height_of_statement (unmarked_statement other)))) (statement_height s)
      ∙ ap (λ n. 1 + max (height e) (max (height_of_statement s) n)) (statement_height other)
  statement_height (While line e s) = ap (λ n. 1 + max (height e) n) (statement_height s)
  statement_height (Do line s e) = ap (λ n. 1 + max n (height e)) (statement_height s)
  statement_height (For line start condition step s) =
      ap (λ n. 1 + max (height_of_start start) (max (height_of_optional condition) (max (height_of_optional step) n))) (statement_height s)
  statement_height (Evaluate line value) = refl
  statement_height (Break line) = refl
  statement_height (Continue line) = refl
  statement_height (Return line value) = refl

  entries_height : (entries : Entries) → height_of_entries (unmarked_entries entries) ≡ height_of_entries entries
  entries_height NoEntries = refl
  entries_height (MoreEntries (Declared d) others) = ap (λ n. max (height_of_declaration d) n) (entries_height others)
  entries_height (MoreEntries (Marked m) others) = entries_height others ∙ lower (height_of_entries others)
  entries_height (MoreEntries (Stated s) others) =
      ap (λ n. max n (height_of_entries (unmarked_entries others))) (statement_height s) ∙ ap (λ n. max (height_of_statement s) n) (entries_height others)

body_height : (body : Option Body) → height_of_body (option_map unmarked_body body) ≡ height_of_body body
body_height None = refl
body_height (Some body) = ap (λ n. 1 + n) (entries_height body.entries)

item_height : (i : Item) → height_of_item (unmarked_item i) ≡ height_of_item i
item_height (Define f) = ap (λ n. 1 + max (height_of_list f.parameters) n) (body_height f.body)
item_height (Declare d) = refl

pub tree_height : (t : Tree) → height_of_tree (unmarked t) ≡ height_of_tree t
tree_height [] = refl
tree_height (i ∷ is) = ap (λ n. max n (height_of_tree (unmarked is))) (item_height i) ∙ ap (λ n. max (height_of_item i) n) (tree_height is)
