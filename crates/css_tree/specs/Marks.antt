-- A tree without its marks.
use Rattle.std.specs.Prelude.{map, None}
use Rattle.std.specs.Option.{option_map}
use Rattle.css_tree.specs.Syntax.{Statement, Block, If, IfElse, While, Do, For, Declared, Marked, Stated, Entries, NoEntries, MoreEntries, Body, Item, Define, Declare, Tree}

abbrev mutual
  pub unmarked_statement : Statement → Statement
  unmarked_statement (Block line entries) = Block line (unmarked_entries entries)
  unmarked_statement (If line e s) = If line e (unmarked_statement s)
  unmarked_statement (IfElse line e s other) = IfElse line e (unmarked_statement s) (unmarked_statement other)
  unmarked_statement (While line e s) = While line e (unmarked_statement s)
  unmarked_statement (Do line s e) = Do line (unmarked_statement s) e
  unmarked_statement (For line start condition step s) = For line start condition step (unmarked_statement s)
  unmarked_statement s = s

  pub unmarked_entries : Entries → Entries
  unmarked_entries NoEntries = NoEntries
  unmarked_entries (MoreEntries (Declared d) others) = MoreEntries (Declared d) (unmarked_entries others)
  unmarked_entries (MoreEntries (Marked m) others) = unmarked_entries others
  unmarked_entries (MoreEntries (Stated s) others) = MoreEntries (Stated (unmarked_statement s)) (unmarked_entries others)

abbrev pub unmarked_body : Body → Body
unmarked_body body = record { line = body.line; entries = unmarked_entries body.entries }

abbrev pub unmarked_item : Item → Item
unmarked_item (Define f) = Define (record f { directive = None; body = option_map unmarked_body f.body })
unmarked_item (Declare d) = Declare d

-- the tree without its marks, and else the same
abbrev pub unmarked : Tree → Tree
unmarked t = map unmarked_item t
