-- The entries of a block, one by one.
use Rattle.std.proofs.Common.{◌≡◌, ℕ, ◌+◌, ◌<◌, ◌≤◌, List, [], ◌∷◌, ◌++◌, length, drop, get_or, Option, Some, None, sym, ap, ◌∙◌}
use Rattle.std.specs.Option.{option_map}
use Rattle.std.proofs.lemmas.List.{drop_more, at_drop_all}
use Rattle.css_tree.specs.declared.statement.Entry.{Entry}
use Rattle.css_tree.specs.Shapes.{entry, listed_entries}
use Rattle.css_small.specs.declared.tree.Statement.{Statement}
use Rattle.css_small.specs.Tree.{Statements, More, statement, listed}
use Rattle.css_small.specs.Names.{Names}
use Rattle.css_small.specs.Trees.{both, entry_of, statements_of}
use Rattle.css_small.proofs.StatementRows.{before, before-all, before-more}

-- what is done, before the statements that the other entries are
abbrev pub on : Names → List Statement → List Entry → Option Statements
on names done left = option_map (before done) (statements_of names (listed_entries left))

next : (names : Names) (all : List Entry) (i : ℕ) (e : Entry) (done : List Statement) → i < length all → e ≡ get_or all i e
    → on names done (e ∷ drop (i + 1) all) ≡ on names done (drop i all)
next names all i e done below is = ap (λ x. on names done (x ∷ drop (i + 1) all)) is ∙ ap (on names done) (sym (drop_more all i e below))

pub stated : (names : Names) (all : List Entry) (i : ℕ) (e : Entry) (done : List Statement) (s : Statement) → i < length all → e ≡ get_or all i e
    → entry_of names (entry e) ≡ Some (statement s) → on names (done ++ s ∷ []) (drop (i + 1) all) ≡ on names done (drop i all)
stated names all i e done s below is found =
    before-more done s (statements_of names (listed_entries (drop (i + 1) all)))
    ∙ ap (λ first. option_map (before done) (both More first (statements_of names (listed_entries (drop (i + 1) all))))) (sym found)
    ∙ next names all i e done below is

pub not_stated : (names : Names) (all : List Entry) (i : ℕ) (e : Entry) (done : List Statement) → i < length all → e ≡ get_or all i e
    → entry_of names (entry e) ≡ None → on names done (drop i all) ≡ None
not_stated names all i e done below is none =
    sym (next names all i e done below is)
    ∙ ap (λ first. option_map (before done) (both More first (statements_of names (listed_entries (drop (i + 1) all))))) none

pub all_stated : (names : Names) (all : List Entry) (i : ℕ) (done : List Statement) → length all ≤ i → on names done (drop i all) ≡ Some (listed done)
all_stated names all i done past = at_drop_all (on names done) all i past ∙ ap Some (before-all done)
