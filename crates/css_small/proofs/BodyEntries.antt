-- What stands in a function's body, put together one by one.
use Rattle.std.proofs.Common.{◌≡◌, ℕ, ◌+◌, ◌<◌, ◌≤◌, List, [], ◌∷◌, ◌++◌, length, drop, get_or, Option, Some, None, option_map, refl, sym, ap, ◌∙◌}
use Rattle.std.proofs.lemmas.List.{drop_more, at_drop_all}
use Rattle.css_tree.specs.declared.statement.Entry.{Entry}
use Rattle.css_tree.specs.Syntax as syntax
use Rattle.css_tree.specs.Shapes.{entry, listed_entries}
use Rattle.css_small.specs.declared.tree.Statement as coded
use Rattle.css_small.specs.Tree.{Statements, More, statement, listed}
use Rattle.css_small.specs.Names.{Names}
use Rattle.css_small.specs.Trees.{both, declared, item_of, items_of, with_declared, behind, behind_all}
use Rattle.css_small.proofs.StatementRows.{before, before-all, before-more}

-- what is done, before what is left
abbrev pub on : List coded.Statement → Option Statements → Option Statements
on done left = option_map (before done) left

-- the entries from here on
abbrev pub from : List Entry → ℕ → Names → Option Statements
from all i names = items_of names (listed_entries (drop i all))

next : (all : List Entry) (i : ℕ) (e : Entry) (names : Names) → i < length all → e ≡ get_or all i e
    → from all i names ≡ both More (item_of names (entry e)) (from all (i + 1) (behind names (entry e)))
next all i e names below is =
    ap (λ l. items_of names (listed_entries l)) (drop_more all i e below) ∙ ap (λ x. items_of names (listed_entries (x ∷ drop (i + 1) all))) (sym is)

pub one_more : (all : List Entry) (i : ℕ) (e : Entry) (names new : Names) (done : List coded.Statement) (s : coded.Statement) → i < length all → e ≡ get_or all i e
    → item_of names (entry e) ≡ Some (statement s) → new ≡ behind names (entry e)
    → on (done ++ s ∷ []) (from all (i + 1) new) ≡ on done (from all i names)
one_more all i e names new done s below is gives new_is =
    ap (λ n. on (done ++ s ∷ []) (from all (i + 1) n)) new_is
    ∙ before-more done s (from all (i + 1) (behind names (entry e)))
    ∙ ap (λ o. on done (both More o (from all (i + 1) (behind names (entry e))))) (sym gives)
    ∙ ap (on done) (sym (next all i e names below is))

pub one_less : (all : List Entry) (i : ℕ) (e : Entry) (names : Names) (done : List coded.Statement) → i < length all → e ≡ get_or all i e
    → item_of names (entry e) ≡ None → on done (from all i names) ≡ None
one_less all i e names done below is none =
    ap (on done) (next all i e names below is) ∙ ap (λ o. on done (both More o (from all (i + 1) (behind names (entry e))))) none

pub all_done : (all : List Entry) (i : ℕ) (names : Names) (done : List coded.Statement) → length all ≤ i → on done (from all i names) ≡ Some (listed done)
all_done all i names done past = at_drop_all (λ l. on done (items_of names (listed_entries l))) all i past ∙ ap Some (before-all done)

-- what may be named behind the entries from here on
abbrev pub names_from : List Entry → ℕ → Names → Names
names_from all i names = behind_all names (listed_entries (drop i all))

pub names_next : (all : List Entry) (i : ℕ) (e : Entry) (names : Names) → i < length all → e ≡ get_or all i e
    → names_from all (i + 1) (behind names (entry e)) ≡ names_from all i names
names_next all i e names below is =
    ap (λ x. behind_all names (listed_entries (x ∷ drop (i + 1) all))) is ∙ ap (λ l. behind_all names (listed_entries l)) (sym (drop_more all i e below))

pub names_done : (all : List Entry) (i : ℕ) (names : Names) → length all ≤ i → names_from all i names ≡ names
names_done all i names past = at_drop_all (λ l. behind_all names (listed_entries l)) all i past

parameters-with_declared : (names : Names) (x : Option syntax.Declarator) → (with_declared names x).parameters ≡ names.parameters
parameters-with_declared names None = refl
parameters-with_declared names (Some x) = refl

parameters-behind : (names : Names) (e : syntax.Entry) → (behind names e).parameters ≡ names.parameters
parameters-behind names (syntax.Declared d) = parameters-with_declared names (declared d)
parameters-behind names (syntax.Stated s) = refl
parameters-behind names (syntax.Marked m) = refl

pub parameters-behind_all : (names : Names) (entries : syntax.Entries) → (behind_all names entries).parameters ≡ names.parameters
parameters-behind_all names syntax.NoEntries = refl
parameters-behind_all names (syntax.MoreEntries first others) = parameters-behind_all (behind names first) others ∙ parameters-behind names first
