-- Functions, put together one by one before main.
use Rattle.std.proofs.Common.{◌≡◌, ℕ, ◌+◌, ◌<◌, ◌≤◌, List, [], ◌∷◌, ◌++◌, map, length, drop, get_or, Option, Some, None, option_map, refl, sym, ap, ◌∙◌}
use Rattle.std.proofs.lemmas.List.{drop_more, at_drop_all, map-append}
use Rattle.css_tree.specs.declared.item.Item.{Item}
use Rattle.css_tree.specs.Syntax as syntax
use Rattle.css_tree.specs.Shapes.{item}
use Rattle.css_small.specs.declared.tree.Function as coded
use Rattle.css_small.specs.Tree.{Function, Program, function}
use Rattle.css_small.specs.Trees.{both, with_function, main_alone, function_behind, main_behind, program_behind, program_of}

-- functions before a program's
abbrev pub before : List Function → Program → Program
before fs p = record p { functions = fs ++ p.functions }

-- what is done, before what is left
abbrev pub on : List coded.Function → Option Program → Option Program
on done left = option_map (before (map function done)) left

on-more : (done : List coded.Function) (f : coded.Function) (left : Option Program) → on done (both with_function (Some (function f)) left) ≡ on (done ++ f ∷ []) left
on-more done f (Some p) = ap (λ fs. Some (record p { functions = fs })) (appended done)
  where
    appended : (fs : List coded.Function) → map function fs ++ function f ∷ p.functions ≡ map function (fs ++ f ∷ []) ++ p.functions
    appended [] = refl
    appended (g ∷ fs) = ap (λ l. function g ∷ l) (appended fs)
on-more done f None = refl

-- the items from here on, and a last one
abbrev pub from : List Item → ℕ → syntax.Item → List (List ℕ) → Option Program
from all i last names = program_behind names (map item (drop i all) ++ last ∷ [])

first_function : (f : syntax.Function) (items : List Item) (last : syntax.Item) (names : List (List ℕ))
    → program_behind names (syntax.Define f ∷ map item items ++ last ∷ []) ≡ both with_function (function_behind names f) (program_behind (names ++ f.name ∷ []) (map item items ++ last ∷ []))
first_function f [] last names = refl
first_function f (i ∷ items) last names = refl

next : (all : List Item) (i : ℕ) (x : Item) (f : syntax.Function) (last : syntax.Item) (names : List (List ℕ)) → i < length all → x ≡ get_or all i x → item x ≡ syntax.Define f
    → from all i last names ≡ both with_function (function_behind names f) (from all (i + 1) last (names ++ f.name ∷ []))
next all i x f last names below is defines =
    ap (λ l. program_behind names (map item l ++ last ∷ [])) (drop_more all i x below)
    ∙ ap (λ y. program_behind names (item y ∷ map item (drop (i + 1) all) ++ last ∷ [])) (sym is)
    ∙ ap (λ y. program_behind names (y ∷ map item (drop (i + 1) all) ++ last ∷ [])) defines
    ∙ first_function f (drop (i + 1) all) last names

pub one_more : (all : List Item) (i : ℕ) (x : Item) (t : syntax.Function) (last : syntax.Item) (names new : List (List ℕ)) (done : List coded.Function) (f : coded.Function) → i < length all → x ≡ get_or all i x
    → item x ≡ syntax.Define t → function_behind names t ≡ Some (function f) → new ≡ names ++ t.name ∷ []
    → on (done ++ f ∷ []) (from all (i + 1) last new) ≡ on done (from all i last names)
one_more all i x t last names new done f below is defines gives new_is =
    ap (λ n. on (done ++ f ∷ []) (from all (i + 1) last n)) new_is
    ∙ sym (on-more done f (from all (i + 1) last (names ++ t.name ∷ [])))
    ∙ ap (λ o. on done (both with_function o (from all (i + 1) last (names ++ t.name ∷ [])))) (sym gives)
    ∙ ap (on done) (sym (next all i x t last names below is defines))

-- what is no function
none_first : (names : List (List ℕ)) (x : syntax.Item) (items : List Item) (last : syntax.Item) → ((t : syntax.Function) → x ≡ syntax.Define t → function_behind names t ≡ None)
    → program_behind names (x ∷ map item items ++ last ∷ []) ≡ None
none_first names (syntax.Declare d) items last none = refl
none_first names (syntax.Define t) items last none = first_function t items last names ∙ ap (λ o. both with_function o (program_behind (names ++ t.name ∷ []) (map item items ++ last ∷ []))) (none t refl)

pub one_less : (all : List Item) (i : ℕ) (x : Item) (last : syntax.Item) (names : List (List ℕ)) (done : List coded.Function) → i < length all → x ≡ get_or all i x
    → ((t : syntax.Function) → item x ≡ syntax.Define t → function_behind names t ≡ None) → on done (from all i last names) ≡ None
one_less all i x last names done below is none =
    ap (λ l. on done (program_behind names (map item l ++ last ∷ []))) (drop_more all i x below)
    ∙ ap (λ y. on done (program_behind names (item y ∷ map item (drop (i + 1) all) ++ last ∷ []))) (sym is)
    ∙ ap (on done) (none_first names (item x) (drop (i + 1) all) last none)

pub all_done : (all : List Item) (i : ℕ) (last : syntax.Item) (names : List (List ℕ)) (done : List coded.Function) → length all ≤ i → on done (from all i last names) ≡ on done (program_behind names (last ∷ []))
all_done all i last names done past = at_drop_all (λ l. on done (program_behind names (map item l ++ last ∷ []))) all i past

-- what is no main
pub no_main : (names : List (List ℕ)) (x : syntax.Item) → ((t : syntax.Function) → x ≡ syntax.Define t → main_behind names t ≡ None) → program_behind names (x ∷ []) ≡ None
no_main names (syntax.Declare d) none = refl
no_main names (syntax.Define t) none = ap (option_map main_alone) (none t refl)

-- the last item apart
pub last_apart : (items others : List Item) (last : Item) → items ≡ others ++ last ∷ [] → program_of (map item items) ≡ program_behind [] (map item others ++ item last ∷ [])
last_apart items others last is = ap (λ l. program_of (map item l)) is ∙ ap program_of (map-append item others (last ∷ []))
