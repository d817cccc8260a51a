-- What a function is by its header.
use Rattle.std.proofs.Common.{◌≡◌, ℕ, Bool, true, false, ◌&&◌, List, [], codes, Option, Some, None, option_and_then, bytes_eq, Result, Ok, Err, IfOk, refl, ap, ◌∙◌, subst}
use Rattle.css_tree.specs.Syntax as syntax
use Rattle.css_small.specs.Names.{in_main, in_function, is_fresh, may_define}
use Rattle.css_small.specs.Trees.{where_true, is_empty, is_none, is_int, is_void, is_void_alone, is_task_of, pointer_of, body_of, function_with, function_behind, main_behind}

-- what holds of a value holds in other words
pub in_other_words : {T E : Type 0} {P Q : T → Type 0} (r : Result T E) → ((x : T) → P x → Q x) → IfOk r P → IfOk r Q
in_other_words (Ok x) words h = words x h
in_other_words (Err e) words h = tt

where_one : {A : Type 0} (a : Bool) (part : Option A) → a ≡ true → where_true a part ≡ part
where_one true part p = refl
where_one false part p = absurd (cc)

where_three : {A : Type 0} (a b c : Bool) (part : Option A) → a ≡ true → b ≡ true → c ≡ true → where_true (a && b && c) part ≡ part
where_three true true true part p q r = refl
where_three a b c part p q r = absurd (cc)

where_five : {A : Type 0} (a b c d e : Bool) (part : Option A) → a ≡ true → b ≡ true → c ≡ true → d ≡ true → e ≡ true → where_true (a && b && c && d && e) part ≡ part
where_five true true true true true part p q r s t = refl
where_five a b c d e part p q r s t = absurd (cc)

pub main_is : (names : List (List ℕ)) (t : syntax.Function) → is_none t.directive ≡ true → is_int t.specifiers ≡ true → is_empty t.stars ≡ true
    → bytes_eq t.name (codes "main") ≡ true → is_void_alone t.parameters ≡ true → main_behind names t ≡ body_of false t.line t.end (in_main names) t.body
main_is names t p q r s u =
    where_five (is_none t.directive) (is_int t.specifiers) (is_empty t.stars) (bytes_eq t.name (codes "main")) (is_void_alone t.parameters)
    (body_of false t.line t.end (in_main names) t.body) p q r s u

pub function_is : (names : List (List ℕ)) (t : syntax.Function) (parameter : List ℕ) (is_task : Bool) → is_void t.specifiers ≡ true → is_empty t.stars ≡ true
    → may_define names t.name ≡ true → pointer_of t.parameters ≡ Some parameter → is_fresh [] parameter ≡ true → is_task_of parameter t.directive ≡ Some is_task
    → function_behind names t ≡ body_of is_task t.line t.end (in_function parameter) t.body
function_is names t parameter is_task p q r named fresh task =
    where_three (is_void t.specifiers) (is_empty t.stars) (may_define names t.name) (option_and_then (function_with t) (pointer_of t.parameters)) p q r
    ∙ ap (option_and_then (function_with t)) named
    ∙ where_one (is_fresh [] parameter) (option_and_then (λ b. body_of b t.line t.end (in_function parameter) t.body) (is_task_of parameter t.directive)) fresh
    ∙ ap (option_and_then (λ b. body_of b t.line t.end (in_function parameter) t.body)) task

where_void : {A : Type 0} (a b c : Bool) (part : Option A) → a ≡ false → where_true (a && b && c) part ≡ None
where_void false b c part p = refl
where_void true b c part p = absurd (cc)

where_starred : {A : Type 0} (a b c : Bool) (part : Option A) → b ≡ false → where_true (a && b && c) part ≡ None
where_starred false b c part p = refl
where_starred true false c part p = refl
where_starred true true c part p = absurd (cc)

pub no_void : (names : List (List ℕ)) (t : syntax.Function) → is_void t.specifiers ≡ false → function_behind names t ≡ None
no_void names t p = where_void (is_void t.specifiers) (is_empty t.stars) (may_define names t.name) (option_and_then (function_with t) (pointer_of t.parameters)) p

pub has_stars : (names : List (List ℕ)) (t : syntax.Function) → is_empty t.stars ≡ false → function_behind names t ≡ None
has_stars names t p = where_starred (is_void t.specifiers) (is_empty t.stars) (may_define names t.name) (option_and_then (function_with t) (pointer_of t.parameters)) p

-- what holds of the function that an item is
pub of_item : (P : syntax.Function → Type 0) (x : syntax.Item) (t : syntax.Function) → x ≡ syntax.Define t → P t → (other : syntax.Function) → x ≡ syntax.Define other → P other
of_item P x t is h other is_other = let same : t ≡ other = cc in subst P same h
