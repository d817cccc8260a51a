-- The numbers of the program that a tree is are in their ranges.
use Rattle.std.proofs.Common.{◌≡◌, ℕ, ◌+◌, ◌-◌, ◌^◌, ◌<◌, ◌≤◌, lit<, Bool, true, false, ◌&&◌, if◌then◌else◌, nat_lt, nat_le, List, [], ◌∷◌, ◌++◌, length, codes, All, Option, Some, None, IfSome, option_map, option_and_then, bytes_eq, refl, sym, ap, ◌∙◌, subst, arith, le_trans, lt_of_lt_of_le, length-append}
use Rattle.std.proofs.lemmas.Bool.{false≢true, ltb-true, ltb-false, leb-true, and_parts}
use Rattle.std.proofs.lemmas.Option.{IfSome_then}
use Rattle.std.proofs.lemmas.List.Quantifiers.{position-Some}
use Rattle.std.proofs.lemmas.List.Elements.{All-nil, All-cons}
use Rattle.css_tree.specs.declared.operators.BinaryOperator.{BinaryOperator}
use Rattle.css_tree.specs.declared.operators.BinaryOperator.TheVariants as binaries
use Rattle.css_tree.specs.declared.operators.AssignOperator.TheVariants as assignments
use Rattle.css_tree.specs.declared.operators.UnaryOperator.TheVariants as unaries
use Rattle.css_base.specs.declared.int_type.IntType.TheVariants as types
use Rattle.css_tree.specs.Syntax as syntax
use Rattle.css_small.specs.Tree.{Expression, Number, Variable, Element, Unary, Statement, Initialise, Assign, AssignElement, Call, Mark, Put, Return, Block, If, IfElse, While, More, Function, Program}
use Rattle.css_small.specs.Names.{Names, in_main, in_function, with_object, number_of, is_among, behind_parameters, variable_of, is_before, is_in_main, function_of, is_fresh, may_declare, may_define}
use Rattle.css_small.specs.Trees.{both, where_true, unary_of, joined, names_parameter, expression_of, assignment_of, address_of, call_of, effect_of, kinds_of, directive_of, mark_of, statement_of, statements_of, entry_of, is_empty, is_int, is_void, is_none, is_void_alone, declared, with_value, variable, item_of, with_declared, behind, items_of, behind_all, with_body, body_of, is_task_of, pointer_of, function_with, function_behind, main_behind, main_alone, with_function, program_behind, program_of}
use Rattle.css_small.proofs.PutTogether.{always, later, together, of_both, of_where, of_if, of_map, of_any_map, of_then}
use Rattle.css_small.specs.Numbers.{Scope, IsVariable, IsWithin, AreWithin, AllWithin, IsNumbered, HasNumbers}

-- ---- names

-- what may be named at a place is the function's own
record IsIn (names : Names) (scope : Scope) : Type 0 where
  parameters : names.parameters ≡ scope.parameters
  objects : length names.objects ≤ scope.objects
  functions : length names.functions ≤ scope.functions

-- a name that is found has a number below how many there are
number_below : (names : List (List ℕ)) (name : List ℕ) → IfSome (number_of names name) (λ k. k < length names)
number_below names name = by (number_of names name) refl
  where
    by : (r : Option ℕ) → number_of names name ≡ r → IfSome r (λ k. k < length names)
    by None found = tt
    by (Some k) found = (position-Some (bytes_eq name) names k [] found).0

parameter_known : (parameters : ℕ) (r : Option ℕ) → is_before parameters r ≡ true → 1 ≤ parameters
parameter_known parameters None is = absurd (false≢true is)
parameter_known parameters (Some k) is = let l = ltb-true k parameters is in omega arith

parameter_named : (names : Names) (e : syntax.Expression) → names_parameter names e ≡ true → 1 ≤ names.parameters
parameter_named names (syntax.Name line name) is = parameter_known names.parameters (number_of names.objects name) is
parameter_named names e is = absurd (false≢true is)

module _ (names : Names) (scope : Scope) (within : IsIn names scope) where
  behind_within : (r : Option ℕ) → IfSome r (λ k. k < length names.objects) → IfSome (behind_parameters names.parameters r) (IsVariable scope)
  behind_within None below = tt
  behind_within (Some k) below = by (nat_lt k names.parameters) refl
    where
      by : (b : Bool) → nat_lt k names.parameters ≡ b → IfSome (if b then None else Some k) (IsVariable scope)
      by true is = tt
      by false is =
          let l = ltb-false k names.parameters is in
          let p = within.parameters in
          let o = within.objects in
          (omega arith, omega arith)

  variable_within : (name : List ℕ) → IfSome (variable_of names name) (IsVariable scope)
  variable_within name = behind_within (number_of names.objects name) (number_below names.objects name)

  function_within : (name : List ℕ) → IfSome (function_of names name) (λ f. f < scope.functions)
  function_within name =
      of_if (λ f. f < scope.functions) (is_among names.objects name) None (number_of names.functions name) tt
      (IfSome_then (number_of names.functions name) {P = λ k. k < length names.functions} {Q = λ k. k < scope.functions} (number_below names.functions name) (λ k below. lt_of_lt_of_le below within.functions))

  parameter_within : (e : syntax.Expression) → names_parameter names e ≡ true → 1 ≤ scope.parameters
  parameter_within e is = let l = parameter_named names e is in let p = within.parameters in omega arith

  in_main_within : is_in_main names ≡ true → scope.parameters ≡ 0
  in_main_within is = let l = ltb-true names.parameters 1 is in let p = within.parameters in omega arith

  -- ---- expressions

  joined_within : (op : BinaryOperator) (a b : Expression) → IsWithin scope a → IsWithin scope b → IsWithin scope (joined op a b)
  joined_within binaries.And a b p q = (p, q)
  joined_within op a b p q = (p, q)

  expression_within : (e : syntax.Expression) → IfSome (expression_of names e) (IsWithin scope)
  expression_within (syntax.Number line types.Int value) = of_where (IsWithin scope) (nat_le value 2147483647) (Some (Number value)) (λ is. leb-true value 2147483647 is)
  expression_within (syntax.Name line name) = of_map Variable (IsVariable scope) (IsWithin scope) (λ k is. is) (variable_of names name) (variable_within name)
  expression_within (syntax.Index line array index) =
      of_where (IsWithin scope) (names_parameter names array) (option_map Element (expression_of names index))
      (λ is. of_map Element (IsWithin scope) (IsWithin scope) (λ e w. (parameter_within array is, w)) (expression_of names index) (expression_within index))
  expression_within (syntax.Unary line op a) =
      of_both Unary (λ _. Unit {0}) (IsWithin scope) (IsWithin scope) (λ o e t w. w) (unary_of op) (expression_of names a) (always (Unit {0}) (unary_of op) tt) (expression_within a)
  expression_within (syntax.Binary line a op b) =
      of_both (joined op) (IsWithin scope) (IsWithin scope) (IsWithin scope) (joined_within op) (expression_of names a) (expression_of names b) (expression_within a) (expression_within b)
  expression_within e = tt

  -- ---- statements

  assignment_within : (line : ℕ) (place value : syntax.Expression) → IfSome (assignment_of names line place value) (AreWithin scope)
  assignment_within line (syntax.Name at name) value =
      of_both (Assign line) (IsVariable scope) (IsWithin scope) (AreWithin scope) (λ k e p q. (p, q)) (variable_of names name) (expression_of names value) (variable_within name) (expression_within value)
  assignment_within line (syntax.Index at array index) value =
      of_where (AreWithin scope) (names_parameter names array) (both (AssignElement line) (expression_of names index) (expression_of names value))
      (λ is. of_both (AssignElement line) (IsWithin scope) (IsWithin scope) (AreWithin scope) (λ i e p q. (parameter_within array is, p, q))
      (expression_of names index) (expression_of names value) (expression_within index) (expression_within value))
  assignment_within line place value = tt

  address_within : (e : syntax.Expression) → IfSome (address_of names e) (IsVariable scope)
  address_within (syntax.Unary line unaries.AddressOf (syntax.Name at name)) = variable_within name
  address_within e = tt

  call_within : (line : ℕ) (name : List ℕ) (argument : syntax.Expression) → IfSome (call_of names line name argument) (AreWithin scope)
  call_within line name argument =
      of_if (AreWithin scope) (bytes_eq name (codes "putchar"))
      (where_true (is_in_main names) (option_map (Put line) (expression_of names argument))) (both (Call line) (function_of names name) (address_of names argument))
      (of_where (AreWithin scope) (is_in_main names) (option_map (Put line) (expression_of names argument))
      (λ is. of_map (Put line) (IsWithin scope) (AreWithin scope) (λ e w. (in_main_within is, w)) (expression_of names argument) (expression_within argument)))
      (of_both (Call line) (λ f. f < scope.functions) (IsVariable scope) (AreWithin scope) (λ f k p q. (p, q))
      (function_of names name) (address_of names argument) (function_within name) (address_within argument))

  effect_within : (line : ℕ) (e : syntax.Expression) → IfSome (effect_of names line e) (AreWithin scope)
  effect_within line (syntax.Assign at place assignments.Assign value) = assignment_within line place value
  effect_within line (syntax.Call at name (syntax.More argument syntax.End)) = call_within line name argument
  effect_within line e = tt

  mark_within : (m : syntax.Mark) → IfSome (mark_of names m) (AreWithin scope)
  mark_within m =
      of_where (AreWithin scope) (is_in_main names) (option_map (Mark m.line) (directive_of (kinds_of m.words)))
      (λ is. of_any_map (Mark m.line) (AreWithin scope) (λ d. in_main_within is) (directive_of (kinds_of m.words)))

  mutual
    statement_within : (s : syntax.Statement) → IfSome (statement_of names s) (AreWithin scope)
    statement_within (syntax.Block line entries) =
        of_map (Block line) (AllWithin scope) (AreWithin scope) (λ ss w. w) (statements_of names entries) (statements_within entries)
    statement_within (syntax.Evaluate line None) = tt
    statement_within (syntax.Evaluate line (Some e)) = effect_within line e
    statement_within (syntax.If line e s) =
        of_both (If line) (IsWithin scope) (AreWithin scope) (AreWithin scope) (λ a b p q. (p, q)) (expression_of names e) (statement_of names s) (expression_within e) (statement_within s)
    statement_within (syntax.IfElse line e s other) =
        of_both (λ (f : Statement → Statement) (t : Statement). f t) (λ (f : Statement → Statement). (t : Statement) → AreWithin scope t → AreWithin scope (f t)) (AreWithin scope) (AreWithin scope) (λ f t p q. p t q)
        (both (λ e s t. IfElse line e s t) (expression_of names e) (statement_of names s)) (statement_of names other)
        (of_both (λ e s t. IfElse line e s t) (IsWithin scope) (AreWithin scope) (λ (f : Statement → Statement). (t : Statement) → AreWithin scope t → AreWithin scope (f t))
        (λ a b p q t r. (p, q, r)) (expression_of names e) (statement_of names s) (expression_within e) (statement_within s))
        (statement_within other)
    statement_within (syntax.While line e s) =
        of_both (While line) (IsWithin scope) (AreWithin scope) (AreWithin scope) (λ a b p q. (p, q)) (expression_of names e) (statement_of names s) (expression_within e) (statement_within s)
    statement_within (syntax.Return line (Some e)) =
        of_where (AreWithin scope) (is_in_main names) (option_map (Return line) (expression_of names e))
        (λ is. of_map (Return line) (IsWithin scope) (AreWithin scope) (λ a w. (in_main_within is, w)) (expression_of names e) (expression_within e))
    statement_within s = tt

    statements_within : (entries : syntax.Entries) → IfSome (statements_of names entries) (AllWithin scope)
    statements_within syntax.NoEntries = tt
    statements_within (syntax.MoreEntries first others) =
        of_both More (AreWithin scope) (AllWithin scope) (AllWithin scope) (λ a b p q. (p, q)) (entry_of names first) (statements_of names others) (entry_within first) (statements_within others)

    entry_within : (e : syntax.Entry) → IfSome (entry_of names e) (AreWithin scope)
    entry_within (syntax.Stated s) = statement_within s
    entry_within (syntax.Marked m) = mark_within m
    entry_within (syntax.Declared d) = tt

  -- a declaration of this variable
  value_within : (line k : ℕ) → IsVariable scope k → (value : Option syntax.Initialiser) → IfSome (with_value names line k value) (AreWithin scope)
  value_within line k is None = is
  value_within line k is (Some (syntax.Value e)) =
      of_map (Initialise line k) (IsWithin scope) (AreWithin scope) (λ a w. (is, w)) (expression_of names e) (expression_within e)
  value_within line k is (Some other) = tt

-- ---- a function's body

-- what an entry leaves: no fewer objects, and the same parameters and functions
record IsGrown (names after : Names) : Type 0 where
  parameters : names.parameters ≡ after.parameters
  objects : length names.objects ≤ length after.objects
  functions : names.functions ≡ after.functions

same_grown : (names : Names) → IsGrown names names
same_grown names = record { parameters = refl; objects = omega arith; functions = refl }

declared_grown : (names : Names) (d : Option syntax.Declarator) → IsGrown names (with_declared names d)
declared_grown names None = same_grown names
declared_grown names (Some x) = record { parameters = refl; objects = let l = length-append names.objects (x.name ∷ []) in omega arith; functions = refl }

grown : (names : Names) (e : syntax.Entry) → IsGrown names (behind names e)
grown names (syntax.Declared d) = declared_grown names (declared d)
grown names (syntax.Stated s) = same_grown names
grown names (syntax.Marked m) = same_grown names

all_grown : (entries : syntax.Entries) (names : Names) → IsGrown names (behind_all names entries)
all_grown syntax.NoEntries names = same_grown names
all_grown (syntax.MoreEntries first others) names =
    let one = grown names first in
    let more = all_grown others (behind names first) in
    record { parameters = one.parameters ∙ more.parameters; objects = le_trans one.objects more.objects; functions = one.functions ∙ more.functions }

-- what the names behind are in, those before are
in_before : (names after : Names) (scope : Scope) → IsGrown names after → IsIn after scope → IsIn names scope
in_before names after scope more within = record {
  parameters = more.parameters ∙ within.parameters;
  objects = le_trans more.objects within.objects;
  functions = let l = ap length more.functions in let m = within.functions in omega arith;
}

variable_declared : (names : Names) (scope : Scope) (line : ℕ) → names.parameters ≤ length names.objects → (x : syntax.Declarator) → IsIn (with_object names x.name) scope
    → IfSome (variable names line x) (AreWithin scope)
variable_declared names scope line held x within =
    let l = length-append names.objects (x.name ∷ []) in
    let p = within.parameters in
    let o = within.objects in
    of_where (AreWithin scope) (may_declare names x.name) (with_value (with_object names x.name) line (length names.objects) x.initialiser)
    (λ is. value_within (with_object names x.name) scope within line (length names.objects) (omega arith, omega arith) x.initialiser)

item_within : (names : Names) (scope : Scope) → names.parameters ≤ length names.objects → (e : syntax.Entry) → IsIn (behind names e) scope → IfSome (item_of names e) (AreWithin scope)
item_within names scope held (syntax.Declared d) within = by (declared d) within
  where
    by : (r : Option syntax.Declarator) → IsIn (with_declared names r) scope → IfSome (option_and_then (variable names d.line) r) (AreWithin scope)
    by None within = tt
    by (Some x) within = variable_declared names scope d.line held x within
item_within names scope held (syntax.Stated s) within = statement_within names scope within s
item_within names scope held (syntax.Marked m) within = mark_within names scope within m

items_within : (entries : syntax.Entries) (names : Names) (scope : Scope) → names.parameters ≤ length names.objects → IsIn (behind_all names entries) scope
    → IfSome (items_of names entries) (AllWithin scope)
items_within syntax.NoEntries names scope held within = tt
items_within (syntax.MoreEntries first others) names scope held within =
    let one = grown names first in
    let p = one.parameters in
    let o = one.objects in
    of_both More (AreWithin scope) (AllWithin scope) (AllWithin scope) (λ a b p q. (p, q)) (item_of names first) (items_of (behind names first) others)
    (item_within names scope held first (in_before (behind names first) (behind_all (behind names first) others) scope (all_grown others (behind names first)) within))
    (items_within others (behind names first) scope (omega arith) within)

-- ---- at most 1,000 variables

abbrev AreFew : Names → Type 0
AreFew names = length names.objects ≤ names.parameters + 1000

few_declared : (names : Names) (line : ℕ) (x : syntax.Declarator) → IfSome (variable names line x) (λ _. AreFew (with_object names x.name))
few_declared names line x =
    of_where (λ _. AreFew (with_object names x.name)) (may_declare names x.name) (with_value (with_object names x.name) line (length names.objects) x.initialiser)
    (λ is. always (AreFew (with_object names x.name)) (with_value (with_object names x.name) line (length names.objects) x.initialiser)
    (let below = ltb-true (length names.objects) (names.parameters + 1000) (and_parts (is_fresh names.objects x.name) (nat_lt (length names.objects) (names.parameters + 1000)) is).1 in
    let l = length-append names.objects (x.name ∷ []) in
    omega arith))

few_behind : (names : Names) → AreFew names → (e : syntax.Entry) → IfSome (item_of names e) (λ _. AreFew (behind names e))
few_behind names few (syntax.Declared d) = by (declared d)
  where
    by : (r : Option syntax.Declarator) → IfSome (option_and_then (variable names d.line) r) (λ _. AreFew (with_declared names r))
    by None = tt
    by (Some x) = few_declared names d.line x
few_behind names few (syntax.Stated s) = always (AreFew names) (statement_of names s) few
few_behind names few (syntax.Marked m) = always (AreFew names) (mark_of names m) few

few_behind_all : (entries : syntax.Entries) (names : Names) → AreFew names → IfSome (items_of names entries) (λ _. AreFew (behind_all names entries))
few_behind_all syntax.NoEntries names few = few
few_behind_all (syntax.MoreEntries first others) names few =
    of_both More (λ _. AreFew (behind names first)) (λ _. AreFew (behind names first) → AreFew (behind_all (behind names first) others)) (λ _. AreFew (behind_all (behind names first) others))
    (λ a b p q. q p) (item_of names first) (items_of (behind names first) others) (few_behind names few first)
    (later (AreFew (behind names first)) (λ _. AreFew (behind_all (behind names first) others)) (items_of (behind names first) others) (few_behind_all others (behind names first)))

-- ---- functions and main

-- a function whose body is read with these names
abbrev IsOf : Bool → Names → Function → Type 0
IsOf is_task names f = (f.is_task ≡ is_task) × (f.parameters ≡ names.parameters) × IsNumbered (length names.functions) f

body_numbered : (is_task : Bool) (line end : ℕ) (names : Names) → names.parameters ≤ length names.objects → AreFew names → (body : Option syntax.Body)
    → IfSome (body_of is_task line end names body) (IsOf is_task names)
body_numbered is_task line end names held few None = tt
body_numbered is_task line end names held few (Some body) =
    let last = behind_all names body.entries in
    let more = all_grown body.entries names in
    let scope : Scope = record { parameters = names.parameters; objects = names.parameters + (length last.objects - names.parameters); functions = length names.functions } in
    let within : IsIn last scope = record { parameters = sym more.parameters; objects = omega arith; functions = let l = ap length more.functions in omega arith } in
    of_map (with_body is_task line end names body.entries) (λ ss. AllWithin scope ss × AreFew last) (IsOf is_task names)
    (λ ss h. (refl, refl, record { few = let f = h.1 in let p = more.parameters in omega arith; within = h.0 }))
    (items_of names body.entries)
    (together (AllWithin scope) (λ _. AreFew last) (items_of names body.entries) (items_within body.entries names scope held within) (few_behind_all body.entries names few))

abbrev IsCalled : Function → Type 0
IsCalled f = (f.parameters ≡ 1) × IsNumbered 0 f

pointed_numbered : (f : syntax.Function) (parameter : List ℕ) → IfSome (function_with f parameter) IsCalled
pointed_numbered f parameter =
    of_where IsCalled (is_fresh [] parameter) (option_and_then (λ is_task. body_of is_task f.line f.end (in_function parameter) f.body) (is_task_of parameter f.directive))
    (λ is. of_then (λ is_task. body_of is_task f.line f.end (in_function parameter) f.body) IsCalled
    (λ is_task. IfSome_then (body_of is_task f.line f.end (in_function parameter) f.body) {P = IsOf is_task (in_function parameter)} {Q = IsCalled}
    (body_numbered is_task f.line f.end (in_function parameter) (omega arith) (omega arith) f.body) (λ g h. (h.1, h.2)))
    (is_task_of parameter f.directive))

function_numbered : (names : List (List ℕ)) (f : syntax.Function) → IfSome (function_behind names f) (λ g. (length names < 4294967295) × IsCalled g)
function_numbered names f =
    of_where (λ g. (length names < 4294967295) × IsCalled g) (is_void f.specifiers && is_empty f.stars && may_define names f.name) (option_and_then (function_with f) (pointer_of f.parameters))
    (λ is. let may = (and_parts (is_void f.specifiers && is_empty f.stars) (may_define names f.name) is).1 in
    let below = ltb-true (length names) 4294967295 (and_parts (is_fresh (codes "main" ∷ names) f.name) (nat_lt (length names) 4294967295) may).1 in
    together (λ _. length names < 4294967295) IsCalled (option_and_then (function_with f) (pointer_of f.parameters))
    (always (length names < 4294967295) (option_and_then (function_with f) (pointer_of f.parameters)) below)
    (of_then (function_with f) IsCalled (pointed_numbered f) (pointer_of f.parameters)))

abbrev IsMain : ℕ → Function → Type 0
IsMain functions f = (f.parameters ≡ 0) × (f.is_task ≡ false) × IsNumbered functions f

main_numbered : (names : List (List ℕ)) (f : syntax.Function) → IfSome (main_behind names f) (IsMain (length names))
main_numbered names f =
    of_where (IsMain (length names)) (is_none f.directive && is_int f.specifiers && is_empty f.stars && bytes_eq f.name (codes "main") && is_void_alone f.parameters)
    (body_of false f.line f.end (in_main names) f.body)
    (λ is. IfSome_then (body_of false f.line f.end (in_main names) f.body) {P = IsOf false (in_main names)} {Q = IsMain (length names)}
    (body_numbered false f.line f.end (in_main names) (omega arith) (omega arith) f.body) (λ g h. (h.1, h.0, h.2)))

-- ---- programs

-- the numbers of functions behind so many, and of main
record AreNumbered (before : ℕ) (p : Program) : Type 0 where
  functions : All IsCalled p.functions
  few : before + length p.functions ≤ 4294967295
  main : IsMain (before + length p.functions) p.main

program_numbered : (items : syntax.Tree) (names : List (List ℕ)) → length names ≤ 4294967295 → IfSome (program_behind names items) (AreNumbered (length names))
program_numbered [] names few = tt
program_numbered (syntax.Declare d ∷ items) names few = tt
program_numbered (syntax.Define f ∷ []) names few =
    let same : length names ≡ length names + 0 = omega arith in
    of_map main_alone (IsMain (length names)) (AreNumbered (length names))
    (λ g is. record { functions = All-nil IsCalled; few = omega arith; main = subst (λ n. IsMain n g) same is })
    (main_behind names f) (main_numbered names f)
program_numbered (syntax.Define f ∷ i ∷ items) names few =
    let l = length-append names (f.name ∷ []) in
    of_both with_function (λ g. (length names < 4294967295) × IsCalled g) (λ p. length names < 4294967295 → AreNumbered (length (names ++ f.name ∷ [])) p) (AreNumbered (length names))
    (λ g p is rest.
    let more = rest is.0 in
    let below = more.few in
    let same : length (names ++ f.name ∷ []) + length p.functions ≡ length names + length (g ∷ p.functions) = omega arith in
    record { functions = All-cons IsCalled g p.functions is.1 more.functions; few = omega arith; main = subst (λ n. IsMain n p.main) same more.main })
    (function_behind names f) (program_behind (names ++ f.name ∷ []) (i ∷ items)) (function_numbered names f)
    (later (length names < 4294967295) (AreNumbered (length (names ++ f.name ∷ []))) (program_behind (names ++ f.name ∷ []) (i ∷ items))
    (λ below. program_numbered (i ∷ items) (names ++ f.name ∷ []) (omega arith)))

pub program_numbers : (tree : syntax.Tree) (p : Program) → program_of tree ≡ Some p → HasNumbers p
program_numbers tree p is =
    let all : AreNumbered 0 p = subst (λ r. IfSome r (AreNumbered 0)) is (program_numbered tree [] (omega arith)) in
    let few = all.few in
    let big : 4294967295 < 2 ^ 32 = lit< tt in
    let same : 0 + length p.functions ≡ length p.functions = omega arith in
    record { functions = all.functions; few = omega arith; main = subst (λ n. IsMain n p.main) same all.main }
