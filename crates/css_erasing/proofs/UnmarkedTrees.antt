-- The tree without its marks is the program without its directives.
use Rattle.std.proofs.Common.{◌≡◌, ℕ, ◌-◌, length, Bool, true, false, ◌&&◌, if◌then◌else◌, List, [], ◌∷◌, ◌++◌, codes, Option, Some, None, IfSome, option_map, option_and_then, bytes_eq, refl, sym, ap, ap₂, ◌∙◌, subst}
use Rattle.css_tree.specs.declared.operators.AssignOperator.TheVariants as assignments
use Rattle.css_tree.specs.Syntax as syntax
use Rattle.css_tree.specs.Marks as marks
use Rattle.css_small.specs.Tree.{Expression, Statement, Initialise, Assign, AssignElement, Call, Mark, Put, Return, Block, If, IfElse, While, Statements, More, is_directive, Program}
use Rattle.css_small.specs.Names.{Names, in_main, in_function, with_object, variable_of, is_in_main, function_of, is_fresh, may_declare, may_define}
use Rattle.css_small.specs.Trees.{both, where_true, names_parameter, expression_of, assignment_of, address_of, call_of, effect_of, kinds_of, directive_of, statement_of, statements_of, is_empty, is_int, is_void, is_none, is_void_alone, declared, with_value, variable, item_of, behind, items_of, behind_all, with_body, body_of, is_task_of, pointer_of, function_with, function_behind, main_behind, main_alone, with_function, program_behind, program_of}
use Rattle.css_small.proofs.PutTogether.{of_any_both, of_where, of_if, of_any_map, of_then}
use Rattle.css_erasing.specs.Unmarked.{unmarked_statement, unmarked_statements, unmarked_function, unmarked}

-- ---- parts that are put together

-- Where there is a part, the other is what becomes of it.
abbrev Follows : {A : Type 0} → (A → A) → Option A → Option A → Type 0
Follows change part other = IfSome part (λ a. other ≡ Some (change a))

both_follow : {A B C : Type 0} (join : A → B → C) (f : A → A) (g : B → B) (h : C → C) → ((a : A) (b : B) → join (f a) (g b) ≡ h (join a b))
    → (a a' : Option A) (b b' : Option B) → Follows f a a' → Follows g b b' → Follows h (both join a b) (both join a' b')
both_follow join f g h rule (Some a) a' (Some b) b' p q = ap₂ (both join) p q ∙ ap Some (rule a b)
both_follow join f g h rule (Some a) a' None b' p q = tt
both_follow join f g h rule None a' b b' p q = tt

where_follows : {A : Type 0} (h : A → A) (holds others : Bool) → (holds ≡ true → others ≡ true) → (a a' : Option A) → Follows h a a' → Follows h (where_true holds a) (where_true others a')
where_follows h true others rule None a' p = tt
where_follows h true others rule (Some x) a' p = ap (λ b. where_true b a') (rule refl) ∙ p
where_follows h false others rule a a' p = tt

map_follows : {A B : Type 0} (join : A → B) (f : A → A) (h : B → B) → ((a : A) → join (f a) ≡ h (join a)) → (a a' : Option A) → Follows f a a' → Follows h (option_map join a) (option_map join a')
map_follows join f h rule None a' p = tt
map_follows join f h rule (Some a) a' p = ap (option_map join) p ∙ ap Some (rule a)

same_follows : {A : Type 0} (a : Option A) → Follows (λ x. x) a a
same_follows None = tt
same_follows (Some a) = refl

-- ---- statements that are no directives

-- It is no directive, and has none in it.
abbrev IsNoDirective : Statement → Type 0
IsNoDirective s = (is_directive s ≡ false) × (unmarked_statement s ≡ s)

module _ (names : Names) where
  assignment_plain : (line : ℕ) (place value : syntax.Expression) → IfSome (assignment_of names line place value) IsNoDirective
  assignment_plain line (syntax.Name at name) value = of_any_both (Assign line) IsNoDirective (λ a b. (refl, refl)) (variable_of names name) (expression_of names value)
  assignment_plain line (syntax.Index at array index) value =
      of_where IsNoDirective (names_parameter names array) (both (AssignElement line) (expression_of names index) (expression_of names value))
      (λ is. of_any_both (AssignElement line) IsNoDirective (λ a b. (refl, refl)) (expression_of names index) (expression_of names value))
  assignment_plain line place value = tt

  call_plain : (line : ℕ) (name : List ℕ) (argument : syntax.Expression) → IfSome (call_of names line name argument) IsNoDirective
  call_plain line name argument =
      of_if IsNoDirective (bytes_eq name (codes "putchar")) (where_true (is_in_main names) (option_map (Put line) (expression_of names argument))) (both (Call line) (function_of names name) (address_of names argument))
      (of_where IsNoDirective (is_in_main names) (option_map (Put line) (expression_of names argument)) (λ is. of_any_map (Put line) IsNoDirective (λ a. (refl, refl)) (expression_of names argument)))
      (of_any_both (Call line) IsNoDirective (λ a b. (refl, refl)) (function_of names name) (address_of names argument))

  effect_plain : (line : ℕ) (e : syntax.Expression) → IfSome (effect_of names line e) IsNoDirective
  effect_plain line (syntax.Assign at place assignments.Assign value) = assignment_plain line place value
  effect_plain line (syntax.Call at name (syntax.More argument syntax.End)) = call_plain line name argument
  effect_plain line e = tt

  return_plain : (line : ℕ) (e : syntax.Expression) → IfSome (where_true (is_in_main names) (option_map (Return line) (expression_of names e))) IsNoDirective
  return_plain line e =
      of_where IsNoDirective (is_in_main names) (option_map (Return line) (expression_of names e)) (λ is. of_any_map (Return line) IsNoDirective (λ a. (refl, refl)) (expression_of names e))

plain_follows : (part : Option Statement) → IfSome part IsNoDirective → Follows unmarked_statement part part
plain_follows None p = tt
plain_follows (Some s) p = ap Some (sym p.1)

-- `if` and `else`, as put together
abbrev branches : ℕ → Option Expression → (first second : Option Statement) → Option Statement
branches line e s other = both (λ (f : Statement → Statement) (t : Statement). f t) (both (λ e s t. IfElse line e s t) e s) other

abbrev IsStated : Statement → Type 0
IsStated s = is_directive s ≡ false

plain_stated : (part : Option Statement) → IfSome part IsNoDirective → IfSome part IsStated
plain_stated None p = tt
plain_stated (Some s) p = p.0

statement_stated : (names : Names) (s : syntax.Statement) → IfSome (statement_of names s) IsStated
statement_stated names (syntax.Block line entries) = of_any_map (Block line) IsStated (λ a. refl) (statements_of names entries)
statement_stated names (syntax.Evaluate line None) = refl
statement_stated names (syntax.Evaluate line (Some e)) = plain_stated (effect_of names line e) (effect_plain names line e)
statement_stated names (syntax.If line e s) = of_any_both (If line) IsStated (λ a b. refl) (expression_of names e) (statement_of names s)
statement_stated names (syntax.IfElse line e s other) =
    by (expression_of names e) (statement_of names s) (statement_of names other)
  where
    by : (e : Option Expression) (s other : Option Statement) → IfSome (branches line e s other) IsStated
    by (Some e) (Some s) (Some other) = refl
    by (Some e) (Some s) None = tt
    by (Some e) None other = tt
    by None s other = tt
statement_stated names (syntax.While line e s) = of_any_both (While line) IsStated (λ a b. refl) (expression_of names e) (statement_of names s)
statement_stated names (syntax.Return line (Some e)) =
    plain_stated (where_true (is_in_main names) (option_map (Return line) (expression_of names e))) (return_plain names line e)
statement_stated names s = tt

-- ---- statements without marks

-- a statement before others
before_follows : (one one' : Option Statement) (rest rest' : Option Statements) → IfSome one IsStated → Follows unmarked_statement one one' → Follows unmarked_statements rest rest'
    → Follows unmarked_statements (both More one rest) (both More one' rest')
before_follows (Some s) one' (Some ss) rest' stated p q =
    ap₂ (both More) p q ∙ ap (λ b. Some (if b then unmarked_statements ss else More (unmarked_statement s) (unmarked_statements ss))) (sym stated)
before_follows (Some s) one' None rest' stated p q = tt
before_follows None one' rest rest' stated p q = tt

-- a mark before others
gone_follows : (holds : Bool) (line : ℕ) (directive : Option _) (rest rest' : Option Statements) → Follows unmarked_statements rest rest'
    → Follows unmarked_statements (both More (where_true holds (option_map (Mark line) directive)) rest) rest'
gone_follows true line (Some d) (Some ss) rest' q = q
gone_follows true line (Some d) None rest' q = tt
gone_follows true line None rest rest' q = tt
gone_follows false line directive rest rest' q = tt

branches_follow : (line : ℕ) (e : Option Expression) (s s' other other' : Option Statement) → Follows unmarked_statement s s' → Follows unmarked_statement other other'
    → Follows unmarked_statement (branches line e s other)
    (branches line e s' other')
branches_follow line (Some e) (Some s) s' (Some other) other' p q =
    ap₂ (branches line (Some e)) p q
branches_follow line (Some e) (Some s) s' None other' p q = tt
branches_follow line (Some e) None s' other other' p q = tt
branches_follow line None s s' other other' p q = tt

module _ (names : Names) where
  mutual
    statement_follows : (s : syntax.Statement) → Follows unmarked_statement (statement_of names s) (statement_of names (marks.unmarked_statement s))
    statement_follows (syntax.Block line entries) =
        map_follows (Block line) unmarked_statements unmarked_statement (λ a. refl) (statements_of names entries) (statements_of names (marks.unmarked_entries entries)) (statements_follow entries)
    statement_follows (syntax.Evaluate line None) = refl
    statement_follows (syntax.Evaluate line (Some e)) = plain_follows (effect_of names line e) (effect_plain names line e)
    statement_follows (syntax.If line e s) =
        both_follow (If line) (λ x. x) unmarked_statement unmarked_statement (λ a b. refl) (expression_of names e) (expression_of names e)
        (statement_of names s) (statement_of names (marks.unmarked_statement s)) (same_follows (expression_of names e)) (statement_follows s)
    statement_follows (syntax.IfElse line e s other) =
        branches_follow line (expression_of names e) (statement_of names s) (statement_of names (marks.unmarked_statement s))
        (statement_of names other) (statement_of names (marks.unmarked_statement other)) (statement_follows s) (statement_follows other)
    statement_follows (syntax.While line e s) =
        both_follow (While line) (λ x. x) unmarked_statement unmarked_statement (λ a b. refl) (expression_of names e) (expression_of names e)
        (statement_of names s) (statement_of names (marks.unmarked_statement s)) (same_follows (expression_of names e)) (statement_follows s)
    statement_follows (syntax.Return line (Some e)) =
        plain_follows (where_true (is_in_main names) (option_map (Return line) (expression_of names e))) (return_plain names line e)
    statement_follows s = tt

    statements_follow : (entries : syntax.Entries) → Follows unmarked_statements (statements_of names entries) (statements_of names (marks.unmarked_entries entries))
    statements_follow syntax.NoEntries = refl
    statements_follow (syntax.MoreEntries (syntax.Declared d) others) = tt
    statements_follow (syntax.MoreEntries (syntax.Marked m) others) =
        gone_follows (is_in_main names) m.line (directive_of (kinds_of m.words)) (statements_of names others) (statements_of names (marks.unmarked_entries others)) (statements_follow others)
    statements_follow (syntax.MoreEntries (syntax.Stated s) others) =
        before_follows (statement_of names s) (statement_of names (marks.unmarked_statement s)) (statements_of names others) (statements_of names (marks.unmarked_entries others))
        (statement_stated names s) (statement_follows s) (statements_follow others)

-- ---- bodies

value_plain : (names : Names) (line k : ℕ) (value : Option syntax.Initialiser) → IfSome (with_value names line k value) IsNoDirective
value_plain names line k None = (refl, refl)
value_plain names line k (Some (syntax.Value e)) = of_any_map (Initialise line k) IsNoDirective (λ a. (refl, refl)) (expression_of names e)
value_plain names line k (Some other) = tt

variable_plain : (names : Names) (line : ℕ) (x : syntax.Declarator) → IfSome (variable names line x) IsNoDirective
variable_plain names line x =
    of_where IsNoDirective (may_declare names x.name) (with_value (with_object names x.name) line (length names.objects) x.initialiser)
    (λ is. value_plain (with_object names x.name) line (length names.objects) x.initialiser)

declared_plain : (names : Names) (d : syntax.Declaration) → IfSome (item_of names (syntax.Declared d)) IsNoDirective
declared_plain names d = of_then (variable names d.line) IsNoDirective (variable_plain names d.line) (declared d)

items_follow : (entries : syntax.Entries) (names : Names) → Follows unmarked_statements (items_of names entries) (items_of names (marks.unmarked_entries entries))
items_follow syntax.NoEntries names = refl
items_follow (syntax.MoreEntries (syntax.Declared d) others) names =
    let one = item_of names (syntax.Declared d) in
    let after = behind names (syntax.Declared d) in
    before_follows one one (items_of after others) (items_of after (marks.unmarked_entries others))
    (plain_stated one (declared_plain names d)) (plain_follows one (declared_plain names d)) (items_follow others after)
items_follow (syntax.MoreEntries (syntax.Marked m) others) names =
    gone_follows (is_in_main names) m.line (directive_of (kinds_of m.words)) (items_of names others) (items_of names (marks.unmarked_entries others)) (items_follow others names)
items_follow (syntax.MoreEntries (syntax.Stated s) others) names =
    before_follows (statement_of names s) (statement_of names (marks.unmarked_statement s)) (items_of names others) (items_of names (marks.unmarked_entries others))
    (statement_stated names s) (statement_follows names s) (items_follow others names)

-- marks declare nothing
same_behind : (entries : syntax.Entries) (names : Names) → behind_all names (marks.unmarked_entries entries) ≡ behind_all names entries
same_behind syntax.NoEntries names = refl
same_behind (syntax.MoreEntries (syntax.Declared d) others) names = same_behind others (behind names (syntax.Declared d))
same_behind (syntax.MoreEntries (syntax.Marked m) others) names = same_behind others names
same_behind (syntax.MoreEntries (syntax.Stated s) others) names = same_behind others names

-- ---- functions

body_follows : (is_task : Bool) (line end : ℕ) (names : Names) (body : Option syntax.Body)
    → Follows unmarked_function (body_of is_task line end names body) (body_of false line end names (option_map marks.unmarked_body body))
body_follows is_task line end names None = tt
body_follows is_task line end names (Some body) = by (items_of names body.entries) (items_of names (marks.unmarked_entries body.entries)) (items_follow body.entries names)
  where
    by : (items others : Option Statements) → Follows unmarked_statements items others
        → Follows unmarked_function (option_map (with_body is_task line end names body.entries) items) (option_map (with_body false line end names (marks.unmarked_entries body.entries)) others)
    by None others p = tt
    by (Some ss) others p =
        ap (option_map (with_body false line end names (marks.unmarked_entries body.entries))) p
        ∙ ap (λ (last : Names). Some (record { is_task = false; line = line; end = end; parameters = names.parameters; variables = length last.objects - names.parameters; body = unmarked_statements ss })) (same_behind body.entries names)

-- the function of this tree without its mark
abbrev unmarked_tree : syntax.Function → syntax.Function
unmarked_tree f = record f { directive = None; body = option_map marks.unmarked_body f.body }

task_follows : (f : syntax.Function) (parameter : List ℕ) (is_task : Option Bool)
    → Follows unmarked_function (option_and_then (λ is_task. body_of is_task f.line f.end (in_function parameter) f.body) is_task)
    (body_of false f.line f.end (in_function parameter) (option_map marks.unmarked_body f.body))
task_follows f parameter None = tt
task_follows f parameter (Some is_task) = body_follows is_task f.line f.end (in_function parameter) f.body

pointed_follows : (f : syntax.Function) (parameter : Option (List ℕ)) → Follows unmarked_function (option_and_then (function_with f) parameter) (option_and_then (function_with (unmarked_tree f)) parameter)
pointed_follows f None = tt
pointed_follows f (Some parameter) =
    where_follows unmarked_function (is_fresh [] parameter) (is_fresh [] parameter) (λ is. is)
    (option_and_then (λ is_task. body_of is_task f.line f.end (in_function parameter) f.body) (is_task_of parameter f.directive))
    (body_of false f.line f.end (in_function parameter) (option_map marks.unmarked_body f.body)) (task_follows f parameter (is_task_of parameter f.directive))

function_follows : (names : List (List ℕ)) (f : syntax.Function) → Follows unmarked_function (function_behind names f) (function_behind names (unmarked_tree f))
function_follows names f =
    let holds = is_void f.specifiers && is_empty f.stars && may_define names f.name in
    where_follows unmarked_function holds holds (λ is. is) (option_and_then (function_with f) (pointer_of f.parameters)) (option_and_then (function_with (unmarked_tree f)) (pointer_of f.parameters))
    (pointed_follows f (pointer_of f.parameters))

main_follows : (names : List (List ℕ)) (f : syntax.Function) → Follows unmarked_function (main_behind names f) (main_behind names (unmarked_tree f))
main_follows names f =
    where_follows unmarked_function (by (is_none f.directive)) (by true) (without (is_none f.directive))
    (body_of false f.line f.end (in_main names) f.body) (body_of false f.line f.end (in_main names) (option_map marks.unmarked_body f.body)) (body_follows false f.line f.end (in_main names) f.body)
  where
    by : Bool → Bool
    by unmarked = unmarked && is_int f.specifiers && is_empty f.stars && bytes_eq f.name (codes "main") && is_void_alone f.parameters

    without : (b : Bool) → by b ≡ true → by true ≡ true
    without true is = is
    without false is = absurd cc

-- ---- programs

programs_follow : (items : syntax.Tree) (names : List (List ℕ)) → Follows unmarked (program_behind names items) (program_behind names (marks.unmarked items))
programs_follow [] names = tt
programs_follow (syntax.Declare d ∷ items) names = tt
programs_follow (syntax.Define f ∷ []) names =
    map_follows main_alone unmarked_function unmarked (λ a. refl) (main_behind names f) (main_behind names (unmarked_tree f)) (main_follows names f)
programs_follow (syntax.Define f ∷ i ∷ items) names =
    both_follow with_function unmarked_function unmarked unmarked (λ a b. refl) (function_behind names f) (function_behind names (unmarked_tree f))
    (program_behind (names ++ f.name ∷ []) (i ∷ items)) (program_behind (names ++ f.name ∷ []) (marks.unmarked (i ∷ items)))
    (function_follows names f) (programs_follow (i ∷ items) (names ++ f.name ∷ []))

pub unmarked_programs : (tree : syntax.Tree) (p : Program) → program_of tree ≡ Some p → program_of (marks.unmarked tree) ≡ Some (unmarked p)
unmarked_programs tree p is = subst (λ r. Follows unmarked r (program_of (marks.unmarked tree))) is (programs_follow tree [])
