-- Programs without directives.
use Rattle.std.proofs.Common.{◌≡◌, false, if◌then◌else◌, List, [], ◌∷◌, map, length, ℕ, ◌+◌, ◌<◌, ◌^◌, refl, sym, ap, ap₂, ◌∙◌, subst}
use Rattle.css_small.specs.Numbers.{Scope, AreWithin, AllWithin, IsNumbered, HasNumbers}
use Rattle.std.specs.List.{AllByRecursion}
use Rattle.std.proofs.lemmas.List.{length-map}
use Rattle.std.proofs.lemmas.List.Elements.{All-from_recursion, recursion_from_All}
use Rattle.css_small.specs.Tree.{Statement, Mark, Block, If, IfElse, While, Statements, End, More, is_directive, Function, Program}
use Rattle.css_small_code.specs.Marks.{IsUnmarked, AreUnmarked, HasNoDirectives}
use Rattle.css_erasing.specs.Unmarked.{unmarked_statement, unmarked_statements, unmarked_function, unmarked}

-- ---- none stands

before_unmarked : (s : Statement) (rest : Statements) → IsUnmarked (unmarked_statement s) → AreUnmarked rest → AreUnmarked (if is_directive s then rest else More (unmarked_statement s) rest)
before_unmarked (Mark line kind) rest one others = others
before_unmarked s rest one others = (one, others)

mutual
  is_unmarked : (s : Statement) → IsUnmarked (unmarked_statement s)
  is_unmarked (Block line all) = are_unmarked all
  is_unmarked (If line e s) = is_unmarked s
  is_unmarked (IfElse line e s other) = (is_unmarked s, is_unmarked other)
  is_unmarked (While line e s) = is_unmarked s
  is_unmarked s = tt

  are_unmarked : (all : Statements) → AreUnmarked (unmarked_statements all)
  are_unmarked End = tt
  are_unmarked (More s rest) = before_unmarked s (unmarked_statements rest) (is_unmarked s) (are_unmarked rest)

abbrev Meets : Function → Type 0
Meets f = (f.is_task ≡ false) × AreUnmarked f.body

functions_meet : (functions : List Function) → AllByRecursion Meets (map unmarked_function functions)
functions_meet [] = tt
functions_meet (f ∷ functions) = ((refl, are_unmarked f.body), functions_meet functions)

pub none_stands : (p : Program) → HasNoDirectives (unmarked p)
none_stands p = record {
  functions = All-from_recursion Meets (map unmarked_function p.functions) (functions_meet p.functions);
  main = are_unmarked p.main.body;
}

-- ---- others stay

no_directive : (s : Statement) → IsUnmarked s → is_directive s ≡ false
no_directive (Mark line kind) h = absurd h
no_directive s h = refl

mutual
  same_statement : (s : Statement) → IsUnmarked s → unmarked_statement s ≡ s
  same_statement (Mark line kind) h = absurd h
  same_statement (Block line all) h = ap (Block line) (same_statements all h)
  same_statement (If line e s) h = ap (If line e) (same_statement s h)
  same_statement (IfElse line e s other) h = ap₂ (IfElse line e) (same_statement s h.0) (same_statement other h.1)
  same_statement (While line e s) h = ap (While line e) (same_statement s h)
  same_statement s h = refl

  same_statements : (all : Statements) → AreUnmarked all → unmarked_statements all ≡ all
  same_statements End h = refl
  same_statements (More s rest) h =
      ap (λ b. if b then unmarked_statements rest else More (unmarked_statement s) (unmarked_statements rest)) (no_directive s h.0) ∙ ap₂ More (same_statement s h.0) (same_statements rest h.1)

same_function : (f : Function) → f.is_task ≡ false → AreUnmarked f.body → unmarked_function f ≡ f
same_function f plain h = ap₂ (λ task body. record f { is_task = task; body = body }) (sym plain) (same_statements f.body h)

same_functions : (functions : List Function) → AllByRecursion Meets functions → map unmarked_function functions ≡ functions
same_functions [] h = refl
same_functions (f ∷ functions) h = ap₂ (λ x xs. x ∷ xs) (same_function f h.0.0 h.0.1) (same_functions functions h.1)

pub others_stay : (p : Program) → HasNoDirectives p → p.main.is_task ≡ false → unmarked p ≡ p
others_stay p h plain =
    ap₂ (λ functions main. record { functions = functions; main = main }) (same_functions p.functions (recursion_from_All Meets p.functions h.functions)) (same_function p.main plain h.main)

-- ---- numbers stay in their ranges

before_within : (scope : Scope) (s : Statement) (rest : Statements) → AreWithin scope (unmarked_statement s) → AllWithin scope rest → AllWithin scope (if is_directive s then rest else More (unmarked_statement s) rest)
before_within scope (Mark line kind) rest one others = others
before_within scope s rest one others = (one, others)

module _ (scope : Scope) where
  mutual
    still_within : (s : Statement) → AreWithin scope s → AreWithin scope (unmarked_statement s)
    still_within (Mark line kind) h = tt
    still_within (Block line all) h = still_all_within all h
    still_within (If line e s) h = (h.0, still_within s h.1)
    still_within (IfElse line e s other) h = (h.0, still_within s h.1, still_within other h.2)
    still_within (While line e s) h = (h.0, still_within s h.1)
    still_within s h = h

    still_all_within : (all : Statements) → AllWithin scope all → AllWithin scope (unmarked_statements all)
    still_all_within End h = tt
    still_all_within (More s rest) h = before_within scope s (unmarked_statements rest) (still_within s h.0) (still_all_within rest h.1)

still_numbered : (functions : ℕ) (f : Function) → IsNumbered functions f → IsNumbered functions (unmarked_function f)
still_numbered functions f h = record {
  few = h.few;
  within = still_all_within (record { parameters = f.parameters; objects = f.parameters + f.variables; functions = functions }) f.body h.within;
}

abbrev IsCalled : Function → Type 0
IsCalled f = (f.parameters ≡ 1) × IsNumbered 0 f

still_called : (functions : List Function) → AllByRecursion IsCalled functions → AllByRecursion IsCalled (map unmarked_function functions)
still_called [] h = tt
still_called (f ∷ functions) h = ((h.0.0, still_numbered 0 f h.0.1), still_called functions h.1)

pub numbers_fit : (p : Program) → HasNumbers p → HasNumbers (unmarked p)
numbers_fit p h =
    let same = length-map p.functions unmarked_function in
    record {
      functions = All-from_recursion IsCalled (map unmarked_function p.functions) (still_called p.functions (recursion_from_All IsCalled p.functions h.functions));
      few = subst (λ k. k < 2 ^ 32) (sym same) h.few;
      main = (h.main.0, refl, subst (λ k. IsNumbered k (unmarked_function p.main)) (sym same) (still_numbered (length p.functions) p.main h.main.2));
    }
