-- The codes of functions, one behind another, in the code's vectors.
use Rattle.std.proofs.Common.{◌≡◌, ℕ, List, [], ◌∷◌, ◌++◌, map, length, sym, ap, ◌∙◌, append_assoc}
use Rattle.std.proofs.lemmas.List.{map-append, length-map}
use Rattle.css_small.specs.declared.tree as coded
use Rattle.css_small.specs.Tree.{Program, function}
use Rattle.css_vm.specs.declared.code as made
use Rattle.css_vm.specs.Code.{Routine, Code, routine}
use Rattle.css_small_code.specs.Code.{function_code, main_code, program_code}

-- of the functions that are left, one more is made
pub one_more : (items new : List made.Function.Function) (f : made.Function.Function) (tree : coded.Function.Function) (rest : List coded.Function.Function) (all : List Routine) → new ≡ items ++ f ∷ [] → routine f ≡ function_code (function tree) →
    map routine items ++ map function_code (map function (tree ∷ rest)) ≡ all → map routine new ++ map function_code (map function rest) ≡ all
one_more items new f tree rest all is same before =
    let left = map function_code (map function rest) in
    ap (λ fs. map routine fs ++ left) is
    ∙ ap (λ rs. rs ++ left) (map-append routine items (f ∷ []))
    ∙ append_assoc (map routine items) (routine f ∷ []) left
    ∙ ap (λ r. map routine items ++ r ∷ left) same
    ∙ before

-- the functions, and main behind them, with main's number
pub all_made : (p : Program) (items new : List made.Function.Function) (last : made.Function.Function) (main : ℕ) → map routine items ≡ map function_code p.functions → routine last ≡ main_code p.functions p.main → new ≡ items ++ last ∷ [] → main ≡ length items →
    program_code p ≡ record { functions = map routine new; main = main }
all_made p items new last main front back both number =
    let fs = map routine items in
    let makes = λ (functions : List Routine) (main : ℕ). let code : Code = record { functions = functions; main = main } in code in
    let counted : length p.functions ≡ main = sym (length-map p.functions function_code) ∙ ap length (sym front) ∙ length-map items routine ∙ sym number in
    let listed : map function_code p.functions ++ main_code p.functions p.main ∷ [] ≡ map routine new =
    ap (λ rs. rs ++ main_code p.functions p.main ∷ []) (sym front) ∙ ap (λ r. fs ++ r ∷ []) (sym back) ∙ sym (map-append routine items (last ∷ [])) ∙ ap (map routine) (sym both) in
    ap (λ functions. makes functions (length p.functions)) listed ∙ ap (makes (map routine new)) counted
