-- The conversions of a call's arguments, one by one.
use Rattle.std.proofs.Common.{◌≡◌, ℕ, ◌+◌, ◌<◌, ◌≤◌, List, [], ◌∷◌, ◌++◌, length, map, drop, get_or, Ok, Err, Result, IsErrOf, IsErrAnd, refl, sym, ap, ◌∙◌, arith}
use Rattle.std.proofs.lemmas.List.{drop_more, at_drop_all}
use Rattle.css_base.specs.declared.static_fault.StaticFault.{StaticFault}
use Rattle.css_core.specs.declared.expression.Expression.{Expression}
use Rattle.css_core.specs.Core.{Expressions, Empty, More}
use Rattle.css_core.specs.Shapes as core
use Rattle.css_type_table.specs.declared.ctype.CType.{CType}
use Rattle.css_type_table.specs.Lists.{Lists}
use Rattle.css_type_table.specs.Flat.{ctype}
use Rattle.css_operands.specs.declared.refusal.Refusal.{Refusal}
use Rattle.css_operands.specs.declared.refusal.Refusal.TheVariants.{Broken}
use Rattle.css_operands.specs.declared.operand.Operand as code
use Rattle.css_types.specs.Judged.{Judged, after, broken}
use Rattle.css_base.specs.declared.static_fault.StaticName.TheVariants.{TypeMismatch}
use Rattle.css_types.specs.Operands.{converted_to, converted_arguments}
use Rattle.css_operands.specs.Shapes.{operand}

-- expressions before others
abbrev pub before : List Expression → Expressions → Expressions
before [] others = others
before (e ∷ es) others = More (core.expression e) (before es others)

before-append : (done : List Expression) (e : Expression) (others : Expressions) → before (done ++ e ∷ []) others ≡ before done (More (core.expression e) others)
before-append [] e others = refl
before-append (d ∷ done) e others = ap (More (core.expression d)) (before-append done e others)

pub before-all : (done : List Expression) → before done Empty ≡ core.listed done
before-all [] = refl
before-all (d ∷ done) = ap (More (core.expression d)) (before-all done)

abbrev pub joined : List Expression → Judged Expressions → Judged Expressions
joined done judged = after judged (λ es. Ok (before done es))

abbrev pub on : Lists → (line : ℕ) → List Expression → List CType → List code.Operand → Judged Expressions
on lists line done types left = joined done (converted_arguments line (map (ctype lists) types) (map (operand lists) left))

joined-more : (done : List Expression) (e : Expression) (rest : Judged Expressions)
    → joined (done ++ e ∷ []) rest ≡ joined done (after rest (λ others. Ok (More (core.expression e) others)))
joined-more done e (Err f) = refl
joined-more done e (Ok es) = ap Ok (before-append done e es)

pub one_converted : (lists : Lists) (line : ℕ) (done : List Expression) (t : CType) (types : List CType) (all : List code.Operand) (n : ℕ) (a : code.Operand) (e : Expression)
    → n < length all → a ≡ get_or all n a → converted_to line (ctype lists t) (operand lists a) ≡ Ok (core.expression e)
    → on lists line (done ++ e ∷ []) types (drop (n + 1) all) ≡ on lists line done (t ∷ types) (drop n all)
one_converted lists line done t types all n a e below is fits =
    joined-more done e (converted_arguments line (map (ctype lists) types) (map (operand lists) (drop (n + 1) all)))
    ∙ ap (λ first. joined done (after first (λ x. after (converted_arguments line (map (ctype lists) types) (map (operand lists) (drop (n + 1) all))) (λ others. Ok (More x others))))) (sym fits)
    ∙ ap (λ x. on lists line done (t ∷ types) (x ∷ drop (n + 1) all)) is
    ∙ ap (on lists line done (t ∷ types)) (sym (drop_more all n a below))

pub one_broken : (lists : Lists) (line : ℕ) (done : List Expression) (t : CType) (types : List CType) (all : List code.Operand) (n : ℕ) (a : code.Operand) (f : StaticFault)
    → n < length all → a ≡ get_or all n a → converted_to line (ctype lists t) (operand lists a) ≡ Err f
    → on lists line done (t ∷ types) (drop n all) ≡ Err f
one_broken lists line done t types all n a f below is breaks =
    ap (on lists line done (t ∷ types)) (drop_more all n a below)
    ∙ ap (λ x. on lists line done (t ∷ types) (x ∷ drop (n + 1) all)) (sym is)
    ∙ ap (λ first. joined done (after first (λ x. after (converted_arguments line (map (ctype lists) types) (map (operand lists) (drop (n + 1) all))) (λ others. Ok (More x others))))) breaks

joined-none : (judged : Judged Expressions) → joined [] judged ≡ judged
joined-none (Ok es) = refl
joined-none (Err f) = refl

pub on-none : (lists : Lists) (line : ℕ) (types : List CType) (all : List code.Operand) → on lists line [] types all ≡ converted_arguments line (map (ctype lists) types) (map (operand lists) all)
on-none lists line types all = joined-none (converted_arguments line (map (ctype lists) types) (map (operand lists) all))

pub all_converted : (lists : Lists) (line : ℕ) (done : List Expression) (types : List CType) (all : List code.Operand) (n : ℕ) → length all ≤ n → types ≡ []
    → on lists line done types (drop n all) ≡ Ok (core.listed done)
all_converted lists line done types all n past none = at_drop_all (on lists line done types) all n past ∙ ap (λ ts. on lists line done ts []) none ∙ ap Ok (before-all done)

pub too_few : (lists : Lists) (line : ℕ) (done : List Expression) (t : CType) (types : List CType) (all : List code.Operand) (n : ℕ) → length all ≤ n
    → on lists line done (t ∷ types) (drop n all) ≡ broken TypeMismatch line
too_few lists line done t types all n past = at_drop_all (on lists line done (t ∷ types)) all n past

some_left : (types : List CType) → (0 < length types) → (t : CType) × (rest : List CType) × (types ≡ t ∷ rest)
some_left [] none = absurd (omega arith)
some_left (t ∷ types) some = (t, types, refl)

pub some_too_few : (lists : Lists) (line : ℕ) (done : List Expression) (types : List CType) (all : List code.Operand) (n : ℕ) → length all ≤ n → 0 < length types
    → on lists line done types (drop n all) ≡ broken TypeMismatch line
some_too_few lists line done types all n past some =
    let left = some_left types some in
    ap (λ ts. on lists line done ts (drop n all)) left.2 ∙ too_few lists line done left.0 left.1 all n past

-- an error that is passed on
pub passed : {T A : Type 0} (r : Result T Refusal) (x : Refusal) (f : StaticFault) → IsErrAnd r (λ e. e ≡ x) → IsErrOf r (Broken f) → IsErrOf {T = A} (Err x) (Broken f)
passed (Ok v) x f h k = absurd h
passed (Err e) x f h k = let same : e ≡ Broken f = cc in ap Err (sym h ∙ same)

pub none_left : (types : List CType) → length types < 1 → types ≡ []
none_left [] short = refl
none_left (t ∷ types) short = absurd (omega arith)
