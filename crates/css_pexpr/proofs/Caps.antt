-- Trees up to a height.
use Rattle.std.proofs.Common.{◌≡◌, ℕ, ◌+◌, ◌<◌, ◌≤◌, max, Bool, true, false, nat_le, List, [], ◌∷◌, ◌++◌, Option, Some, None, refl, sym, ap, ◌∙◌, subst, arith, if◌then◌else◌, le_trans}
use Rattle.std.specs.Prelude.{option_map, option_and_then}
use Rattle.std.proofs.lemmas.Bool.{leb-true, le-leb, false_from_ne_true}
use Rattle.css_tree.specs.Syntax.{Expression, Call, Name, Expressions, End, More}
use Rattle.css_tree.specs.Heights.{height, height_of_arguments}
use Rattle.css_pexpr.specs.Arguments.{in_order}
use Rattle.css_pexpr.specs.Frames.{Node, capped, made_of, made_of_two, made_of_three, with_argument, call_of, called}

pub capped_low : (most : ℕ) (e : Expression) → nat_le (height e) most ≡ true → capped most e ≡ Some e
unfolding capped
capped_low most e h = ap (λ b. if b then Some e else None) h

pub capped_high : (most : ℕ) (e : Expression) → nat_le (height e) most ≡ false → capped most e ≡ None
unfolding capped
capped_high most e h = ap (λ b. if b then Some e else None) h

-- what is higher is higher than what is kept
higher : (most n k : ℕ) → n ≤ k → nat_le n most ≡ false → nat_le k most ≡ false
higher most n k low h = false_from_ne_true (nat_le k most) (λ e. let fits = leb-true k most e in let fit = le-leb n most (le_trans low fits) in absurd cc)

pub made_of_capped : (most : ℕ) (make : Expression → Expression) (a : Expression) → height a ≤ height (make a) → made_of most make (capped most a) ≡ capped most (make a)
made_of_capped most make a low = by (nat_le (height a) most) refl
  where
    by : (b : Bool) → nat_le (height a) most ≡ b → made_of most make (capped most a) ≡ capped most (make a)
    by true e = ap (made_of most make) (capped_low most a e)
    by false e = ap (made_of most make) (capped_high most a e) ∙ sym (capped_high most (make a) (higher most (height a) (height (make a)) low e))

pub made_of_two_capped : (most : ℕ) (make : Expression → Expression → Expression) (a b : Expression) → height a ≤ height (make a b) → height b ≤ height (make a b)
    → made_of_two most make (capped most a) (capped most b) ≡ capped most (make a b)
made_of_two_capped most make a b low also = by (nat_le (height a) most) refl
  where
    by : (t : Bool) → nat_le (height a) most ≡ t → made_of_two most make (capped most a) (capped most b) ≡ capped most (make a b)
    by true e = ap (λ x. made_of_two most make x (capped most b)) (capped_low most a e) ∙ made_of_capped most (make a) b also
    by false e = ap (λ x. made_of_two most make x (capped most b)) (capped_high most a e) ∙ sym (capped_high most (make a b) (higher most (height a) (height (make a b)) low e))

pub made_of_three_capped : (most : ℕ) (make : Expression → Expression → Expression → Expression) (a b c : Expression)
    → height a ≤ height (make a b c) → height b ≤ height (make a b c) → height c ≤ height (make a b c)
    → made_of_three most make (capped most a) (capped most b) (capped most c) ≡ capped most (make a b c)
made_of_three_capped most make a b c low also last = by (nat_le (height a) most) refl
  where
    by : (t : Bool) → nat_le (height a) most ≡ t → made_of_three most make (capped most a) (capped most b) (capped most c) ≡ capped most (make a b c)
    by true e = ap (λ x. made_of_three most make x (capped most b) (capped most c)) (capped_low most a e) ∙ made_of_two_capped most (make a) b c also last
    by false e = ap (λ x. made_of_three most make x (capped most b) (capped most c)) (capped_high most a e) ∙ sym (capped_high most (make a b c) (higher most (height a) (height (make a b c)) low e))

-- ---- arguments

-- arguments, where all of them are kept
pub capped_list : ℕ → List Expression → Option (List Expression)
capped_list most es = if nat_le (height_of_arguments (in_order es)) most then Some es else None

-- arguments before others
abbrev pub prepend : List Expression → Expressions → Expressions
prepend [] others = others
prepend (e ∷ es) others = More e (prepend es others)

pub in_order-prepend : (es : List Expression) → in_order es ≡ prepend es End
in_order-prepend [] = refl
in_order-prepend (e ∷ es) = ap (More e) (in_order-prepend es)

pub prepend-last : (es : List Expression) (e : Expression) (others : Expressions) → prepend (es ++ e ∷ []) others ≡ prepend es (More e others)
prepend-last [] e others = refl
prepend-last (x ∷ es) e others = ap (More x) (prepend-last es e others)

height-last : (es : List Expression) (e : Expression) → height_of_arguments (in_order (es ++ e ∷ [])) ≡ max (height_of_arguments (in_order es)) (height e)
height-last [] e = omega arith
height-last (x ∷ es) e = let h = height-last es e in omega arith

list_low : (most : ℕ) (es : List Expression) → nat_le (height_of_arguments (in_order es)) most ≡ true → capped_list most es ≡ Some es
unfolding capped_list
list_low most es h = ap (λ b. if b then Some es else None) h

list_high : (most : ℕ) (es : List Expression) → nat_le (height_of_arguments (in_order es)) most ≡ false → capped_list most es ≡ None
unfolding capped_list
list_high most es h = ap (λ b. if b then Some es else None) h

pub no_arguments : (most : ℕ) → capped_list most [] ≡ Some []
no_arguments most = list_low most [] (le-leb 0 most (omega arith))

pub no_arguments_so : (most : ℕ) (es : List Expression) → capped_list most es ≡ Some [] → es ≡ []
no_arguments_so most es h = by (nat_le (height_of_arguments (in_order es)) most) refl
  where
    by : (b : Bool) → nat_le (height_of_arguments (in_order es)) most ≡ b → es ≡ []
    by true e = let k = list_low most es e in cc
    by false e = let k = list_high most es e in absurd cc

pub with_argument_capped : (most : ℕ) (es : List Expression) (e : Expression) → with_argument (capped_list most es) (capped most e) ≡ capped_list most (es ++ e ∷ [])
with_argument_capped most es e = by (nat_le (height_of_arguments (in_order es)) most) (nat_le (height e) most) refl refl
  where
    whole : ℕ
    whole = height_of_arguments (in_order (es ++ e ∷ []))

    by : (b c : Bool) → nat_le (height_of_arguments (in_order es)) most ≡ b → nat_le (height e) most ≡ c → with_argument (capped_list most es) (capped most e) ≡ capped_list most (es ++ e ∷ [])
    by true true p q =
        let low = leb-true (height_of_arguments (in_order es)) most p in
        let also = leb-true (height e) most q in
        let h = height-last es e in
        ap (λ x. with_argument x (capped most e)) (list_low most es p) ∙ ap (with_argument (Some es)) (capped_low most e q)
        ∙ sym (list_low most (es ++ e ∷ []) (le-leb (height_of_arguments (in_order (es ++ e ∷ []))) most (omega arith)))
    by true false p q =
        let h = height-last es e in
        ap (λ x. with_argument x (capped most e)) (list_low most es p) ∙ ap (with_argument (Some es)) (capped_high most e q)
        ∙ sym (list_high most (es ++ e ∷ []) (higher most (height e) (height_of_arguments (in_order (es ++ e ∷ []))) (omega arith) q))
    by false c p q =
        let h = height-last es e in
        ap (λ x. with_argument x (capped most e)) (list_high most es p)
        ∙ sym (list_high most (es ++ e ∷ []) (higher most (height_of_arguments (in_order es)) (height_of_arguments (in_order (es ++ e ∷ []))) (omega arith) p))

pub called_capped : (most line other : ℕ) (name : List ℕ) (es : List Expression)
    → called most line (capped most (Name other name)) (capped_list most es) ≡ capped most (Call line name (in_order es))
called_capped most line other name es = by (nat_le (height_of_arguments (in_order es)) most) refl
  where
    named : (b : Bool) → nat_le 1 most ≡ b → call_of most line es (capped most (Name other name)) ≡ capped most (Call line name (in_order es))
    named true e = ap (call_of most line es) (capped_low most (Name other name) e)
    named false e =
        ap (call_of most line es) (capped_high most (Name other name) e)
        ∙ sym (capped_high most (Call line name (in_order es)) (higher most 1 (height (Call line name (in_order es))) (omega arith) e))

    by : (b : Bool) → nat_le (height_of_arguments (in_order es)) most ≡ b → called most line (capped most (Name other name)) (capped_list most es) ≡ capped most (Call line name (in_order es))
    by true e = ap (called most line (capped most (Name other name))) (list_low most es e) ∙ named (nat_le 1 most) refl
    by false e =
        ap (called most line (capped most (Name other name))) (list_high most es e)
        ∙ sym (capped_high most (Call line name (in_order es)) (higher most (height_of_arguments (in_order es)) (height (Call line name (in_order es))) (omega arith) e))
