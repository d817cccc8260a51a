-- Directives open and close no bracket.
use Rattle.std.proofs.Common.{◌≡◌, ℕ, ◌≤◌, List, [], ◌∷◌, ◌++◌, fold, refl, sym, ap, ◌∙◌, subst}
use Rattle.css_base.specs.Tokens.{Directive, Lexeme, At}
use Rattle.css_lex.specs.WithoutDirectives.{without_directives}
use Rattle.css_tree.specs.Brackets.{open_behind, left_open, IsShallow}
use Rattle.css_unmarking.proofs.Others.{ahead, kinds_same, AreOthers}

open_without : (n : ℕ) (ts : List Lexeme) → left_open n (without_directives ts) ≡ left_open n ts
unfolding open_behind
open_without n [] = refl
open_without n (At (Directive words) line place end ∷ ts) = open_without n ts
open_without n (At kind line place end ∷ ts) = open_without (open_behind n kind) ts

open_others : (n : ℕ) (ts us : List Lexeme) → AreOthers ts us → left_open n us ≡ left_open n ts
open_others n ts us h = ap (λ ks. fold open_behind n ks) (kinds_same (without_directives ts) us h) ∙ open_without n ts

-- A front of the others is that of a front.
record Front (ts front : List Lexeme) : Type 0 where
  before : List Lexeme
  behind : List Lexeme
  parts : ts ≡ before ++ behind
  others : AreOthers before front

front_of : (ts front rest : List Lexeme) → AreOthers ts (front ++ rest) → Front ts front
front_of ts [] rest h = record { before = []; behind = ts; parts = refl; others = refl }
front_of [] (u ∷ front) rest h = absurd cc
front_of (At (Directive words) line place end ∷ ts) (u ∷ front) rest h =
    let more = front_of ts (u ∷ front) rest h in
    record { before = At (Directive words) line place end ∷ more.before; behind = more.behind; parts = ahead _ ts more.before more.behind more.parts; others = more.others }
front_of (At kind line place end ∷ ts) (u ∷ front) rest h =
    let more = front_of ts front rest cc in
    record { before = At kind line place end ∷ more.before; behind = more.behind; parts = ahead _ ts more.before more.behind more.parts; others = cc }

pub shallow_others : (ts us : List Lexeme) → AreOthers ts us → IsShallow ts → IsShallow us
shallow_others ts us h shallow front rest e =
    let found = front_of ts front rest (subst (λ l. AreOthers ts l) e h) in
    subst (λ n. n ≤ 200) (sym (open_others 0 found.before front found.others)) (shallow found.before found.behind found.parts)
