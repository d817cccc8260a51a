-- A token too many that opens a bracket.
use Rattle.std.proofs.Common.{◌≡◌, ℕ, ◌<◌, List, [], ◌∷◌, ◌++◌, refl, sym, ◌∙◌, arith, append_assoc}
use Rattle.css_base.specs.Tokens.{Lexeme}
use Rattle.css_tree.specs.TokenParts.{kind_at, line_of}
use Rattle.css_tree.specs.Brackets.{IsShallow, open_behind}
use Rattle.css_parse.proofs.Nesting.{IsShallowSoFar, deep}

pub not_shallow : (ts : List Lexeme) (count next : ℕ) (t : Lexeme) (rest behind : List Lexeme) → IsShallowSoFar ts count rest → rest ≡ t ∷ behind → next ≡ open_behind count (kind_at t) → 200 < next → IsShallow ts → ⊥
not_shallow ts count next t rest behind s is e high shallow =
    let d = deep ts count next (line_of t) t rest behind s is e high refl in
    let low = shallow (d.front ++ d.token ∷ []) d.rest (d.parts ∙ sym (append_assoc d.front (d.token ∷ []) d.rest)) in
    let over = d.deep in
    omega arith
