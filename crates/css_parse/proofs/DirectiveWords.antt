-- The words of a directive as tokens in a row.
use Rattle.std.proofs.Common.{◌≡◌, ℕ, List, [], ◌∷◌, ◌++◌, Option, Some, Vec, Global, refl, sym, ap, ◌∙◌}
use mathlib.Core.Former.{Count}
use Rattle.css_base.specs.declared.token.Token.{Token}
use Rattle.css_base.specs.declared.token.TokenKind.{TokenKind, Row_of-Token, end_of-Token, more_of-Token, items-the_row-Token, items_hidden-the_row-Token-0}
use Rattle.css_base.specs.declared.token.TokenKind as code
use Rattle.css_base.specs.Tokens.{Kind, Directive, Lexeme, At, Lexemes, End, More, kind_of, lexemes_of, lexemes}
use Rattle.css_tree.specs.Shapes.{in_row}

of_row : (n : _) (row : Row_of-Token n) → lexemes_of row ≡ in_row (lexemes (items-the_row-Token n row))
of_row n end_of-Token = refl
of_row n (more_of-Token kind line place end words) = ap (More (At (kind_of kind) line place end)) (of_row _ words)

abbrev row_of : TokenKind → (n : Count) × Row_of-Token n
row_of (code.Directive' shape words) = (_, words)
row_of _ = (_, end_of-Token)

pub kind-Directive : (words : Vec Token Global) → kind_of (code.Directive words) ≡ Directive (in_row (lexemes words.items))
kind-Directive words =
    let row = row_of (code.Directive words) in
    ap Directive (of_row row.0 row.1 ∙ ap (λ (items : List Token). in_row (lexemes items)) (items_hidden-the_row-Token-0 words))
