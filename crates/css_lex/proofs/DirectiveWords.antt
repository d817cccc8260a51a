-- A directive's words as plain data.
use Rattle.std.proofs.Common.{◌≡◌, List, Vec, Global, refl, ap, ◌∙◌}
use mathlib.Core.Former.{Count}
use Rattle.css_base.specs.declared.token.Token.{Token}
use Rattle.css_base.specs.declared.token.TokenKind as code
use Rattle.css_base.specs.declared.token.TokenKind.{TokenKind, Row_of-Token, end_of-Token, more_of-Token, items-the_row-Token, items_hidden-the_row-Token-0}
use Rattle.css_base.specs.Tokens.{Directive, At, More, kind_of, lexemes_of, lexemes}
use Rattle.css_lex.specs.Spelling.{in_order}

of_row : (n : _) (row : Row_of-Token n) → lexemes_of row ≡ in_order (lexemes (items-the_row-Token n row))
of_row n end_of-Token = refl
of_row n (more_of-Token kind line place end words) = ap (More (At (kind_of kind) line place end)) (of_row _ words)

abbrev row_of : TokenKind → (n : Count) × Row_of-Token n
row_of (code.Directive' _ row) = (_, row)
row_of _ = (_, end_of-Token)

pub directive_is : (words : Vec Token Global) → kind_of (code.Directive words) ≡ Directive (in_order (lexemes words.items))
directive_is words =
    let row = row_of (code.Directive words) in
    ap Directive (of_row row.0 row.1 ∙ ap (λ (items : List Token). in_order (lexemes items)) (items_hidden-the_row-Token-0 words))
