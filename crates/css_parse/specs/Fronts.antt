-- What stands at the front of some tokens.
use Rattle.std.specs.Prelude.{◌≡◌, ℕ, List, ◌∷◌}
use Rattle.css_base.specs.Tokens.{Kind, Lexeme}
use Rattle.css_tree.specs.TokenParts.{kind_at}

-- The first token has this kind, and the rest follows.
pub record Next (kind : Kind) (ts rest : List Lexeme) : Type 0 where
  pub token : Lexeme
  pub parts : ts ≡ token ∷ rest
  pub is : kind_at token ≡ kind
