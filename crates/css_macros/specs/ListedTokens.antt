-- Tokens of defined macros, whose words have numbers.
use Rattle.std.specs.Prelude.{ℕ, Bool, false, List, Option, None, Some, map, is_none}
use Rattle.css_base.specs.Tokens.{Kind}
use Rattle.css_macros.specs.MacroTokens.{plain_kind}
use Rattle.css_macros.specs.Numbers.{stands_for}
use Rattle.css_macros.specs.declared.macro_token.MacroToken.{MacroToken}
use Rattle.css_macros.specs.declared.macro_token.MacroToken.TheVariants as code
use Rattle.css_macros.specs.declared.listed_token.ListedToken.{ListedToken}

abbrev pub listed_kind : ListedToken → Kind
listed_kind token = plain_kind token.token

abbrev pub listed_kinds : List ListedToken → List Kind
listed_kinds tokens = map listed_kind tokens

-- This is the number of the word that a token is, and there is none for another token.
abbrev pub is_number_of : List (List ℕ) → MacroToken → Option ℕ → Bool
is_number_of words (code.Word bytes) None = false
is_number_of words (code.Word bytes) (Some number) = stands_for words number bytes
is_number_of words (code.Number type value) number = is_none number
is_number_of words (code.Character byte) number = is_none number
is_number_of words (code.Text bytes) number = is_none number
is_number_of words (code.Punctuator bytes) number = is_none number

abbrev pub is_listed : List (List ℕ) → ListedToken → Bool
is_listed words token = is_number_of words token.token token.number
