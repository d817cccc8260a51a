-- Tokens of macros as plain data.
use Rattle.std.specs.Prelude.{List, map}
use Rattle.css_base.specs.Tokens.{Kind, Word, Number, Character, Text, Punctuator}
use Rattle.css_macros.specs.declared.macro_token.MacroToken.{MacroToken}
use Rattle.css_macros.specs.declared.macro_token.MacroToken.TheVariants as code

abbrev pub plain_kind : MacroToken → Kind
plain_kind (code.Word bytes) = Word bytes
plain_kind (code.Number type value) = Number type value
plain_kind (code.Character byte) = Character byte
plain_kind (code.Text bytes) = Text bytes
plain_kind (code.Punctuator bytes) = Punctuator bytes

abbrev pub plain_kinds : List MacroToken → List Kind
plain_kinds tokens = map plain_kind tokens
