-- What a statement is by its first token.
use Rattle.std.specs.Prelude.{List, ℕ, codes, Option, Some, None, if◌then◌else◌, bytes_eq}
use Rattle.css_base.specs.Tokens.{Kind, Word, Punctuator}
use Rattle.css_parse.specs.declared.form.Form.{Form}
use Rattle.css_parse.specs.declared.form.Form.TheVariants as forms

unfoldable pub form_of_punctuator : List ℕ → Option Form
form_of_punctuator bytes = if bytes_eq bytes (codes "{") then Some forms.Block else None

unfoldable pub form_of_word : List ℕ → Option Form
form_of_word bytes =
    if bytes_eq bytes (codes "if") then Some forms.If
    else (if bytes_eq bytes (codes "while") then Some forms.While
    else (if bytes_eq bytes (codes "do") then Some forms.Do
    else (if bytes_eq bytes (codes "for") then Some forms.For
    else (if bytes_eq bytes (codes "break") then Some forms.Break
    else (if bytes_eq bytes (codes "continue") then Some forms.Continue
    else (if bytes_eq bytes (codes "return") then Some forms.Return else None))))))

-- the form of what begins with a token, where it is no expression
abbrev pub form_of : Kind → Option Form
form_of (Punctuator bytes) = form_of_punctuator bytes
form_of (Word bytes) = form_of_word bytes
form_of _ = None
