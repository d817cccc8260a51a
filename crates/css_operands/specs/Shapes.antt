-- What the code's operands stand for, where their types are of a table.
use Rattle.std.specs.Prelude.{List, map}
use Rattle.css_core.specs.Shapes.{expression}
use Rattle.css_core.specs.Elaboration as words
use Rattle.css_types.specs.Shapes.{constant}
use Rattle.css_types.specs.Operands as rules
use Rattle.css_type_table.specs.Lists.{Lists}
use Rattle.css_type_table.specs.Flat.{ctype}
use Rattle.css_operands.specs.declared.operand.Form as forms
use Rattle.css_operands.specs.declared.operand.Operand as operands
use Rattle.css_operands.specs.declared.words.Typed as typed_words

abbrev pub form : forms.Form → rules.Form
form forms.TheVariants.Value = rules.IsValue
form forms.TheVariants.Place = rules.IsPlace
form forms.TheVariants.Given = rules.IsGiven

abbrev pub operand : Lists → operands.Operand → rules.Operand
operand lists a = record { t = ctype lists a.t; form = form a.form; constant = constant a.constant; e = expression a.e.value }

abbrev pub operands_of : Lists → List operands.Operand → List rules.Operand
operands_of lists all = map (operand lists) all

-- an expression with the type of its value in the core
abbrev pub typed : typed_words.Typed → words.Operand
typed a = record { t = a.kind; e = expression a.e.value }
