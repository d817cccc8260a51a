use Rattle.std.proofs.Common.{◌∙◌, ap, cond, Some, Option, false}
use Rattle.std.proofs.lemmas.Cmp.{nat_list_eq_equiv}
use Rattle.css_macros.specs.Macros.{Macro, macro_of}
use Rattle.css_macros.proofs.Definitions.{apart, insert-lookup}
use Rattle.css_macros.proofs.macro_laws.defining_sets_one_name.Goals as goal

pub returns-clause-this : goal.returns-clause-this
returns-clause-this c = λ table name tokens.
    let m : Option Macro = Some (record { tokens = tokens; predefined = false }) in
    insert-lookup table name name m ∙ ap (λ v. cond v m (macro_of table name)) (nat_list_eq_equiv.refl name)

pub returns-clause-others : goal.returns-clause-others
returns-clause-others c = λ table name other tokens ne.
    let m : Option Macro = Some (record { tokens = tokens; predefined = false }) in
    insert-lookup table name other m ∙ ap (λ v. cond v m (macro_of table other)) (apart name other ne)
