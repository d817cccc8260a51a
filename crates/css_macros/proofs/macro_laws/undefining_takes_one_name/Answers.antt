use Rattle.std.proofs.Common.{◌∙◌, ap, cond, None}
use Rattle.std.proofs.lemmas.Cmp.{nat_list_eq_equiv}
use Rattle.css_macros.specs.Macros.{macro_of}
use Rattle.css_macros.proofs.Frames.{undefined-lookup}
use Rattle.css_macros.proofs.Definitions.{apart}
use Rattle.css_macros.proofs.macro_laws.undefining_takes_one_name.Goals as goal

pub returns-clause-this : goal.returns-clause-this
returns-clause-this c = λ table name. undefined-lookup table name name ∙ ap (λ v. cond v None (macro_of table name)) (nat_list_eq_equiv.refl name)

pub returns-clause-others : goal.returns-clause-others
returns-clause-others c = λ table name other ne. undefined-lookup table name other ∙ ap (λ v. cond v None (macro_of table other)) (apart name other ne)
