use Rattle.std.proofs.Common.{length, arith}
use Rattle.css_macros.proofs.Levels.{levels_enough, levels_enough-names, few_macros}
use Rattle.css_macros.proofs.macro_laws.levels_are_enough.Goals as goal

pub returns-clause-tokens : goal.returns-clause-tokens
returns-clause-tokens c = λ levels table kind within. let few = few_macros table in levels_enough levels (length table) table kind (omega arith) few

pub returns-clause-names : goal.returns-clause-names
returns-clause-names c = λ levels table kind within. let few = few_macros table in levels_enough-names levels (length table) table kind (omega arith) few
