use Rattle.css_macros.proofs.Levels.{replacement-macro, replacement_names-macro}
use Rattle.css_macros.proofs.macro_laws.tokens_replace_a_macro.Goals as goal

pub returns-clause-tokens : goal.returns-clause-tokens
returns-clause-tokens c = replacement-macro

pub returns-clause-names : goal.returns-clause-names
returns-clause-names c = replacement_names-macro
