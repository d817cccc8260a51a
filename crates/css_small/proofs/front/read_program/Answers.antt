use Rattle.std.proofs.Common.{◌≡◌, ℕ, List, Result, Ok, Err, IfErr, IsErrAnd, refl, sym, subst}
use Rattle.css_base.specs.Tokens.{Lexeme, lexemes}
use Rattle.css_base.specs.declared.static_fault.FrontFault.{FrontFault}
use Rattle.css_base.specs.declared.static_fault.FrontFault.TheVariants as faults
use Rattle.css_lex.specs.Lexing.{SpellsTokens}
use Rattle.css_tree.specs.Shapes.{tree}
use Rattle.css_parse.specs.Refusals as parsing
use Rattle.css_small.specs.Texts.{IfRefused, Unparsed, NotSmall}
use Rattle.css_small.proofs.front.read_program.Goals as goal

-- what the parser refuses
unparsed : (text : List ℕ) (tokens : List Lexeme) → SpellsTokens text tokens → (fault : FrontFault) → parsing.IfRefused tokens fault → IfRefused text fault
unparsed text tokens lexed (faults.Static fault) refused = Unparsed tokens lexed refused
unparsed text tokens lexed faults.NoMemory refused = tt

passed : {A : Type 0} (text : List ℕ) (r : Result A FrontFault) (fault : FrontFault) → IfRefused text fault → IsErrAnd r (λ e. e ≡ fault) → IfErr r (IfRefused text)
passed text (Ok p) fault refused is = absurd is
passed text (Err e) fault refused is = subst (IfRefused text) (sym is) refused

pub returns-in_err-tree-clause-refused : goal.returns-in_err-tree-clause-refused
returns-in_err-tree-clause-refused c =
    let fault = c.in_err-tree.field-0.0 in
    passed c.args.text.now c.from_residual-in_err-tree.result fault
    (unparsed c.args.text.now (lexemes c.in_ok-tokens.tokens.items) c.in_ok-tokens.ensures.ok fault c.in_err-tree.ensures.refused) c.from_residual-in_err-tree.ensures.1

pub returns-in-Err-NotSmall-clause-refused : goal.returns-in-Err-NotSmall-clause-refused
returns-in-Err-NotSmall-clause-refused c =
    subst (IfRefused c.args.text.now) (sym c.not_built.ensures)
    (NotSmall (lexemes c.in_ok-tokens.tokens.items) (tree c.in_ok-tree.tree) c.in_ok-tokens.ensures.ok c.in_ok-tree.ensures.ok (c.in-Err-NotSmall.ensures.not_small (cc)) refl)
