use Rattle.std.proofs.Common.{◌++◌, List, ◌≤◌, length, map}
use Rattle.css_base.specs.Tokens.{Lexeme, lexemes}
use Rattle.css_tree.specs.Shapes.{declarator}
use Rattle.css_parse.specs.Readings.{ReadsFurtherDeclarators}
use Rattle.css_parse.proofs.Gathering.{Goes}
use Rattle.css_parse.proofs.GatheredParts.{DeclaredWith}
use Rattle.css_parse.proofs.declaration.further_declarators.Given as goal

abbrev pub invariant-loop-behind : goal.invariant-loop-behind
invariant-loop-behind l = record {
  goes : Goes (λ ds. map declarator l.declarators.items ++ ds) (DeclaredWith l.scope l.levels (declarator l.fn.first) (lexemes l.tokens)) (ReadsFurtherDeclarators l.scope l.levels (lexemes l.tokens)) (ReadsFurtherDeclarators l.scope l.levels (lexemes l.rest));
  shorter : length l.rest ≤ length l.tokens;
}

abbrev pub decreases-loop-behind : goal.decreases-loop-behind
decreases-loop-behind l = length l.rest
