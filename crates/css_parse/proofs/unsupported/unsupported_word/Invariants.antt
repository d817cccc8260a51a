use Rattle.std.proofs.Common.{◌≡◌, length}
use Rattle.css_base.specs.Tokens.{lexemes}
use Rattle.css_tree.specs.Shapes.{in_row}
use Rattle.css_parse.specs.Unsupported.{words_lines}
use Rattle.css_parse.proofs.unsupported.unsupported_word.Given as goal

abbrev pub invariant-loop-word : goal.invariant-loop-word
invariant-loop-word l = words_lines (in_row (lexemes l.words)) ≡ words_lines (in_row (lexemes l.rest))

abbrev pub decreases-loop-word : goal.decreases-loop-word
decreases-loop-word l = length l.rest
