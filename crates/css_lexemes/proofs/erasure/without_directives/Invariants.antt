use Rattle.css_lexemes.proofs.Erasing.{IsLeft}
use Rattle.css_lexemes.proofs.erasure.without_directives.Given as goal

abbrev pub invariant-loop-source : goal.invariant-loop-source
invariant-loop-source l = IsLeft l.text l.shown l.left.items l.line.items l.from l.source-index
