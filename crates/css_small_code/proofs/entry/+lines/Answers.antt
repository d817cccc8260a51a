use Rattle.std.proofs.Common.{ap, sym, ◌∙◌}
use Rattle.css_small.specs.Tree.{Block, statement, listed}
use Rattle.css_small_code.specs.Lines.{line_in}
use Rattle.css_small_code.proofs.Trees.{block_is}
use Rattle.css_small_code.proofs.entry.+lines.Goals as goal

pub line_of-returns-in-Block : goal.line_of-returns-in-Block
line_of-returns-in-Block t c =
    let is = ap statement c.in-Block.is ∙ block_is c.in-Block.line c.in-Block.statements ∙ ap (λ all. Block c.in-Block.line (listed all)) (sym c.deref.ensures.value) in
    c.first_line.ensures ∙ ap line_in (sym is)
