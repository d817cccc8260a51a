-- Tokens that aren't directives are accepted where all are.
use Rattle.std.proofs.Common.{◌≡◌, ◌≤◌, List, sym, subst}
use Rattle.css_base.specs.Tokens.{Lexeme}
use Rattle.css_lex.specs.WithoutDirectives.{without_directives, kinds_and_lines}
use Rattle.css_tree.specs.Syntax.{Tree}
use Rattle.css_tree.specs.Marks.{unmarked}
use Rattle.css_parse.specs.Refusals.{IsAccepted}
use Rattle.css_unmarking.proofs.Heights.{tree_height}
use Rattle.css_unmarking.proofs.OthersItems.{program_others}
use Rattle.css_unmarking.proofs.OthersBrackets.{shallow_others}
use Rattle.css_unmarking.proofs.OthersKeywords.{unsupported_others}

pub others_accepted : (ts us : List Lexeme) (tree : Tree) → IsAccepted ts tree → kinds_and_lines us ≡ kinds_and_lines (without_directives ts) → IsAccepted us (unmarked tree)
others_accepted ts us tree a h = record {
  supported = unsupported_others ts us h a.supported;
  shallow = shallow_others ts us h a.shallow;
  spells = record {
    spelled = program_others ts tree a.spells.spelled us h;
    low = subst (λ n. n ≤ 500) (sym (tree_height tree)) a.spells.low;
  };
}
