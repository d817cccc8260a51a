use Rattle.std.proofs.Common.{◌∙◌, bytes_eq}
use Rattle.css_macros.proofs.Numbering.{position-mapped}
use Rattle.css_macros.proofs.macros.Macros.number_of.Goals as goal

pub returns : goal.returns
returns c = c.get_index_of.ensures.index ∙ position-mapped (bytes_eq c.args.word.now) (λ k. k.items) c.args.self.now.words.keys
