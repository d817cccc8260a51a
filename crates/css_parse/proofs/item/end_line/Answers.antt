use Rattle.css_parse.proofs.Ends.{last_read}
use Rattle.css_parse.proofs.item.end_line.Goals as goal

pub returns : goal.returns
returns c = last_read c.args.tokens.now c.args.rest.now c.index-tokens-tokens.result c.requires
