use Rattle.std.proofs.Common.{sym, ◌∙◌, bytes_eq}
use Rattle.css_small.specs.Names.{reserved}
use Rattle.css_small.proofs.Keys.{is_some-position, list_any-turned}
use Rattle.css_small.proofs.names.is_reserved.Goals as goal

pub returns : goal.returns
returns c = c.is_listed.ensures ∙ list_any-turned c.args.name.now reserved ∙ sym (is_some-position (bytes_eq c.args.name.now) reserved)
