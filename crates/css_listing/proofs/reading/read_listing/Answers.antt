use Rattle.css_listing.proofs.Texts as texts
use Rattle.css_listing.proofs.reading.read_listing.Goals as goal

pub returns-clause-found : goal.returns-clause-found
returns-clause-found c = texts.found c.args.text.now c.read_lines.result c.read_lines.ensures

pub returns-clause-only : goal.returns-clause-only
returns-clause-only c = texts.only c.args.text.now c.read_lines.result c.read_lines.ensures

pub returns-clause-fault : goal.returns-clause-fault
returns-clause-fault c = texts.fault c.args.text.now c.read_lines.result c.read_lines.ensures
