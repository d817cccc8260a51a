use Rattle.css_lex.proofs.DefinitionWords.{solid_pieces}
use Rattle.css_lex.proofs.definition.solid_from.Goals as goal

pub returns-clause-pieces : goal.returns-clause-pieces
returns-clause-pieces c =
    let line = c.args.line.now in
    solid_pieces line.source.now line.bytes.now c.without_blanks.result.now c.args.from line.same c.requires c.without_blanks.ensures
