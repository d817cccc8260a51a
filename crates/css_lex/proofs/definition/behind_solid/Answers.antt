use Rattle.css_lex.proofs.DefinitionWords.{behind_piece}
use Rattle.css_lex.proofs.definition.behind_solid.Goals as goal

pub returns-clause-pieces : goal.returns-clause-pieces
returns-clause-pieces c =
    let piece = c.piece_from.result in
    behind_piece c.args.line.now.source.now piece.shape c.args.from c.solid_from-at.result piece.to c.solid_from-at.ensures.pieces c.piece_from.ensures.piece
