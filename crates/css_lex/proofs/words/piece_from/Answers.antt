use Rattle.std.proofs.Common.{refl, length, arith, ap, length-drop}
use Rattle.std.specs.Prelude.{slice_range}
use Rattle.css_lexemes.proofs.Rests.{rest_is}
use Rattle.css_lex.proofs.WordsRead.{found_piece, piece_inside}
use Rattle.css_lexemes.proofs.Within.{size_within}
use Rattle.css_lex.proofs.words.piece_from.Goals as goal

pub overflow_add-result : goal.overflow_add-result
overflow_add-result c =
    let bytes = c.args.line.now.bytes.now in
    let l = length-drop c.args.from bytes in
    let r = ap length (rest_is c.args.from bytes) in
    let w = size_within (slice_range bytes c.args.from (length bytes)) in
    omega (arith, l, r, c.first_piece-piece.ensures.size, w, c.requires)

pub returns-clause-piece : goal.returns-clause-piece
returns-clause-piece c =
    let line = c.args.line.now in
    found_piece line.source.now line.bytes.now c.first_piece-piece.result.shape c.args.from c.first_piece-piece.result.size _ line.same c.requires
    c.first_piece-piece.ensures.shape c.first_piece-piece.ensures.size refl

pub returns-clause-inside : goal.returns-clause-inside
returns-clause-inside c =
    let line = c.args.line.now in
    piece_inside line.source.now c.first_piece-piece.result.shape c.args.from _
    (found_piece line.source.now line.bytes.now c.first_piece-piece.result.shape c.args.from c.first_piece-piece.result.size _ line.same c.requires
    c.first_piece-piece.ensures.shape c.first_piece-piece.ensures.size refl)

pub returns-clause-within : goal.returns-clause-within
returns-clause-within c =
    let bytes = c.args.line.now.bytes.now in
    let l = length-drop c.args.from bytes in
    let r = ap length (rest_is c.args.from bytes) in
    let w = size_within (slice_range bytes c.args.from (length bytes)) in
    omega (arith, l, r, c.first_piece-piece.ensures.size, w, c.requires)
